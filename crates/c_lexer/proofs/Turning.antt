-- The turns of the loops over the rest of a line.
use Rattle.std.proofs.Common.{◌≡◌, ℕ, suc, ◌+◌, ◌-◌, ◌<◌, ◌≤◌, true, false, length, get_or, drop, Option, Some, None, refl, ap, arith}
use Rattle.std.specs.Option.{option_map}
use Rattle.std.proofs.lemmas.List.{drop_more}
use Rattle.c_lexer.specs.Bytes.{Text}
use Rattle.c_lexer.specs.computed.Settings.{closes, close_more, close_len, less_space, behind_space, only_space, less_flag, only_flags}

turn_is : (end turn : ℕ) → turn < end → end - turn ≡ suc (end - (turn + 1))
turn_is end turn lt = omega arith

none_left : (end turn : ℕ) → end ≤ turn → end - turn ≡ 0
none_left end turn le = omega arith

pub space_stops : (end turn : ℕ) (text : Text) → turn < end → less_space text ≡ None → behind_space (end - turn) text ≡ text
unfolding behind_space
space_stops end turn text lt e = rw (turn_is end turn lt, e) refl

pub space_goes_on : (end turn : ℕ) (text rest : Text) → turn < end → less_space text ≡ Some rest → behind_space (end - turn) text ≡ behind_space (end - (turn + 1)) rest
unfolding behind_space
space_goes_on end turn text rest lt e = rw (turn_is end turn lt, e) refl

pub space_ends : (end turn : ℕ) (text : Text) → end ≤ turn → behind_space (end - turn) text ≡ text
unfolding behind_space
space_ends end turn text le = rw (none_left end turn le) refl

pub flags_end : (end turn : ℕ) (text : Text) → turn < end → only_space text ≡ true → only_flags (end - turn) text ≡ true
unfolding only_flags
flags_end end turn text lt e = rw (turn_is end turn lt, e) refl

pub flags_stop : (end turn : ℕ) (text : Text) → turn < end → only_space text ≡ false → less_flag text ≡ None → only_flags (end - turn) text ≡ false
unfolding only_flags
flags_stop end turn text lt e n = rw (turn_is end turn lt, e, n) refl

pub flags_go_on : (end turn : ℕ) (text rest : Text) → turn < end → only_space text ≡ false → less_flag text ≡ Some rest → only_flags (end - turn) text ≡ only_flags (end - (turn + 1)) rest
unfolding only_flags
flags_go_on end turn text rest lt e s = rw (turn_is end turn lt, e, s) refl

pub flags_done : (end turn : ℕ) (text : Text) → end ≤ turn → only_flags (end - turn) text ≡ only_space text
unfolding only_flags
flags_done end turn text le = rw (none_left end turn le) refl

shifted : (i : ℕ) (o : Option ℕ) → option_map (λ n. i + 1 + n) o ≡ option_map (λ n. i + n) (close_more o)
shifted i None = refl
shifted i (Some n) = ap Some (omega arith)

pub close_step : (inside : Text) (i : ℕ) → i < length inside → closes (get_or inside i 0) (drop (i + 1) inside) ≡ false
    → option_map (λ n. i + 1 + n) (close_len (drop (i + 1) inside)) ≡ option_map (λ n. i + n) (close_len (drop i inside))
close_step inside i lt e = rw (drop_more inside i 0 lt, e) (shifted i (close_len (drop (i + 1) inside)))
