-- Looking for numbers that stand twice, one window of numbers at a time.
use Rattle.std.specs.Prelude.{◌≡◌, ◌≢◌, ℕ, zero, suc, ◌-◌, ◌<◌, Result, Ok, Err, ◌==◌, not, Bool, true, false, nat_lt, if◌then◌else◌, List, [], ◌∷◌, length, Option, Some, None}
use Rattle.std.specs.List.{slice_index_or, slice_set, concat}
use Rattle.core_ir.specs.Lists.{has}
use Rattle.artifact_codec.specs.declared.window.Window.{Window}
use Rattle.artifact_codec.specs.Demands.{are_distinct}
use Rattle.artifact_codec.specs.declared.refusal.Malformed.{Malformed}
use Rattle.artifact_codec.specs.computed.Reading.{◌>>=◌, number_at, counted_at, numbers_at}

-- the lesser, where there is another
abbrev pub lesser : Option ℕ → ℕ → ℕ
lesser None n = n
lesser (Some m) n = if nat_lt n m then n else m

-- the window with a number marked in it, or noted as one behind it; nothing where it was marked already
unfoldable pub mark : Window → ℕ → Option Window
mark w n =
    if nat_lt n w.low then Some w
    else if nat_lt (n - w.low) (length w.marks) then
    (if slice_index_or w.marks (n - w.low) false then None else Some (record w { marks = slice_set w.marks (n - w.low) true }))
    else Some (record w { next = Some (lesser w.next n) })

unfoldable pub mark_all : Window → List ℕ → Option Window
mark_all w [] = Some w
mark_all w (n ∷ ns) = mark w n >>= λ v. mark_all v ns

-- the same from bytes: so many numbers, and so many lists of numbers
unfoldable pub mark_numbers : ℕ → Window → List ℕ → Option (Window × List ℕ)
mark_numbers zero w bytes = Some (w, bytes)
mark_numbers (suc count) w bytes = do
  n ← number_at bytes
  v ← mark w n.0
  mark_numbers count v n.1

unfoldable pub mark_list : Window → List ℕ → Option (Window × List ℕ)
mark_list w bytes = do
  count ← number_at bytes
  mark_numbers count.0 w count.1

unfoldable pub mark_lists : ℕ → Window → List ℕ → Option (Window × List ℕ)
mark_lists zero w bytes = Some (w, bytes)
mark_lists (suc count) w bytes = do
  v ← mark_list w bytes
  mark_lists count v.0 v.1

unfoldable pub mark_counted : Window → List ℕ → Option Window
mark_counted w bytes = do
  count ← number_at bytes
  v ← mark_lists count.0 w count.1
  Some v.0

-- a window in which nothing is marked
pub record IsBlank (low : ℕ) (w : Window) : Type 0 where
  pub low_is : w.low ≡ low
  pub wide : 0 < length w.marks
  pub unmarked : (i : ℕ) → i < length w.marks → slice_index_or w.marks i false ≡ false
  pub next_is : w.next ≡ None

-- ---- what is known after some windows

-- the registers of clusters
unfoldable pub registers : List ℕ → Option (List ℕ)
registers bytes = counted_at numbers_at bytes >>= λ x. Some (concat x.0)

-- a number does not stand twice
abbrev pub is_once : ℕ → List ℕ → Bool
is_once r [] = true
is_once r (n ∷ ns) = if n == r then not (has ns r) else is_once r ns

-- a number is below a limit, where there is one
abbrev pub IsBefore : ℕ → Option ℕ → Type 0
IsBefore r None = Unit {0}
IsBefore r (Some limit) = r < limit

-- no number before the limit stands twice; where there are no registers, there is a limit
abbrev pub Known : Option ℕ → Option (List ℕ) → Type 0
Known limit (Some ns) = (r : ℕ) → IsBefore r limit → is_once r ns ≡ true
Known limit None = limit ≢ None

-- a limit is above a number, where there is one
abbrev pub IsAbove : ℕ → Option ℕ → Type 0
IsAbove low None = Unit {0}
IsAbove low (Some limit) = low < limit

abbrev pub distinct_registers : Option (List ℕ) → Bool
distinct_registers None = false
distinct_registers (Some ns) = are_distinct ns

-- what a window from a limit on says: registers stand twice, or a later limit
abbrev pub Advances : ℕ → Option (List ℕ) → Result (Option ℕ) Malformed → Type 0
Advances low numbers (Ok next) = IsAbove low next × (Known (Some low) numbers → Known next numbers)
Advances low numbers (Err e) = distinct_registers numbers ≡ false
