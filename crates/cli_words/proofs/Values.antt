-- The number that digits write.
use Rattle.std.proofs.Common.{◌≡◌, ℕ, ◌+◌, ◌-◌, ◌*◌, ◌<◌, ◌≤◌, List, [], ◌∷◌, Bool, true, false, Some, None, nat_le, ◌&&◌, if◌then◌else◌, arith, refl, drop, length, get_or, drop-cons, add-one}
use Rattle.std.proofs.lemmas.Bool.Decides.{nat_tests}
use Rattle.cli_words.specs.Numbers.{value_after, number_between, is_number}

-- more digits never make it less
pub value_after-ge : (n : ℕ) (cs : List ℕ) → n ≤ value_after n cs
value_after-ge n [] = omega arith
value_after-ge n (c ∷ cs) = let more = value_after-ge (10 * n + (c - 48)) cs in omega arith

-- one more digit is read
pub value_after-step : (text : List ℕ) (i n : ℕ) → i < length text → value_after n (drop i text) ≡ value_after (10 * n + (get_or text i 0 - 48)) (drop (i + 1) text)
value_after-step text i n inside = rw (drop-cons text i 0 inside, add-one) refl

-- a value past the range is refused, whatever follows
pub too_large : (low high v : ℕ) (text rest : List ℕ) → high < v → value_after v rest ≡ value_after 0 text → None ≡ number_between low high text
too_large low high v text rest h e =
    let above : high < value_after 0 text = let more = value_after-ge v rest in let same = e in omega arith in
    let refused : nat_le (value_after 0 text) high ≡ false = search (arith, nat_tests) in
    rw refused (by (is_number text && nat_le low (value_after 0 text)))
  where
    by : (b : Bool) → None ≡ (if b && false then Some (value_after 0 text) else None)
    by true = refl
    by false = refl
