-- The ranges of a table lie within 100 either way.
use Rattle.std.proofs.Common.{◌≡◌, ℕ, zero, suc, ◌-◌, ◌≤◌, Bool, true, ◌&&◌, List, [], ◌∷◌, take, get_or, refl, arith}
use Rattle.std.specs.Prelude.{ℤ, pos, unsigned_abs, nat_le}
use Rattle.std.specs.List.{list_all}
use Rattle.std.proofs.lemmas.Bool.{and_parts, leb-true}
use Rattle.dbm_matrix.specs.Changes.{low, high, AreWithin}

abbrev pub is_small : ℤ × ℤ → Bool
is_small range = nat_le (unsigned_abs range.0) 100 && nat_le (unsigned_abs range.1) 100

-- at any place, also past the end
small_at : (ranges : List (ℤ × ℤ)) (n k : ℕ) → list_all is_small ranges ≡ true → is_small (get_or (take n ranges) k (pos 0, pos 0)) ≡ true
small_at [] zero k all = refl
small_at [] (suc n) k all = refl
small_at (r ∷ ranges) zero k all = refl
small_at (r ∷ ranges) (suc n) zero all = (and_parts (is_small r) (list_all is_small ranges) all).0
small_at (r ∷ ranges) (suc n) (suc k) all = small_at ranges n k (and_parts (is_small r) (list_all is_small ranges) all).1

low_is : (r : ℤ × ℤ) → is_small r ≡ true → unsigned_abs r.0 ≤ 100
low_is r e = leb-true (unsigned_abs r.0) 100 (and_parts (nat_le (unsigned_abs r.0) 100) (nat_le (unsigned_abs r.1) 100) e).0

high_is : (r : ℤ × ℤ) → is_small r ≡ true → unsigned_abs r.1 ≤ 100
high_is r e = leb-true (unsigned_abs r.1) 100 (and_parts (nat_le (unsigned_abs r.0) 100) (nat_le (unsigned_abs r.1) 100) e).1

more : (a b : ℕ) → a ≤ 100 → 100 ≤ b → a ≤ b
more a b h k = omega arith

pub within : (ranges : List (ℤ × ℤ)) (n b : ℕ) → list_all is_small ranges ≡ true → 100 ≤ b → AreWithin b (take n ranges)
within ranges n b all le = record {
  low_end = λ i one last. more (unsigned_abs (low (take n ranges) i)) b (low_is (get_or (take n ranges) (i - 1) (pos 0, pos 0)) (small_at ranges n (i - 1) all)) le;
  high_end = λ i one last. more (unsigned_abs (high (take n ranges) i)) b (high_is (get_or (take n ranges) (i - 1) (pos 0, pos 0)) (small_at ranges n (i - 1) all)) le;
}
