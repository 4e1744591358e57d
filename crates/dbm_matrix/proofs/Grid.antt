-- Writes to one place of the grid.
use Rattle.std.proofs.Common.{◌≡◌, ◌≢◌, ℕ, ◌+◌, ◌*◌, ◌<◌, ◌≤◌, ℤ, Option, Some, length, set, get_or-set_same, get_or-set_other, arith, ◌∙◌, inl, inr}
use Rattle.std.proofs.lemmas.Bool.Decides.{eqb_tells}
use Rattle.dbm_matrix.specs.Bounds.{Cells, at}
use Rattle.dbm_matrix.specs.Changes.{with_bound, lesser}

pub put_same : (m : Cells) (i j : ℕ) (o : Option ℤ) → length m ≡ 289 → i < 17 → j < 17 → at (set m (17 * i + j) o) i j ≡ o
put_same m i j o l p q = let h : 17 * i + j < length m = omega arith in rw get_or-set_same

pub put_other : (m : Cells) (i j r s : ℕ) (o : Option ℤ) → j < 17 → s < 17 → ¬ ((r ≡ i) × (s ≡ j)) → at (set m (17 * i + j) o) r s ≡ at m r s
put_other m i j r s o q t n =
    let h : 17 * r + s ≢ 17 * i + j = λ e. n (omega arith, omega arith) in
    rw get_or-set_other

-- one bound more
pub put_bound : (m : Cells) (n i j : ℕ) (c : ℤ) (o : Option ℤ) → length m ≡ 289 → n < 17 → i ≤ n → j ≤ n → o ≡ lesser (at m i j) (Some c)
    → (p q : ℕ) → p ≤ n → q ≤ n → at (set m (17 * i + j) o) p q ≡ with_bound i j c (at m) p q
put_bound m n i j c o long nn ii jj e p q pp qq = elim (eqb_tells p i) [
  | inl a ↦ elim (eqb_tells q j) [
    | inl b ↦ rw (a.0, b.0, a.1, b.1) (put_same m i j o long (omega arith) (omega arith) ∙ e)
    | inr b ↦ rw (a.0, b.0) (put_other m i j p q o (omega arith) (omega arith) (λ h. b.1 h.1))
  ]
  | inr a ↦ rw a.0 (put_other m i j p q o (omega arith) (omega arith) (λ h. a.1 h.0))
]
