-- Cells that are written row by row.
use Rattle.std.proofs.Common.{◌≡◌, ◌≢◌, ℕ, ◌+◌, ◌*◌, ◌<◌, ◌≤◌, inl, inr, ℤ, length, set, ◌∙◌, arith}
use Rattle.std.proofs.Math.ListN.{length-set}
use Rattle.std.proofs.lemmas.Bool.Decides.{eqb_tells}
use Rattle.var_state.specs.Grids.{Cells, at}
use Rattle.var_state.proofs.Places.{put_same, put_other}

-- what was written in row i below j has P, and the other rows are as before
pub record RowFilled (P : ℕ → ℤ → Type 0) (n i j : ℕ) (old now : Cells) : Type 0 where
  pub len : length now ≡ 17 * (n + 1)
  pub done : (s : ℕ) → s < j → s < 17 → P s (at now i s)
  pub others : (r s : ℕ) → s < 17 → r ≢ i → at now r s ≡ at old r s

pub row_filled_next : (P : ℕ → ℤ → Type 0) (n i j : ℕ) (old now : Cells) (o : ℤ) → i ≤ n → j < 17 → RowFilled P n i j old now → P j o → RowFilled P n i (j + 1) old (set now (17 * i + j) o)
row_filled_next P n i j old now o ii jj so p = record {
  len = simp length-set so.len;
  done = λ s h t. elim (eqb_tells s j) [
    | inl e ↦ rw (e.1, put_same now i j o (omega (arith, so.len))) p
    | inr e ↦ rw (put_other now i j i s o jj t (λ q. e.1 q.1)) (so.done s (omega arith) t)
  ];
  others = λ r s t k. put_other now i j r s o jj t (λ q. k q.0) ∙ so.others r s t k;
}

-- the rows below i have P
pub record Filled (P : ℕ → ℕ → ℤ → Type 0) (n i : ℕ) (now : Cells) : Type 0 where
  pub len : length now ≡ 17 * (n + 1)
  pub done : (r s : ℕ) → r < i → s ≤ n → P r s (at now r s)

pub filled_next : (P : ℕ → ℕ → ℤ → Type 0) (n i : ℕ) (now new : Cells) → n < 17 → Filled P n i now → length new ≡ 17 * (n + 1)
    → ((s : ℕ) → s ≤ n → P i s (at new i s)) → ((r s : ℕ) → s < 17 → r ≢ i → at new r s ≡ at now r s) → Filled P n (i + 1) new
filled_next P n i now new nn so len row others = record {
  len = len;
  done = λ r s h t. elim (eqb_tells r i) [
    | inl e ↦ rw e.1 (row s t)
    | inr e ↦ rw (others r s (omega arith) e.1) (so.done r s (omega arith) t)
  ];
}
