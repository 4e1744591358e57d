-- One variable more on the way: row by row, in place.
use Rattle.std.proofs.Common.{◌≡◌, ◌≢◌, ℕ, ◌+◌, ◌*◌, ◌<◌, ◌≤◌, inl, inr, ℤ, pos, Option, Some, length, set, sym, ◌∙◌, ap, arith}
use Rattle.std.proofs.Math.ListN.{length-set}
use Rattle.std.proofs.lemmas.Bool.{cases_lt}
use Rattle.std.proofs.lemmas.Bool.Decides.{eqb_tells}
use Rattle.dbm_matrix.specs.Bounds.{Cells, at, IsWithin}
use Rattle.dbm_matrix.specs.Changes.{through, lesser, sum_of}
use Rattle.dbm_matrix.proofs.Options.{from_here}
use Rattle.dbm_matrix.proofs.Closure.{through_within}
use Rattle.dbm_matrix.proofs.Grid.{put_same, put_other}

-- row i has been gone through below j
pub record RowSoFar (k i j : ℕ) (old now : Cells) : Type 0 where
  pub len : length now ≡ 289
  pub done : (s : ℕ) → s < j → s < 17 → at now i s ≡ through k (at old) i s
  pub left : (s : ℕ) → j ≤ s → s < 17 → at now i s ≡ at old i s
  pub others : (r s : ℕ) → s < 17 → r ≢ i → at now r s ≡ at old r s

-- the rows below i have been gone through
pub record RowsSoFar (n k i : ℕ) (old now : Cells) : Type 0 where
  pub len : length now ≡ 289
  pub done : (r s : ℕ) → r < i → s ≤ n → at now r s ≡ through k (at old) r s
  pub left : (r s : ℕ) → i ≤ r → s < 17 → at now r s ≡ at old r s

module _ (old now : Cells) (k i j : ℕ) (first : Option ℤ) (kk : k < 17) (ii : i < 17) (jj : j < 17) (is : first ≡ at old i k) (so : RowSoFar k i j old now) where
  second_same : at now k j ≡ at old k j
  second_same = elim (eqb_tells k i) [
    | inl h ↦ (ap (λ (x : ℕ). at now x j) h.1 ∙ so.left j (omega arith) jj) ∙ ap (λ (x : ℕ). at old x j) (sym h.1)
    | inr h ↦ so.others k j jj h.1
  ]

  abbrev written : Cells
  written = set now (17 * i + j) (lesser (at now i j) (sum_of first (at now k j)))

  step_same : lesser (at now i j) (sum_of first (at now k j)) ≡ through k (at old) i j
  step_same = rw (is, second_same, so.left j (omega arith) jj)

  done_next : (s : ℕ) → s < j + 1 → s < 17 → at written i s ≡ through k (at old) i s
  done_next s h t = elim (eqb_tells s j) [
    | inl e ↦ rw e.1 (put_same now i j (lesser (at now i j) (sum_of first (at now k j))) so.len ii jj ∙ step_same)
    | inr e ↦ put_other now i j i s (lesser (at now i j) (sum_of first (at now k j))) jj t (λ q. e.1 q.1) ∙ so.done s (omega arith) t
  ]

  pub row_next : RowSoFar k i (j + 1) old written
  row_next = record {
    len = simp length-set so.len;
    done = done_next;
    left = λ s h t. put_other now i j i s (lesser (at now i j) (sum_of first (at now k j))) jj t (λ q. omega (arith, q.1)) ∙ so.left s (omega arith) t;
    others = λ r s t n. put_other now i j r s (lesser (at now i j) (sum_of first (at now k j))) jj t (λ q. n q.0) ∙ so.others r s t n;
  }

-- the next row
module _ (old now new : Cells) (n k i : ℕ) (nn : n < 17) (kk : k ≤ n) (ii : i ≤ n) (here : at old k k ≡ Some (pos 0)) (so : RowsSoFar n k i old now) (len : length new ≡ 289)
    (row : (j : ℕ) → j ≤ n → at new i j ≡ through k (at now) i j) (others : (r j : ℕ) → j < 17 → r ≢ i → at new r j ≡ at now r j) where
  row_k_same : (s : ℕ) → s ≤ n → at now k s ≡ at old k s
  row_k_same s h = elim (cases_lt k i) [
    | inl q ↦ so.done k s q h ∙ (rw here (from_here (at old k s)))
    | inr q ↦ so.left k s q (omega arith)
  ]

  row_same : (s : ℕ) → s ≤ n → through k (at now) i s ≡ through k (at old) i s
  row_same s h = rw (so.left i s (omega arith) (omega arith), so.left i k (omega arith) (omega arith), row_k_same s h)

  rows_done : (r s : ℕ) → r < i + 1 → s ≤ n → at new r s ≡ through k (at old) r s
  rows_done r s h t = elim (eqb_tells r i) [
    | inl e ↦ rw e.1 (row s t ∙ row_same s t)
    | inr e ↦ others r s (omega arith) e.1 ∙ so.done r s (omega arith) t
  ]

  pub rows_next : RowsSoFar n k (i + 1) old new
  rows_next = record {
    len = len;
    done = rows_done;
    left = λ r s h t. others r s t (λ q. omega (arith, q)) ∙ so.left r s (omega arith) t;
  }

-- the diagonal has been cleared below i
pub record DiagonalSoFar (i : ℕ) (old now : Cells) : Type 0 where
  pub len : length now ≡ 289
  pub done : (r : ℕ) → r < i → r < 17 → at now r r ≡ lesser (at old r r) (Some (pos 0))
  pub left : (r : ℕ) → i ≤ r → r < 17 → at now r r ≡ at old r r
  pub others : (r s : ℕ) → s < 17 → r ≢ s → at now r s ≡ at old r s

pub diagonal_next : (i : ℕ) (old now : Cells) → i < 17 → DiagonalSoFar i old now → DiagonalSoFar (i + 1) old (set now (17 * i + i) (lesser (at now i i) (Some (pos 0))))
diagonal_next i old now ii so = record {
  len = simp length-set so.len;
  done = λ r h t. elim (eqb_tells r i) [
    | inl e ↦ rw e.1 (put_same now i i (lesser (at now i i) (Some (pos 0))) so.len ii ii ∙ ap (λ (o : Option ℤ). lesser o (Some (pos 0))) (so.left i (omega arith) ii))
    | inr e ↦ put_other now i i r r (lesser (at now i i) (Some (pos 0))) ii t (λ q. e.1 q.0) ∙ so.done r (omega arith) t
  ];
  left = λ r h t. put_other now i i r r (lesser (at now i i) (Some (pos 0))) ii t (λ q. omega (arith, q.0)) ∙ so.left r (omega arith) t;
  others = λ r s t n. put_other now i i r s (lesser (at now i i) (Some (pos 0))) ii t (λ q. n (q.0 ∙ sym q.1)) ∙ so.others r s t n;
}

-- rows that have been gone through, and rows that have not, are within twice what the old ones are within
pub so_far_within : (b n k i : ℕ) (old now : Cells) → n < 17 → k ≤ n → IsWithin b n (at old) → RowsSoFar n k i old now → IsWithin (2 * b) n (at now)
so_far_within b n k i old now nn kk h so = record {
  each = λ r s c rr ss q. elim (cases_lt r i) [
    | inl p ↦ through_within b n k (at old) (at now) r s h kk rr ss (so.done r s p ss) c q
    | inr p ↦ omega (arith, h.each r s c rr ss (sym (so.left r s p (omega arith)) ∙ q))
  ];
}
