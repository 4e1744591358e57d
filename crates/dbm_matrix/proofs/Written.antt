-- Cells that are gone through place by place.
use Rattle.std.proofs.Common.{◌≡◌, ◌≢◌, ℕ, ◌+◌, ◌*◌, ◌<◌, ◌≤◌, inl, inr, ℤ, Option, None, List, length, set, slice_index_or, get_or-set_same, get_or-set_other, ◌∙◌, arith}
use Rattle.std.proofs.Math.ListN.{length-set}
use Rattle.std.proofs.lemmas.Bool.Decides.{eqb_tells}
use Rattle.dbm_matrix.specs.Bounds.{Cells, at}
use Rattle.dbm_matrix.proofs.Grid.{put_same, put_other}

-- f has been copied below k
pub record Copied (f : ℕ → Option ℤ) (k : ℕ) (now : List (Option ℤ)) : Type 0 where
  pub len : length now ≡ 17
  pub done : (s : ℕ) → s < k → slice_index_or now s None ≡ f s

pub copied_next : (f : ℕ → Option ℤ) (k : ℕ) (now : List (Option ℤ)) (o : Option ℤ) → k < 17 → Copied f k now → o ≡ f k → Copied f (k + 1) (set now k o)
copied_next f k now o kk so e = record {
  len = simp length-set so.len;
  done = λ s h. elim (eqb_tells s k) [
    | inl q ↦ (let p : k < length now = omega (arith, so.len) in rw q.1 (rw get_or-set_same e))
    | inr q ↦ (let p : s ≢ k = q.1 in rw get_or-set_other (so.done s (omega arith)))
  ];
}

-- what was put in row i below j has P, and the other rows are as before
pub record RowRevised (P : ℕ → Option ℤ → Type 0) (i j : ℕ) (old now : Cells) : Type 0 where
  pub len : length now ≡ 289
  pub done : (s : ℕ) → s < j → s < 17 → P s (at now i s)
  pub left : (s : ℕ) → j ≤ s → s < 17 → at now i s ≡ at old i s
  pub others : (r s : ℕ) → s < 17 → r ≢ i → at now r s ≡ at old r s

pub row_revised_next : (P : ℕ → Option ℤ → Type 0) (i j : ℕ) (old now : Cells) (o : Option ℤ) → i < 17 → j < 17 → RowRevised P i j old now → P j o → RowRevised P i (j + 1) old (set now (17 * i + j) o)
row_revised_next P i j old now o ii jj so p = record {
  len = simp length-set so.len;
  done = λ s h t. elim (eqb_tells s j) [
    | inl e ↦ rw (e.1, put_same now i j o so.len ii jj) p
    | inr e ↦ rw (put_other now i j i s o jj t (λ q. e.1 q.1)) (so.done s (omega arith) t)
  ];
  left = λ s h t. put_other now i j i s o jj t (λ q. omega (arith, q.1)) ∙ so.left s (omega arith) t;
  others = λ r s t n. put_other now i j r s o jj t (λ q. n q.0) ∙ so.others r s t n;
}

-- the rows below i have P, and the others are as before
pub record Revised (P : ℕ → ℕ → Option ℤ → Type 0) (n i : ℕ) (old now : Cells) : Type 0 where
  pub len : length now ≡ 289
  pub done : (r s : ℕ) → r < i → s ≤ n → P r s (at now r s)
  pub left : (r s : ℕ) → i ≤ r → s < 17 → at now r s ≡ at old r s

pub revised_next : (P : ℕ → ℕ → Option ℤ → Type 0) (n i : ℕ) (old now new : Cells) → n < 17 → Revised P n i old now → length new ≡ 289
    → ((s : ℕ) → s ≤ n → P i s (at new i s)) → ((r s : ℕ) → s < 17 → r ≢ i → at new r s ≡ at now r s) → Revised P n (i + 1) old new
revised_next P n i old now new nn so len row others = record {
  len = len;
  done = λ r s h t. elim (eqb_tells r i) [
    | inl e ↦ rw e.1 (row s t)
    | inr e ↦ rw (others r s (omega arith) e.1) (so.done r s (omega arith) t)
  ];
  left = λ r s h t. others r s t (λ q. omega (arith, q)) ∙ so.left r s (omega arith) t;
}

-- the places between v and the variables below k have P, and the others are as before
pub record AroundRevised (P : ℕ → ℕ → Option ℤ → Type 0) (v k : ℕ) (old now : Cells) : Type 0 where
  pub len : length now ≡ 289
  pub to : (s : ℕ) → s < k → s < 17 → s ≢ v → P s v (at now s v)
  pub from : (s : ℕ) → s < k → s < 17 → s ≢ v → P v s (at now v s)
  pub left_to : (s : ℕ) → k ≤ s → s < 17 → at now s v ≡ at old s v
  pub left_from : (s : ℕ) → k ≤ s → s < 17 → at now v s ≡ at old v s
  pub here : at now v v ≡ at old v v
  pub others : (r s : ℕ) → s < 17 → r ≢ v → s ≢ v → at now r s ≡ at old r s

pub around_next : (P : ℕ → ℕ → Option ℤ → Type 0) (v k : ℕ) (old now new : Cells) → v < 17 → k < 17 → AroundRevised P v k old now → length new ≡ 289
    → (k ≢ v → P k v (at new k v)) → (k ≢ v → P v k (at new v k)) → at new v v ≡ at now v v
    → ((r s : ℕ) → s < 17 → ¬ ((r ≡ k) × (s ≡ v)) → ¬ ((r ≡ v) × (s ≡ k)) → at new r s ≡ at now r s) → AroundRevised P v (k + 1) old new
around_next P v k old now new vv kk so len to from here others = record {
  len = len;
  to = λ s h t n. elim (eqb_tells s k) [
    | inl e ↦ rw e.1 (to (λ q. n (e.1 ∙ q)))
    | inr e ↦ rw (others s v vv (λ q. e.1 q.0) (λ q. n q.0)) (so.to s (omega arith) t n)
  ];
  from = λ s h t n. elim (eqb_tells s k) [
    | inl e ↦ rw e.1 (from (λ q. n (e.1 ∙ q)))
    | inr e ↦ rw (others v s t (λ q. n q.1) (λ q. e.1 q.1)) (so.from s (omega arith) t n)
  ];
  left_to = λ s h t. elim (eqb_tells s v) [
    | inl e ↦ rw e.1 (here ∙ so.here)
    | inr e ↦ others s v vv (λ q. omega (arith, q.0)) (λ q. e.1 q.0) ∙ so.left_to s (omega arith) t
  ];
  left_from = λ s h t. elim (eqb_tells s v) [
    | inl e ↦ rw e.1 (here ∙ so.here)
    | inr e ↦ others v s t (λ q. e.1 q.1) (λ q. omega (arith, q.1)) ∙ so.left_from s (omega arith) t
  ];
  here = here ∙ so.here;
  others = λ r s t n m. others r s t (λ q. m q.1) (λ q. n q.0) ∙ so.others r s t n m;
}
