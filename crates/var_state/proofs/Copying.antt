-- A list that is copied into zeros.
use Rattle.std.proofs.Common.{◌≡◌, ◌≢◌, ℕ, zero, suc, ◌+◌, ◌<◌, ◌≤◌, inl, inr, ℤ, pos, List, [], ◌∷◌, length, set, get_or, get_or-set_same, get_or-set_other, replicate, refl, sym, ◌∙◌, arith}
use Rattle.std.proofs.Math.ListN.{length-set}
use Rattle.std.proofs.lemmas.Bool.{cases_lt}
use Rattle.std.proofs.lemmas.Bool.Decides.{eqb_tells}
use Rattle.std.proofs.lemmas.List.{length-replicate, get_or-replicate}

-- the first k items are those of the other list, and zeros follow
pub record CopiedBelow (k : ℕ) (from copy : List ℤ) : Type 0 where
  pub len : length copy ≡ 289
  pub done : (m : ℕ) → m < k → get_or copy m (pos 0) ≡ get_or from m (pos 0)
  pub zeros : (m : ℕ) → k ≤ m → get_or copy m (pos 0) ≡ pos 0

past : (xs : List ℤ) (m : ℕ) → length xs ≤ m → get_or xs m (pos 0) ≡ pos 0
past [] m h = refl
past (x ∷ xs) zero h = absurd (omega (arith, h))
past (x ∷ xs) (suc m) h = past xs m (omega (arith, h))

pub copied_next : (k : ℕ) (from copy : List ℤ) (o : ℤ) → k < 289 → o ≡ get_or from k (pos 0) → CopiedBelow k from copy → CopiedBelow (k + 1) from (set copy k o)
copied_next k from copy o kk is so = record {
  len = simp length-set so.len;
  done = λ m h. elim (eqb_tells m k) [
    | inl e ↦ (let i : k < length copy = omega (arith, so.len, kk) in rw (e.1, get_or-set_same) is)
    | inr e ↦ (let d : m ≢ k = e.1 in rw get_or-set_other (so.done m (omega (arith, d, h))))
  ];
  zeros = λ m h. let d : m ≢ k = λ x. omega (arith, x, h) in rw get_or-set_other (so.zeros m (omega (arith, h)));
}

pub copied_start : (from : List ℤ) → CopiedBelow 0 from (replicate 289 (pos 0))
copied_start from = record { len = length-replicate 289 (pos 0); done = λ m h. absurd (omega (arith, h)); zeros = λ m h. all m }
  where
    all : (m : ℕ) → get_or (replicate 289 (pos 0)) m (pos 0) ≡ pos 0
    all m = elim (cases_lt m 289) [
      | inl h ↦ get_or-replicate 289 m (pos 0) (pos 0) h
      | inr h ↦ past (replicate 289 (pos 0)) m (omega (arith, h, length-replicate 289 (pos 0)))
    ]

pub copied_all : (from copy : List ℤ) → CopiedBelow (length from) from copy → (m : ℕ) → get_or copy m (pos 0) ≡ get_or from m (pos 0)
copied_all from copy so m = elim (cases_lt m (length from)) [
  | inl h ↦ so.done m h
  | inr h ↦ so.zeros m h ∙ sym (past from m h)
]
