-- What the tests' two ranges meet.
use Rattle.std.proofs.Common.{◌≡◌, ℕ, ◌≤◌, inl, inr, pos, [], ◌∷◌, arith}
use Rattle.std.proofs.lemmas.Bool.Decides.{eqb_tells}
use Rattle.dbm_matrix.specs.Changes.{AreWithin}

pub two_ranges : (b : ℕ) → 10 ≤ b → AreWithin b ((pos 0, pos 10) ∷ (pos 0, pos 10) ∷ [])
two_ranges b h = record {
  low_end = λ i p q. elim (eqb_tells i 1) [
    | inl a ↦ rw a.1 (omega arith)
    | inr a ↦ (let e : i ≡ 2 = omega (arith, a.1, p, q) in rw e (omega arith))
  ];
  high_end = λ i p q. elim (eqb_tells i 1) [
    | inl a ↦ rw a.1 h
    | inr a ↦ (let e : i ≡ 2 = omega (arith, a.1, p, q) in rw e h)
  ];
}
