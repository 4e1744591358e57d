-- How far bounds reach.
use Rattle.std.proofs.Common.{◌≡◌, ℕ, ◌*◌, ◌≤◌, inl, inr, pos, ◌+ℤ◌, sym, ◌∙◌, arith, zero-le}
use Rattle.std.proofs.lemmas.Int.{ints}
use Rattle.std.proofs.lemmas.Bool.Decides.{eqb_tells}
use Rattle.dbm_matrix.specs.Bounds.{Weights, AtMost, Stands, IsWithin, IsRanged}
use Rattle.dbm_matrix.specs.Paths.{IsClosed}
use Rattle.dbm_matrix.proofs.Options.{most_out, most_more, some_same}

pub within_more : (a b n : ℕ) (d : Weights) → a ≤ b → IsWithin a n d → IsWithin b n d
within_more a b n d h w = record { each = λ i j c ii jj e. omega (arith, h, w.each i j c ii jj e) }

pub ranged_more : (a b n : ℕ) (d : Weights) → a ≤ b → IsRanged a n d → IsRanged b n d
ranged_more a b n d h r = record {
  above = λ i p ii. most_more (d 0 i) (pos a) (pos b) (r.above i p ii) (omega (arith, ints, h));
  below = λ i p ii. most_more (d i 0) (pos a) (pos b) (r.below i p ii) (omega (arith, ints, h));
}

pub ranged_stands : (b n : ℕ) (d : Weights) → IsRanged b n d → (i : ℕ) → 1 ≤ i → i ≤ n → Stands (d i 0) × Stands (d 0 i)
ranged_stands b n d r i p ii =
    let low = most_out (d i 0) (pos b) (r.below i p ii) in
    let high = most_out (d 0 i) (pos b) (r.above i p ii) in
    ((low.0, low.1), (high.0, high.1))

-- both bounds of any variable, the constant zero too
ends : (n : ℕ) (d : Weights) (b : ℕ) → IsClosed n d → IsRanged b n d → (i : ℕ) → i ≤ n → AtMost (d i 0) (pos b) × AtMost (d 0 i) (pos b)
ends n d b closed r i ii = elim (eqb_tells i 0) [
  | inl q ↦ rw (q.1, closed.zero 0 zero-le) (omega (arith, ints), omega (arith, ints))
  | inr q ↦ (let p : 1 ≤ i = omega (arith, q.1) in (r.below i p ii, r.above i p ii))
]

-- the ranges of a closed matrix bound all of it
pub closed_within : (n : ℕ) (d : Weights) (b : ℕ) → IsClosed n d → IsRanged b n d → IsWithin (2 * b) n d
closed_within n d b closed r = record {
  each = λ i j c ii jj e.
      let h = ends n d b closed r i ii in
      let g = ends n d b closed r j jj in
      let i0 = most_out (d i 0) (pos b) h.0 in
      let j0 = most_out (d j 0) (pos b) g.0 in
      let zi = most_out (d 0 i) (pos b) h.1 in
      let zj = most_out (d 0 j) (pos b) g.1 in
      let up = most_out (d i j) (i0.0 +ℤ zj.0) (closed.triangle i j 0 i0.0 zj.0 ii jj zero-le i0.1 zj.1) in
      let back = most_out (d j i) (j0.0 +ℤ zi.0) (closed.triangle j i 0 j0.0 zi.0 jj ii zero-le j0.1 zi.1) in
      let round = most_out (d i i) (c +ℤ back.0) (closed.triangle i i j c back.0 ii ii jj e back.1) in
      let same : c ≡ up.0 = some_same c up.0 (sym e ∙ up.1) in
      let zero : round.0 ≡ pos 0 = some_same round.0 (pos 0) (sym round.1 ∙ closed.zero i ii) in
      omega (arith, ints, up.2, back.2, round.2, same, zero, i0.2, j0.2, zi.2, zj.2);
}
