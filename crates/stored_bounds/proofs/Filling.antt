-- A matrix of n variables whose bounds are small while it is filled.
use Rattle.std.proofs.Common.{◌≡◌, ℕ, ◌^◌, arith, subst, ◌∙◌}
use Rattle.dbm_matrix.specs.Bounds.{Bounds, bound, IsWithin, IsRanged}

pub record IsFilling (n : ℕ) (m : Bounds) : Type 0 where
  pub size : m.size ≡ n
  pub within : IsWithin (2 ^ 81) n (bound m)
  pub ranged : IsRanged (2 ^ 80) n (bound m)

pub filling : (n k : ℕ) (m : Bounds) → m.size ≡ k → IsWithin (2 ^ 81) k (bound m) → IsRanged (2 ^ 80) k (bound m) → k ≡ n → IsFilling n m
filling n k m s w r e = record {
  size = s ∙ e;
  within = subst (λ (k : ℕ). IsWithin (2 ^ 81) k (bound m)) e w;
  ranged = subst (λ (k : ℕ). IsRanged (2 ^ 80) k (bound m)) e r;
}

pub within_more : (k : ℕ) (m : Bounds) → m.size ≡ k → IsWithin (2 ^ 80) m.size (bound m) → IsWithin (2 ^ 81) k (bound m)
within_more k m e w = record { each = λ i j c ii jj is. let h = w.each i j c (omega (arith, e, ii)) (omega (arith, e, jj)) is in omega (arith, h) }

pub ranged_at : (k : ℕ) (m : Bounds) → m.size ≡ k → IsRanged (2 ^ 80) m.size (bound m) → IsRanged (2 ^ 80) k (bound m)
ranged_at k m e r = subst (λ (j : ℕ). IsRanged (2 ^ 80) j (bound m)) e r
