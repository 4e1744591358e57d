-- Several bounds more, one after another.
use Rattle.std.proofs.Common.{◌≡◌, ℕ, ◌^◌, ◌≤◌, ◌↔◌, ℤ, unsigned_abs, List, [], ◌∷◌, Option, Some, refl, sym, ◌∙◌, ap, arith, cond, eqb, subst, length}
use Rattle.dbm_matrix.specs.Bounds.{Bounds, bound, Weights, IsWithin, IsRanged}
use Rattle.dbm_matrix.specs.Paths.{Path, IsClosureOf, HasNegativeCycle}
use Rattle.dbm_matrix.specs.Paths.Path.{here, along}
use Rattle.dbm_matrix.specs.Solutions.{Solves, Meets}
use Rattle.dbm_matrix.specs.Changes.{with_bound, lesser}
use Rattle.dbm_matrix.proofs.Paths.{start_of}
use Rattle.dbm_incremental.specs.Adding.{AllFit, with_bounds, MeetsAll}

-- the same bounds
abbrev pub Same : ℕ → Weights → Weights → Type 0
Same n d e = (p q : ℕ) → p ≤ n → q ≤ n → d p q ≡ e p q

one_same : (n i j : ℕ) (c : ℤ) (d e : Weights) → Same n d e → Same n (with_bound i j c d) (with_bound i j c e)
one_same n i j c d e s p q pp qq = ap (λ (o : Option ℤ). cond (eqb p i) (cond (eqb q j) (lesser o (Some c)) o) o) (s p q pp qq)

pub all_same : (n : ℕ) (bs : List (ℕ × ℕ × ℤ)) (d e : Weights) → Same n d e → Same n (with_bounds bs d) (with_bounds bs e)
all_same n [] d e s = s
all_same n (b ∷ bs) d e s = all_same n bs (with_bound b.0 b.1 b.2 d) (with_bound b.0 b.1 b.2 e) (one_same n b.0 b.1 b.2 d e s)

path_same : (n : ℕ) (d e : Weights) → Same n d e → (i j : ℕ) (w : ℤ) → Path n d i j w → Path n e i j w
path_same n d e s i j w (here h) = here h
path_same n d e s i j w (along k c v h q p l) = along k c v h (sym (s i k h (start_of n d k j v p)) ∙ q) (path_same n d e s k j v p) l

back : (n : ℕ) (d e : Weights) → Same n d e → Same n e d
back n d e s p q pp qq = sym (s p q pp qq)

pub closure_same : (n : ℕ) (d e f : Weights) → Same n d e → IsClosureOf n d f → IsClosureOf n e f
closure_same n d e f s h = record {
  each = λ i j ii jj. record {
    path = λ c q. path_same n d e s i j c ((h.each i j ii jj).path c q);
    least = λ w p. (h.each i j ii jj).least w (path_same n e d (back n d e s) i j w p);
  };
}

pub cycle_same : (n : ℕ) (d e : Weights) → Same n d e → HasNegativeCycle n d → HasNegativeCycle n e
cycle_same n d e s h = (h.0, h.1, path_same n d e s h.0 h.0 h.1 h.2, h.3)

pub cycle_back : (n : ℕ) (d e : Weights) → Same n d e → HasNegativeCycle n e → HasNegativeCycle n d
cycle_back n d e s h = cycle_same n e d (back n d e s) h

-- of all the bounds, the rest still waits
pub record AddedSoFar (all rest : List (ℕ × ℕ × ℤ)) (old now : Bounds) : Type 0 where
  pub size : now.size ≡ old.size
  pub fit : AllFit old.size rest
  pub same : Same old.size (with_bounds rest (bound now)) (with_bounds all (bound old))
  pub within : IsWithin (2 ^ 90) now.size (bound now)
  pub ranged : (b : ℕ) → IsRanged b old.size (bound old) → IsRanged b now.size (bound now)
  pub forth : (v : ℕ → ℤ) → Solves old.size (bound old) v → MeetsAll all v → Solves now.size (bound now) v × MeetsAll rest v
  pub back : (v : ℕ → ℤ) → Solves now.size (bound now) v → MeetsAll rest v → Solves old.size (bound old) v × MeetsAll all v

pub none_yet : (all : List (ℕ × ℕ × ℤ)) (old : Bounds) → AllFit old.size all → IsWithin (2 ^ 90) old.size (bound old) → AddedSoFar all all old old
none_yet all old fit w = record {
  size = refl;
  fit = fit;
  same = λ p q pp qq. refl;
  within = w;
  ranged = λ b r. r;
  forth = λ v s m. (s, m);
  back = λ v s m. (s, m);
}

pub nothing_left : (xs : List (ℕ × ℕ × ℤ)) → length xs ≡ 0 → xs ≡ []
nothing_left [] h = refl
nothing_left (x ∷ xs) h = absurd (omega (arith, h))

pub all_added : (all : List (ℕ × ℕ × ℤ)) (old now : Bounds) (rest : List (ℕ × ℕ × ℤ)) → rest ≡ [] → AddedSoFar all rest old now
    → (v : ℕ → ℤ) → (Solves now.size (bound now) v ↔ (Solves old.size (bound old) v × MeetsAll all v))
all_added all old now rest empty so v = (
  λ s. so.back v s (subst (λ (xs : List (ℕ × ℕ × ℤ)). MeetsAll xs v) (sym empty) tt),
  λ h. (so.forth v h.0 h.1).0,
)

module _ (all rest tail : List (ℕ × ℕ × ℤ)) (old now new : Bounds) (i j : ℕ) (c : ℤ) (so : AddedSoFar all rest old now) (next : rest ≡ (i, j, c) ∷ tail)
    (size : new.size ≡ now.size) (bounds : Same now.size (bound new) (with_bound i j c (bound now)))
    (within : (b : ℕ) → unsigned_abs c ≤ b → IsWithin b now.size (bound now) → IsWithin b new.size (bound new))
    (ranged : (b : ℕ) → IsRanged b now.size (bound now) → IsRanged b new.size (bound new))
    (solutions : (v : ℕ → ℤ) → Solves new.size (bound new) v ↔ (Solves now.size (bound now) v × Meets v i j c)) where
  fits : AllFit old.size ((i, j, c) ∷ tail)
  fits = subst (λ (xs : List (ℕ × ℕ × ℤ)). AllFit old.size xs) next so.fit

  pub added_next : AddedSoFar all tail old new
  added_next = record {
    size = size ∙ so.size;
    fit = fits.1;
    same = λ p q pp qq.
        all_same old.size tail (bound new) (with_bound i j c (bound now)) (λ r s rr ss. bounds r s (omega (arith, so.size, rr)) (omega (arith, so.size, ss))) p q pp qq
        ∙ subst (λ (xs : List (ℕ × ℕ × ℤ)). Same old.size (with_bounds xs (bound now)) (with_bounds all (bound old))) next so.same p q pp qq;
    within = within (2 ^ 90) (omega (arith, fits.0.3)) so.within;
    ranged = λ b r. ranged b (so.ranged b r);
    forth = λ v s m.
        let h = so.forth v s m in
        let k : MeetsAll ((i, j, c) ∷ tail) v = subst (λ (xs : List (ℕ × ℕ × ℤ)). MeetsAll xs v) next h.1 in
        ((solutions v).1 (h.0, k.0), k.1);
    back = λ v s m.
        let h = (solutions v).0 s in
        so.back v h.0 (subst (λ (xs : List (ℕ × ℕ × ℤ)). MeetsAll xs v) (sym next) (h.1, m));
  }
