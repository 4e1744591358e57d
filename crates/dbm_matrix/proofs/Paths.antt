-- Paths: one after the other, against bounds, and what closed matrices say of them.
use Rattle.std.proofs.Common.{◌≡◌, ℕ, ◌≤◌, ℤ, pos, ◌+ℤ◌, ◌≤ℤ◌, Some, sym, ◌∙◌, arith}
use Rattle.std.proofs.lemmas.Int.{ints}
use Rattle.dbm_matrix.specs.Bounds.{Weights, AtMost}
use Rattle.dbm_matrix.specs.Paths.{Path, IsClosureOf, IsClosed, HasNegativeCycle}
use Rattle.dbm_matrix.specs.Paths.Path.{here, along}
use Rattle.dbm_matrix.proofs.Options.{most_out, most_more, some_same}

pub joined : (n : ℕ) (d : Weights) (i j k : ℕ) (v w : ℤ) → Path n d i k v → Path n d k j w → Path n d i j (v +ℤ w)
joined n d i j k v w (here h) q = let e : pos 0 +ℤ w ≡ w = omega (arith, ints) in rw e q
joined n d i j k v w (along a c u h e p l) q = along a c (u +ℤ w) h e (joined n d a j k u w p q) (omega (arith, ints, l))

pub start_of : (n : ℕ) (d : Weights) (i j : ℕ) (w : ℤ) → Path n d i j w → i ≤ n
start_of n d i j w (here h) = h
start_of n d i j w (along a c u h e p l) = h

pub end_of : (n : ℕ) (d : Weights) (i j : ℕ) (w : ℤ) → Path n d i j w → j ≤ n
end_of n d i j w (here h) = h
end_of n d i j w (along a c u h e p l) = end_of n d a j u p

-- a bound is a path
pub edge : (n : ℕ) (d : Weights) (i j : ℕ) (c : ℤ) → i ≤ n → j ≤ n → d i j ≡ Some c → Path n d i j c
edge n d i j c h k e = along j c (pos 0) h e (here k) (omega (arith, ints))

-- e bounds each difference that d bounds, by a path that is no longer
pub record IsStronger (n : ℕ) (d e : Weights) : Type 0 where
  pub each : (i j : ℕ) (c : ℤ) → i ≤ n → j ≤ n → d i j ≡ Some c → (w : ℤ) × Path n e i j w × (w ≤ℤ c)

-- where e bounds each difference that d bounds, its paths are no longer
pub no_longer : (n : ℕ) (d e : Weights) → IsStronger n d e → (i j : ℕ) (w : ℤ) → Path n d i j w → (v : ℤ) × Path n e i j v × (v ≤ℤ w)
no_longer n d e s i j w (here h) = (pos 0, here h, omega (arith, ints))
no_longer n d e s i j w (along k c u h q p l) =
    let first = s.each i k c h (start_of n d k j u p) q in
    let rest = no_longer n d e s k j u p in
    (first.0 +ℤ rest.0, joined n e i j k first.0 rest.0 first.1 rest.1, omega (arith, ints, first.2, rest.2, l))

-- a closed matrix has the least weights of its own paths
pub closed_least : (n : ℕ) (d : Weights) → IsClosed n d → (i j : ℕ) (w : ℤ) → Path n d i j w → AtMost (d i j) w
closed_least n d closed i j w (here h) = rw (closed.zero i h) (omega (arith, ints))
closed_least n d closed i j w (along k c v h e p l) =
    let b = most_out (d k j) v (closed_least n d closed k j v p) in
    most_more (d i j) (c +ℤ b.0) w (closed.triangle i j k c b.0 h (end_of n d k j v p) (start_of n d k j v p) e b.1) (omega (arith, ints, b.2, l))

-- a closed matrix whose bounds are paths of d, and which bounds each difference that d bounds, is the closed form of d
pub record IsBetween (n : ℕ) (d e : Weights) : Type 0 where
  pub closed : IsClosed n e
  pub path : (i j : ℕ) (c : ℤ) → i ≤ n → j ≤ n → e i j ≡ Some c → Path n d i j c
  pub below : (i j : ℕ) (c : ℤ) → i ≤ n → j ≤ n → d i j ≡ Some c → AtMost (e i j) c

pub between_least : (n : ℕ) (d e : Weights) → IsBetween n d e → (i j : ℕ) (w : ℤ) → Path n d i j w → AtMost (e i j) w
between_least n d e b i j w (here h) = rw (b.closed.zero i h) (omega (arith, ints))
between_least n d e b i j w (along k c v h q p l) =
    let kk = start_of n d k j v p in
    let first = most_out (e i k) c (b.below i k c h kk q) in
    let rest = most_out (e k j) v (between_least n d e b k j v p) in
    most_more (e i j) (first.0 +ℤ rest.0) w (b.closed.triangle i j k first.0 rest.0 h (end_of n d k j v p) kk first.1 rest.1) (omega (arith, ints, first.2, rest.2, l))

pub between_closure : (n : ℕ) (d e : Weights) → IsBetween n d e → IsClosureOf n d e
between_closure n d e b = record { each = λ i j ii jj. record { path = λ c q. b.path i j c ii jj q; least = between_least n d e b i j } }

pub between_no_cycle : (n : ℕ) (d e : Weights) → IsBetween n d e → HasNegativeCycle n d → ⊥
between_no_cycle n d e b h =
    let i = h.0 in
    let t = most_out (e i i) h.1 (between_least n d e b i i h.1 h.2) in
    let z : t.0 ≡ pos 0 = some_same t.0 (pos 0) (sym t.1 ∙ b.closed.zero i (start_of n d i i h.1 h.2)) in
    omega (arith, ints, z, t.2, h.3)
