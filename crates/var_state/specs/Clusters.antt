-- A cluster: two bounds, or a matrix.
use Rattle.std.specs.Prelude.{ℕ, zero, suc, Bool, true, false, ℤ, pos, neg_ℤ}
use Rattle.var_state.specs.declared.cluster.Cluster.{Cluster}
use Rattle.var_state.specs.declared.cluster.Cluster.TheVariants.{One, Many}
use Rattle.var_state.specs.Grids.{Weights, at}

-- the bounds of one variable
abbrev pub one : ℤ → ℤ → Weights
one low high zero zero = pos 0
one low high zero (suc j) = high
one low high (suc i) zero = neg_ℤ low
one low high (suc i) (suc j) = pos 0

abbrev pub weights : Cluster → Weights
weights (One range) = one range.low range.high
weights (Many grid) = at grid.cells

-- how many registers stand in it
abbrev pub size_of : Cluster → ℕ
size_of (One range) = 1
size_of (Many grid) = grid.size

abbrev pub is_one : Cluster → Bool
is_one (One range) = true
is_one (Many grid) = false
