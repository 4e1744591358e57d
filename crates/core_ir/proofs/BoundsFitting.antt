-- The worked matrix and clusters fit, and they do not after certain changes.
use Rattle.std.proofs.Common.{◌≡◌, ◌≢◌, ℕ, zero, suc, ◌+◌, ◌^◌, ◌<◌, ◌≤◌, eqb, T, ℤ, pos, neg_ℤ, ◌-ℤ◌, ◌≤ℤ◌, [], ◌∷◌, flat_map, count_by, Some, refl, subst, arith}
use Rattle.std.proofs.lemmas.Int.{ints}
use Rattle.std.specs.Int.Signed.{le_z, le_z_yes}
use Rattle.std.specs.List.{AllByRecursion, range_with_len}
use Rattle.std.proofs.Math.Facts.{leb_yes}
use Rattle.std.proofs.lemmas.Option.{none-some}
use Rattle.core_ir.specs.BoundsFit.{bound_at, BoundsFit, IsSolution, ClustersFit}
use Rattle.core_ir.specs.Lists.{IsAscending}
use Rattle.core_ir.specs.Plain.{PlainBounds}
use Rattle.core_ir.specs.Ranges.{Range, within, Includes}
use Rattle.core_ir.specs.WorkedBounds.{digits, worked_bounds, of_one_variable, without_last_entry, too_great, too_small, contradictory, above_range, without_upper_bound, below_range, worked_clusters, sixteen, seventeen, empty_cluster, descending, with_fifth_register, out_of_order, without_register, with_register_twice}
use Rattle.core_ir.proofs.Fitting.{includes, ◌▹◌}

in_some : (x y : ℤ) → Some x ≡ Some y → x ≡ y
in_some x y e = cc

-- a difference meets a bound that is known
meets : (d b c : ℤ) → d ≤ℤ b → Some b ≡ Some c → d ≤ℤ c
meets d b c fits e = subst (λ z. d ≤ℤ z) (in_some b c e) fits

-- ---- a matrix of one variable

abbrev pub one : ℤ → ℤ → PlainBounds
one high low = record { size = 1; entries = Some high ∷ Some low ∷ [] }

abbrev point : ℤ → ℕ → ℤ
point x zero = pos 0
point x (suc i) = x

point_solves : (x high low : ℤ) → (x -ℤ pos 0) ≤ℤ high → (pos 0 -ℤ x) ≤ℤ low → (i j : ℕ) (c : ℤ) → i ≤ 1 → j ≤ 1 → i ≢ j → bound_at (one high low) i j ≡ Some c → (point x j -ℤ point x i) ≤ℤ c
point_solves x high low above below zero zero c i_fits j_fits other e = absurd (other refl)
point_solves x high low above below zero (suc zero) c i_fits j_fits other e = meets (x -ℤ pos 0) high c above e
point_solves x high low above below zero (suc (suc j)) c i_fits j_fits other e = absurd (omega (arith, j_fits))
point_solves x high low above below (suc zero) zero c i_fits j_fits other e = meets (pos 0 -ℤ x) low c below e
point_solves x high low above below (suc zero) (suc zero) c i_fits j_fits other e = absurd (other refl)
point_solves x high low above below (suc zero) (suc (suc j)) c i_fits j_fits other e = absurd (omega (arith, j_fits))
point_solves x high low above below (suc (suc i)) j c i_fits j_fits other e = absurd (omega (arith, i_fits))

-- x lies between the bounds, which lie in the range
pub one_fits : (range : Range) (x high low : ℤ) → Includes (within (pos (2 ^ 81))) (high, high) → Includes (within (pos (2 ^ 81))) (low, low) → (x -ℤ pos 0) ≤ℤ high → (pos 0 -ℤ x) ≤ℤ low → high ≤ℤ range.1 → low ≤ℤ neg_ℤ range.0 → BoundsFit (range ∷ []) (one high low)
one_fits range x high low high_fits low_fits above below top bottom = record {
  size = refl;
  entries = refl;
  magnitudes = high_fits ▹ low_fits ▹ tt;
  solution = (point x, record { zero = refl; each = point_solves x high low above below });
  ranged = record { high = top; low = bottom } ▹ tt;
}

-- ---- the matrix of two variables

zero_meets : (b c : ℤ) → T (le_z (pos 0) b) → Some b ≡ Some c → (pos 0 -ℤ pos 0) ≤ℤ c
zero_meets b c fits e = meets (pos 0) b c (le_z_yes fits) e

zero_solves : (i j : ℕ) (c : ℤ) → i ≤ 2 → j ≤ 2 → i ≢ j → bound_at worked_bounds i j ≡ Some c → (pos 0 -ℤ pos 0) ≤ℤ c
zero_solves zero zero c i_fits j_fits other e = absurd (other refl)
zero_solves zero (suc zero) c i_fits j_fits other e = zero_meets (pos 9) c tt e
zero_solves zero (suc (suc zero)) c i_fits j_fits other e = zero_meets (pos 8) c tt e
zero_solves zero (suc (suc (suc j))) c i_fits j_fits other e = absurd (omega (arith, j_fits))
zero_solves (suc zero) zero c i_fits j_fits other e = zero_meets (pos 0) c tt e
zero_solves (suc zero) (suc zero) c i_fits j_fits other e = absurd (other refl)
zero_solves (suc zero) (suc (suc zero)) c i_fits j_fits other e = zero_meets (pos 3) c tt e
zero_solves (suc zero) (suc (suc (suc j))) c i_fits j_fits other e = absurd (omega (arith, j_fits))
zero_solves (suc (suc zero)) zero c i_fits j_fits other e = zero_meets (pos 0) c tt e
zero_solves (suc (suc zero)) (suc zero) c i_fits j_fits other e = absurd (none-some c e)
zero_solves (suc (suc zero)) (suc (suc zero)) c i_fits j_fits other e = absurd (other refl)
zero_solves (suc (suc zero)) (suc (suc (suc j))) c i_fits j_fits other e = absurd (omega (arith, j_fits))
zero_solves (suc (suc (suc i))) j c i_fits j_fits other e = absurd (omega (arith, i_fits))

pub bounds_fit : BoundsFit digits worked_bounds
bounds_fit = record {
  size = refl;
  entries = refl;
  magnitudes = includes tt tt ▹ includes tt tt ▹ includes tt tt ▹ includes tt tt ▹ includes tt tt ▹ tt ▹ tt;
  solution = ((λ i. pos 0), record { zero = refl; each = zero_solves });
  ranged = record { high = le_z_yes tt; low = le_z_yes tt } ▹ record { high = le_z_yes tt; low = le_z_yes tt } ▹ tt;
}

-- ---- one change

pub size_kept : BoundsFit digits of_one_variable → ⊥
size_kept h = absurd (omega (arith, h.size))

pub entries_counted : BoundsFit digits without_last_entry → ⊥
entries_counted h = absurd (omega (arith, h.entries))

pub greatest_kept : BoundsFit digits too_great → ⊥
greatest_kept h = h.magnitudes.1.1.1.1.1.0.high.le

pub least_kept : BoundsFit digits too_small → ⊥
least_kept h = h.magnitudes.1.1.1.1.1.0.low.le

differs : (v : ℕ → ℤ) → IsSolution contradictory v → ⊥
differs v s =
    let up : (v 2 -ℤ v 1) ≤ℤ pos 3 = s.each 1 2 (pos 3) (leb_yes tt) (leb_yes tt) (λ e. absurd (omega (arith, e))) refl in
    let down : (v 1 -ℤ v 2) ≤ℤ neg_ℤ (pos 4) = s.each 2 1 (neg_ℤ (pos 4)) (leb_yes tt) (leb_yes tt) (λ e. absurd (omega (arith, e))) refl in
    absurd (omega (arith, ints, up, down))

pub solution_wanted : BoundsFit digits contradictory → ⊥
solution_wanted h = differs h.solution.0 h.solution.1

pub range_kept : BoundsFit digits above_range → ⊥
range_kept h = h.ranged.1.0.high.le

pub upper_wanted : BoundsFit digits without_upper_bound → ⊥
upper_wanted h = h.ranged.1.0.high

pub lower_kept : BoundsFit digits below_range → ⊥
lower_kept h = h.ranged.0.low.le

-- ---- clusters

once : (r : ℕ) → r < 4 → count_by (λ q. eqb q r) (flat_map (λ c. c) worked_clusters) ≡ 1
once zero below = refl
once (suc zero) below = refl
once (suc (suc zero)) below = refl
once (suc (suc (suc zero))) below = refl
once (suc (suc (suc (suc r)))) below = absurd (omega (arith, below))

pub clusters_fit : ClustersFit 4 worked_clusters
clusters_fit = record {
  each =
      record { some = leb_yes tt; size = leb_yes tt; ascending = (leb_yes tt ▹ leb_yes tt ▹ tt) ▹ (leb_yes tt ▹ tt) ▹ tt ▹ tt; registers_below = leb_yes tt ▹ leb_yes tt ▹ leb_yes tt ▹ tt }
      ▹ record { some = leb_yes tt; size = leb_yes tt; ascending = tt ▹ tt; registers_below = leb_yes tt ▹ tt }
      ▹ tt;
  order = (leb_yes tt ▹ tt) ▹ tt ▹ tt;
  once = once;
}

range_above : (a n x : ℕ) → x < a → AllByRecursion (λ y. x < y) (range_with_len a n)
range_above a zero x less = tt
range_above a (suc n) x less = (less, range_above (a + 1) n x (omega (arith, less)))

range_ascends : (a n : ℕ) → IsAscending (range_with_len a n)
range_ascends a zero = tt
range_ascends a (suc n) = (range_above (a + 1) n a (omega arith), range_ascends (a + 1) n)

range_below : (a n count : ℕ) → a + n ≤ count → AllByRecursion (λ r. r < count) (range_with_len a n)
range_below a zero count fits = tt
range_below a (suc n) count fits = (omega (arith, fits), range_below (a + 1) n count (omega (arith, fits)))

sixteen_once : (r : ℕ) → r < 16 → count_by (λ q. eqb q r) (flat_map (λ c. c) sixteen) ≡ 1
sixteen_once zero below = refl
sixteen_once (suc zero) below = refl
sixteen_once (suc (suc zero)) below = refl
sixteen_once (suc (suc (suc zero))) below = refl
sixteen_once (suc (suc (suc (suc zero)))) below = refl
sixteen_once (suc (suc (suc (suc (suc zero))))) below = refl
sixteen_once (suc (suc (suc (suc (suc (suc zero)))))) below = refl
sixteen_once (suc (suc (suc (suc (suc (suc (suc zero))))))) below = refl
sixteen_once (suc (suc (suc (suc (suc (suc (suc (suc zero)))))))) below = refl
sixteen_once (suc (suc (suc (suc (suc (suc (suc (suc (suc zero))))))))) below = refl
sixteen_once (suc (suc (suc (suc (suc (suc (suc (suc (suc (suc zero)))))))))) below = refl
sixteen_once (suc (suc (suc (suc (suc (suc (suc (suc (suc (suc (suc zero))))))))))) below = refl
sixteen_once (suc (suc (suc (suc (suc (suc (suc (suc (suc (suc (suc (suc zero)))))))))))) below = refl
sixteen_once (suc (suc (suc (suc (suc (suc (suc (suc (suc (suc (suc (suc (suc zero))))))))))))) below = refl
sixteen_once (suc (suc (suc (suc (suc (suc (suc (suc (suc (suc (suc (suc (suc (suc zero)))))))))))))) below = refl
sixteen_once (suc (suc (suc (suc (suc (suc (suc (suc (suc (suc (suc (suc (suc (suc (suc zero))))))))))))))) below = refl
sixteen_once (suc (suc (suc (suc (suc (suc (suc (suc (suc (suc (suc (suc (suc (suc (suc (suc r)))))))))))))))) below = absurd (omega (arith, below))

pub sixteen_fit : ClustersFit 16 sixteen
sixteen_fit = record {
  each = record { some = leb_yes tt; size = leb_yes tt; ascending = range_ascends 0 16; registers_below = range_below 0 16 16 (leb_yes tt) } ▹ tt;
  order = tt ▹ tt;
  once = sixteen_once;
}

-- ---- one change

pub register_wanted : ClustersFit 0 empty_cluster → ⊥
register_wanted h = absurd (omega (arith, h.each.0.some))

pub sixteen_at_most : ClustersFit 17 seventeen → ⊥
sixteen_at_most h = absurd (omega (arith, h.each.0.size))

pub ascending_wanted : ClustersFit 4 descending → ⊥
ascending_wanted h = absurd (omega (arith, h.each.0.ascending.1.0.0))

pub register_known : ClustersFit 4 with_fifth_register → ⊥
register_known h = absurd (omega (arith, h.each.1.1.0.registers_below.0))

pub order_wanted : ClustersFit 4 out_of_order → ⊥
order_wanted h = absurd (omega (arith, h.order.0.0))

pub each_wanted : ClustersFit 4 without_register → ⊥
each_wanted h = absurd (omega (arith, h.once 1 (leb_yes tt)))

pub once_wanted : ClustersFit 4 with_register_twice → ⊥
once_wanted h = absurd (omega (arith, h.once 2 (leb_yes tt)))
