-- The worked view fits, and it does not after certain changes.
use Rattle.std.proofs.Common.{◌≡◌, ℕ, zero, suc, ◌<◌, eqb, pos, List, [], ◌∷◌, flat_map, count_by, refl, sym, arith, true≢false, inl}
use Rattle.std.specs.Int.Signed.{le_z_yes}
use Rattle.std.specs.List.{AllByRecursion}
use Rattle.std.proofs.Math.Facts.{leb_yes}
use Rattle.c_values.specs.declared.int_type.IntType.TheVariants as types
use Rattle.core_ir.specs.declared.steps.Leaf.TheVariants as leaves
use Rattle.core_ir.specs.BoundsFit.{BoundsFit, ClusterFits, ClustersFit}
use Rattle.core_ir.specs.Ranges.{leaf_range}
use Rattle.core_ir.specs.ViewsFit.{SetFits, CalleePartFits, ClassFits, ViewFits, of_layout}
use Rattle.core_ir.specs.Worked.{worked, pick}
use Rattle.core_ir.specs.WorkedView.{external, object, worked_view, zero_to_nine, without_callee, without_object, in_two_clusters, beyond_range, without_bound}
use Rattle.core_ir.proofs.Fitting.{includes, ◌▹◌}
use Rattle.core_ir.proofs.BoundsFitting.{one_fits}

pub nothing : SetFits worked []
nothing = record { ascending = tt; targets = tt }

pub one_object : SetFits worked (12 ∷ [])
one_object = record { ascending = (tt, tt); targets = (inl (leb_yes tt), tt) }

alone : (r : ℕ) → r < 7 → ClusterFits 7 (r ∷ [])
alone r below = record { some = leb_yes tt; size = leb_yes tt; ascending = (tt, tt); registers_below = (below, tt) }

once : (r : ℕ) → r < 7 → count_by (λ q. eqb q r) (flat_map (λ c. c) worked_view.clusters) ≡ 1
once zero below = refl
once (suc zero) below = refl
once (suc (suc zero)) below = refl
once (suc (suc (suc zero))) below = refl
once (suc (suc (suc (suc zero)))) below = refl
once (suc (suc (suc (suc (suc zero))))) below = refl
once (suc (suc (suc (suc (suc (suc zero)))))) below = refl
once (suc (suc (suc (suc (suc (suc (suc r))))))) below = absurd (omega (arith, below))

pub clusters_fit : ClustersFit 7 worked_view.clusters
clusters_fit = record {
  each =
      record { some = leb_yes tt; size = leb_yes tt; ascending = ((leb_yes tt, tt), (tt, tt)); registers_below = (leb_yes tt, (leb_yes tt, tt)) }
      ▹ record { some = leb_yes tt; size = leb_yes tt; ascending = ((leb_yes tt, tt), (tt, tt)); registers_below = (leb_yes tt, (leb_yes tt, tt)) }
      ▹ alone 3 (leb_yes tt)
      ▹ alone 4 (leb_yes tt)
      ▹ alone 5 (leb_yes tt)
      ▹ tt;
  order =
      (leb_yes tt ▹ leb_yes tt ▹ leb_yes tt ▹ leb_yes tt ▹ tt)
      ▹ (leb_yes tt ▹ leb_yes tt ▹ leb_yes tt ▹ tt)
      ▹ (leb_yes tt ▹ leb_yes tt ▹ tt)
      ▹ (leb_yes tt ▹ tt)
      ▹ tt
      ▹ tt;
  once = once;
}

pub nine_fits : BoundsFit (leaf_range (leaves.Int types.Int) ∷ []) zero_to_nine
nine_fits = one_fits _ (pos 0) (pos 9) (pos 0) (includes tt tt) (includes tt tt) (le_z_yes tt) (le_z_yes tt) (le_z_yes tt) (le_z_yes tt)

pub external_fits : CalleePartFits worked external
external_fits = record { kind = refl; external = refl; ranges = refl }

pub object_fits : (copied : List ℕ) → AllByRecursion (λ layout. of_layout layout [] ≡ of_layout layout []) copied → ClassFits worked copied object
object_fits copied none = record { length_is = refl; leaves = refl; layouts = none }

pub view_fits : ViewFits worked pick worked_view
view_fits = record {
  parts = record {
    sets_fit = record { count = refl; each = nothing ▹ nothing ▹ nothing ▹ one_object ▹ one_object ▹ one_object ▹ nothing ▹ tt };
    callee_order = (tt, tt);
    callees_fit = external_fits ▹ tt;
    callees_there = refl ▹ tt;
    leaves_fit = record { order = (tt, tt); each = record { ends = le_z_yes tt; range = includes tt tt } ▹ tt };
    class_order = (tt, tt);
    classes_fit = object_fits [] tt ▹ tt;
  };
  classes_there = refl ▹ refl ▹ refl ▹ refl ▹ tt;
  clusters = clusters_fit;
  context = nine_fits ▹ tt;
}

-- ---- one change

pub callee_wanted : ViewFits worked pick without_callee → ⊥
callee_wanted h = true≢false (sym h.parts.callees_there.0)

pub object_wanted : ViewFits worked pick without_object → ⊥
object_wanted h = true≢false (sym h.classes_there.0)

pub one_cluster_wanted : ViewFits worked pick in_two_clusters → ⊥
one_cluster_wanted h = absurd (omega (arith, h.clusters.once 1 (leb_yes tt)))

pub range_kept : ViewFits worked pick beyond_range → ⊥
range_kept h = h.context.0.ranged.0.high.le

pub bound_wanted : ViewFits worked pick without_bound → ⊥
bound_wanted h = h.context.0.ranged.0.low
