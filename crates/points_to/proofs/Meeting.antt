-- What the tests of one constraint find is what the constraint demands.
use Rattle.std.proofs.Common.{◌≡◌, ℕ, ◌↔◌, Bool, IsTrue, List, [], slice_index_or, subst}
use Rattle.core_ir.specs.declared.classes.ClassTable.{ClassTable}
use Rattle.core_ir.specs.declared.classes.LayoutPart.{LayoutPart}
use Rattle.core_ir.specs.declared.artifacts.Constraint.{Constraint}
use Rattle.points_to.specs.declared.rule.Rule.{Rule}
use Rattle.points_to.specs.declared.rule.Rule.TheVariants as rules
use Rattle.points_to.specs.Families.{Relation, Has, Flows, family_of}
use Rattle.points_to.specs.Rules.{Demands, Meets, rule_of, layouts_in}
use Rattle.points_to.specs.computed.RuleParts.{Each, TakesLeaves, GivesLeaves, TakesParts, TakesLayouts, TakesObject, TakesObjects, GivesEntry, TakesResult}
use Rattle.points_to.proofs.Copied.{copied_one, copied_all}
use Rattle.points_to.proofs.Each.{has_place, place_has}

module _ (t : ClassTable) (sets : List (List ℕ)) (c : Constraint) (b : Bool) where
  pub load_meets : IsTrue b ↔ Each (slice_index_or sets c.source []) (λ x. TakesLeaves t (Flows (family_of sets)) x c.target)
      → IsTrue b ↔ Demands t rules.Load c (Has (family_of sets) c.target) (Has (family_of sets) c.source) (Flows (family_of sets)) (Has (family_of sets))
  unfolding TakesLeaves
  load_meets (f, g) = (
    (λ y x k leaf node h e n. let r = has_place (slice_index_or sets c.source []) x h in f y r.0 x r.1 k leaf e node n),
    (λ all. g (λ i x s k leaf e node n. all x k leaf node (place_has (slice_index_or sets c.source []) i x s) e n)),
  )

  pub store_meets : IsTrue b ↔ Each (slice_index_or sets c.target []) (λ x. GivesLeaves t (Flows (family_of sets)) c.source x)
      → IsTrue b ↔ Demands t rules.Store c (Has (family_of sets) c.target) (Has (family_of sets) c.source) (Flows (family_of sets)) (Has (family_of sets))
  unfolding GivesLeaves
  store_meets (f, g) = (
    (λ y x k leaf node h e n. let r = has_place (slice_index_or sets c.target []) x h in f y r.0 x r.1 k leaf e node n),
    (λ all. g (λ i x s k leaf e node n. all x k leaf node (place_has (slice_index_or sets c.target []) i x s) e n)),
  )

  pub part_meets : IsTrue b ↔ Each (slice_index_or sets c.source []) (λ x. TakesParts t (Has (family_of sets)) c.third x c.target)
      → IsTrue b ↔ Demands t rules.SubObject c (Has (family_of sets) c.target) (Has (family_of sets) c.source) (Flows (family_of sets)) (Has (family_of sets))
  unfolding TakesParts
  part_meets (f, g) = (
    (λ y x k part h e n. let r = has_place (slice_index_or sets c.source []) x h in f y r.0 x r.1 k part e n),
    (λ all. g (λ i x s k part e n. all x k part (place_has (slice_index_or sets c.source []) i x s) e n)),
  )

  pub copy_meets : IsTrue b ↔ Each (slice_index_or sets c.target []) (λ x. TakesObjects t (Flows (family_of sets)) c.third x (slice_index_or sets c.source []))
      → IsTrue b ↔ Demands t rules.ObjectCopy c (Has (family_of sets) c.target) (Has (family_of sets) c.source) (Flows (family_of sets)) (Has (family_of sets))
  unfolding TakesObjects
  copy_meets (f, g) = (
    (λ s x y to from hx hy m.
        let r = has_place (slice_index_or sets c.target []) x hx in
        let q = has_place (slice_index_or sets c.source []) y hy in
        copied_one t (Flows (family_of sets)) c.third x y to from (f s r.0 x r.1 q.0 y q.1) m),
    (λ all. g (λ i x s j y q. copied_all t (Flows (family_of sets)) c.third x y (λ to from m.
        all x y to from (place_has (slice_index_or sets c.target []) i x s) (place_has (slice_index_or sets c.source []) j y q) m))),
  )

  pub argument_meets : IsTrue b ↔ Each (slice_index_or sets c.target []) (λ x. GivesEntry t (Flows (family_of sets)) c.third c.source x)
      → IsTrue b ↔ Demands t rules.Argument c (Has (family_of sets) c.target) (Has (family_of sets) c.source) (Flows (family_of sets)) (Has (family_of sets))
  unfolding GivesEntry
  argument_meets (f, g) = (
    (λ y x node h e. let r = has_place (slice_index_or sets c.target []) x h in f y r.0 x r.1 node e),
    (λ all. g (λ i x s node e. all x node (place_has (slice_index_or sets c.target []) i x s) e)),
  )

  pub result_meets : IsTrue b ↔ Each (slice_index_or sets c.source []) (λ x. TakesResult t (Flows (family_of sets)) x c.target)
      → IsTrue b ↔ Demands t rules.Result c (Has (family_of sets) c.target) (Has (family_of sets) c.source) (Flows (family_of sets)) (Has (family_of sets))
  unfolding TakesResult
  result_meets (f, g) = (
    (λ y x node h e. let r = has_place (slice_index_or sets c.source []) x h in f y r.0 x r.1 node e),
    (λ all. g (λ i x s node e. all x node (place_has (slice_index_or sets c.source []) i x s) e)),
  )

  pub by_rule : (r : Rule) → r ≡ rule_of c.rule
      → IsTrue b ↔ Demands t r c (Has (family_of sets) c.target) (Has (family_of sets) c.source) (Flows (family_of sets)) (Has (family_of sets))
      → IsTrue b ↔ Meets t (family_of sets) c
  by_rule r e = subst (λ q. IsTrue b ↔ Demands t q c (Has (family_of sets) c.target) (Has (family_of sets) c.source) (Flows (family_of sets)) (Has (family_of sets))) e

pub object_is : (t : ClassTable) (flows : Relation) (layout x y : ℕ) (b : Bool) (targets sources : List LayoutPart) → targets ≡ layouts_in t x → sources ≡ layouts_in t y
    → IsTrue b ↔ Each sources (λ part. part.layout ≡ layout → TakesLayouts t flows layout targets part.leaves.items) → IsTrue b ↔ TakesObject t flows layout x y
unfolding TakesObject
object_is t flows layout x y b targets sources e d h =
    subst (λ zs. IsTrue b ↔ Each zs (λ part. part.layout ≡ layout → TakesLayouts t flows layout (layouts_in t x) part.leaves.items)) d
    (subst (λ zs. IsTrue b ↔ Each sources (λ part. part.layout ≡ layout → TakesLayouts t flows layout zs part.leaves.items)) e h)
