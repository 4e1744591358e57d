-- Members that pass a test, in each set: a closed family, if those that are named pass it.
use Rattle.std.proofs.Common.{◌≡◌, ℕ, Bool, true, Some, List, refl, slice_get}
use Rattle.core_ir.specs.declared.classes.ClassTable.{ClassTable}
use Rattle.core_ir.specs.declared.classes.PartClass.{PartClass}
use Rattle.core_ir.specs.declared.artifacts.Constraint.{Constraint}
use Rattle.points_to.specs.declared.rule.Rule.{Rule}
use Rattle.points_to.specs.declared.rule.Rule.TheVariants as rules
use Rattle.points_to.specs.Families.{Has, Flows}
use Rattle.points_to.specs.Rules.{Demands, IsClosed, parts_in, rule_of}
use Rattle.points_to.specs.Named.{NamesOnly}

named_meets : (test : ℕ → Bool) (t : ClassTable) (r : Rule) (c : Constraint) → (r ≡ rules.Address → test c.source ≡ true)
    → ((x k : ℕ) (part : PartClass) → slice_get (parts_in t x) k ≡ Some part → test part.«class» ≡ true)
    → Demands t r c (Has (λ node m. test m) c.target) (Has (λ node m. test m) c.source) (Flows (λ node m. test m)) (Has (λ node m. test m))
named_meets test t rules.Address c addresses parts = addresses refl
named_meets test t rules.Copy c addresses parts = λ m h. h
named_meets test t rules.Load c addresses parts = λ x k leaf node s e f m h. h
named_meets test t rules.Store c addresses parts = λ x k leaf node s e f m h. h
named_meets test t rules.SubObject c addresses parts = λ x k part s e f. parts x k part e
named_meets test t rules.ObjectCopy c addresses parts = λ x y to from g h copied m k. k
named_meets test t rules.Argument c addresses parts = λ g node h e m k. k
named_meets test t rules.Result c addresses parts = λ g node h e m k. k
named_meets test t rules.Unknown c addresses parts = tt

pub named_closed : (test : ℕ → Bool) (t : ClassTable) (all : List Constraint) → NamesOnly test t all → IsClosed t all (λ node m. test m)
unfolding IsClosed
named_closed test t all named = λ k c e. named_meets test t (rule_of c.rule) c (named.addresses k c e) named.parts
