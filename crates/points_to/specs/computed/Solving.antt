-- How a solver goes on: what constraints ask at once, and what is met for the members of one node.
use Rattle.std.specs.Prelude.{◌≡◌, ℕ, true, List, length, ◌⊎◌}
use Rattle.core_ir.specs.declared.classes.ClassTable.{ClassTable}
use Rattle.core_ir.specs.declared.artifacts.Constraint.{Constraint}
use Rattle.points_to.specs.declared.rule.Rule.{Rule}
use Rattle.points_to.specs.declared.rule.Rule.TheVariants as rules
use Rattle.points_to.specs.declared.progress.Progress.{Progress}
use Rattle.points_to.specs.Sets.{has}
use Rattle.points_to.specs.Families.{Family, Relation, Has}
use Rattle.points_to.specs.Rules.{Demands, IsClosed, rule_of}
use Rattle.points_to.specs.computed.RuleParts.{Each}
use Rattle.points_to.specs.computed.Progress.{Stands, Flowed, IsWithin, done_of, edges_of, known_of}

-- what a constraint asks where no set has a member
abbrev pub Opens : Rule → Constraint → Relation → Relation → Type 0
Opens rules.Address c flows gets = gets c.target c.source
Opens rules.Copy c flows gets = flows c.source c.target
Opens rules.Load c flows gets = Unit {0}
Opens rules.Store c flows gets = Unit {0}
Opens rules.SubObject c flows gets = Unit {0}
Opens rules.ObjectCopy c flows gets = Unit {0}
Opens rules.Argument c flows gets = Unit {0}
Opens rules.Result c flows gets = Unit {0}
Opens rules.Unknown c flows gets = Unit {0}

-- what the members of one node ask: of the edges from it, and of constraints that read its set, where `found` has all that is handed on
pub record IsAsked (classes : ClassTable) (found : Progress) (targets sources : List Constraint) (node : ℕ) (delta : List ℕ) (flows gets : Relation) : Type 0 where
  pub handed : (to : ℕ) → Has (edges_of found) node to → (member : ℕ) → has delta member ≡ true → gets to member
  pub by_target : Each targets (λ c. Demands classes (rule_of c.rule) c (λ x. has delta x ≡ true) (Has (done_of found) c.source) flows gets)
  pub by_source : Each sources (λ c. Demands classes (rule_of c.rule) c (Has (done_of found) c.target) (λ y. has delta y ≡ true) flows gets)

-- a family that has the members of one node beside those of another family
abbrev pub HasMore : Family → ℕ → List ℕ → Family → Type 0
HasMore base node delta family = (n member : ℕ) → Has family n member → Has base n member ⊎ ((n ≡ node) × (has delta member ≡ true))

-- where the members of a family were known along all edges, those that were handed on are
abbrev pub HandsOn : ℕ → List ℕ → Progress → Progress → Type 0
HandsOn node delta old new = (base : Family) → Flowed base old → HasMore base node delta (done_of old) → Flowed (done_of new) new

-- each constraint is met for the members that were handed on
abbrev pub AreRuled : ClassTable → List Constraint → Progress → Type 0
AreRuled classes all p = Each all (λ c. Demands classes (rule_of c.rule) c (Has (done_of p) c.target) (Has (done_of p) c.source) (Has (edges_of p)) (Has (known_of p)))

-- a run of a solver from one moment to another
pub record IsRun (classes : ClassTable) (all : List Constraint) (old new : Progress) : Type 0 where
  pub stands : Stands new
  pub size : length new.done.items ≡ length old.done.items
  pub flowed : Flowed (done_of new) new
  pub ruled : AreRuled classes all new
  pub within : (family : Family) → IsClosed classes all family → IsWithin family old → IsWithin family new

-- all that is found was handed on, and it is closed
pub record IsDone (classes : ClassTable) (all : List Constraint) (old new : Progress) : Type 0 where
  pub size : length new.done.items ≡ length old.done.items
  pub closed : IsClosed classes all (done_of new)
  pub within : (family : Family) → IsClosed classes all family → IsWithin family old → (node member : ℕ) → Has (done_of new) node member → Has family node member
