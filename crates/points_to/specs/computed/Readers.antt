-- Which sets a constraint reads, and the constraints that read the set of a node.
use Rattle.std.specs.Prelude.{◌≡◌, ℕ, Bool, true, false, if◌then◌else◌, Option, Some, None, List, [], ◌∷◌, ◌++◌, map, length, slice_get, slice_index_or, slice_set}
use Rattle.std.specs.Global.{Vec}
use Rattle.core_ir.specs.declared.artifacts.Constraint.{Constraint}
use Rattle.points_to.specs.declared.rule.Rule.{Rule}
use Rattle.points_to.specs.declared.rule.Rule.TheVariants as rules
use Rattle.points_to.specs.declared.rule.Side.{Side}
use Rattle.points_to.specs.declared.rule.Side.TheVariants as sides
use Rattle.points_to.specs.Rules.{rule_of}

-- rules that look at the members of their target's set
abbrev pub reads_target : Rule → Bool
reads_target rules.Address = false
reads_target rules.Copy = false
reads_target rules.Load = false
reads_target rules.Store = true
reads_target rules.SubObject = false
reads_target rules.ObjectCopy = true
reads_target rules.Argument = true
reads_target rules.Result = false
reads_target rules.Unknown = false

-- rules that look at the members of their source's set, other than to hand them all on
abbrev pub reads_source : Rule → Bool
reads_source rules.Address = false
reads_source rules.Copy = false
reads_source rules.Load = true
reads_source rules.Store = false
reads_source rules.SubObject = true
reads_source rules.ObjectCopy = true
reads_source rules.Argument = false
reads_source rules.Result = true
reads_source rules.Unknown = false

-- the node whose set a constraint reads on one side, if it reads one
abbrev pub read_node : Side → Constraint → Option ℕ
read_node sides.Target c = if reads_target (rule_of c.rule) then Some c.target else None
read_node sides.Source c = if reads_source (rule_of c.rule) then Some c.source else None

abbrev pub Listed : List Constraint → Constraint → Type 0
Listed list c = (k : ℕ) × (slice_get list k ≡ Some c)

abbrev pub constraint_lists : List (Vec Constraint) → List (List Constraint)
constraint_lists vecs = map (λ v. v.items) vecs

-- a constraint goes to the end of the list of a node
abbrev pub entered : Option ℕ → Constraint → List (List Constraint) → List (List Constraint)
entered None c lists = lists
entered (Some node) c lists = slice_set lists node (slice_index_or lists node [] ++ c ∷ [])

-- by node, the constraints among all that read its set on a side
pub record AreReaders (side : Side) (nodes : ℕ) (all : List Constraint) (lists : List (List Constraint)) : Type 0 where
  pub size : length lists ≡ nodes
  pub only : (node : ℕ) (c : Constraint) → Listed (slice_index_or lists node []) c → (read_node side c ≡ Some node) × Listed all c
  pub each : (node : ℕ) (c : Constraint) → Listed all c → read_node side c ≡ Some node → Listed (slice_index_or lists node []) c
