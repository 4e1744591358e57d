-- What the artifacts of tasks are, by what the tasks are computed from.
use Rattle.std.specs.Prelude.{◌≡◌, ℕ, ◌+◌, Bool, true, false, ◌↔◌, min, List, [], length, map, Contains, Option, Some, None, slice_get, unwrap_or}
use Rattle.std.specs.Arc.{arc_value}
use Rattle.std.specs.Global.{Vec}
use Rattle.std.specs.List.Sorted.{IsStrictlySortedBy}
use Rattle.sv_base.specs.declared.ids.SiteId.{SiteId}
use Rattle.core_ir.specs.Constraints.{constraint_cmp}
use Rattle.core_ir.specs.Plain.{PlainArtifact, Clusters, Colours, Constraints, Solved, Summary}
use Rattle.core_ir.specs.declared.artifacts.Constraint.{Constraint}
use Rattle.core_ir.specs.declared.program.CoreProgram.{CoreProgram}
use Rattle.core_ir.specs.declared.program.Function.{Function}
use Rattle.pt_facts.specs.Facts.{facts_of}
use Rattle.points_to.specs.Families.{Family, Has, family_of}
use Rattle.points_to.specs.Fits.{Fits}
use Rattle.points_to.specs.Rules.{IsClosed}
use Rattle.var_clusters.specs.Clusters.{clusters_of}
use Rattle.verdicts.specs.Verdicts.{Visit, verdict_of}
use Rattle.artifact_codec.specs.Spelling.{spelling}
use Rattle.round_tasks.specs.declared.basis.Basis.{Basis}
use Rattle.round_tasks.specs.declared.basis.Basis.TheVariants as bases
use Rattle.round_tasks.specs.declared.basis.Past.{Past}
use Rattle.round_tasks.specs.declared.tasks.Task.{Task}
use Rattle.round_tasks.specs.declared.tasks.Task.TheVariants as tasks

-- the constraints that a function gives, each once and in their order
pub record AreConstraints (p : CoreProgram) (f : ℕ) (bytes : List ℕ) : Type 0 where
  pub list : List Constraint
  pub spelled : bytes ≡ spelling (Constraints list)
  pub ascending : IsStrictlySortedBy constraint_cmp list
  pub members : (c : Constraint) → Contains list c ↔ Contains (facts_of p f) c

-- the number of nodes: all registers, and then the leaf classes
abbrev pub nodes_of : CoreProgram → ℕ
nodes_of p = min (length p.classes.leaves.items + p.classes.registers) 4294967295

-- the least sets that the constraints allow
pub record AreLeastSets (p : CoreProgram) (all : List Constraint) (bytes : List ℕ) : Type 0 where
  pub sets : List (List ℕ)
  pub spelled : bytes ≡ spelling (Solved sets)
  pub closed : IsClosed p.classes all (family_of sets)
  pub least : (family : Family) → IsClosed p.classes all family → (node member : ℕ) → Has (family_of sets) node member → Has family node member

-- some summary
pub record IsSummary (bytes : List ℕ) : Type 0 where
  pub artifact : PlainArtifact
  pub spelled : bytes ≡ spelling (Summary artifact)

-- each of these sites once and in their order, with the common colour of its visits
pub record AreColours (sites : List SiteId) (bytes : List ℕ) : Type 0 where
  pub visits : List Visit
  pub spelled : bytes ≡ spelling (Colours (map (verdict_of visits) sites))

abbrev pub listed : Option (Vec SiteId) → List SiteId
listed None = []
listed (Some sites) = sites.items

-- the clusters of a function that is there
abbrev pub AreClusters : Option Function → List ℕ → Type 0
AreClusters None bytes = ⊥
AreClusters (Some f) bytes = bytes ≡ spelling (Clusters (clusters_of f))

-- what a task of a round gives
abbrev pub IsComputed : CoreProgram → ℕ → Basis → List ℕ → Type 0
IsComputed p task bases.Constraints bytes = AreConstraints p task bytes
IsComputed p task (bases.Solution all) bytes = Fits (nodes_of p) all.items p.classes → AreLeastSets p all.items bytes
IsComputed p task bases.Clusters bytes = AreClusters (slice_get p.functions.items task) bytes
IsComputed p task (bases.Summaries past is_first phase) bytes = IsSummary bytes
IsComputed p task (bases.Closing past) bytes = IsSummary bytes
IsComputed p task (bases.Colours past sites) bytes = AreColours (listed (slice_get sites.items task)) bytes

-- what a task gives
abbrev pub IsArtifact : CoreProgram → ℕ → Task → List ℕ → Type 0
IsArtifact p task (tasks.Again before) bytes = bytes ≡ before.items
IsArtifact p task (tasks.New basis) bytes = IsComputed p task (arc_value basis) bytes

abbrev pub past_stands : Past → ℕ → Bool
past_stands past task = unwrap_or (slice_get past.stands.items task) false

-- whether a task has the artifact of the round before again
abbrev pub stands_in : Basis → ℕ → Bool
stands_in (bases.Summaries past is_first phase) task = past_stands past task
stands_in (bases.Closing past) task = past_stands past task
stands_in bases.Constraints task = false
stands_in (bases.Solution all) task = false
stands_in bases.Clusters task = false
stands_in (bases.Colours past sites) task = false

-- a task is computed from what its round needs, or it stands
abbrev pub IsTask : Basis → ℕ → Task → Type 0
IsTask basis task (tasks.Again before) = stands_in basis task ≡ true
IsTask basis task (tasks.New new) = arc_value new ≡ basis
