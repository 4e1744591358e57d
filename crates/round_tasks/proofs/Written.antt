-- What is written is an artifact of its kind.
use Rattle.std.proofs.Common.{◌≡◌, ℕ, ◌↔◌, List, Contains, Option, Some, Result, IfOk, map, sym, subst, ◌∙◌, ap}
use Rattle.std.proofs.lemmas.Result.{IfOk-weaker}
use Rattle.std.specs.Global.{Vec}
use Rattle.std.specs.List.Sorted.{IsStrictlySortedBy}
use Rattle.sv_base.specs.declared.ids.SiteId.{SiteId}
use Rattle.sv_base.specs.declared.errors.NoMemory.{NoMemory}
use Rattle.core_ir.specs.Constraints.{constraint_cmp}
use Rattle.core_ir.specs.Plain.{PlainArtifact, Clusters, Colours, Constraints, Solved, Summary}
use Rattle.core_ir.specs.declared.artifacts.Constraint.{Constraint}
use Rattle.core_ir.specs.declared.program.CoreProgram.{CoreProgram}
use Rattle.core_ir.specs.declared.program.Function.{Function}
use Rattle.pt_facts.specs.Facts.{facts_of}
use Rattle.points_to.specs.Families.{Family, Has, family_of}
use Rattle.points_to.specs.Fits.{Fits}
use Rattle.points_to.specs.Rules.{IsClosed}
use Rattle.var_clusters.specs.Clusters.{clusters_of}
use Rattle.verdicts.specs.Verdicts.{Visit, verdict_of}
use Rattle.artifact_codec.specs.Spelling.{spelling}
use Rattle.round_tasks.specs.Tasks.{AreClusters, AreColours, AreConstraints, AreLeastSets, IsSummary, nodes_of}

abbrev Answer : Type 0
Answer = Result (Vec ℕ) NoMemory

pub constraints : (r : Answer) (p : CoreProgram) (f : ℕ) (list : List Constraint) → IfOk r (λ b. b.items ≡ spelling (Constraints list)) → IsStrictlySortedBy constraint_cmp list → ((c : Constraint) → Contains list c ↔ Contains (facts_of p f) c) → IfOk r (λ b. AreConstraints p f b.items)
constraints r p f list spelled ascending members = IfOk-weaker r (λ b. b.items ≡ spelling (Constraints list)) (λ b. AreConstraints p f b.items) (λ b e. record { list = list; spelled = e; ascending = ascending; members = members }) spelled

abbrev Least : CoreProgram → List Constraint → List (List ℕ) → Type 0
Least p all sets = (family : Family) → IsClosed p.classes all family → (node member : ℕ) → Has (family_of sets) node member → Has family node member

pub least_sets : (r : Answer) (p : CoreProgram) (all : List Constraint) (sets : List (List ℕ)) → IfOk r (λ b. b.items ≡ spelling (Solved sets)) → (Fits (nodes_of p) all p.classes → IsClosed p.classes all (family_of sets)) → (Fits (nodes_of p) all p.classes → Least p all sets) → IfOk r (λ b. Fits (nodes_of p) all p.classes → AreLeastSets p all b.items)
least_sets r p all sets spelled closed least = IfOk-weaker r (λ b. b.items ≡ spelling (Solved sets)) (λ b. Fits (nodes_of p) all p.classes → AreLeastSets p all b.items) (λ b e fits. record { sets = sets; spelled = e; closed = closed fits; least = least fits }) spelled

pub clusters : (r : Answer) (o : Option Function) (f : Function) → o ≡ Some f → IfOk r (λ b. b.items ≡ spelling (Clusters (clusters_of f))) → IfOk r (λ b. AreClusters o b.items)
clusters r o f is spelled = subst (λ z. IfOk r (λ b. AreClusters z b.items)) (sym is) spelled

pub summary : (r : Answer) (a : PlainArtifact) → IfOk r (λ b. b.items ≡ spelling (Summary a)) → IfOk r (λ b. IsSummary b.items)
summary r a spelled = IfOk-weaker r (λ b. b.items ≡ spelling (Summary a)) (λ b. IsSummary b.items) (λ b e. record { artifact = a; spelled = e }) spelled

pub colours : (r : Answer) (sites : List SiteId) (visits list : List Visit) → list ≡ map (verdict_of visits) sites → IfOk r (λ b. b.items ≡ spelling (Colours list)) → IfOk r (λ b. AreColours sites b.items)
colours r sites visits list is spelled = IfOk-weaker r (λ b. b.items ≡ spelling (Colours list)) (λ b. AreColours sites b.items) (λ b e. record { visits = visits; spelled = e ∙ ap (λ l. spelling (Colours l)) is }) spelled
