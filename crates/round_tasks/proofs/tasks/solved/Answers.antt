use Rattle.std.proofs.Common.{◌≡◌, ℕ, Bool, true, false, List, sym, subst, ◌∙◌, true≢false, rules}
use Rattle.core_ir.specs.declared.artifacts.Constraint.{Constraint}
use Rattle.core_ir.specs.declared.classes.ClassTable.{ClassTable}
use Rattle.points_to.specs.Fits.{Fits}
use Rattle.round_tasks.specs.Tasks.{nodes_of}
use Rattle.round_tasks.proofs.tasks.solved.Goals as goal

pub solve-requires : goal.solve-requires
solve-requires c = c.if-fits.ensures.0 (search rules)

refused : {A : Type 0} (fits : Bool) (n m : ℕ) (all : List Constraint) (classes : ClassTable) → fits ≡ false → (Fits m all classes → fits ≡ true) → m ≡ n → Fits n all classes → A
refused fits n m all classes misfit known is h = absurd (true≢false (sym (known (subst (λ k. Fits k all classes) (sym is) h)) ∙ misfit))

pub returns-else-fits-clause-closed : goal.returns-else-fits-clause-closed
returns-else-fits-clause-closed c = λ h. refused c.fits.result (nodes_of c.args.core.now) c.nodes-nodes.result c.args.all.now c.args.core.now.classes c.if-fits.false c.fits.ensures.1 c.nodes-nodes.ensures h

pub returns-else-fits-clause-least : goal.returns-else-fits-clause-least
returns-else-fits-clause-least c = λ h. refused c.fits.result (nodes_of c.args.core.now) c.nodes-nodes.result c.args.all.now c.args.core.now.classes c.if-fits.false c.fits.ensures.1 c.nodes-nodes.ensures h
