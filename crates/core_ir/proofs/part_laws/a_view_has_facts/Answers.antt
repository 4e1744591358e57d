use Rattle.core_ir.proofs.StepFacts.{view_has_facts}
use Rattle.core_ir.proofs.part_laws.a_view_has_facts.Goals as goal

pub returns : goal.returns
returns c = view_has_facts
