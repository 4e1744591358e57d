use Rattle.pt_facts.proofs.Nothing.{no_callee}
use Rattle.pt_facts.specs.Nodes.{base_of}
use Rattle.std.proofs.lemmas.Option.{slice_get_past}
use Rattle.std.proofs.Common.{slice_get}
use Rattle.pt_facts.proofs.body.push_direct.Goals as goal

pub returns-in-None : goal.returns-in-None
returns-in-None c = no_callee c.args.facts.now.items c.args.x.now.base c.args.x.now.f.now c.args.to (base_of c.args.x.now.functions.now c.args.g.0) (slice_get c.args.x.now.functions.now c.args.g.0) c.args.args.now (slice_get_past c.args.x.now.functions.now c.args.g.0 c.in-None.ensures.lookup.3)
