use Rattle.pt_facts.proofs.Nothing.{no_body}
use Rattle.pt_facts.specs.Nodes.{base_of}
use Rattle.std.proofs.lemmas.Option.{slice_get_past}
use Rattle.std.proofs.Common.{slice_get}
use Rattle.pt_facts.proofs.facts.push_body.Goals as goal

pub returns-in-None : goal.returns-in-None
returns-in-None c = no_body c.args.facts.now.items c.args.functions.now c.args.count (base_of c.args.functions.now c.args.i) (slice_get c.args.functions.now c.args.i) (slice_get_past c.args.functions.now c.args.i c.in-None.ensures.lookup.3)
