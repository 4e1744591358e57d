use Rattle.journal.specs.Keys.{given}
use Rattle.journal.specs.Steps.{entry_of}
use Rattle.journal.proofs.Firsts.{none_before, as_it_is}
use Rattle.journal.proofs.first_bodies.FirstBodies.fill.Goals as goal

pub returns-then-kept-eq0-clause-filled : goal.returns-then-kept-eq0-clause-filled
returns-then-kept-eq0-clause-filled c =
    let es = given c.args.self.now.records.items in
    as_it_is es (entry_of c.args.kept) (none_before es (entry_of c.args.kept) c.if-kept-eq0.true)
