use Rattle.std.proofs.Common.{◌∙◌}
use Rattle.journal.proofs.Records.{last_closed}
use Rattle.journal.proofs.record.is_open.Goals as goal

pub returns-then-scan-clause-closed : goal.returns-then-scan-clause-closed
returns-then-scan-clause-closed g c = λ told no. last_closed (g.D.Disk.seen c.args.disk.now) c.args.scan.now.at (c.if-scan.true ∙ c.requires.size told)
