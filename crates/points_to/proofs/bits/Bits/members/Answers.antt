use Rattle.points_to.proofs.Views.{set_at}
use Rattle.points_to.proofs.bits.Bits.members.Goals as goal

pub returns-clause-set : goal.returns-clause-set
returns-clause-set c = set_at _ c.args.self.now c.self.view_is c.self.invariant
