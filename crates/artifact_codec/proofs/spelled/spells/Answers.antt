use Rattle.std.proofs.Common.{arith}
use Rattle.artifact_codec.specs.computed.Checking.{is_spelling}
use Rattle.artifact_codec.proofs.Whole.{spells_says, says_spells, true_iff}
use Rattle.artifact_codec.proofs.spelled.spells.Goals as goal

pub returns : goal.returns
returns c = true_iff c.is_spelling.result (is_spelling c.args.kind c.args.bytes.now) c.is_spelling.ensures
    (λ e. spells_says c.args.kind c.args.bytes.now (λ i. omega (arith, c.type_inv.bytes i)) e)
    (λ s. says_spells c.args.kind c.args.bytes.now s.0 s.1 s.2)
