use Rattle.std.proofs.Common.{◌∙◌}
use Rattle.report.proofs.Prefixes.{refused, up_to}
use Rattle.report.proofs.pieces.push_pieces.Goals as goal

pub returns-in_err-extend_from_slice-clause-err : goal.returns-in_err-extend_from_slice-clause-err
returns-in_err-extend_from_slice-clause-err c =
    refused _ (up_to (λ p. p.now) _ c.args.pieces.now c.loop-piece.piece-index _ (c.in_err-extend_from_slice.ensures.items ∙ c.loop-piece.invariant))
