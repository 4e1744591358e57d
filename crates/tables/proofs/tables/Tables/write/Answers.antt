use Rattle.std.proofs.Common.{List, ℕ, [], ◌∷◌, length, ◌≤◌, ◌^◌, subst, arith}
use Rattle.journal.specs.Format.{IsBatch}
use Rattle.journal.specs.Pieces.{piece_bytes}
use Rattle.tables.specs.Sound.{record_body, shelf_of}
use Rattle.tables.specs.Stored.{record_of}
use Rattle.tables.proofs.Answered.{plain_record}
use Rattle.tables.proofs.tables.Tables.write.Goals as goal

pub returns-clause-any_moment : goal.returns-clause-any_moment
returns-clause-any_moment g c =
    let shelf = shelf_of c.args.self.now in
    let body : List ℕ = record_body shelf c.args.round c.args.task c.args.artifact.now in
    let short : length body ≤ 2 ^ 31 = subst (λ (b : List ℕ). length b ≤ 2 ^ 31) c.body-body.ensures (omega (arith, c.size_with-size.ensures, c.if-size-gt-LIMIT.false)) in
    let batch : IsBatch (record_of shelf c.args.round c.args.task c.args.artifact.now ∷ []) (piece_bytes c.in_ok-piece.piece) =
    subst (λ (b : List ℕ). IsBatch (record { round = c.args.round; task = c.args.task; body = b } ∷ []) (piece_bytes c.in_ok-piece.piece)) c.body-body.ensures c.in_ok-piece.ensures.batch in
    c.write_piece.ensures.any_moment (record_of shelf c.args.round c.args.task c.args.artifact.now ∷ []) batch
    (plain_record shelf c.args.round c.args.task c.args.artifact.now (omega (arith, c.requires.round, c.requires.sound.spaced.rounds, c.requires.sound.journal.not_full)) c.ranges.task.fits short, tt)
