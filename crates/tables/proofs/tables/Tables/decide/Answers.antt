use Rattle.std.proofs.Common.{List, ℕ, [], ◌∷◌, ◌++◌, length, ◌≡◌, ◌≤◌, ◌^◌, refl, subst, ap, ◌∙◌, arith}
use Rattle.tables.specs.Batches.{IsPieceOf}
use Rattle.tables.specs.Sound.{record_body, shelf_of}
use Rattle.tables.specs.Stored.{record_for, records_of}
use Rattle.tables.proofs.Answered.{plain_record}
use Rattle.tables.proofs.Batched.{batch_refused, batch_taken}
use Rattle.tables.proofs.tables.Tables.decide.Goals as goal

pub returns-in-Some : goal.returns-in-Some
returns-in-Some g c = λ done h.
    rw (c.in_ok-refuse.ensures.piece, c.in_ok-refuse.ensures.taken, c.in_ok-refuse.ensures.answers) (batch_refused _ _ done _ _ _ c.args.publication _ refl refl (λ _. tt) h)

pub returns-then-size-gt-LIMIT : goal.returns-then-size-gt-LIMIT
returns-then-size-gt-LIMIT g c = λ done h.
    rw (c.in_ok-refuse-2.ensures.piece, c.in_ok-refuse-2.ensures.taken, c.in_ok-refuse-2.ensures.answers) (batch_refused _ _ done _ _ _ c.args.publication _ refl refl (λ _. omega (arith, c.if-size-gt-LIMIT.true)) h)

pub returns : goal.returns
returns g c = λ done h.
    let shelf = shelf_of c.args.self.now in
    let p = c.args.publication in
    let is : c.body-body.result.now ≡ record_body shelf c.args.round p.task p.artifact.items = c.body-body.ensures ∙ ap (record_body shelf c.args.round p.task) c.deref.ensures.value in
    let short : length (record_body shelf c.args.round p.task p.artifact.items) ≤ 2 ^ 31 = subst (λ (b : List ℕ). length b ≤ 2 ^ 31) is c.in_ok-write.ensures.short in
    let written : IsPieceOf (records_of shelf c.args.round c.args.batch.now.taken.items ++ record_for shelf c.args.round p ∷ []) c.write.new.self.piece =
    subst (λ (b : List ℕ). IsPieceOf (records_of shelf c.args.round c.args.batch.now.taken.items ++ record { round = c.args.round; task = p.task; body = b } ∷ []) c.write.new.self.piece) is
    (c.in_ok-write.ensures.piece (records_of shelf c.args.round c.args.batch.now.taken.items) h.written) in
    rw (c.in_ok-take.ensures.piece, c.in_ok-take.ensures.taken, c.in_ok-take.ensures.answers, c.in_ok-write.ensures.taken, c.in_ok-write.ensures.answers)
    (batch_taken shelf c.args.round done c.args.batch.now.piece c.write.new.self.piece c.args.batch.now.taken.items c.args.batch.now.answers.items p
    (plain_record shelf c.args.round p.task p.artifact.items c.in_ok-write.ensures.round c.in_ok-write.ensures.task short) written h)
