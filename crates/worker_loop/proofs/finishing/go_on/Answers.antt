use Rattle.std.proofs.Common.{◌≡◌, ◌<◌, ℕ, refl, sym, ap, subst}
use Rattle.journal.specs.Journals.{journal_gate}
use Rattle.tables.specs.Shelves.{begun}
use Rattle.worker_loop.specs.Left.{left_of}
use Rattle.worker_loop.proofs.Turns.{less_advanced}
use Rattle.worker_loop.proofs.finishing.go_on.Goals as goal

pub returns-then-round_done-clause-less : goal.returns-then-round_done-clause-less
returns-then-round_done-clause-less g c =
    let old = c.args.tables.now in
    let new = c.advance.new.self in
    let gate : journal_gate new.journal ≡ journal_gate old.journal = ap journal_gate c.advance.ensures.journal in
    subst (λ (n : ℕ). left_of new.rounds.machine n < left_of old.rounds.machine (journal_gate old.journal)) (sym gate)
    (less_advanced (λ tasks. new.rounds.shelf ≡ begun old.rounds.shelf tasks) (new.rounds.shelf ≡ old.rounds.shelf) old.rounds.machine new.rounds.machine (journal_gate old.journal) (c.if-round_done.ensures.all refl) c.requires.going c.in_ok-advance.ensures.follows)
