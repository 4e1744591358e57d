use Rattle.std.proofs.Common.{ap, arith, subst, sym, ◌+◌}
use Rattle.lease_table.specs.Machine.{Machine}
use Rattle.tables.specs.Rounds.{Rounded}
use Rattle.tables.specs.Sound.{Spaced}
use Rattle.tables.proofs.Spacing.{spaced_record, spaced_follows}
use Rattle.tables.proofs.reopening.take.Goals as goal
use Rattle.tables.proofs.reopening.take.Goals.{then-begins_next+in_ok-next+in_ok-advance, else-begins_next}

pub returns-clause-spaced : goal.returns-clause-spaced
returns-clause-spaced g c = λ at spaced.
    let before = c.if-begins_next.rounds in
    let here : Spaced before.machine at = elim c.if-begins_next.branch [
      | then-begins_next+in_ok-next+in_ok-advance w ↦
          subst (λ (r : Rounded g.row.W-Basis.Denot). Spaced r.machine at) (sym w.rounds-is)
          (spaced_follows {B = g.row.W-Basis.Denot} w.in_ok-next.next c.args.rounds.now w.advance.new.self at w.advance.ensures.task w.in_ok-advance.ensures.follows spaced)
      | else-begins_next w ↦ subst (λ (r : Rounded g.row.W-Basis.Denot). Spaced r.machine at) (sym w.rounds-is) spaced
    ] in
    let round = ap (λ (m : Machine). m.round) c.in_ok-keep.ensures.step.1 in
    spaced_record before.machine c.keep.new.self.machine at (at + 13) round (omega arith) here
