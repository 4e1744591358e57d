use Rattle.std.proofs.Common.{◌≡◌, ◌+◌, arith, subst, sym, refl, Option, Some, None, Ok, []}
use Rattle.journal.specs.declared.kept.Kept.{Kept}
use Rattle.journal.specs.Nexts.{PassesOn, UnlessDone}
use Rattle.journal.specs.Readings.{reading_disk, reading_scan, reading_state, StateAfter, NextIs}
use Rattle.journal.specs.Scans.{HasRead}
use Rattle.tables.proofs.Replaying.{read_one_more, read_to_end}
use Rattle.tables.proofs.Spacing.{spaced_begins, spaced_later}
use Rattle.tables.proofs.reopening.read_back.Goals as goal

pub loop-kept-init : goal.loop-kept-init
loop-kept-init g c = record {
  reading = c.requires.reading;
  going = c.requires.going;
  spaced = spaced_begins {B = g.row.W-Basis.Denot} c.in_ok-first.first c.in_ok-rounds.rounds c.args.reading.now.scan.at c.in_ok-rounds.ensures;
  read = λ told digests has_read. record {
    entries = [];
    has_read = has_read;
    same = refl;
    lead = (c.in_ok-first.first, c.in_ok-rounds.rounds, c.in_ok-rounds.ensures, refl);
  };
  later = omega arith;
}

pub loop-kept-preserved : goal.loop-kept-preserved
loop-kept-preserved g c =
    let old = c.loop-kept in
    let new = c.next.new.self in
    let image = g.D.Disk.seen (reading_disk c.args.reading.now) in
    let further = subst (λ (k : Option Kept). PassesOn (reading_scan old.reading) (reading_scan new) (Ok k)) c.in-Ok-Some.field-0-is (c.in-Ok-Some.ensures.further old.invariant.going) in
    let state = subst (λ (k : Option Kept). StateAfter (reading_state new) (Ok k)) c.in-Ok-Some.field-0-is (c.in-Ok-Some.ensures.state old.invariant.going) in
    let same = subst (λ (k : Option Kept). UnlessDone (Ok k) (g.D.Disk.seen (reading_disk new) ≡ g.D.Disk.seen (reading_disk old.reading))) c.in-Ok-Some.field-0-is c.in-Ok-Some.ensures.kept in
    let at = old.reading.scan.at in
    record {
      reading = c.next.ensures.reading;
      going = state;
      spaced = spaced_later c.take.new.rounds.machine (at + 13) new.scan.at (omega (arith, further.0, further.1)) (c.in_ok-take-in-Ok-Some.ensures.spaced at old.invariant.spaced);
      read = λ told digests has_read.
          let read = old.invariant.read told digests has_read in
          let here = subst (λ bytes. NextIs g.D.Disk.told g.D.Disk.may_leave digests read.entries bytes new (Ok (Some c.in-Ok-Some.kept))) read.same
          (subst (λ (k : Option Kept). NextIs g.D.Disk.told g.D.Disk.may_leave digests read.entries (g.D.Disk.seen (reading_disk old.reading)) new (Ok k)) c.in-Ok-Some.field-0-is
          (c.in-Ok-Some.ensures.reads told old.invariant.going digests read.entries
          (subst (λ bytes. HasRead digests read.entries (reading_scan old.reading) bytes) (sym read.same) read.has_read))) in
          read_one_more g.D.Disk.seen digests image old.reading new old.rounds c.take.new.rounds c.in-Ok-Some.kept read here same c.in_ok-take-in-Ok-Some.ensures.takes;
      later = omega (arith, old.invariant.later, c.next.ensures.later);
    }

pub returns-in-Ok-None-clause-read : goal.returns-in-Ok-None-clause-read
returns-in-Ok-None-clause-read g c = λ told digests has_read.
    let old = c.loop-kept in
    let new = c.next.new.self in
    let image = g.D.Disk.seen (reading_disk c.args.reading.now) in
    let read = old.invariant.read told digests has_read in
    let next = subst (λ bytes. NextIs g.D.Disk.told g.D.Disk.may_leave digests read.entries bytes new (Ok None)) read.same
    (subst (λ (k : Option Kept). NextIs g.D.Disk.told g.D.Disk.may_leave digests read.entries (g.D.Disk.seen (reading_disk old.reading)) new (Ok k)) c.in-Ok-None.field-0-is
    (c.in-Ok-None.ensures.reads told old.invariant.going digests read.entries
    (subst (λ bytes. HasRead digests read.entries (reading_scan old.reading) bytes) (sym read.same) read.has_read))) in
    read_to_end g.D.Disk.told g.D.Disk.seen g.D.Disk.may_leave digests image old.reading new old.rounds read next
