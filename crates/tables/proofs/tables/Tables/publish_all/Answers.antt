use Rattle.std.proofs.Common.{◌≡◌, map, refl, sym, ◌∙◌, arith}
use Rattle.journal.specs.Journals.{has_failed}
use Rattle.tables.specs.declared.publish.Publish.TheVariants.{Disk, Full}
use Rattle.tables.specs.declared.stop.Stop.{Stop}
use Rattle.tables.specs.declared.stop.Stop.TheVariants as stops
use Rattle.tables.specs.Batches.{instead}
use Rattle.tables.specs.Sound.{shelf_of, journal_of}
use Rattle.tables.specs.Stored.{records_of, answered_by, is_stored}
use Rattle.tables.proofs.Answered.{written_stored, written_failed, failed_stored, none_stored, still_none_failed, causes_instead}
use Rattle.tables.proofs.Batched.{to_be_written, some_stored}
use Rattle.tables.proofs.tables.Tables.publish_all.Goals as goal

full_is_no_failure : (stop : Stop) (size : _) → stop ≡ stops.Full size → stop ≡ stops.Disk → ⊥
full_is_no_failure stop size is failed = absurd cc

pub returns-in-Err-Disk-clause-lasts : goal.returns-in-Err-Disk-clause-lasts
returns-in-Err-Disk-clause-lasts g c = λ none.
    let parts = c.into_parts-piece.ensures in
    let h = rw (sym parts.0 ∙ c.in-Some.is, sym parts.1, sym parts.2) at c.in_ok-batch.ensures in
    let stored = sym (failed_stored c.args.publications.items c.into_parts-piece.result.2.items h.none_failed) ∙ (rw c.answered.ensures at none) in
    absurd (some_stored (shelf_of c.args.self.now) c.args.round c.args.publications.items c.in-Some.piece c.into_parts-piece.result.1.items c.into_parts-piece.result.2.items h stored)

pub returns-in-Err-Disk-clause-any_moment : goal.returns-in-Err-Disk-clause-any_moment
returns-in-Err-Disk-clause-any_moment g c =
    let parts = c.into_parts-piece.ensures in
    let h = rw (sym parts.0 ∙ c.in-Some.is, sym parts.1, sym parts.2) at c.in_ok-batch.ensures in
    let w = to_be_written (shelf_of c.args.self.now) c.args.round c.args.publications.items c.in-Some.piece c.into_parts-piece.result.1.items c.into_parts-piece.result.2.items h in
    rw (c.answered.ensures, written_failed c.args.publications.items c.into_parts-piece.result.2.items h.none_failed)
    (c.write_piece.ensures.any_moment (records_of (shelf_of c.args.self.now) c.args.round (answered_by is_stored c.args.publications.items c.into_parts-piece.result.2.items)) w.0 w.1)

pub returns-in-Err-Disk-clause-failed : goal.returns-in-Err-Disk-clause-failed
returns-in-Err-Disk-clause-failed g c = λ some.
    (rw c.answered.ensures (none_stored Disk refl c.args.publications.items c.into_parts-piece.result.2.items), c.in-Err-Disk.ensures.failed c.in-Err-Disk.field-0-is)

pub returns-in-Err-Full-clause-lasts : goal.returns-in-Err-Full-clause-lasts
returns-in-Err-Full-clause-lasts g c = λ none.
    rw (c.answered-in-Err-Full.ensures, none_stored (Full c.in-Err-Full.size) refl c.args.publications.items c.into_parts-piece.result.2.items)
    (c.in-Err-Full.ensures.stays (full_is_no_failure c.in-Err-Full.field-0 c.in-Err-Full.size c.in-Err-Full.field-0-is))

pub returns-in-Err-Full-clause-any_moment : goal.returns-in-Err-Full-clause-any_moment
returns-in-Err-Full-clause-any_moment g c =
    let parts = c.into_parts-piece.ensures in
    let h = rw (sym parts.0 ∙ c.in-Some.is, sym parts.1, sym parts.2) at c.in_ok-batch.ensures in
    let full = Full c.in-Err-Full.size in
    let sound = still_none_failed full refl c.args.publications.items c.into_parts-piece.result.2.items h.none_failed in
    rw (c.answered-in-Err-Full.ensures, written_stored c.args.publications.items (map (instead full) c.into_parts-piece.result.2.items) sound, none_stored full refl c.args.publications.items c.into_parts-piece.result.2.items)
    (c.in-Err-Full.ensures.nothing (full_is_no_failure c.in-Err-Full.field-0 c.in-Err-Full.size c.in-Err-Full.field-0-is))

pub returns-in-Err-Full-clause-failed : goal.returns-in-Err-Full-clause-failed
returns-in-Err-Full-clause-failed g c = λ some.
    let parts = c.into_parts-piece.ensures in
    let h = rw (sym parts.0 ∙ c.in-Some.is, sym parts.1, sym parts.2) at c.in_ok-batch.ensures in
    absurd (some (rw c.answered-in-Err-Full.ensures (still_none_failed (Full c.in-Err-Full.size) refl c.args.publications.items c.into_parts-piece.result.2.items h.none_failed)))

pub returns-clause-any_moment : goal.returns-clause-any_moment
returns-clause-any_moment g c =
    let parts = c.into_parts-piece.ensures in
    let h = rw (sym parts.0 ∙ c.in-Some.is, sym parts.1, sym parts.2) at c.in_ok-batch.ensures in
    let w = to_be_written (shelf_of c.args.self.now) c.args.round c.args.publications.items c.in-Some.piece c.into_parts-piece.result.1.items c.into_parts-piece.result.2.items h in
    rw (c.put_all.ensures.journal, written_stored c.args.publications.items c.into_parts-piece.result.2.items h.none_failed)
    (c.write_piece.ensures.any_moment (records_of (shelf_of c.args.self.now) c.args.round (answered_by is_stored c.args.publications.items c.into_parts-piece.result.2.items)) w.0 w.1)

pub returns-in_default-clause-causes : goal.returns-in_default-clause-causes
returns-in_default-clause-causes g c =
    let parts = c.into_parts-piece.ensures in
    (rw (sym parts.2) at c.in_ok-batch.ensures.causes) (has_failed (journal_of c.args.self.now))

pub returns-in-Err-Disk-clause-causes : goal.returns-in-Err-Disk-clause-causes
returns-in-Err-Disk-clause-causes g c =
    let parts = c.into_parts-piece.ensures in
    let failed = has_failed (journal_of c.write_piece.new.self) in
    rw c.answered.ensures (causes_instead failed Disk (c.in-Err-Disk.ensures.fails c.in-Err-Disk.field-0-is) c.into_parts-piece.result.2.items ((rw (sym parts.2) at c.in_ok-batch.ensures.causes) failed))

pub returns-in-Err-Full-clause-causes : goal.returns-in-Err-Full-clause-causes
returns-in-Err-Full-clause-causes g c =
    let parts = c.into_parts-piece.ensures in
    let failed = has_failed (journal_of c.write_piece.new.self) in
    let stops = rw c.in-Err-Full.field-0-is at c.in-Err-Full.ensures.stops in
    rw c.answered-in-Err-Full.ensures
    (causes_instead failed (Full c.in-Err-Full.size) (omega (arith, stops.0, stops.1)) c.into_parts-piece.result.2.items ((rw (sym parts.2) at c.in_ok-batch.ensures.causes) failed))

pub returns-clause-causes : goal.returns-clause-causes
returns-clause-causes g c =
    let parts = c.into_parts-piece.ensures in
    (rw (sym parts.2) at c.in_ok-batch.ensures.causes) (has_failed (journal_of c.put_all.new.self))
