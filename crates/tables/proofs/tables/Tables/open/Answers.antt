use Rattle.journal.specs.Lists.{versions, wants_version}
use Rattle.journal.specs.Readings.{reading_disk, reading_scan, reading_version}
use Rattle.tables.proofs.tables.Tables.open.Goals as goal

pub returns-in-Ok-into_journal-clause-replayed : goal.returns-in-Ok-into_journal-clause-replayed
returns-in-Ok-into_journal-clause-replayed g c = λ told.
    let digests = c.args.digests.now in
    let reading = c.read_back.new.reading in
    let back = c.in-Ok-read_back.ensures.read told digests (c.in-Ok.ensures.begun told) in
    record {
      image = g.D.Disk.seen (reading_disk c.in-Ok.reading);
      becomes = c.in-Ok.ensures.becomes told;
      version = reading_version reading;
      entries = back.entries;
      stands = back.stands;
      lead = back.lead;
      has_version = wants_version (reading_version reading) (versions back.entries) (reading_scan reading).at;
      settled = c.in-Ok-into_journal.ensures.settled told digests back.entries back.ends;
    }
