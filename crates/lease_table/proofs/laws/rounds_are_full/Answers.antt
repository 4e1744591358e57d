use Rattle.lease_table.proofs.WholeRuns.{sound_begun, sound_run}
use Rattle.lease_table.specs.Runs.{begun}
use Rattle.lease_table.proofs.laws.rounds_are_full.Goals as goal

pub returns : goal.returns
returns c = λ tasks steps new to_new. (sound_run steps (begun tasks) new (sound_begun tasks) to_new).full
