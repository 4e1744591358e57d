use Rattle.lease_table.proofs.WholeRuns.{sound_begun, sound_run, stays_done}
use Rattle.lease_table.specs.Runs.{begun}
use Rattle.lease_table.proofs.laws.done_tasks_stay.Goals as goal

pub returns : goal.returns
returns c = λ tasks steps later mid new to_mid to_new. stays_done later mid new (sound_run steps (begun tasks) mid (sound_begun tasks) to_mid) to_new
