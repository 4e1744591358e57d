use Rattle.lease_table.proofs.WholeRuns.{sound_begun, sound_run, claims_rise}
use Rattle.lease_table.specs.Runs.{begun}
use Rattle.lease_table.proofs.laws.tickets_rise.Goals as goal

pub returns-clause-claims : goal.returns-clause-claims
returns-clause-claims c = λ tasks steps between mid new now term task ticket now' term' task' ticket' to_mid. claims_rise between mid new now term task ticket now' term' task' ticket'

pub returns-clause-standings : goal.returns-clause-standings
returns-clause-standings c = λ tasks steps new to_new. (sound_run steps (begun tasks) new (sound_begun tasks) to_new).tickets
