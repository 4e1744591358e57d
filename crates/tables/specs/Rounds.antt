-- Rounds of tasks, as far as they have come.
use Rattle.std.specs.Prelude.{◌≡◌, ℕ, zero, suc, ◌+◌, ◌<◌, ◌≤◌, false, List, [], ◌∷◌, length, Option, Some, None, IsSome, Vec, vec_capacity}
use Rattle.std.specs.declared.alloc.Global.{Global}
use Rattle.lease_table.specs.declared.event.Event.{Event}
use Rattle.lease_table.specs.declared.event.Event.TheVariants.{Claimed as ClaimedOne, Abandoned as AbandonedOne, Expired as ExpiredAt, Ended}
use Rattle.lease_table.specs.declared.standing.Standing.{Standing}
use Rattle.lease_table.specs.declared.standing.Standing.TheVariants.{Free, Leased, Done}
use Rattle.lease_table.specs.declared.standing.Claimed.{Claimed}
use Rattle.lease_table.specs.declared.standing.Claimed.TheVariants.{Work}
use Rattle.lease_table.specs.declared.standing.Abandoned.{Abandoned}
use Rattle.lease_table.specs.declared.standing.Abandoned.TheVariants.{Freed}
use Rattle.lease_table.specs.Events.{replay}
use Rattle.lease_table.specs.Machine.{Machine, Reserved, started, lease_end, Advances, Ends}
use Rattle.tables.specs.Shelves.{Shelved, row_length, begun}
use Rattle.tables.specs.declared.work.Next.{Next}
use Rattle.tables.specs.declared.work.Next.TheVariants.{Round, End}

-- the machine of the leases, the artifacts, what the current round needs of those before it, and what changed the machine
pub record Rounded (B : Type 0) : Type 0 where
  pub machine : Machine
  pub shelf : Shelved
  pub basis : Option B
  pub events : List Event

-- how many tasks are leased
abbrev pub leased_count : List Standing → ℕ
leased_count [] = 0
leased_count (Free ∷ tasks) = leased_count tasks
leased_count (Leased ticket until ∷ tasks) = leased_count tasks + 1
leased_count (Done ticket ∷ tasks) = leased_count tasks

-- the events lead from the first round to where the machine stands, there is room for the event that ends each lease, and
-- the shelf has the machine's round
pub record IsKept {B : Type 0} (lease : Reserved) (shelf : Shelved) (of_round : Option B) (events : Vec Event Global) : Type 0 where
  pub first : ℕ
  pub replays : replay (started first) events.items ≡ lease.machine
  pub tickets : lease.machine.next_ticket ≤ length events.items
  pub room : length events.items + leased_count lease.machine.tasks ≤ vec_capacity events
  pub row : row_length shelf lease.machine.round ≡ length lease.machine.tasks
  pub rows : 0 < length lease.machine.tasks → length shelf.rows ≡ lease.machine.round + 1
  pub few : length shelf.rows ≤ lease.machine.round + 1
  pub basis : 0 < length lease.machine.tasks → IsSome of_round
  pub some : lease.machine.ended ≡ false → 0 < length lease.machine.tasks

abbrev pub nothing_shelved : Shelved
nothing_shelved = record { rows = []; still_before = None }

-- the first round begins, or there is none
abbrev pub Begins : {B : Type 0} → Next B → Rounded B → Type 0
Begins (Round tasks basis) new = (new.machine ≡ started tasks) × (new.shelf ≡ begun nothing_shelved tasks) × (new.basis ≡ Some basis) × (new.events ≡ [])
Begins End new = Ends (started 0) new.machine × (new.shelf ≡ nothing_shelved) × (new.basis ≡ None) × (new.events ≡ Ended ∷ [])

-- the next round begins, or there is none
abbrev pub Follows : {B : Type 0} → Next B → Rounded B → Rounded B → Type 0
Follows (Round tasks basis) old new = Advances tasks old.machine new.machine × (new.shelf ≡ begun old.shelf tasks) × (new.basis ≡ Some basis)
Follows End old new = Ends old.machine new.machine × (new.shelf ≡ old.shelf) × (new.basis ≡ old.basis)

-- the event of a claim, if it gave work
abbrev pub claims_of : ℕ → ℕ → Claimed → List Event
claims_of now term (Work task ticket) = ClaimedOne task (lease_end now term) ∷ []
claims_of now term other = []

-- the event of a lease that was given back, if it was
abbrev pub abandons_of : ℕ → Abandoned → List Event
abandons_of task Freed = AbandonedOne task ∷ []
abandons_of task other = []

-- the event of leases that were freed, if there were any
abbrev pub expires_of : ℕ → ℕ → List Event
expires_of now zero = []
expires_of now (suc freed) = ExpiredAt now ∷ []
