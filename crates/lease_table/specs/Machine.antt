use Rattle.std.specs.Prelude.{◌≡◌, ℕ, ◌+◌, ◌-◌, ◌^◌, Bool, true, false, if◌then◌else◌, ◌==◌, min, Option, Some, None, List, map, count_by, replicate, slice_get, slice_set}
use Rattle.lease_table.specs.declared.standing.Standing.{Standing}
use Rattle.lease_table.specs.declared.standing.Standing.TheVariants.{Free, Leased, Done}
use Rattle.lease_table.specs.declared.standing.Claimed.{Claimed}
use Rattle.lease_table.specs.declared.standing.Claimed.TheVariants.{Work, Wait, RoundDone, Finished}
use Rattle.lease_table.specs.declared.standing.Published.{Published}
use Rattle.lease_table.specs.declared.standing.Published.TheVariants.{Stored, Lost}
use Rattle.lease_table.specs.declared.standing.Abandoned.{Abandoned}
use Rattle.lease_table.specs.declared.standing.Abandoned.TheVariants.{Freed, Lost as NotHeld}
use Rattle.lease_table.specs.Standings.{IsLeastClaimable, AllHeld, AllDone, SomeNotDone, expired, has_run_out}

-- the state of the machine: the round, whether it is ended, the ticket of the next claim, and where each task of the
-- round stands
pub record Machine : Type 0 where
  pub round : ℕ
  pub ended : Bool
  pub next_ticket : ℕ
  pub tasks : List Standing

-- a machine, with the number of tasks that a round has room for
pub record Reserved : Type 0 where
  pub machine : Machine
  pub room : ℕ

-- the first round
abbrev pub started : ℕ → Machine
started tasks = record { round = 0; ended = false; next_ticket = 0; tasks = replicate tasks Free }

-- the end of a lease of so many units from now
abbrev pub lease_end : ℕ → ℕ → ℕ
lease_end now term = min (now + term) (2 ^ 64 - 1)

-- the least task that may be claimed is leased by the next ticket
pub record Leases (now term : ℕ) (old : Machine) (task ticket : ℕ) (new : Machine) : Type 0 where
  pub going : old.ended ≡ false
  pub least : IsLeastClaimable now old.tasks task
  pub ticket_is : ticket ≡ old.next_ticket
  pub after : new ≡ record old { next_ticket = old.next_ticket + 1; tasks = slice_set old.tasks task (Leased ticket (lease_end now term)) }

-- a claim may give this answer, and leads from old to new
abbrev pub Claims : ℕ → ℕ → Machine → Claimed → Machine → Type 0
Claims now term old (Work task ticket) new = Leases now term old task ticket new
Claims now term old Wait new = (old.ended ≡ false) × AllHeld now old.tasks × SomeNotDone old.tasks × (new ≡ old)
Claims now term old RoundDone new = (old.ended ≡ false) × AllDone old.tasks × (new ≡ old)
Claims now term old Finished new = (old.ended ≡ true) × (new ≡ old)

-- where the task stands, if the round named is the machine's and has the task
abbrev pub found_standing : Machine → ℕ → ℕ → Option Standing
found_standing m round task = if round == m.round then slice_get m.tasks task else None

-- the standing is a lease by this ticket
abbrev pub IsLeasedBy : ℕ → Option Standing → Type 0
IsLeasedBy ticket None = ⊥
IsLeasedBy ticket (Some Free) = ⊥
IsLeasedBy ticket (Some (Leased leased until)) = leased ≡ ticket
IsLeasedBy ticket (Some (Done done)) = ⊥

-- the ticket holds the lease of that task of the machine's round
abbrev pub Holds : Machine → ℕ → ℕ → ℕ → Type 0
Holds m round task ticket = (round ≡ m.round) × IsLeasedBy ticket (slice_get m.tasks task)

abbrev pub Publishes : ℕ → ℕ → ℕ → Machine → Published → Machine → Type 0
Publishes round task ticket old Stored new = Holds old round task ticket × (new ≡ record old { tasks = slice_set old.tasks task (Done ticket) })
Publishes round task ticket old (Lost now standing) new = (Holds old round task ticket → ⊥) × (now ≡ old.round) × (standing ≡ found_standing old round task) × (new ≡ old)

abbrev pub Abandons : ℕ → ℕ → ℕ → Machine → Abandoned → Machine → Type 0
Abandons round task ticket old Freed new = Holds old round task ticket × (new ≡ record old { tasks = slice_set old.tasks task Free })
Abandons round task ticket old (NotHeld now standing) new = (Holds old round task ticket → ⊥) × (now ≡ old.round) × (standing ≡ found_standing old round task) × (new ≡ old)

-- each task whose lease has run out is freed, and they are counted
abbrev pub Expires : ℕ → Machine → ℕ → Machine → Type 0
Expires now old freed new = (freed ≡ count_by (has_run_out now) old.tasks) × (new ≡ record old { tasks = map (expired now) old.tasks })

-- the next round follows once each task is done
abbrev pub Advances : ℕ → Machine → Machine → Type 0
Advances tasks old new = AllDone old.tasks × (old.ended ≡ false) × (new ≡ record old { round = old.round + 1; tasks = replicate tasks Free })

abbrev pub Ends : Machine → Machine → Type 0
Ends old new = AllDone old.tasks × (old.ended ≡ false) × (new ≡ record old { ended = true })

-- a task that was free is done, by the next ticket
abbrev pub Keeps : ℕ → Machine → Machine → Type 0
Keeps task old new = (slice_get old.tasks task ≡ Some Free) × (new ≡ record old { next_ticket = old.next_ticket + 1; tasks = slice_set old.tasks task (Done old.next_ticket) })
