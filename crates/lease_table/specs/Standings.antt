use Rattle.std.specs.Prelude.{◌≡◌, ℕ, ◌+◌, ◌^◌, ◌<◌, ◌≤◌, Bool, false, nat_le, if◌then◌else◌, Option, Some, None, List, length, slice_get, slice_index_or}
use Rattle.lease_table.specs.declared.standing.Standing.{Standing}
use Rattle.lease_table.specs.declared.standing.Standing.TheVariants.{Free, Leased, Done}
use Rattle.lease_table.specs.Times.{time_at, IsTree}

-- the standing of a task of the round
abbrev pub standing_at : List Standing → ℕ → Standing
standing_at standings task = slice_index_or standings task Free

abbrev pub IsDone : Standing → Type 0
IsDone Free = ⊥
IsDone (Leased ticket until) = ⊥
IsDone (Done ticket) = Unit {0}

-- the task may be claimed: it is free, or its lease has run out
abbrev pub IsClaimable : ℕ → Standing → Type 0
IsClaimable now Free = Unit {0}
IsClaimable now (Leased ticket until) = until ≤ now
IsClaimable now (Done ticket) = ⊥

-- the task is done, or leased beyond now
abbrev pub IsHeld : ℕ → Standing → Type 0
IsHeld now Free = ⊥
IsHeld now (Leased ticket until) = now < until
IsHeld now (Done ticket) = Unit {0}

abbrev pub AllDone : List Standing → Type 0
AllDone standings = (task : ℕ) → task < length standings → IsDone (standing_at standings task)

abbrev pub SomeNotDone : List Standing → Type 0
SomeNotDone standings = (task : ℕ) × (task < length standings) × (IsDone (standing_at standings task) → ⊥)

abbrev pub AllHeld : ℕ → List Standing → Type 0
AllHeld now standings = (task : ℕ) → task < length standings → IsHeld now (standing_at standings task)

-- the least task that may be claimed
pub record IsLeastClaimable (now : ℕ) (standings : List Standing) (task : ℕ) : Type 0 where
  pub within : task < length standings
  pub claimable : IsClaimable now (standing_at standings task)
  pub before : (other : ℕ) → other < task → IsHeld now (standing_at standings other)

-- whether the task is leased, and its lease has run out
abbrev pub has_run_out : ℕ → Standing → Bool
has_run_out now Free = false
has_run_out now (Leased ticket until) = nat_le until now
has_run_out now (Done ticket) = false

-- the standing once leases that have run out are freed
abbrev pub expired : ℕ → Standing → Standing
expired now standing = if has_run_out now standing then Free else standing

-- the tasks of a round, and the number of tasks that there is room for
pub record Tasks : Type 0 where
  pub standings : List Standing
  pub room : ℕ

-- the time from which a task may be claimed, and none where it is done
abbrev pub free_from : Standing → Option ℕ
free_from Free = Some 0
free_from (Leased ticket until) = Some until
free_from (Done ticket) = None

abbrev pub free_from_if_any : Option Standing → Option ℕ
free_from_if_any None = None
free_from_if_any (Some standing) = free_from standing

-- the tree has the times of these standings
pub record IsIndexed (height : ℕ) (standings : List Standing) (capacity : ℕ) (times : List (Option ℕ)) : Type 0 where
  pub fits : 2 ^ height ≤ 2 ^ 32
  pub count : length standings < 2 ^ 32
  pub within : length standings ≤ 2 ^ height
  pub room : 2 ^ height ≤ capacity
  pub tree : IsTree (2 ^ height) times
  pub leaves : (task : ℕ) → task < 2 ^ height → time_at times (2 ^ height + task) ≡ free_from_if_any (slice_get standings task)
