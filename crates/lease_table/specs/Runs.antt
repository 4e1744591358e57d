use Rattle.std.specs.Prelude.{◌≡◌, ℕ, ◌+◌, ◌<◌, ◌≤◌, Bool, false, if◌then◌else◌, ◌&&◌, ◌==◌, Option, Some, None, List, [], ◌∷◌, ◌++◌, length, take, slice_get, slice_index}
use Rattle.lease_table.specs.declared.standing.Standing.{Standing}
use Rattle.lease_table.specs.declared.standing.Standing.TheVariants.{Free, Leased, Done}
use Rattle.lease_table.specs.declared.standing.Claimed.{Claimed}
use Rattle.lease_table.specs.declared.standing.Published.{Published}
use Rattle.lease_table.specs.declared.standing.Published.TheVariants.{Stored, Lost}
use Rattle.lease_table.specs.declared.standing.Abandoned.{Abandoned}
use Rattle.lease_table.specs.Standings.{standing_at}
use Rattle.lease_table.specs.Machine.{Machine, started, Claims, Publishes, Abandons, Expires, Advances, Ends}

-- what was published for a task of a round
pub record Publication : Type 0 where
  pub round : ℕ
  pub task : ℕ
  pub artifact : List ℕ

-- the machine, the number of tasks of each round so far, and what was published, the newest first
pub record World : Type 0 where
  pub machine : Machine
  pub rounds : List ℕ
  pub published : List Publication

abbrev pub is_key : Publication → ℕ → ℕ → Bool
is_key p round task = p.round == round && p.task == task

-- the artifact of a task: what was published for it last
abbrev pub artifact_of : List Publication → ℕ → ℕ → Option (List ℕ)
artifact_of [] round task = None
artifact_of (p ∷ earlier) round task = if is_key p round task then Some p.artifact else artifact_of earlier round task

-- the number of publications before that of the task
abbrev pub place_of : List Publication → ℕ → ℕ → Option ℕ
place_of [] round task = None
place_of (p ∷ earlier) round task = if is_key p round task then Some (length earlier) else place_of earlier round task

-- the round of the newest publication, and 0 before the first
abbrev pub newest_round : List Publication → ℕ
newest_round [] = 0
newest_round (p ∷ earlier) = p.round

-- the standing of a task after a crash: done, by its place among the publications, or free
abbrev pub kept_standing : Option ℕ → Standing
kept_standing None = Free
kept_standing (Some place) = Done place

-- the machine that is made again of what was published: the round is that of the newest publication, and no lease is left
pub record IsReopened (rounds : List ℕ) (published : List Publication) (machine : Machine) : Type 0 where
  pub going : machine.ended ≡ false
  pub round : machine.round ≡ newest_round published
  pub next_ticket : machine.next_ticket ≡ length published
  pub count : length machine.tasks ≡ slice_index rounds machine.round
  pub tasks : (task : ℕ) → task < length machine.tasks → standing_at machine.tasks task ≡ kept_standing (place_of published machine.round task)

-- no publication is of an earlier round than one before it
abbrev pub IsInRoundOrder : List Publication → Type 0
IsInRoundOrder [] = Unit {0}
IsInRoundOrder (p ∷ earlier) = (newest_round earlier ≤ p.round) × IsInRoundOrder earlier

-- what may happen, with the answer that it gets; a crash inside a publication is one before it or after it
pub data Step : Type 0 where
  Claim : (now term : ℕ) → Claimed → Step
  Publish : (round task ticket : ℕ) → List ℕ → Published → Step
  Abandon : (round task ticket : ℕ) → Abandoned → Step
  Expire : (now freed : ℕ) → Step
  Advance : (tasks : ℕ) → Step
  End : Step
  Crash : Step

-- the rounds and what was published stay
abbrev pub SameRecord : World → World → Type 0
SameRecord old new = (new.rounds ≡ old.rounds) × (new.published ≡ old.published)

-- the step leads from old to new
abbrev pub Takes : World → Step → World → Type 0
Takes old (Claim now term answer) new = Claims now term old.machine answer new.machine × SameRecord old new
Takes old (Publish round task ticket artifact Stored) new = Publishes round task ticket old.machine Stored new.machine × (new.rounds ≡ old.rounds) × (new.published ≡ record { round = round; task = task; artifact = artifact } ∷ old.published)
Takes old (Publish round task ticket artifact (Lost now standing)) new = Publishes round task ticket old.machine (Lost now standing) new.machine × SameRecord old new
Takes old (Abandon round task ticket answer) new = Abandons round task ticket old.machine answer new.machine × SameRecord old new
Takes old (Expire now freed) new = Expires now old.machine freed new.machine × SameRecord old new
Takes old (Advance tasks) new = Advances tasks old.machine new.machine × (new.rounds ≡ old.rounds ++ tasks ∷ []) × (new.published ≡ old.published)
Takes old End new = Ends old.machine new.machine × SameRecord old new
Takes old Crash new = IsReopened old.rounds old.published new.machine × (new.rounds ≡ take (new.machine.round + 1) old.rounds) × (new.published ≡ old.published)

-- the steps lead from old to new, one after another
abbrev pub Runs : World → List Step → World → Type 0
Runs old [] new = new ≡ old
Runs old (step ∷ steps) new = (mid : World) × Takes old step mid × Runs mid steps new

-- the world in which the first round has so many tasks
abbrev pub begun : ℕ → World
begun tasks = record { machine = started tasks; rounds = tasks ∷ []; published = [] }

abbrev pub IsNoCrash : Step → Type 0
IsNoCrash Crash = ⊥
IsNoCrash step = Unit {0}

abbrev pub HasNoCrash : List Step → Type 0
HasNoCrash [] = Unit {0}
HasNoCrash (step ∷ steps) = IsNoCrash step × HasNoCrash steps

-- the round never falls below that of the task, and while it is that round the task is done; without a crash, by that ticket
pub record StaysDone (round task ticket : ℕ) (steps : List Step) (new : World) : Type 0 where
  pub round_stays : round ≤ new.machine.round
  pub done : new.machine.round ≡ round → (by : ℕ) × (slice_get new.machine.tasks task ≡ Some (Done by))
  pub by_ticket : HasNoCrash steps → new.machine.round ≡ round → slice_get new.machine.tasks task ≡ Some (Done ticket)

-- the standing's ticket is below this one
abbrev pub IsTicketBelow : ℕ → Standing → Type 0
IsTicketBelow next Free = Unit {0}
IsTicketBelow next (Leased ticket until) = ticket < next
IsTicketBelow next (Done ticket) = ticket < next
