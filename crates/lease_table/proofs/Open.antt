-- What the root of the tree says of all tasks.
use Rattle.std.proofs.Common.{◌≡◌, ℕ, ◌+◌, ◌-◌, ◌^◌, ◌<◌, true, false, Option, Some, None, List, length, refl, arith, inl, inr}
use Rattle.std.proofs.lemmas.Bool.{cases_lt}
use Rattle.std.proofs.lemmas.Option.{slice_get-get_or, slice_get_past}
use Rattle.std.specs.Prelude.{is_some, slice_get}
use Rattle.lease_table.specs.Times.{time_at, earlier_of}
use Rattle.lease_table.specs.Standings.{standing_at, free_from, free_from_if_any, IsDone, AllDone, SomeNotDone, IsIndexed}
use Rattle.lease_table.specs.declared.standing.Standing.{Standing}
use Rattle.lease_table.specs.declared.standing.Standing.TheVariants.{Free, Leased, Done}
use Rattle.lease_table.proofs.Tree.{IsMonotone, below_fails, below_passes}

neither : (a b : Option ℕ) → is_some (earlier_of a b) ≡ false → is_some a ≡ false
neither None b h = refl
neither (Some a) None h = h
neither (Some a) (Some b) h = h

nor : (a b : Option ℕ) → is_some (earlier_of a b) ≡ false → is_some b ≡ false
nor None b h = h
nor (Some a) None h = refl
nor (Some a) (Some b) h = h

other : (a b : Option ℕ) → is_some (earlier_of a b) ≡ true → is_some a ≡ false → is_some b ≡ true
other None b h left = h
other (Some a) None h left = cc
other (Some a) (Some b) h left = refl

monotone : IsMonotone is_some
monotone = record { left = neither; right = nor; either = other }

-- a task of the round has a time from which it may be claimed exactly where it is not done
closed : (standing : Standing) → is_some (free_from standing) ≡ false → IsDone standing
closed Free h = cc
closed (Leased ticket until) h = cc
closed (Done ticket) h = tt

opened : (standing : Standing) → is_some (free_from standing) ≡ true → IsDone standing → ⊥
opened Free h done = done
opened (Leased ticket until) h done = done
opened (Done ticket) h done = cc

pub all_done : (height : ℕ) (standings : List Standing) (capacity : ℕ) (times : List (Option ℕ)) → IsIndexed height standings capacity times → is_some (time_at times 1) ≡ false → AllDone standings
all_done height standings capacity times kept none task inside =
    let below : task < 2 ^ height = omega (arith, kept.within) in
    let leaf = below_fails is_some (2 ^ height) times monotone kept.tree height 1 (2 ^ height + task) (omega arith) (omega arith) (omega arith) (omega arith) none in
    closed (standing_at standings task) (rw (kept.leaves task below, slice_get-get_or standings task Free inside) at leaf)

-- a leaf with a time is that of a task
task_of : (standings : List Standing) (task : ℕ) → is_some (free_from_if_any (slice_get standings task)) ≡ true → SomeNotDone standings
task_of standings task some =
    elim (cases_lt task (length standings)) [
      | inl inside ↦ (task, inside, opened (standing_at standings task) (rw (slice_get-get_or standings task Free inside) at some))
      | inr past ↦ (let none = rw (slice_get_past standings task past) at some in absurd (let f : ⊥ = cc in f))
    ]

pub some_not_done : (height : ℕ) (standings : List Standing) (capacity : ℕ) (times : List (Option ℕ)) → IsIndexed height standings capacity times → is_some (time_at times 1) ≡ true → SomeNotDone standings
some_not_done height standings capacity times kept some =
    let found = below_passes is_some (2 ^ height) times monotone kept.tree height 1 (omega arith) (omega arith) some in
    let task : ℕ = found.0 - 2 ^ height in
    let place : found.0 ≡ 2 ^ height + task = omega (arith, found.1) in
    let below : task < 2 ^ height = omega (arith, found.1, found.2) in
    task_of standings task (rw (← kept.leaves task below, ← place) found.3)
