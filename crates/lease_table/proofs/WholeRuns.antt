-- What holds over whole runs.
use Rattle.std.proofs.Common.{◌≡◌, ℕ, suc, ◌+◌, ◌<◌, ◌≤◌, true, false, Option, Some, None, List, [], ◌∷◌, ◌++◌, length, set, map, refl, sym, ◌∙◌, ap, arith, inl, inr, ◌⊎◌, get_or-set_other}
use Rattle.std.proofs.lemmas.Bool.{cases_eq, cases_lt, cases_Bool}
use Rattle.std.proofs.lemmas.Option.{slice_get-get_or, slice_get_within, get_or_from_slice_get}
use Rattle.std.proofs.lemmas.List.{length-set, length-map, length-replicate, get_or-take, get_or_append_left, get_or-replicate}
use Rattle.std.specs.Prelude.{is_some, slice_get, slice_index}
use Rattle.lease_table.specs.declared.standing.Standing.{Standing}
use Rattle.lease_table.specs.declared.standing.Standing.TheVariants.{Free, Leased, Done}
use Rattle.lease_table.specs.declared.standing.Claimed.TheVariants.{Work, Wait, RoundDone, Finished}
use Rattle.lease_table.specs.declared.standing.Published.TheVariants.{Stored, Lost}
use Rattle.lease_table.specs.declared.standing.Abandoned.TheVariants.{Freed, Lost as NotHeld}
use Rattle.lease_table.specs.Standings.{standing_at, expired}
use Rattle.lease_table.specs.Machine.{Machine, lease_end}
use Rattle.lease_table.specs.Runs.{Publication, World, Step, Claim, Publish, Abandon, Expire, Advance, End, Crash, Takes, Runs, begun, is_key, artifact_of, newest_round, IsNoCrash, HasNoCrash, StaysDone}
use Rattle.lease_table.proofs.Runs.{is_done, claimable_is, leased_is, holder, IsSound, key_parts, more, retasked, set_done, set_below, expired_at, expired_done, expired_below, stored, advanced, reopened}

-- every world that a run reaches is sound
pub sound_begun : (tasks : ℕ) → IsSound (begun tasks).rounds (begun tasks).published (begun tasks).machine
sound_begun tasks = record {
  long = refl;
  count = length-replicate tasks Free;
  newest = omega arith;
  ahead = λ round task later. refl;
  done = λ task inside. sym (ap is_done (get_or-replicate tasks task Free Free (rw (length-replicate tasks Free) at inside)));
  full = λ round task before inside. absurd (omega arith);
  tickets = λ task inside. rw (get_or-replicate tasks task Free Free (rw (length-replicate tasks Free) at inside)) tt;
}

pub sound_step : (old : World) (step : Step) (new : World) → IsSound old.rounds old.published old.machine → Takes old step new → IsSound new.rounds new.published new.machine
sound_step old (Claim now term (Work task ticket)) new s t =
    let m : Machine = old.machine in
    let l = t.0.least in
    let leased : Standing = Leased ticket (lease_end now term) in
    rw (t.1.0, t.1.1, t.0.after) (retasked old.rounds old.published m m.ended (m.next_ticket + 1) (set m.tasks task leased) s
    (length-set m.tasks task leased)
    (set_done m.tasks task leased l.within (sym (claimable_is now (standing_at m.tasks task) l.claimable)))
    (set_below m.tasks task leased (m.next_ticket + 1) l.within (omega (arith, t.0.ticket_is)) (λ other inside.
    let next : m.next_ticket + 1 ≡ suc m.next_ticket = omega arith in
    rw next (more m.next_ticket (standing_at m.tasks other) (s.tickets other inside)))))
sound_step old (Claim now term Wait) new s t = rw (t.1.0, t.1.1, t.0.3) s
sound_step old (Claim now term RoundDone) new s t = rw (t.1.0, t.1.1, t.0.2) s
sound_step old (Claim now term Finished) new s t = rw (t.1.0, t.1.1, t.0.1) s
sound_step old (Publish round task ticket artifact Stored) new s t =
    rw (t.1, t.2, t.0.1, t.0.0.0) (stored old.rounds old.published old.machine task ticket artifact s t.0.0.1)
sound_step old (Publish round task ticket artifact (Lost now standing)) new s t = rw (t.1.0, t.1.1, t.0.3) s
sound_step old (Abandon round task ticket Freed) new s t =
    let m : Machine = old.machine in
    let held = holder m.tasks task ticket t.0.0.1 in
    rw (t.1.0, t.1.1, t.0.1) (retasked old.rounds old.published m m.ended m.next_ticket (set m.tasks task Free) s
    (length-set m.tasks task Free)
    (set_done m.tasks task Free held.0 (sym (leased_is ticket (standing_at m.tasks task) held.1)))
    (set_below m.tasks task Free m.next_ticket held.0 tt s.tickets))
sound_step old (Abandon round task ticket (NotHeld now standing)) new s t = rw (t.1.0, t.1.1, t.0.3) s
sound_step old (Expire now freed) new s t =
    let m : Machine = old.machine in
    rw (t.1.0, t.1.1, t.0.1) (retasked old.rounds old.published m m.ended m.next_ticket (map (expired now) m.tasks) s
    (length-map m.tasks (expired now))
    (λ task. rw (expired_at now m.tasks task) (expired_done now (standing_at m.tasks task)))
    (λ task inside. rw (expired_at now m.tasks task) (expired_below now m.next_ticket (standing_at m.tasks task) (s.tickets task inside))))
sound_step old (Advance tasks) new s t = rw (t.1, t.2, t.0.2) (advanced old.rounds old.published old.machine tasks s t.0.0)
sound_step old End new s t =
    let m : Machine = old.machine in
    rw (t.1.0, t.1.1, t.0.2) (retasked old.rounds old.published m true m.next_ticket m.tasks s refl (λ task. refl) s.tickets)
sound_step old Crash new s t = rw (t.1, t.2) (reopened old.rounds old.published old.machine new.machine s t.0)

pub sound_run : (steps : List Step) (old new : World) → IsSound old.rounds old.published old.machine → Runs old steps new → IsSound new.rounds new.published new.machine
sound_run [] old new s r = rw r s
sound_run (step ∷ steps) old new s r = sound_run steps r.0 new (sound_step old step r.0 s r.1) r.2

-- what is published stays, and a new artifact is for a task of the round that was not done
Publishes : World → World → Type 0
Publishes old new = (new.published ≡ old.published) ⊎ ((p : Publication) × (new.published ≡ p ∷ old.published) × (p.round ≡ old.machine.round) × (p.task < length old.machine.tasks) × (is_done (standing_at old.machine.tasks p.task) ≡ false))

published_step : (old : World) (step : Step) (new : World) → Takes old step new → Publishes old new
unfolding Publishes
published_step old (Claim now term answer) new t = inl t.1.1
published_step old (Publish round task ticket artifact Stored) new t =
    let held = holder old.machine.tasks task ticket t.0.0.1 in
    inr (record { round = round; task = task; artifact = artifact }, t.2, t.0.0.0, held.0, leased_is ticket (standing_at old.machine.tasks task) held.1)
published_step old (Publish round task ticket artifact (Lost now standing)) new t = inl t.1.1
published_step old (Abandon round task ticket answer) new t = inl t.1.1
published_step old (Expire now freed) new t = inl t.1.1
published_step old (Advance tasks) new t = inl t.2
published_step old End new t = inl t.1.1
published_step old Crash new t = inl t.2

artifact_step : (old : World) (step : Step) (new : World) → IsSound old.rounds old.published old.machine → Takes old step new → (round task : ℕ) (artifact : List ℕ) → artifact_of old.published round task ≡ Some artifact → artifact_of new.published round task ≡ Some artifact
unfolding Publishes
artifact_step old step new s t round task artifact had =
    elim (published_step old step new t) [
      | inl same ↦ rw same had
      | inr more ↦ rw more.1 (elim (cases_Bool (is_key more.0 round task)) [
        | inl key ↦ (let parts = key_parts more.0 round task key in
            let place : is_some (artifact_of old.published old.machine.round more.0.task) ≡ true = rw (parts.1, ← more.2, parts.0, had) refl in
            let open' : is_some (artifact_of old.published old.machine.round more.0.task) ≡ false = s.done more.0.task more.3 ∙ more.4 in
            absurd (let contradiction : ⊥ = cc in contradiction))
        | inr other ↦ rw other had
      ])
    ]

pub artifact_run : (steps : List Step) (old new : World) → IsSound old.rounds old.published old.machine → Runs old steps new → (round task : ℕ) (artifact : List ℕ) → artifact_of old.published round task ≡ Some artifact → artifact_of new.published round task ≡ Some artifact
artifact_run [] old new s r round task artifact had = rw r had
artifact_run (step ∷ steps) old new s r round task artifact had =
    artifact_run steps r.0 new (sound_step old step r.0 s r.1) r.2 round task artifact (artifact_step old step r.0 s r.1 round task artifact had)

some_of : {A : Type 0} (o : Option A) → is_some o ≡ true → (x : A) × (o ≡ Some x)
some_of None h = absurd (let contradiction : ⊥ = cc in contradiction)
some_of (Some x) h = (x, refl)

pub published_run : (steps : List Step) (old new : World) → IsSound old.rounds old.published old.machine → Runs old steps new → (round task : ℕ) → is_some (artifact_of old.published round task) ≡ true → is_some (artifact_of new.published round task) ≡ true
published_run steps old new s r round task had =
    let found = some_of (artifact_of old.published round task) had in
    ap is_some (artifact_run steps old new s r round task found.0 found.1)

-- a published task is of no round after the current one
published_by : (w : World) → IsSound w.rounds w.published w.machine → (round task : ℕ) → is_some (artifact_of w.published round task) ≡ true → round ≤ w.machine.round
published_by w s round task had =
    elim (cases_lt (newest_round w.published) round) [
      | inl later ↦ (let none = s.ahead round task later in absurd (let contradiction : ⊥ = cc in contradiction))
      | inr by ↦ omega (arith, s.newest)
    ]

-- the number of tasks of a round that both worlds have stays
rounds_step : (old : World) (step : Step) (new : World) → IsSound old.rounds old.published old.machine → Takes old step new → (round : ℕ) → round ≤ old.machine.round → round ≤ new.machine.round → slice_index new.rounds round ≡ slice_index old.rounds round
rounds_step old (Claim now term answer) new s t round in_old in_new = ap (λ rounds. slice_index rounds round) t.1.0
rounds_step old (Publish round' task ticket artifact Stored) new s t round in_old in_new = ap (λ rounds. slice_index rounds round) t.1
rounds_step old (Publish round' task ticket artifact (Lost now standing)) new s t round in_old in_new = ap (λ rounds. slice_index rounds round) t.1.0
rounds_step old (Abandon round' task ticket answer) new s t round in_old in_new = ap (λ rounds. slice_index rounds round) t.1.0
rounds_step old (Expire now freed) new s t round in_old in_new = ap (λ rounds. slice_index rounds round) t.1.0
rounds_step old (Advance tasks) new s t round in_old in_new = rw t.1 (get_or_append_left old.rounds (tasks ∷ []) 0 round (omega (arith, s.long)))
rounds_step old End new s t round in_old in_new = ap (λ rounds. slice_index rounds round) t.1.0
rounds_step old Crash new s t round in_old in_new = rw t.1 (get_or-take (new.machine.round + 1) old.rounds round 0 (omega arith))

-- a task of the round stays one of its tasks
within_run : (steps : List Step) (old new : World) → IsSound old.rounds old.published old.machine → Runs old steps new → (round task : ℕ) → is_some (artifact_of old.published round task) ≡ true → task < slice_index old.rounds round → task < slice_index new.rounds round
within_run [] old new s r round task had inside = rw r inside
within_run (step ∷ steps) old new s r round task had inside =
    let one : Runs old (step ∷ []) r.0 = (r.0, r.1, refl) in
    let mid = sound_step old step r.0 s r.1 in
    let has = published_run (step ∷ []) old r.0 s one round task had in
    within_run steps r.0 new mid r.2 round task has (rw (rounds_step old step r.0 s r.1 round (published_by old s round task had) (published_by r.0 mid round task has)) inside)

-- the task is done by this ticket
abbrev DoneBy : List Standing → ℕ → ℕ → Type 0
DoneBy tasks task ticket = (task < length tasks) × (standing_at tasks task ≡ Done ticket)

-- what a step that is no crash does to the round, the next ticket and the tasks that are done
record Moves (old new : Machine) : Type 0 where
  next : old.next_ticket ≤ new.next_ticket
  way : ((new.round ≡ old.round) × ((task ticket : ℕ) → DoneBy old.tasks task ticket → DoneBy new.tasks task ticket)) ⊎ (new.round ≡ old.round + 1)

stays_put : (m : Machine) → Moves m m
stays_put m = record { next = omega arith; way = inl (refl, λ task ticket done. done) }

set_stays : (tasks : List Standing) (at : ℕ) (s : Standing) → is_done (standing_at tasks at) ≡ false → (task ticket : ℕ) → DoneBy tasks task ticket → DoneBy (set tasks at s) task ticket
set_stays tasks at s not_done task ticket done =
    elim (cases_eq task at) [
      | inl here ↦ absurd (let is : is_done (standing_at tasks at) ≡ true = rw (← here, done.1) refl in let contradiction : ⊥ = cc in contradiction)
      | inr other ↦ (rw (length-set tasks at s) done.0, rw (get_or-set_other tasks at task s Free other) done.1)
    ]

moves : (old : World) (step : Step) (new : World) → IsNoCrash step → Takes old step new → Moves old.machine new.machine
moves old (Claim now term (Work task ticket)) new none t =
    rw t.0.after (record { next = omega arith; way = inl (refl, set_stays old.machine.tasks task (Leased ticket (lease_end now term)) (claimable_is now (standing_at old.machine.tasks task) t.0.least.claimable)) })
moves old (Claim now term Wait) new none t = rw t.0.3 (stays_put old.machine)
moves old (Claim now term RoundDone) new none t = rw t.0.2 (stays_put old.machine)
moves old (Claim now term Finished) new none t = rw t.0.1 (stays_put old.machine)
moves old (Publish round task ticket artifact Stored) new none t =
    let held = holder old.machine.tasks task ticket t.0.0.1 in
    rw t.0.1 (record { next = omega arith; way = inl (refl, set_stays old.machine.tasks task (Done ticket) (leased_is ticket (standing_at old.machine.tasks task) held.1)) })
moves old (Publish round task ticket artifact (Lost now standing)) new none t = rw t.0.3 (stays_put old.machine)
moves old (Abandon round task ticket Freed) new none t =
    let held = holder old.machine.tasks task ticket t.0.0.1 in
    rw t.0.1 (record { next = omega arith; way = inl (refl, set_stays old.machine.tasks task Free (leased_is ticket (standing_at old.machine.tasks task) held.1)) })
moves old (Abandon round task ticket (NotHeld now standing)) new none t = rw t.0.3 (stays_put old.machine)
moves old (Expire now freed) new none t =
    rw t.0.1 (record {
      next = omega arith;
      way = inl (
        refl,
        λ task ticket done.
            (rw (length-map old.machine.tasks (expired now)) done.0, rw (expired_at now old.machine.tasks task, done.1) refl),
      );
    })
moves old (Advance tasks) new none t = rw t.0.2 (record { next = omega arith; way = inr refl })
moves old End new none t = rw t.0.2 (record { next = omega arith; way = inl (refl, λ task ticket done. done) })
moves old Crash new none t = absurd none

next_run : (steps : List Step) (old new : World) → HasNoCrash steps → Runs old steps new → old.machine.next_ticket ≤ new.machine.next_ticket
next_run [] old new none r = rw r (omega arith)
next_run (step ∷ steps) old new none r =
    omega (arith, (moves old step r.0 none.0 r.1).next, next_run steps r.0 new none.1 r.2)

ticket_step : (old new : Machine) → Moves old new → (round task ticket : ℕ) → round ≤ old.round → (old.round ≡ round → DoneBy old.tasks task ticket) → (round ≤ new.round) × (new.round ≡ round → DoneBy new.tasks task ticket)
ticket_step old new m round task ticket by done =
    elim m.way [
      | inl same ↦ (omega (arith, same.0), λ now. same.1 task ticket (done (sym same.0 ∙ now)))
      | inr next ↦ (omega arith, λ now. absurd (omega arith))
    ]

ticket_run : (steps : List Step) (old new : World) → HasNoCrash steps → Runs old steps new → (round task ticket : ℕ) → round ≤ old.machine.round → (old.machine.round ≡ round → DoneBy old.machine.tasks task ticket) → new.machine.round ≡ round → DoneBy new.machine.tasks task ticket
ticket_run [] old new none r round task ticket by done now = rw r (done (ap (λ w. w.machine.round) (sym r) ∙ now))
ticket_run (step ∷ steps) old new none r round task ticket by done now =
    let mid = ticket_step old.machine r.0.machine (moves old step r.0 none.0 r.1) round task ticket by done in
    ticket_run steps r.0 new none.1 r.2 round task ticket mid.0 mid.1 now

done_by : (s : Standing) → is_done s ≡ true → (ticket : ℕ) × (s ≡ Done ticket)
done_by Free h = absurd (let contradiction : ⊥ = cc in contradiction)
done_by (Leased ticket until) h = absurd (let contradiction : ⊥ = cc in contradiction)
done_by (Done ticket) h = (ticket, refl)

from_done : (tasks : List Standing) (task ticket : ℕ) → DoneBy tasks task ticket → slice_get tasks task ≡ Some (Done ticket)
from_done tasks task ticket done = slice_get-get_or tasks task Free done.0 ∙ ap Some done.1

pub stays_done : (steps : List Step) (old new : World) → IsSound old.rounds old.published old.machine → Runs old steps new → (task ticket : ℕ) → slice_get old.machine.tasks task ≡ Some (Done ticket) → StaysDone old.machine.round task ticket steps new
stays_done steps old new s r task ticket done =
    let inside : task < length old.machine.tasks = slice_get_within old.machine.tasks task (Done ticket) done in
    let is : standing_at old.machine.tasks task ≡ Done ticket = get_or_from_slice_get old.machine.tasks task (Done ticket) Free done in
    let had : is_some (artifact_of old.published old.machine.round task) ≡ true = s.done task inside ∙ ap is_done is in
    let has = published_run steps old new s r old.machine.round task had in
    let sound = sound_run steps old new s r in
    record {
      round_stays = published_by new sound old.machine.round task has;
      done = λ now.
          let within : task < slice_index old.rounds old.machine.round = rw s.count at inside in
          let there : task < slice_index new.rounds old.machine.round = within_run steps old new s r old.machine.round task had within in
          let here : task < length new.machine.tasks = rw (sound.count, now) there in
          let found = done_by (standing_at new.machine.tasks task) (sym (sound.done task here) ∙ rw now has) in
          (found.0, from_done new.machine.tasks task found.0 (here, found.1));
      by_ticket = λ none now. from_done new.machine.tasks task ticket (ticket_run steps old new none r old.machine.round task ticket (omega arith) (λ same. (inside, is)) now);
    }

runs_append : (first second : List Step) (old new : World) → Runs old (first ++ second) new → (mid : World) × Runs old first mid × Runs mid second new
runs_append [] second old new r = (old, refl, r)
runs_append (step ∷ first) second old new r =
    let rest = runs_append first second r.0 new r.2 in
    (rest.0, (r.0, r.1, rest.1), rest.2)

pub claims_rise : (between : List Step) (old new : World) (now term task ticket now' term' task' ticket' : ℕ) → Runs old (Claim now term (Work task ticket) ∷ between ++ Claim now' term' (Work task' ticket') ∷ []) new → HasNoCrash between → ticket < ticket'
claims_rise between old new now term task ticket now' term' task' ticket' r none =
    let parts = runs_append between (Claim now' term' (Work task' ticket') ∷ []) r.0 new r.2 in
    let rose : r.0.machine.next_ticket ≡ old.machine.next_ticket + 1 = ap (λ m. m.next_ticket) r.1.0.after in
    let first : ticket ≡ old.machine.next_ticket = r.1.0.ticket_is in
    let second : ticket' ≡ parts.0.machine.next_ticket = parts.2.1.0.ticket_is in
    let more' : r.0.machine.next_ticket ≤ parts.0.machine.next_ticket = next_run between r.0 parts.0 none parts.1 in
    omega arith
