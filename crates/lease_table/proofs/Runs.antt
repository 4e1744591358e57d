-- What each step of a run keeps.
use Rattle.std.proofs.Common.{◌≡◌, ◌≢◌, ℕ, suc, ◌+◌, ◌<◌, ◌≤◌, Bool, true, false, Option, Some, None, List, [], ◌∷◌, ◌++◌, length, take, set, map, replicate, refl, sym, ◌∙◌, ap, arith, inl, inr, get_or-set_same, get_or-set_other, length-append}
use Rattle.std.proofs.lemmas.Bool.{cases_eq, cases_lt, cases_Bool, and_parts, eqb-true, eq-eqb}
use Rattle.std.proofs.lemmas.Option.{slice_get-get_or, slice_get_past}
use Rattle.std.proofs.lemmas.List.{length-set, length-replicate, length-take-le, get_or-take, get_or_append_left, get_or_at, get_or-replicate}
use Rattle.std.proofs.Math.ListN.{get_or-map}
use Rattle.std.specs.Prelude.{is_some, slice_get, slice_index, ◌==◌}
use Rattle.lease_table.specs.declared.standing.Standing.{Standing}
use Rattle.lease_table.specs.declared.standing.Standing.TheVariants.{Free, Leased, Done}
use Rattle.lease_table.specs.Standings.{standing_at, IsDone, IsClaimable, AllDone, has_run_out, expired}
use Rattle.lease_table.specs.Machine.{Machine, IsLeasedBy}
use Rattle.lease_table.specs.Runs.{Publication, is_key, artifact_of, place_of, newest_round, kept_standing, IsReopened, IsTicketBelow}

-- whether a task is done
abbrev pub is_done : Standing → Bool
is_done Free = false
is_done (Leased ticket until) = false
is_done (Done ticket) = true

pub done_is : (s : Standing) → IsDone s → is_done s ≡ true
done_is Free h = absurd h
done_is (Leased ticket until) h = absurd h
done_is (Done ticket) h = refl

pub claimable_is : (now : ℕ) (s : Standing) → IsClaimable now s → is_done s ≡ false
claimable_is now Free h = refl
claimable_is now (Leased ticket until) h = refl
claimable_is now (Done ticket) h = absurd h

pub leased_is : (ticket : ℕ) (s : Standing) → IsLeasedBy ticket (Some s) → is_done s ≡ false
leased_is ticket Free h = refl
leased_is ticket (Leased other until) h = refl
leased_is ticket (Done other) h = absurd h

pub leased_below : (ticket next : ℕ) (s : Standing) → IsLeasedBy ticket (Some s) → IsTicketBelow next s → ticket < next
leased_below ticket next Free h below = absurd h
leased_below ticket next (Leased other until) h below = rw (← h) below
leased_below ticket next (Done other) h below = absurd h

-- a ticket that holds a lease names a task of the round
pub holder : (tasks : List Standing) (task ticket : ℕ) → IsLeasedBy ticket (slice_get tasks task) → (task < length tasks) × IsLeasedBy ticket (Some (standing_at tasks task))
holder tasks task ticket leased =
    elim (cases_lt task (length tasks)) [
      | inl inside ↦ (inside, rw (slice_get-get_or tasks task Free inside) at leased)
      | inr past ↦ absurd (rw (slice_get_past tasks task past) at leased)
    ]

-- what holds of every world that a run reaches
pub record IsSound (rounds : List ℕ) (published : List Publication) (machine : Machine) : Type 0 where
  pub long : length rounds ≡ machine.round + 1
  pub count : length machine.tasks ≡ slice_index rounds machine.round
  pub newest : newest_round published ≤ machine.round
  pub ahead : (round task : ℕ) → newest_round published < round → is_some (artifact_of published round task) ≡ false
  pub done : (task : ℕ) → task < length machine.tasks → is_some (artifact_of published machine.round task) ≡ is_done (standing_at machine.tasks task)
  pub full : (round task : ℕ) → round < machine.round → task < slice_index rounds round → is_some (artifact_of published round task) ≡ true
  pub tickets : (task : ℕ) → task < length machine.tasks → IsTicketBelow machine.next_ticket (standing_at machine.tasks task)

-- keys
pub key_parts : (p : Publication) (round task : ℕ) → is_key p round task ≡ true → (p.round ≡ round) × (p.task ≡ task)
key_parts p round task h =
    let both = and_parts (p.round == round) (p.task == task) h in
    (eqb-true p.round round both.0, eqb-true p.task task both.1)

pub other_round : (p : Publication) (round task : ℕ) → p.round ≢ round → is_key p round task ≡ false
other_round p round task other =
    elim (cases_Bool (is_key p round task)) [
      | inl same ↦ absurd (other (key_parts p round task same).0)
      | inr no' ↦ no'
    ]

pub other_task : (p : Publication) (round task : ℕ) → p.task ≢ task → is_key p round task ≡ false
other_task p round task other =
    elim (cases_Bool (is_key p round task)) [
      | inl same ↦ absurd (other (key_parts p round task same).1)
      | inr no' ↦ no'
    ]

-- a place stands where an artifact does
pub place_is : (published : List Publication) (round task : ℕ) → is_some (place_of published round task) ≡ is_some (artifact_of published round task)
place_is [] round task = refl
place_is (p ∷ earlier) round task =
    elim (cases_Bool (is_key p round task)) [
      | inl same ↦ rw same refl
      | inr other ↦ rw other (place_is earlier round task)
    ]

pub more : (next : ℕ) (s : Standing) → IsTicketBelow next s → IsTicketBelow (suc next) s
more next Free h = tt
more next (Leased ticket until) h = omega arith
more next (Done ticket) h = omega arith

place_below : (published : List Publication) (round task : ℕ) → IsTicketBelow (length published) (kept_standing (place_of published round task))
place_below [] round task = tt
place_below (p ∷ earlier) round task =
    elim (cases_Bool (is_key p round task)) [
      | inl same ↦ rw same (omega arith)
      | inr other ↦ rw other (more (length earlier) (kept_standing (place_of earlier round task)) (place_below earlier round task))
    ]

pub kept_done : (place : Option ℕ) → is_done (kept_standing place) ≡ is_some place
kept_done None = refl
kept_done (Some place) = refl

-- a change of the standings that makes no task done or not done
pub retasked : (rounds : List ℕ) (published : List Publication) (old : Machine) (ended : Bool) (next : ℕ) (tasks : List Standing) → IsSound rounds published old → length tasks ≡ length old.tasks → ((task : ℕ) → is_done (standing_at tasks task) ≡ is_done (standing_at old.tasks task)) → ((task : ℕ) → task < length old.tasks → IsTicketBelow next (standing_at tasks task)) → IsSound rounds published (record { round = old.round; ended = ended; next_ticket = next; tasks = tasks })
retasked rounds published old ended next tasks s long same below = record {
  long = s.long;
  count = long ∙ s.count;
  newest = s.newest;
  ahead = s.ahead;
  done = λ task inside. s.done task (rw long at inside) ∙ sym (same task);
  full = s.full;
  tickets = λ task inside. below task (rw long at inside);
}

pub set_done : (tasks : List Standing) (at : ℕ) (s : Standing) → at < length tasks → is_done s ≡ is_done (standing_at tasks at) → (task : ℕ) → is_done (standing_at (set tasks at s) task) ≡ is_done (standing_at tasks task)
set_done tasks at s inside same task =
    elim (cases_eq task at) [
      | inl here ↦ rw (here, get_or-set_same tasks at s Free inside) same
      | inr other ↦ rw (get_or-set_other tasks at task s Free other) refl
    ]

pub set_below : (tasks : List Standing) (at : ℕ) (s : Standing) (next : ℕ) → at < length tasks → IsTicketBelow next s → ((task : ℕ) → task < length tasks → IsTicketBelow next (standing_at tasks task)) → (task : ℕ) → task < length tasks → IsTicketBelow next (standing_at (set tasks at s) task)
set_below tasks at s next inside below others task within =
    elim (cases_eq task at) [
      | inl here ↦ rw (here, get_or-set_same tasks at s Free inside) below
      | inr other ↦ rw (get_or-set_other tasks at task s Free other) (others task within)
    ]

pub expired_at : (now : ℕ) (tasks : List Standing) (task : ℕ) → standing_at (map (expired now) tasks) task ≡ expired now (standing_at tasks task)
expired_at now tasks task = get_or-map (expired now) tasks task Free

pub expired_done : (now : ℕ) (s : Standing) → is_done (expired now s) ≡ is_done s
expired_done now Free = refl
expired_done now (Leased ticket until) = elim (cases_Bool (has_run_out now (Leased ticket until))) [ inl out ↦ rw out refl | inr not' ↦ rw not' refl ]
expired_done now (Done ticket) = refl

pub expired_below : (now next : ℕ) (s : Standing) → IsTicketBelow next s → IsTicketBelow next (expired now s)
expired_below now next Free h = tt
expired_below now next (Leased ticket until) h = elim (cases_Bool (has_run_out now (Leased ticket until))) [ inl out ↦ rw out tt | inr not' ↦ rw not' h ]
expired_below now next (Done ticket) h = h

-- a publication by the holder of the lease
pub stored : (rounds : List ℕ) (published : List Publication) (old : Machine) (task ticket : ℕ) (artifact : List ℕ) → IsSound rounds published old → IsLeasedBy ticket (slice_get old.tasks task) → IsSound rounds (record { round = old.round; task = task; artifact = artifact } ∷ published) (record old { tasks = set old.tasks task (Done ticket) })
stored rounds published old task ticket artifact s leased =
    let p : Publication = record { round = old.round; task = task; artifact = artifact } in
    let held = holder old.tasks task ticket leased in
    let here : is_key p old.round task ≡ true = rw (eq-eqb old.round old.round refl, eq-eqb task task refl) refl in
    record {
      long = s.long;
      count = length-set old.tasks task (Done ticket) ∙ s.count;
      newest = omega arith;
      ahead = λ round other later. rw (other_round p round other (omega arith)) (s.ahead round other (omega (arith, s.newest)));
      done = λ other inside. elim (cases_eq other task) [
        | inl same ↦ rw (same, here, get_or-set_same old.tasks task (Done ticket) Free held.0) refl
        | inr differs ↦ rw (other_task p old.round other (λ e. differs (sym e)), get_or-set_other old.tasks task other (Done ticket) Free differs) (s.done other (rw (length-set old.tasks task (Done ticket)) at inside))
      ];
      full = λ round other before inside. rw (other_round p round other (omega arith)) (s.full round other before inside);
      tickets = λ other inside. set_below old.tasks task (Done ticket) old.next_ticket held.0 (leased_below ticket old.next_ticket (standing_at old.tasks task) held.1 (s.tickets task held.0)) s.tickets other (rw (length-set old.tasks task (Done ticket)) at inside);
    }

-- a new round
pub advanced : (rounds : List ℕ) (published : List Publication) (old : Machine) (tasks : ℕ) → IsSound rounds published old → AllDone old.tasks → IsSound (rounds ++ tasks ∷ []) published (record old { round = old.round + 1; tasks = replicate tasks Free })
advanced rounds published old tasks s all = record {
  long = length-append rounds (tasks ∷ []) ∙ omega (arith, s.long);
  count = length-replicate tasks Free ∙ sym (get_or_at rounds tasks [] 0 (old.round + 1) s.long);
  newest = omega (arith, s.newest);
  ahead = s.ahead;
  done = λ task inside. s.ahead (old.round + 1) task (omega (arith, s.newest)) ∙ sym (ap is_done (get_or-replicate tasks task Free Free (rw (length-replicate tasks Free) at inside)));
  full = λ round task before inside.
      let kept : slice_index (rounds ++ tasks ∷ []) round ≡ slice_index rounds round = get_or_append_left rounds (tasks ∷ []) 0 round (omega (arith, s.long)) in
      let within : task < slice_index rounds round = rw kept at inside in
      elim (cases_eq round old.round) [
        | inl now ↦ (let there : task < length old.tasks = rw (s.count, ← now) within in
            rw now (s.done task there ∙ done_is (standing_at old.tasks task) (all task there)))
        | inr earlier ↦ s.full round task (omega arith) within
      ];
  tickets = λ task inside. rw (get_or-replicate tasks task Free Free (rw (length-replicate tasks Free) at inside)) tt;
}

-- the machine after a crash
pub reopened : (rounds : List ℕ) (published : List Publication) (old new : Machine) → IsSound rounds published old → IsReopened rounds published new → IsSound (take (new.round + 1) rounds) published new
reopened rounds published old new s r =
    let kept : new.round ≤ old.round = omega (arith, r.round, s.newest) in
    let index : (round : ℕ) → round ≤ new.round → slice_index (take (new.round + 1) rounds) round ≡ slice_index rounds round = λ round at. get_or-take (new.round + 1) rounds round 0 (omega arith) in
    record {
      long = length-take-le (new.round + 1) rounds (omega (arith, s.long));
      count = r.count ∙ sym (index new.round (omega arith));
      newest = omega (arith, r.round);
      ahead = s.ahead;
      done = λ task inside. rw (r.tasks task inside) (sym (kept_done (place_of published new.round task) ∙ place_is published new.round task));
      full = λ round task before inside. s.full round task (omega arith) (rw (index round (omega arith)) at inside);
      tickets = λ task inside. rw (r.tasks task inside, r.next_ticket) (place_below published new.round task);
    }
