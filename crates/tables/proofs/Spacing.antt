-- Each round has a record of at least 13 bytes.
use Rattle.std.proofs.Common.{◌≡◌, ℕ, zero, suc, ◌+◌, ◌<◌, ◌≤◌, Bool, true, false, cond, List, [], ◌∷◌, map, length, replicate, set, refl, sym, ◌∙◌, ap, subst, arith}
use Rattle.std.specs.Prelude.{nat_le}
use Rattle.lease_table.specs.declared.standing.Claimed.{Claimed}
use Rattle.lease_table.specs.declared.standing.Claimed.TheVariants.{Work, Wait, RoundDone, Finished}
use Rattle.lease_table.specs.declared.standing.Abandoned.{Abandoned}
use Rattle.lease_table.specs.declared.standing.Abandoned.TheVariants.{Freed, Lost}
use Rattle.lease_table.specs.declared.standing.Standing.{Standing}
use Rattle.lease_table.specs.declared.standing.Standing.TheVariants.{Free, Leased, Done}
use Rattle.lease_table.specs.Machine.{Machine, lease_end, Claims, Abandons, Expires, Advances, Ends}
use Rattle.lease_table.specs.Standings.{AllDone, expired}
use Rattle.tables.specs.Rounds.{Rounded, Begins, Follows}
use Rattle.tables.specs.Sound.{Spaced, has_done}
use Rattle.std.specs.Prelude.{Result, Ok, Err, IfOk, OnOk, OnErr}
use Rattle.sv_base.specs.declared.errors.NoMemory.{NoMemory}
use Rattle.tables.specs.declared.work.Next.{Next}
use Rattle.tables.specs.declared.work.Next.TheVariants.{Round, End}

done_set : (tasks : List Standing) (task : ℕ) (s : Standing) → has_done (s ∷ []) ≡ false → has_done (set tasks task s) ≡ true → has_done tasks ≡ true
done_set [] task s none here = here
done_set (Done t ∷ ss) task s none here = refl
done_set (Free ∷ ss) zero Free none here = here
done_set (Free ∷ ss) zero (Leased t u) none here = here
done_set (Free ∷ ss) zero (Done t) none here = absurd (cc)
done_set (Leased a b ∷ ss) zero Free none here = here
done_set (Leased a b ∷ ss) zero (Leased t u) none here = here
done_set (Leased a b ∷ ss) zero (Done t) none here = absurd (cc)
done_set (Free ∷ ss) (suc i) s none here = done_set ss i s none here
done_set (Leased a b ∷ ss) (suc i) s none here = done_set ss i s none here

freed_one : (b : Bool) (t u : ℕ) (ss : List Standing) → has_done (cond b Free (Leased t u) ∷ ss) ≡ has_done ss
freed_one true t u ss = refl
freed_one false t u ss = refl

done_expired : (now : ℕ) (tasks : List Standing) → has_done (map (expired now) tasks) ≡ has_done tasks
done_expired now [] = refl
done_expired now (Free ∷ ss) = done_expired now ss
done_expired now (Leased t u ∷ ss) = freed_one (nat_le u now) t u (map (expired now) ss) ∙ done_expired now ss
done_expired now (Done t ∷ ss) = refl

done_free : (n : ℕ) → has_done (replicate n Free) ≡ false
done_free zero = refl
done_free (suc n) = done_free n

all_some : (tasks : List Standing) → AllDone tasks → 0 < length tasks → has_done tasks ≡ true
all_some [] all some = absurd (omega (arith, some))
all_some (Free ∷ ss) all some = absurd (all 0 some)
all_some (Leased t u ∷ ss) all some = absurd (all 0 some)
all_some (Done t ∷ ss) all some = refl

-- no task more is done
no_more : (old new : Machine) (at : ℕ) → Spaced old at → new.round ≡ old.round → (has_done new.tasks ≡ true → has_done old.tasks ≡ true) → Spaced new at
no_more old new at spaced round less = record {
  rounds = omega (arith, spaced.rounds, round);
  begun = λ here. omega (arith, spaced.begun (less here), round);
}

pub spaced_claims : (now term : ℕ) (old : Machine) (claimed : Claimed) (new : Machine) (at : ℕ) → Claims now term old claimed new → Spaced old at → Spaced new at
spaced_claims now term old (Work task ticket) new at step spaced =
    no_more old new at spaced (ap (λ (m : Machine). m.round) step.after)
    (λ here. done_set old.tasks task (Leased ticket (lease_end now term)) refl (sym (ap (λ (m : Machine). has_done m.tasks) step.after) ∙ here))
spaced_claims now term old Wait new at step spaced = subst (λ (m : Machine). Spaced m at) (sym step.3) spaced
spaced_claims now term old RoundDone new at step spaced = subst (λ (m : Machine). Spaced m at) (sym step.2) spaced
spaced_claims now term old Finished new at step spaced = subst (λ (m : Machine). Spaced m at) (sym step.1) spaced

pub spaced_abandons : (round task ticket : ℕ) (old : Machine) (answer : Abandoned) (new : Machine) (at : ℕ) → Abandons round task ticket old answer new → Spaced old at → Spaced new at
spaced_abandons round task ticket old Freed new at step spaced =
    no_more old new at spaced (ap (λ (m : Machine). m.round) step.1) (λ here. done_set old.tasks task Free refl (sym (ap (λ (m : Machine). has_done m.tasks) step.1) ∙ here))
spaced_abandons round task ticket old (Lost now standing) new at step spaced = subst (λ (m : Machine). Spaced m at) (sym step.3) spaced

pub spaced_expires : (now freed : ℕ) (old new : Machine) (at : ℕ) → Expires now old freed new → Spaced old at → Spaced new at
spaced_expires now freed old new at step spaced =
    no_more old new at spaced (ap (λ (m : Machine). m.round) step.1) (λ here. sym (done_expired now old.tasks) ∙ (sym (ap (λ (m : Machine). has_done m.tasks) step.1) ∙ here))

-- a record more
pub spaced_record : (old new : Machine) (at next : ℕ) → new.round ≡ old.round → at + 13 ≤ next → Spaced old at → Spaced new next
spaced_record old new at next round more spaced = record {
  rounds = omega (arith, spaced.rounds, round, more);
  begun = λ here. omega (arith, spaced.rounds, round, more);
}

pub spaced_next : (tasks : ℕ) (old new : Machine) (at : ℕ) → 0 < length old.tasks → Advances tasks old new → Spaced old at → Spaced new at
spaced_next tasks old new at some step spaced =
    let round : new.round ≡ old.round + 1 = ap (λ (m : Machine). m.round) step.2 in
    let none : has_done new.tasks ≡ false = ap (λ (m : Machine). has_done m.tasks) step.2 ∙ done_free tasks in
    record {
      rounds = omega (arith, spaced.begun (all_some old.tasks step.0 some), round);
      begun = λ here. cc (none, here);
    }

pub spaced_ends : (old new : Machine) (at : ℕ) → Ends old new → Spaced old at → Spaced new at
spaced_ends old new at step spaced = no_more old new at spaced (ap (λ (m : Machine). m.round) step.2) (λ here. sym (ap (λ (m : Machine). has_done m.tasks) step.2) ∙ here)

-- further on
pub spaced_later : (machine : Machine) (at next : ℕ) → at ≤ next → Spaced machine at → Spaced machine next
spaced_later machine at next more spaced = record { rounds = omega (arith, spaced.rounds, more); begun = λ here. omega (arith, spaced.begun here, more) }

module _ {B : Type 0} where
  pub spaced_follows : (next : Next B) (old new : Rounded B) (at : ℕ) → 0 < length old.machine.tasks → Follows next old new → Spaced old.machine at → Spaced new.machine at
  spaced_follows (Round tasks basis) old new at some step spaced = spaced_next tasks old.machine new.machine at some step.0 spaced
  spaced_follows End old new at some step spaced = spaced_ends old.machine new.machine at step.0 spaced

  pub spaced_begins : (first : Next B) (new : Rounded B) (at : ℕ) → Begins first new → Spaced new.machine at
  spaced_begins (Round tasks basis) new at begins =
      let round : new.machine.round ≡ 0 = ap (λ (m : Machine). m.round) begins.0 in
      let none : has_done new.machine.tasks ≡ false = ap (λ (m : Machine). has_done m.tasks) begins.0 ∙ done_free tasks in
      record { rounds = omega (arith, round); begun = λ here. cc (none, here) }
  spaced_begins End new at begins =
      let round : new.machine.round ≡ 0 = ap (λ (m : Machine). m.round) begins.0.2 in
      let none : has_done new.machine.tasks ≡ false = ap (λ (m : Machine). has_done m.tasks) begins.0.2 in
      record { rounds = omega (arith, round); begun = λ here. cc (none, here) }

  pub spaced_claimed : (now term : ℕ) (old new : Rounded B) (result : Result Claimed NoMemory) (at : ℕ) → IfOk result (λ claimed. Claims now term old.machine claimed new.machine) → OnErr result (new ≡ old) → Spaced old.machine at → Spaced new.machine at
  spaced_claimed now term old new (Ok claimed) at step same spaced = spaced_claims now term old.machine claimed new.machine at step spaced
  spaced_claimed now term old new (Err e) at step same spaced = subst (λ (r : Rounded B). Spaced r.machine at) (sym same) spaced

  pub spaced_followed : (next : Next B) (old new : Rounded B) (result : Result (Unit {0}) NoMemory) (at : ℕ) → 0 < length old.machine.tasks → OnOk result (Follows next old new) → OnErr result (new ≡ old) → Spaced old.machine at → Spaced new.machine at
  spaced_followed next old new (Ok done) at some step same spaced = spaced_follows next old new at some step spaced
  spaced_followed next old new (Err e) at some step same spaced = subst (λ (r : Rounded B). Spaced r.machine at) (sym same) spaced
