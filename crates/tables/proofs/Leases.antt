-- How many tasks are leased.
use Rattle.std.proofs.Common.{◌≡◌, ℕ, zero, suc, ◌+◌, ◌<◌, ◌≤◌, Bool, true, false, cond, List, [], ◌∷◌, map, length, replicate, set, Option, Some, None, slice_get, refl, ◌∙◌, ap, arith}
use Rattle.std.proofs.lemmas.List.Sums.{sum_by-cons}
use Rattle.std.specs.Prelude.{count_by, nat_le}
use Rattle.lease_table.specs.declared.standing.Standing.{Standing}
use Rattle.lease_table.specs.declared.standing.Standing.TheVariants.{Free, Leased, Done}
use Rattle.lease_table.specs.Machine.{IsLeasedBy}
use Rattle.lease_table.specs.Standings.{AllDone, has_run_out, expired}
use Rattle.tables.specs.Rounds.{leased_count}

-- at most each task is leased
pub leased_few : (tasks : List Standing) → leased_count tasks ≤ length tasks
leased_few [] = omega arith
leased_few (Free ∷ ss) = omega (arith, leased_few ss)
leased_few (Leased t u ∷ ss) = omega (arith, leased_few ss)
leased_few (Done t ∷ ss) = omega (arith, leased_few ss)

-- a standing that takes the place of a lease
pub ends_one : (tasks : List Standing) (task ticket until : ℕ) (new : Standing) → slice_get tasks task ≡ Some (Leased ticket until) → leased_count (new ∷ []) ≡ 0 → leased_count (set tasks task new) + 1 ≡ leased_count tasks
ends_one [] task ticket until new here none = absurd (cc)
ends_one (Free ∷ ss) zero ticket until new here none = absurd (cc)
ends_one (Done t ∷ ss) zero ticket until new here none = absurd (cc)
ends_one (Leased t u ∷ ss) zero ticket until Free here none = refl
ends_one (Leased t u ∷ ss) zero ticket until (Done d) here none = refl
ends_one (Leased t u ∷ ss) zero ticket until (Leased d v) here none = absurd (omega (arith, none))
ends_one (Free ∷ ss) (suc i) ticket until new here none = ends_one ss i ticket until new here none
ends_one (Done t ∷ ss) (suc i) ticket until new here none = ends_one ss i ticket until new here none
ends_one (Leased t u ∷ ss) (suc i) ticket until new here none = omega (arith, ends_one ss i ticket until new here none)

-- a free task that is done
pub keeps_count : (tasks : List Standing) (task ticket : ℕ) → slice_get tasks task ≡ Some Free → leased_count (set tasks task (Done ticket)) ≡ leased_count tasks
keeps_count [] task ticket here = absurd (cc)
keeps_count (Free ∷ ss) zero ticket here = refl
keeps_count (Done t ∷ ss) zero ticket here = absurd (cc)
keeps_count (Leased t u ∷ ss) zero ticket here = absurd (cc)
keeps_count (Free ∷ ss) (suc i) ticket here = keeps_count ss i ticket here
keeps_count (Done t ∷ ss) (suc i) ticket here = keeps_count ss i ticket here
keeps_count (Leased t u ∷ ss) (suc i) ticket here = ap (λ (n : ℕ). n + 1) (keeps_count ss i ticket here)

-- how many leases have run out, with one standing more
run_out_more : (now : ℕ) (standing : Standing) (ss : List Standing) → count_by (has_run_out now) (standing ∷ ss) ≡ cond (has_run_out now standing) 1 0 + count_by (has_run_out now) ss
run_out_more now standing ss = sum_by-cons (λ (s : Standing). cond (has_run_out now s) 1 0) standing ss

expires_one : (b : Bool) (t u f l : ℕ) (ss : List Standing) → leased_count ss + f ≡ l → leased_count (cond b Free (Leased t u) ∷ ss) + (cond b 1 0 + f) ≡ l + 1
expires_one true t u f l ss is = omega (arith, is)
expires_one false t u f l ss is = omega (arith, is)

-- leases that have run out are freed
pub expires_count : (now : ℕ) (tasks : List Standing) → leased_count (map (expired now) tasks) + count_by (has_run_out now) tasks ≡ leased_count tasks
expires_count now [] = refl
expires_count now (Free ∷ ss) = omega (arith, run_out_more now Free ss, expires_count now ss)
expires_count now (Done t ∷ ss) = omega (arith, run_out_more now (Done t) ss, expires_count now ss)
expires_count now (Leased t u ∷ ss) =
    ap (λ (n : ℕ). leased_count (map (expired now) (Leased t u ∷ ss)) + n) (run_out_more now (Leased t u) ss)
    ∙ expires_one (nat_le u now) t u (count_by (has_run_out now) ss) (leased_count ss) (map (expired now) ss) (expires_count now ss)

still_leased : (b : Bool) (t u n : ℕ) → n ≡ cond b 1 0 → n ≡ 0 → cond b Free (Leased t u) ≡ Leased t u
still_leased true t u n is none = absurd (omega (arith, is, none))
still_leased false t u n is none = refl

-- where no lease has run out, nothing changes
pub none_expired : (now : ℕ) (tasks : List Standing) → count_by (has_run_out now) tasks ≡ 0 → map (expired now) tasks ≡ tasks
none_expired now [] none = refl
none_expired now (Free ∷ ss) none = ap (λ (l : List Standing). Free ∷ l) (none_expired now ss (omega (arith, none, run_out_more now Free ss)))
none_expired now (Done t ∷ ss) none = ap (λ (l : List Standing). Done t ∷ l) (none_expired now ss (omega (arith, none, run_out_more now (Done t) ss)))
none_expired now (Leased t u ∷ ss) none =
    let more = run_out_more now (Leased t u) ss in
    let n : ℕ = cond (nat_le u now) 1 0 in
    let here : n ≡ 0 = omega (arith, none, more) in
    (λ i. still_leased (nat_le u now) t u n refl here i ∷ none_expired now ss (omega (arith, none, more)) i)

-- no lease is left once all is done
pub none_done : (tasks : List Standing) → AllDone tasks → leased_count tasks ≡ 0
none_done [] all = refl
none_done (Free ∷ ss) all = absurd (all 0 (omega arith))
none_done (Leased t u ∷ ss) all = absurd (all 0 (omega arith))
none_done (Done t ∷ ss) all = none_done ss (λ task within. all (suc task) (omega (arith, within)))

pub none_free : (n : ℕ) → leased_count (replicate n Free) ≡ 0
none_free zero = refl
none_free (suc n) = none_free n

-- a task that is leased by a ticket
pub held : (standing : Option Standing) (ticket : ℕ) → IsLeasedBy ticket standing → (until : ℕ) × (standing ≡ Some (Leased ticket until))
held None ticket never = absurd never
held (Some Free) ticket never = absurd never
held (Some (Done t)) ticket never = absurd never
held (Some (Leased t u)) ticket is = (u, ap (λ (k : ℕ). Some (Leased k u)) is)

pub one_within : (tasks : List Standing) (task : ℕ) (standing : Standing) → slice_get tasks task ≡ Some standing → task < length tasks
one_within [] task standing is = absurd (cc)
one_within (s ∷ ss) zero standing is = omega arith
one_within (s ∷ ss) (suc i) standing is = omega (arith, one_within ss i standing is)
