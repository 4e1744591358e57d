-- Each turn leaves less to be done.
use Rattle.std.proofs.Common.{◌≡◌, ◌⊎◌, inl, inr, ℕ, zero, suc, ◌+◌, ◌^◌, ◌<◌, ◌≤◌, Bool, true, false, cond, List, [], ◌∷◌, replicate, refl, ◌∙◌, ap, arith}
use Rattle.lease_table.specs.declared.standing.Standing.{Standing}
use Rattle.lease_table.specs.declared.standing.Standing.TheVariants.{Free, Leased, Done}
use Rattle.lease_table.specs.Machine.{Machine, Advances, Ends}
use Rattle.lease_table.specs.Standings.{AllDone}
use Rattle.worker_loop.specs.Left.{all_done, waits, left_of}

bool_few : (a b : Bool) → cond a 0 (cond b 1 0) ≤ 1
bool_few true b = omega arith
bool_few false true = omega arith
bool_few false false = omega arith

all_are : (tasks : List Standing) → AllDone tasks → all_done tasks ≡ true
all_are [] all = refl
all_are (Free ∷ ss) all = absurd (all 0 (omega arith))
all_are (Leased t u ∷ ss) all = absurd (all 0 (omega arith))
all_are (Done t ∷ ss) all = all_are ss (λ task within. all (suc task) (omega (arith, within)))

free_are : (n : ℕ) → 0 < n → all_done (replicate n Free) ≡ false
free_are zero some = absurd (omega (arith, some))
free_are (suc n) some = refl

-- records were written
pub less_written : (old new : Machine) (gate gate' : ℕ) → gate + 1 ≤ gate' → gate' ≤ 2 ^ 31 → left_of new gate' < left_of old gate
less_written old new gate gate' more most = omega (arith, more, most, bool_few new.ended (all_done new.tasks))

module _ (P : ℕ → Type 0) (Q : Type 0) where
  -- the next round began, or there is none
  pub less_advanced : (old new : Machine) (gate : ℕ) → AllDone old.tasks → old.ended ≡ false
      → ((tasks : ℕ) × (0 < tasks) × Advances tasks old new × P tasks) ⊎ (Ends old new × Q) → left_of new gate < left_of old gate
  less_advanced old new gate all going follows =
      let before : waits old ≡ 1 = (λ i. cond (going i) 0 (cond (all_are old.tasks all i) 1 0)) in
      elim follows [
        | inl next ↦
            let tasks : all_done new.tasks ≡ false = ap (λ (m : Machine). all_done m.tasks) next.2.2 ∙ free_are next.0 next.1 in
            let ended : new.ended ≡ false = ap (λ (m : Machine). m.ended) next.2.2 ∙ going in
            let now : waits new ≡ 0 = (λ i. cond (ended i) 0 (cond (tasks i) 1 0)) in
            omega (arith, before, now)
        | inr last ↦
            let ended : new.ended ≡ true = ap (λ (m : Machine). m.ended) last.0.2 in
            let now : waits new ≡ 0 = (λ i. cond (ended i) 0 (cond (all_done new.tasks) 1 0)) in
            omega (arith, before, now)
      ]
