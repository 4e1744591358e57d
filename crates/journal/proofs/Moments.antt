-- How a run of disk calls goes on.
use Rattle.std.proofs.Common.{refl, sym, subst, inl, inr, ⊎_elim, ℕ, List, arith}
use Rattle.sv_outside.specs.Disk.{Elapses, LeavesOnly, Torn, Cut, IsStill}

-- a write that did nothing
pub torn_same : (at n : ℕ) (image : List ℕ) → Torn at n image image
torn_same at n image = record { before = refl; after = refl; no_shorter = omega arith; no_longer = omega arith }

-- a cut that did nothing
pub cut_same : (n : ℕ) (image : List ℕ) → Cut n image image
cut_same n image = record { no_shorter = omega arith; no_longer = omega arith; front = refl }

module _ {D : Type 0} (moment : D → ℕ) (left_since : D → ℕ → List ℕ → Type 0) where
  -- before the first call
  pub started : (old : D) (P : List ℕ → Type 0) → ((c : List ℕ) → left_since old (moment old) c → P c) → LeavesOnly moment left_since old old P
  started old P here = record { later = omega arith; each = here; before = λ t c le left. inl left }

  -- one call more, after which a crash leaves what has P
  pub goes_on : (old mid new : D) (P may_leave : List ℕ → Type 0) → LeavesOnly moment left_since old mid P → Elapses (moment mid) (moment new) (left_since mid) (left_since new) may_leave
      → ((c : List ℕ) → may_leave c → P c) → LeavesOnly moment left_since old new P
  goes_on old mid new P may_leave so_far time here = record {
    later = omega (arith, so_far.later, time.later);
    each = λ c left. ⊎_elim (so_far.each c) (here c) (time.nothing_else (moment old) c so_far.later left);
    before = λ t c le left. ⊎_elim (so_far.before t c le) (λ now. inr (here c now)) (time.nothing_else t c (omega (arith, le, so_far.later)) left);
  }

  -- one run after another
  pub then_on : (old mid new : D) (P Q R : List ℕ → Type 0) → LeavesOnly moment left_since old mid P → LeavesOnly moment left_since mid new Q
      → ((c : List ℕ) → P c → R c) → ((c : List ℕ) → Q c → R c) → LeavesOnly moment left_since old new R
  then_on old mid new P Q R one two p q = record {
    later = omega (arith, one.later, two.later);
    each = λ c left. ⊎_elim (λ was. p c (one.each c was)) (q c) (two.before (moment old) c one.later left);
    before = λ t c le left. ⊎_elim (λ was. ⊎_elim (λ b. inl b) (λ h. inr (p c h)) (one.before t c le was)) (λ h. inr (q c h)) (two.before t c (omega (arith, le, one.later)) left);
  }

  pub weaker : (old new : D) (P R : List ℕ → Type 0) → LeavesOnly moment left_since old new P → ((c : List ℕ) → P c → R c) → LeavesOnly moment left_since old new R
  weaker old new P R one p = record { later = one.later; each = λ c left. p c (one.each c left); before = λ t c le left. ⊎_elim (λ b. inl b) (λ h. inr (p c h)) (one.before t c le left) }

  -- a call that changes nothing, before a run
  pub still_on : (old mid new : D) (P : List ℕ → Type 0) (was is : List ℕ → Type 0) → IsStill (moment old) (moment mid) (left_since old) (left_since mid) was is → LeavesOnly moment left_since mid new P → LeavesOnly moment left_since old new P
  still_on old mid new P was is still run = record {
    later = omega (arith, still.moment, run.later);
    each = λ c left. run.each c (subst (λ (t : ℕ). left_since new t c) (sym still.moment) left);
    before = λ t c le left. ⊎_elim (λ b. inl ((still.past_same t c).0 b)) (λ h. inr h) (run.before t c (omega (arith, le, still.moment)) left);
  }

  -- a call that changes nothing, after a run
  pub on_still : (old mid new : D) (P : List ℕ → Type 0) (was is : List ℕ → Type 0) → LeavesOnly moment left_since old mid P → IsStill (moment mid) (moment new) (left_since mid) (left_since new) was is → LeavesOnly moment left_since old new P
  on_still old mid new P was is run still = record {
    later = omega (arith, still.moment, run.later);
    each = λ c left. run.each c ((still.past_same (moment old) c).0 left);
    before = λ t c le left. run.before t c le ((still.past_same t c).0 left);
  }

  -- a call that changes nothing
  pub resting : (old new : D) (P : List ℕ → Type 0) (was is : List ℕ → Type 0) → IsStill (moment old) (moment new) (left_since old) (left_since new) was is → ((c : List ℕ) → left_since old (moment old) c → P c) → LeavesOnly moment left_since old new P
  resting old new P was is still here = on_still old old new P was is (started old P here) still
