use Rattle.std.proofs.Common.{◌≡◌, ℕ, ◌≤◌, IsTrue, Bool, true, false, arith, below_more}
use Rattle.dbm_matrix.specs.Bounds.{at}
use Rattle.dbm_matrix.proofs.Paths.{between_closure, between_no_cycle}
use Rattle.dbm_matrix.proofs.Closure.{IsNegative, closed_first, closed_next, ended, zero_at, doubled, in_reach}
use Rattle.dbm_matrix.proofs.closing.close.Goals as goal

not_here : (b : Bool) (P : Type 0) → (IsTrue b → P) × (P → IsTrue b) → b ≡ false → P → ⊥
not_here b P h e p = let t : b ≡ true = h.1 p in cc

pub loop-k-init : goal.loop-k-init
loop-k-init c = (
  c.clear_diagonal.ensures.len,
  closed_first c.args.n (at c.args.cells.now) (at c.clear_diagonal.new.cells) c.clear_diagonal.ensures.diagonal
      (λ i j jj n. c.clear_diagonal.ensures.others i j (omega arith) n) c.requires.within,
)

pub relax_all-requires-clause-within : goal.relax_all-requires-clause-within
relax_all-requires-clause-within c = in_reach c.loop-k.k c.args.n (at c.loop-k.cells) (omega arith) c.loop-k.invariant.1.within

pub loop-k-preserved : goal.loop-k-preserved
loop-k-preserved c =
    let so = c.loop-k.invariant.1 in
    let kk : c.loop-k.k ≤ c.args.n = omega arith in
    let here = zero_at c.args.n c.loop-k.k c.loop-k.k (at c.args.cells.now) (at c.loop-k.cells) so kk (not_here c.is_negative.result _ c.is_negative.ensures.negative c.if-is_negative.false) in (
      c.relax_all.ensures.len,
      closed_next c.args.n c.loop-k.k (at c.args.cells.now) (at c.loop-k.cells) (at c.relax_all.new.cells) kk here so c.relax_all.ensures.all
          (doubled c.loop-k.k c.args.n (at c.loop-k.cells) (at c.relax_all.new.cells) kk so.within c.relax_all.ensures.all),
    )

pub loop-i-preserved : goal.loop-i-preserved
loop-i-preserved c = below_more (λ (r : ℕ). ¬ (IsNegative (at c.loop-k.cells) r)) c.loop-i.i c.loop-i.invariant
    (not_here c.is_negative-in-loop-i.result _ c.is_negative-in-loop-i.ensures.negative c.if-is_negative-2.false)

pub returns-clause-feasible : goal.returns-clause-feasible
returns-clause-feasible c = λ _. between_closure c.args.n (at c.args.cells.now) (at c.loop-k.cells) (ended c.args.n c.loop-k.k (at c.args.cells.now) (at c.loop-k.cells) c.loop-k.invariant.1 (omega arith) (λ i ii. c.loop-i.invariant i (omega arith)))

pub returns-clause-closed : goal.returns-clause-closed
returns-clause-closed c = λ _. (ended c.args.n c.loop-k.k (at c.args.cells.now) (at c.loop-k.cells) c.loop-k.invariant.1 (omega arith) (λ i ii. c.loop-i.invariant i (omega arith))).closed

pub returns-clause-empty : goal.returns-clause-empty
returns-clause-empty c = (
  λ e. absurd (cc),
  λ h. absurd (between_no_cycle c.args.n (at c.args.cells.now) (at c.loop-k.cells) (ended c.args.n c.loop-k.k (at c.args.cells.now) (at c.loop-k.cells) c.loop-k.invariant.1 (omega arith) (λ i ii. c.loop-i.invariant i (omega arith))) h),
)
