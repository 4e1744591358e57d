use Rattle.std.proofs.Common.{ℕ, List, sym, subst}
use Rattle.sv_outside.specs.Disk.{Cut}
use Rattle.journal.proofs.Moments.{started, goes_on, cut_same}
use Rattle.journal.proofs.cut.cut_synced.Goals as goal

pub returns-clause-any_moment : goal.returns-clause-any_moment
returns-clause-any_moment g c = λ told now only.
    let moment = g.D.Disk.moment in
    let since = g.D.Disk.left_since in
    let old = c.args.disk.now in
    let mid = c.cut.new.self in
    let new = c.sync.new.self in
    let P : List ℕ → Type 0 = Cut c.args.to now in
    let here : (x : List ℕ) → g.D.Disk.left_since old (g.D.Disk.moment old) x → P x = λ x left. subst P (sym (only x (g.met.D.Disk.only_now old x left))) (cut_same c.args.to now) in
    let torn : (x : List ℕ) → g.D.Disk.may_leave mid x → P x = λ x left.
    let from = c.cut.ensures.crash x left in
    subst (λ (d : List ℕ). Cut c.args.to d x) (only from.0 from.1) from.2 in
    let first = goes_on moment since old old mid P (g.D.Disk.may_leave mid) (started moment since old P here) c.cut.ensures.time torn in
    goes_on moment since old mid new P (g.D.Disk.may_leave new) first c.sync.ensures.time (λ x left. torn x (c.sync.ensures.crash x left))
