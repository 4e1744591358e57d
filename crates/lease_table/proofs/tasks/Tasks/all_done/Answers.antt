use Rattle.std.proofs.Common.{◌≡◌, ◌<◌, length, None, arith, sym, ◌∙◌, ap}
use Rattle.std.specs.Prelude.{is_some, not}
use Rattle.std.proofs.lemmas.List.{get_or_read}
use Rattle.std.proofs.lemmas.Nat.{pow_pos}
use Rattle.lease_table.specs.Times.{time_at}
use Rattle.lease_table.proofs.Open.{all_done, some_not_done}
use Rattle.lease_table.proofs.tasks.Tasks.all_done.Goals as goal

root : (c : goal.After-is_none) → is_some (time_at c.self.inside.times.items 1) ≡ not c.is_none.result
root c =
    let times = c.self.inside.times.items in
    let some : 1 < length times = omega (arith, c.self.invariant.tree.long, pow_pos c.self.inside.height) in
    ap is_some (sym (get_or_read times 1 c.index.result.now some c.index.ensures None)) ∙ c.is_none.ensures

pub returns-clause-all : goal.returns-clause-all
returns-clause-all c =
    λ all. rw (← c.self.view_is) (all_done c.self.inside.height c.self.inside.standings.items _ c.self.inside.times.items c.self.invariant (root c ∙ ap not all))

pub returns-clause-some : goal.returns-clause-some
returns-clause-some c =
    λ some. rw (← c.self.view_is) (some_not_done c.self.inside.height c.self.inside.standings.items _ c.self.inside.times.items c.self.invariant (root c ∙ ap not some))
