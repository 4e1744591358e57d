use Rattle.std.proofs.Common.{◌≡◌, ap}
use mir.Syntax.{w128}
use Rattle.std.proofs.lemmas.Int.{to_z-of_z}
use Rattle.var_state.specs.Grids.{Raw}
use Rattle.var_state.proofs.grid.Grid.set_sum.Goals as goal

pub returns-clause-value : goal.returns-clause-value
returns-clause-value c = λ i j f t p q pp qq.
    let s : c.self.inside.size ≡ c.args.self.now.size = ap (λ (m : Raw). m.size) c.self.view_is in
    let k : c.self.inside.cells.items ≡ c.args.self.now.cells = ap (λ (m : Raw). m.cells) c.self.view_is in
    let fits = to_z-of_z w128 c.args.c c.ranges.c in
    let h = c.set_sum.ensures.value t p q (rw s pp) (rw s qq) in
    cc
