use Rattle.std.proofs.Common.{◌≡◌, ◌++◌, drop, map, cond}
use Rattle.sv_base.specs.declared.colour.Colour.TheVariants as colours
use Rattle.survey.specs.Colours.{line_of, lines_from}
use Rattle.survey.proofs.colours.lines_of.Given as goal

abbrev pub invariant-loop-store : goal.invariant-loop-store
invariant-loop-store l =
    let left = drop l.store-index l.program.stores in
    l.lines ++ cond l.is_past (map (λ t. line_of l.name t colours.Unreachable) left) (lines_from l.name l.program.arrays left) ≡ lines_from l.name l.program.arrays l.program.stores
