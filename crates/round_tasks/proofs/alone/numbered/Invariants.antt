use Rattle.std.proofs.Common.{◌≡◌, ◌++◌, drop}
use Rattle.round_tasks.specs.Rounds.{numbered}
use Rattle.round_tasks.proofs.alone.numbered.Given as goal

abbrev pub invariant-loop-colour : goal.invariant-loop-colour
invariant-loop-colour l = record {
  sites : l.site ≡ l.colour-index;
  done : l.list.items ++ numbered l.colour-index (drop l.colour-index l.colours) ≡ numbered 0 l.colours;
}
