use Rattle.std.proofs.Common.{◌≡◌, ◌++◌, drop}
use Rattle.pt_facts.specs.Facts.{argument_facts}
use Rattle.pt_facts.proofs.body.push_arguments.Given as goal

abbrev pub invariant-loop-a : goal.invariant-loop-a
invariant-loop-a l = l.facts.items ++ argument_facts l.x.base l.x.f.now l.register l.i (drop l.a-index l.args) ≡ l.initial.facts.items ++ argument_facts l.x.base l.x.f.now l.register 0 l.args
