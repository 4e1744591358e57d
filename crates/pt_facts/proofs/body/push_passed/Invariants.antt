use Rattle.std.proofs.Common.{◌≡◌, ◌++◌, drop}
use Rattle.pt_facts.specs.Facts.{passed_facts}
use Rattle.pt_facts.proofs.body.push_passed.Given as goal

abbrev pub invariant-loop-a : goal.invariant-loop-a
invariant-loop-a l = l.facts.items ++ passed_facts l.x.base l.x.f.now l.entry l.callee l.i (drop l.a-index l.args) ≡ l.initial.facts.items ++ passed_facts l.x.base l.x.f.now l.entry l.callee 0 l.args
