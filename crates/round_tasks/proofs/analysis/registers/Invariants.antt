use Rattle.std.proofs.Common.{◌≡◌, ◌+◌, drop}
use Rattle.pt_facts.specs.Nodes.{registers_of}
use Rattle.round_tasks.proofs.analysis.registers.Given as goal

abbrev pub invariant-loop-f : goal.invariant-loop-f
invariant-loop-f l = l.count + registers_of (drop l.f-index l.functions) ≡ registers_of l.functions
