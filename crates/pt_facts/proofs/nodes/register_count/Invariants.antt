use Rattle.std.proofs.Common.{◌≡◌, ◌+◌, drop}
use Rattle.pt_facts.specs.Nodes.{registers_of}
use Rattle.pt_facts.proofs.nodes.register_count.Given as goal

abbrev pub invariant-loop-f : goal.invariant-loop-f
invariant-loop-f l = l.count + registers_of (drop l.f-index l.functions) ≡ registers_of l.functions
