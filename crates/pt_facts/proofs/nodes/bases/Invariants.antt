use Rattle.std.proofs.Common.{◌≡◌, ◌+◌, ◌++◌, drop}
use Rattle.pt_facts.specs.computed.Bases.{bases_from}
use Rattle.pt_facts.specs.Nodes.{registers_of}
use Rattle.pt_facts.proofs.nodes.bases.Given as goal

abbrev pub invariant-loop-f : goal.invariant-loop-f
invariant-loop-f l = (l.bases.items ++ bases_from l.base (drop l.f-index l.functions) ≡ bases_from 0 l.functions) × (l.base + registers_of (drop l.f-index l.functions) ≡ registers_of l.functions)
