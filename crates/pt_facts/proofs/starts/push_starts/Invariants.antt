use Rattle.std.proofs.Common.{◌≡◌, ◌++◌, drop}
use Rattle.core_ir.specs.Plain.{lists_of}
use Rattle.pt_facts.specs.Facts.{start_facts}
use Rattle.pt_facts.proofs.starts.push_starts.Given as goal

abbrev pub invariant-loop-targets : goal.invariant-loop-targets
invariant-loop-targets l = (l.facts.items ++ start_facts l.leaves l.registers l.c (lists_of (drop l.targets-index l.starts)) ≡ l.initial.facts.items ++ start_facts l.leaves l.registers 0 (lists_of l.starts)) × (l.c ≡ l.targets-index)
