use Rattle.std.proofs.lemmas.List.Filters.{dedup_is}
use Rattle.std.proofs.lemmas.List.Kept.{IsStrictlySortedBy-dedup}
use Rattle.std.proofs.Common.{sym}
use Rattle.pt_facts.proofs.Sorting.{constraint_total, ties, kept}
use Rattle.pt_facts.proofs.facts.constraints.Goals as goal

pub returns-clause-ascending : goal.returns-clause-ascending
returns-clause-ascending c = rw (dedup_is _ _ _ c.dedup.ensures.filtered) (IsStrictlySortedBy-dedup constraint_total ties _ c.in_ok-sort.ensures.sorted)

pub returns-clause-members : goal.returns-clause-members
returns-clause-members c = λ constraint. rw (dedup_is _ _ _ c.dedup.ensures.filtered) (rw (sym c.in_ok-facts.ensures) (kept c.in_ok-facts.facts.items c.sort.new.self.items c.sort.ensures.permutation constraint))
