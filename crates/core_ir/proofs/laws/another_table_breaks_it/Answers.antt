use Rattle.core_ir.proofs.Fitting.{registers_counted, rivals_listed, starts_counted}
use Rattle.core_ir.proofs.laws.another_table_breaks_it.Goals as goal

pub returns-clause-registers : goal.returns-clause-registers
returns-clause-registers c = registers_counted

pub returns-clause-rivals : goal.returns-clause-rivals
returns-clause-rivals c = rivals_listed

pub returns-clause-starts : goal.returns-clause-starts
returns-clause-starts c = starts_counted
