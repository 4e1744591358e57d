use Rattle.c_lexer.proofs.Periods.{at_dots, at_dot}
use Rattle.c_lexer.proofs.marks.period.Goals as goal

pub returns-then-starts_with-clause-value : goal.returns-then-starts_with-clause-value
returns-then-starts_with-clause-value c = at_dots c.args.rest.now c.if-starts_with.ensures.value

pub returns-else-starts_with-clause-value : goal.returns-else-starts_with-clause-value
returns-else-starts_with-clause-value c = at_dot c.args.rest.now c.if-starts_with.ensures.value
