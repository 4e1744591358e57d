use Rattle.std.proofs.Common.{ap, ◌∙◌}
use Rattle.c_lexer.specs.computed.Marks.{mark_len}
use Rattle.c_lexer.proofs.Periods.{front_is}
use Rattle.c_lexer.proofs.marks.mark_len.Goals as goal

pub returns-in-46-clause-value : goal.returns-in-46-clause-value
returns-in-46-clause-value c = c.period.ensures.value ∙ ap mark_len (front_is c.args.text.now 46 c.in-len1-up.len_at_least c.in-46.is)
