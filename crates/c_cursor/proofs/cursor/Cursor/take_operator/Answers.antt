use Rattle.c_grammar.specs.Terminals as w
use Rattle.c_cursor.proofs.Taking.{takes_operator}
use Rattle.c_cursor.proofs.cursor.Cursor.take_operator.Goals as goal

pub returns-clause-takes : goal.returns-clause-takes
returns-clause-takes c =
    let terminal = w.operator (w.mark c.args.mark) in
    takes_operator (w.mark c.args.mark).fits _ _ _ (c.take_operator_if.ensures.takes terminal c.sees_mark-fits.ensures) c.take_operator_if.ensures.reads
    (c.take_operator_if.ensures.refuses terminal c.sees_mark-fits.ensures)
