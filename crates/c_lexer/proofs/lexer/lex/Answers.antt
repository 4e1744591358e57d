use Rattle.c_lexer.proofs.Whole.{lexed_run, lexed_fault, too_large, names_stand}
use Rattle.c_lexer.proofs.lexer.lex.Goals as goal

pub returns-then-bytes-gt-FILE_BYTES-clause-fault : goal.returns-then-bytes-gt-FILE_BYTES-clause-fault
returns-then-bytes-gt-FILE_BYTES-clause-fault c = λ fault is.
    too_large c.args.bytes.now c.args.name c.args.room c.args.names.now c.of_file.result fault c.if-bytes-gt-FILE_BYTES.true c.of_file.ensures is

pub returns-in-Ok-clause-tokens : goal.returns-in-Ok-clause-tokens
returns-in-Ok-clause-tokens c =
    lexed_run c.args.bytes.now c.args.name c.args.room c.args.names.now _ c.at_start.result c.if-bytes-gt-FILE_BYTES.false c.at_start.ensures c.in-Ok.ensures.gives

pub returns-in-Ok-clause-kept : goal.returns-in-Ok-clause-kept
returns-in-Ok-clause-kept c = λ k lt. names_stand c.args.names.now c.tokens_from.new.names k c.in-Ok.ensures.kept lt

pub returns-in-Err-clause-fault : goal.returns-in-Err-clause-fault
returns-in-Err-clause-fault c = λ fault is.
    lexed_fault c.args.bytes.now c.args.name c.args.room c.args.names.now c.tokens_from.new.names c.at_start.result fault c.in-Err.refusal c.if-bytes-gt-FILE_BYTES.false c.at_start.ensures
    c.in-Err.ensures.refuses is

pub returns-in-Err-clause-kept : goal.returns-in-Err-clause-kept
returns-in-Err-clause-kept c = λ k lt. names_stand c.args.names.now c.tokens_from.new.names k c.in-Err.ensures.kept lt
