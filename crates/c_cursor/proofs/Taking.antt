-- What code that takes a token has to do with a terminal.
use Rattle.std.specs.Prelude.{◌≡◌, ◌≢◌, Bool, Result, Ok, Err, IfOk, OnOk, IfErr}
use Rattle.std.proofs.Common.{sym, ap, ◌∙◌}
use denote.Bor.{Bor}
use Rattle.c_tree.specs.declared.lexeme.Lexeme.{Lexeme}
use Rattle.c_grammar.specs.State.{State, read, deepen}
use Rattle.c_grammar.specs.Terminals as w
use Rattle.c_cursor.specs.declared.error.ReadError.{ReadError}
use Rattle.c_cursor.specs.declared.error.ReadError.TheVariants as errors
use Rattle.c_cursor.specs.Parsers.{Input, take, Takes}

-- an operator behind its operand
pub takes_operator : (fits : State → Lexeme → Bool) (start new : Input) (result : Result (Bor Lexeme) ReadError)
    → IfOk result (λ token. take (w.operator (w.terminal fits w.unchanged)) start ≡ Ok (token.now, record { state = deepen (read start.state); rest = new.rest }))
    → OnOk result (new.state ≡ deepen (read start.state))
    → IfErr result (λ e. e ≢ errors.NoMemory → take (w.operator (w.terminal fits w.unchanged)) start ≡ Err e)
    → Takes (take (w.operator (w.terminal fits w.unchanged)) start) result new
takes_operator fits start new (Ok token) p q r = p ∙ ap (λ (s : State). Ok (token.now, record { state = s; rest = new.rest })) (sym q)
takes_operator fits start new (Err e) p q r = r
