use Rattle.std.proofs.Common.{inl, inr, sym}
use Rattle.std.proofs.lemmas.Bool.{eqb-true}
use Rattle.c_lexer.proofs.Flaws.{some_left}
use Rattle.c_lexer.proofs.OnlyCharacter.{none, several, one_byte, one_universal, one_wrong}
use Rattle.c_lexer.proofs.meaning.only_character.Goals as goal

pub returns-then-is_empty : goal.returns-then-is_empty
returns-then-is_empty c = none c.args.body.now (eqb-true _ _ (sym c.if-is_empty.ensures))

pub returns-then-len-body : goal.returns-then-len-body
returns-then-len-body c =
    let some = some_left c.args.body.now c.if-is_empty.ensures in
    let at = c.character_at-character.ensures in
    several c.args.body.now some (rw (sym at.value) (at.some some)) (rw (sym at.value) c.if-len-body.true)

pub returns-in-Byte : goal.returns-in-Byte
returns-in-Byte c =
    let some = some_left c.args.body.now c.if-is_empty.ensures in
    let at = c.character_at-character.ensures.value in
    rw c.byte_constant.ensures (one_byte c.args.body.now c.in-Byte.value some (rw (sym at) c.if-len-body.false) (rw (sym at) c.in-Byte.is))

pub returns-in-Universal : goal.returns-in-Universal
returns-in-Universal c =
    let some = some_left c.args.body.now c.if-is_empty.ensures in
    let at = c.character_at-character.ensures.value in
    elim c.in-Universal.is [
      | inl is ↦ one_universal c.args.body.now some (rw (sym at) c.if-len-body.false) (rw (sym at) is)
      | inr is ↦ one_wrong c.args.body.now some (rw (sym at) c.if-len-body.false) (rw (sym at) is)
    ]
