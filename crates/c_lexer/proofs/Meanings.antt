-- What the lexer makes of a token's text is what the text means.
use Rattle.std.proofs.Common.{◌≡◌, ℕ, ◌-◌, Bool, List, [], ◌∷◌, ◌++◌, length, Option, Some, None, refl, ap, ◌∙◌, arith, length-append}
use Rattle.std.proofs.lemmas.List.{take_at}
use Rattle.c_values.specs.declared.int_type.IntType.{IntType}
use Rattle.c_lexer.specs.Bytes.{Text}
use Rattle.c_lexer.specs.Shapes.{CanBe}
use Rattle.c_lexer.specs.Characters.{Reads}
use Rattle.c_lexer.specs.Meaning.{Meaning, Means, character_meaning, text_meaning, widened}
use Rattle.c_lexer.specs.computed.Values.{number_kind, constant, all_characters, unquoted, meaning}
use Rattle.c_lexer.specs.declared.character.Character.{Character}
use Rattle.c_lexer.specs.declared.shape.Shape.{Shape}
use Rattle.c_lexer.specs.declared.shape.Shape.TheVariants as shapes
use Rattle.c_lexer.proofs.ConstantsRead.{is_constant, constant_is, none_is, constant_none}
use Rattle.c_lexer.proofs.CharactersRead.{reads, reads_is}

-- what stands between the quotes
unquoted_is : (q : ℕ) (body : Text) → unquoted (q ∷ (body ++ q ∷ [])) ≡ body
unquoted_is q body =
    let len : length (q ∷ (body ++ q ∷ [])) - 2 ≡ length body = (let e = length-append body (q ∷ []) in omega (arith, e)) in
    rw len (take_at body (q ∷ []) _ refl)

number_means : (wide : Bool) (text : Text) (o : Option (ℕ × IntType)) → constant text ≡ o → Means wide shapes.Number text (number_kind text o)
number_means wide text None e = Means.other_number (none_is text e)
number_means wide text (Some p) e = Means.constant (is_constant text p.0 p.1 e)

pub means : (wide : Bool) (shape : Shape) (text : Text) → CanBe shape text → Means wide shape text (meaning wide shape text)
unfolding meaning
means wide shapes.Word text h = Means.word
means wide shapes.Number text h = number_means wide text (constant text) refl
means wide shapes.Character text h =
    let inside = unquoted_is 39 h.body in
    rw h.cut (rw inside (Means.character h.body (reads (length h.body) h.body (omega arith))))
means wide shapes.Text text h =
    let inside = unquoted_is 34 h.body in
    rw h.cut (rw inside (Means.string h.body (reads (length h.body) h.body (omega arith))))
means wide (shapes.Mark number) text h = Means.mark

all_are : (q : ℕ) (body : Text) (cs : List Character) → Reads body cs → all_characters (unquoted (q ∷ (body ++ q ∷ []))) ≡ cs
all_are q body cs h = ap all_characters (unquoted_is q body) ∙ reads_is (length body) body cs (omega arith) h

pub meaning_is : (wide : Bool) (shape : Shape) (text : Text) (m : Meaning) → Means wide shape text m → meaning wide shape text ≡ m
unfolding meaning
meaning_is wide shape text m Means.word = refl
meaning_is wide shape text m (Means.constant {value = value} {kind = kind} h) = ap (number_kind text) (constant_is text value kind h)
meaning_is wide shape text m (Means.other_number never) = ap (number_kind text) (constant_none text never)
meaning_is wide shape text m (Means.character body {cs = cs} h) = ap (λ (t : List Character). widened wide (character_meaning t)) (all_are 39 body cs h)
meaning_is wide shape text m (Means.string body {cs = cs} h) = ap (λ (t : List Character). widened wide (text_meaning t)) (all_are 34 body cs h)
meaning_is wide shape text m Means.mark = refl
