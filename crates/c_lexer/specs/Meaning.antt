-- What a token's text means: its kind, or the fault that refuses it.
use Rattle.std.specs.Prelude.{ℕ, Bool, true, false, ◌&&◌, ◌||◌, ◌==◌, nat_lt, if◌then◌else◌, List, [], ◌∷◌, ◌++◌, Option, Some, None, Result, Ok, Err, ℤ, pos, ◌-ℤ◌}
use Rattle.std.specs.List.{list_any}
use Rattle.sv_base.specs.declared.fault.FaultKind.{FaultKind}
use Rattle.sv_base.specs.declared.fault.FaultKind.TheVariants as faults
use Rattle.c_values.specs.declared.int_type.IntType.{IntType}
use Rattle.c_syntax.specs.Keywords.{keyword_number}
use Rattle.c_syntax.specs.declared.token.TokenKind.{TokenKind}
use Rattle.c_syntax.specs.declared.token.TokenKind.TheVariants as kinds
use Rattle.c_lexer.specs.Bytes.{Text}
use Rattle.c_lexer.specs.Constants.{IsConstant, is_x}
use Rattle.c_lexer.specs.Characters.{Reads}
use Rattle.c_lexer.specs.declared.character.Character.{Character}
use Rattle.c_lexer.specs.declared.character.Character.TheVariants as characters
use Rattle.c_lexer.specs.declared.shape.Shape.{Shape}
use Rattle.c_lexer.specs.declared.shape.Shape.TheVariants as shapes

abbrev pub Meaning : Type 0
Meaning = Result TokenKind FaultKind

abbrev pub wide_character : FaultKind
wide_character = faults.Unsupported 3

-- a word is a keyword (6.4.1) or a name
abbrev pub word_kind_by : Option ℕ → TokenKind
word_kind_by (Some n) = kinds.Word n
word_kind_by None = kinds.Name

unfoldable pub word_kind : Text → TokenKind
word_kind text = word_kind_by (keyword_number text)

-- ---- numbers
-- the text begins with `0x` or `0X`
abbrev pub is_hexadecimal_text : Text → Bool
is_hexadecimal_text [] = false
is_hexadecimal_text (a ∷ []) = false
is_hexadecimal_text (a ∷ b ∷ bs) = (a == 48) && is_x b

-- a number with a period, or with the exponent of its base, is a floating constant or would be one (6.4.4.2)
abbrev pub is_floating_byte : Bool → ℕ → Bool
is_floating_byte true b = (b == 46) || (b == 112) || (b == 80)
is_floating_byte false b = (b == 46) || (b == 101) || (b == 69)

unfoldable pub is_floating : Text → Bool
is_floating text = list_any (is_floating_byte (is_hexadecimal_text text)) text

abbrev pub no_constant : Text → Meaning
no_constant text = if is_floating text then Err (faults.Unsupported 1) else Err faults.Lex

-- ---- literals
abbrev pub is_wrong : Character → Bool
is_wrong characters.Wrong = true
is_wrong characters.Universal = false
is_wrong (characters.Byte v) = false

abbrev pub is_universal_name : Character → Bool
is_universal_name characters.Wrong = false
is_universal_name characters.Universal = true
is_universal_name (characters.Byte v) = false

-- the value of a byte as a signed `char`
abbrev pub signed : ℕ → ℤ
signed v = if nat_lt v 128 then pos v else pos v -ℤ pos 256

abbrev pub only_character : List Character → Meaning
only_character [] = Err faults.Lex
only_character (characters.Byte v ∷ []) = Ok (kinds.Character (signed v))
only_character (c ∷ cs) = Err wide_character

-- a character constant has one character; several are not supported, none is no token
abbrev pub character_meaning : List Character → Meaning
character_meaning cs = if list_any is_wrong cs then Err faults.Lex else only_character cs

abbrev pub text_meaning : List Character → Meaning
text_meaning cs = if list_any is_wrong cs then Err faults.Lex else if list_any is_universal_name cs then Err wide_character else Ok kinds.Text

-- directly behind the name `L` a literal is wide, unless it is no literal
abbrev pub widened : Bool → Meaning → Meaning
widened false m = m
widened true (Ok kind) = Err wide_character
widened true (Err faults.Lex) = Err faults.Lex
widened true (Err fault) = Err wide_character

-- ---- what a text of a shape means; the truth value says if it stands directly behind the name `L`
pub data Means : Bool → Shape → Text → Meaning → Type 0 where
  word : {wide : Bool} {text : Text} → Means wide shapes.Word text (Ok (word_kind text))
  constant : {wide : Bool} {text : Text} {value : ℕ} {kind : IntType} → IsConstant text value kind → Means wide shapes.Number text (Ok (kinds.Number kind value))
  other_number : {wide : Bool} {text : Text} → ((value : ℕ) (kind : IntType) → IsConstant text value kind → ⊥) → Means wide shapes.Number text (no_constant text)
  character : {wide : Bool} (body : Text) {cs : List Character} → Reads body cs → Means wide shapes.Character (39 ∷ (body ++ 39 ∷ [])) (widened wide (character_meaning cs))
  string : {wide : Bool} (body : Text) {cs : List Character} → Reads body cs → Means wide shapes.Text (34 ∷ (body ++ 34 ∷ [])) (widened wide (text_meaning cs))
  mark : {wide : Bool} {text : Text} {number : ℕ} → Means wide (shapes.Mark number) text (Ok (kinds.Mark number))
