-- The value of a constant, and the characters of a literal, as the lexer computes them.
use Rattle.std.specs.Prelude.{ℕ, zero, suc, ◌+◌, ◌-◌, Bool, ◌==◌, if◌then◌else◌, min, List, [], ◌∷◌, length, take, drop, Option, Some, None, Ok}
use Rattle.std.specs.List.{prefix_len}
use Rattle.std.specs.Str.Parse.{digits_value}
use Rattle.c_values.specs.declared.int_type.IntType.{IntType}
use Rattle.c_syntax.specs.declared.token.TokenKind.TheVariants as kinds
use Rattle.c_lexer.specs.Bytes.{Text, is_digit, is_octal, is_hexadecimal}
use Rattle.c_lexer.specs.Constants.{is_x, suffix_of, candidates, first_holding}
use Rattle.c_lexer.specs.Characters.{simple, in_byte, is_universal}
use Rattle.c_lexer.specs.Meaning.{Meaning, word_kind, no_constant, character_meaning, text_meaning, widened}
use Rattle.c_lexer.specs.declared.constant.Suffix.{Suffix}
use Rattle.c_lexer.specs.declared.character.Character.{Character}
use Rattle.c_lexer.specs.declared.character.Character.TheVariants as characters
use Rattle.c_lexer.specs.declared.shape.Shape.{Shape}
use Rattle.c_lexer.specs.declared.shape.Shape.TheVariants as shapes

-- ---- constants
abbrev pub typed : ℕ → Option IntType → Option (ℕ × IntType)
typed value None = None
typed value (Some kind) = Some (value, kind)

abbrev pub typed_by : ℕ → ℕ → Option Suffix → Option (ℕ × IntType)
typed_by base value None = None
typed_by base value (Some suffix) = typed value (first_holding value (candidates base suffix))

-- the constant of a base whose digits and suffix these are, of which so many are digits
abbrev pub constant_in : ℕ → ℕ → Text → Option (ℕ × IntType)
constant_in base n text = typed_by base (digits_value base (take n text)) (suffix_of (drop n text))

abbrev pub hexadecimal_in : Text → Option (ℕ × IntType)
hexadecimal_in text = if prefix_len is_hexadecimal text == 0 then None else constant_in 16 (prefix_len is_hexadecimal text) text

unfoldable pub constant : Text → Option (ℕ × IntType)
constant [] = None
constant (b ∷ bs) =
    if b == 48 then zero_first bs
    else if is_digit b then constant_in 10 (prefix_len is_digit (b ∷ bs)) (b ∷ bs)
    else None
  where
    zero_first : Text → Option (ℕ × IntType)
    zero_first [] = constant_in 8 1 (48 ∷ [])
    zero_first (c ∷ cs) = if is_x c then hexadecimal_in cs else constant_in 8 (prefix_len is_octal (48 ∷ c ∷ cs)) (48 ∷ c ∷ cs)

abbrev pub number_kind : Text → Option (ℕ × IntType) → Meaning
number_kind text (Some c) = Ok (kinds.Number c.1 c.0)
number_kind text None = no_constant text

-- ---- characters
-- the character of an escape, behind its backslash, with its length
abbrev pub simple_or_wrong : Option ℕ → Character × ℕ
simple_or_wrong None = (characters.Wrong, 1)
simple_or_wrong (Some v) = (characters.Byte v, 1)

abbrev pub octal_len : Text → ℕ
octal_len text = min 3 (prefix_len is_octal text)

abbrev pub hexadecimal_escape : ℕ → Text → Character × ℕ
hexadecimal_escape n bs = if n == 0 then (characters.Wrong, 1) else (in_byte (digits_value 16 (take n bs)), n + 1)

abbrev pub escape : Text → Character × ℕ
escape [] = (characters.Wrong, 0)
escape (b ∷ bs) =
    if is_octal b then (in_byte (digits_value 8 (take (octal_len (b ∷ bs)) (b ∷ bs))), octal_len (b ∷ bs))
    else if b == 120 then hexadecimal_escape (prefix_len is_hexadecimal bs) bs
    else if is_universal b then (characters.Universal, 1)
    else simple_or_wrong (simple b)

-- the character at the front, and its length
unfoldable pub character_at : Text → Character × ℕ
character_at [] = (characters.Wrong, 0)
character_at (b ∷ bs) = if b == 92 then ((escape bs).0, (escape bs).1 + 1) else (characters.Byte b, 1)

-- each character takes a byte at least
unfoldable pub characters_in : ℕ → Text → List Character
characters_in turns [] = []
characters_in zero (b ∷ bs) = []
characters_in (suc turns) (b ∷ bs) = (character_at (b ∷ bs)).0 ∷ characters_in turns (drop (character_at (b ∷ bs)).1 (b ∷ bs))

abbrev pub all_characters : Text → List Character
all_characters body = characters_in (length body) body

-- what stands between the quotes
abbrev pub unquoted : Text → Text
unquoted text = take (length text - 2) (drop 1 text)

unfoldable pub meaning : Bool → Shape → Text → Meaning
meaning wide shapes.Word text = Ok (word_kind text)
meaning wide shapes.Number text = number_kind text (constant text)
meaning wide shapes.Character text = widened wide (character_meaning (all_characters (unquoted text)))
meaning wide shapes.Text text = widened wide (text_meaning (all_characters (unquoted text)))
meaning wide (shapes.Mark number) text = Ok (kinds.Mark number)
