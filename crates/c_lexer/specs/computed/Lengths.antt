-- The shape and the length of the token at the front of a text, as the lexer finds them.
use Rattle.std.specs.Prelude.{ℕ, ◌+◌, Bool, false, ◌||◌, ◌&&◌, ◌==◌, if◌then◌else◌, [], ◌∷◌, Option, Some, None}
use Rattle.std.specs.List.{prefix_len}
use Rattle.c_lexer.specs.Bytes.{Text, is_digit, is_nondigit, is_word_byte, is_number_byte, is_sign, is_exponent, is_newline}
use Rattle.c_lexer.specs.computed.Marks.{mark_len}
use Rattle.c_lexer.specs.declared.shape.Shape.{Shape}
use Rattle.c_lexer.specs.declared.shape.Shape.TheVariants as shapes

abbrev pub goes_on : ℕ → ℕ → Bool
goes_on last b = is_number_byte b || (is_sign b && is_exponent last)

-- how many bytes go on a preprocessing number behind its byte `last`
abbrev pub number_more : ℕ → Text → ℕ
number_more last [] = 0
number_more last (b ∷ bs) = if goes_on last b then 1 + number_more b bs else 0

abbrev pub one_more : Option ℕ → Option ℕ
one_more None = None
one_more (Some n) = Some (n + 1)

-- how many bytes there are up to the closing quote and with it, behind the opening one; the truth value says that a
-- backslash stands before
abbrev pub quoted_more : ℕ → Bool → Text → Option ℕ
quoted_more q escaped [] = None
quoted_more q escaped (b ∷ bs) =
    if is_newline b then None
    else if escaped then one_more (quoted_more q false bs)
    else if b == q then Some 1
    else one_more (quoted_more q (b == 92) bs)

abbrev pub begins_with_digit : Text → Bool
begins_with_digit [] = false
begins_with_digit (b ∷ bs) = is_digit b

abbrev pub of_shape : Shape → Option ℕ → Option (Shape × ℕ)
of_shape shape None = None
of_shape shape (Some n) = Some (shape, n)

abbrev pub of_mark : Option (ℕ × ℕ) → Option (Shape × ℕ)
of_mark None = None
of_mark (Some m) = Some (shapes.Mark m.0, m.1)

unfoldable pub shape_at : Text → Option (Shape × ℕ)
shape_at [] = None
shape_at (b ∷ bs) =
    if is_nondigit b then Some (shapes.Word, 1 + prefix_len is_word_byte bs)
    else if is_digit b || ((b == 46) && begins_with_digit bs) then Some (shapes.Number, 1 + number_more b bs)
    else if b == 39 then of_shape shapes.Character (one_more (quoted_more 39 false bs))
    else if b == 34 then of_shape shapes.Text (one_more (quoted_more 34 false bs))
    else of_mark (mark_len (b ∷ bs))
