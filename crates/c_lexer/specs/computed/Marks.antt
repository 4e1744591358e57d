-- The longest punctuator at the front of a text (ISO/IEC 9899:1999, 6.4 and 6.4.6), as the lexer finds it.
use Rattle.std.specs.Prelude.{ℕ, Bool, true, false, if◌then◌else◌, ◌==◌, nat_lt, List, [], ◌∷◌, length, Option, Some, None}
use Rattle.c_syntax.specs.Marks.{Mark, marks}
use Rattle.c_lexer.specs.Bytes.{Text}

-- the second text begins with the first
abbrev pub begins : Text → Text → Bool
begins [] text = true
begins (w ∷ ws) [] = false
begins (w ∷ ws) (b ∷ bs) = if w == b then begins ws bs else false

abbrev pub longer : Mark → Option Mark → Option Mark
longer m None = Some m
longer m (Some k) = if nat_lt (length m.text) (length k.text) then Some k else Some m

-- the longest mark of a list that the text begins with
abbrev pub best : List Mark → Text → Option Mark
best [] text = None
best (m ∷ ms) text = if begins m.text text then longer m (best ms text) else best ms text

abbrev pub measured : Option Mark → Option (ℕ × ℕ)
measured None = None
measured (Some m) = Some (m.number, length m.text)

-- its number and its length
unfoldable pub mark_len : Text → Option (ℕ × ℕ)
mark_len text = measured (best marks text)
