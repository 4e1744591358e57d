-- What a directive sets, as the lexer reads it. A text is what is left of a line.
use Rattle.std.specs.Prelude.{ℕ, zero, suc, ◌+◌, Bool, true, false, not, ◌||◌, ◌&&◌, ◌==◌, nat_le, if◌then◌else◌, [], ◌∷◌, ◌++◌, length, take, drop, codes, Option, Some, None}
use Rattle.std.specs.List.{prefix_len}
use Rattle.std.specs.Str.{bytes_eq}
use Rattle.std.specs.Str.Parse.{digits_value}
use Rattle.c_lexer.specs.Bytes.{Text, is_blank, is_digit, is_word_byte, is_number_byte}
use Rattle.c_lexer.specs.declared.directive.Setting.{Setting}
use Rattle.c_lexer.specs.declared.directive.Setting.TheVariants as settings

-- how many bytes a comment has behind `/*`, its `*/` with them
abbrev pub close_more : Option ℕ → Option ℕ
close_more None = None
close_more (Some n) = Some (n + 1)

abbrev pub begins_byte : ℕ → Text → Bool
begins_byte a [] = false
begins_byte a (b ∷ bs) = a == b

abbrev pub closes : ℕ → Text → Bool
closes b bs = (b == 42) && begins_byte 47 bs

abbrev pub close_len : Text → Option ℕ
close_len [] = None
close_len (b ∷ bs) = if closes b bs then Some 2 else close_more (close_len bs)

abbrev pub opens_block : Text → Bool
opens_block [] = false
opens_block (b ∷ bs) = (b == 47) && begins_byte 42 bs

abbrev pub opens_line : Text → Bool
opens_line [] = false
opens_line (b ∷ bs) = (b == 47) && begins_byte 47 bs

-- a text without its first blank or comment; none where it begins with neither
abbrev pub behind_comment : Text → Option ℕ → Option Text
behind_comment inside None = None
behind_comment inside (Some n) = Some (drop n inside)

abbrev pub less_space : Text → Option Text
less_space [] = None
less_space (b ∷ bs) =
    if is_blank b then Some bs
    else if opens_block (b ∷ bs) then behind_comment (drop 2 (b ∷ bs)) (close_len (drop 2 (b ∷ bs)))
    else None

-- each turn takes a byte at least
unfoldable pub behind_space : ℕ → Text → Text
behind_space zero text = text
behind_space (suc turns) text = after (behind_space turns) (less_space text)
  where
    after : (Text → Text) → Option Text → Text
    after go_on None = text
    after go_on (Some rest) = go_on rest

abbrev pub no_space : Text → Text
no_space text = behind_space (length text) text

abbrev pub at_end : Text → Bool
at_end [] = true
at_end (b ∷ bs) = opens_line (b ∷ bs)

abbrev pub only_space : Text → Bool
only_space text = at_end (no_space text)

infixl 10 ◌>>=◌
abbrev pub ◌>>=◌ : {A B : Type 0} → Option A → (A → Option B) → Option B
None >>= f = None
(Some x) >>= f = f x

-- a name and what stands behind its closing quote
abbrev pub with_bytes : Text → Option (Text × Text) → Option (Text × Text)
with_bytes bytes None = None
with_bytes bytes (Some p) = Some (bytes ++ p.0, p.1)

-- what a byte of a name stands for, perhaps behind a backslash
abbrev pub spelled : Bool → ℕ → Text
spelled false b = b ∷ []
spelled true b = if (b == 34) || (b == 92) then b ∷ [] else 92 ∷ b ∷ []

abbrev pub name_in : Bool → Text → Option (Text × Text)
name_in escaped [] = None
name_in true (b ∷ bs) = with_bytes (spelled true b) (name_in false bs)
name_in false (b ∷ bs) = if b == 34 then Some ([], bs) else if b == 92 then name_in true bs else with_bytes (spelled false b) (name_in false bs)

-- a quoted name behind white space
abbrev pub opened : Text → Option (Text × Text)
opened [] = None
opened (b ∷ bs) = if b == 34 then name_in false bs else None

unfoldable pub named : Text → Option (Text × Text)
named text = opened (no_space text)

-- what stands behind a flag of so many digits
abbrev pub behind_flag : Text → ℕ → Option Text
behind_flag at n = if (n == 0) || not (prefix_len is_number_byte at == n) then None else Some (drop n at)

abbrev pub less_flag : Text → Option Text
less_flag text = behind_flag (no_space text) (prefix_len is_digit (no_space text))

-- nothing but flags
unfoldable pub only_flags : ℕ → Text → Bool
only_flags zero text = only_space text
only_flags (suc turns) text = if only_space text then true else after (only_flags turns) (less_flag text)
  where
    after : (Text → Bool) → Option Text → Bool
    after go_on None = false
    after go_on (Some rest) = go_on rest

-- a line number and what stands behind it
abbrev pub small : Text → ℕ → Option (ℕ × Text)
small at n = if nat_le (digits_value 10 (take n at)) 2147483647 then Some (digits_value 10 (take n at), drop n at) else None

abbrev pub line_number : Text → Option (ℕ × Text)
line_number at = if prefix_len is_digit at == 0 then None else small at (prefix_len is_digit at)

-- # N "NAME" FLAGS
abbrev pub marker : Text → Option Setting
marker at =
    line_number at >>= λ n. named n.1 >>= λ name. if only_flags (length name.1) name.1 then Some (settings.Named n.0 name.0) else None

-- #line N, and #line N "NAME"
abbrev pub line : Text → Option Setting
line word =
    line_number (no_space word) >>= λ n.
    if only_space n.1 then Some (settings.Line n.0)
    else (named n.1 >>= λ name. if only_space name.1 then Some (settings.Named n.0 name.0) else None)

-- the text behind this word
abbrev pub behind_word : Text → Text → Option Text
behind_word word text = if bytes_eq (take (prefix_len is_word_byte text) text) word then Some (drop (prefix_len is_word_byte text) text) else None

abbrev pub line_or_marker : Text → Option Text → Option Setting
line_or_marker at (Some word) = line word
line_or_marker at None = marker at

abbrev pub pragma_or_line : Text → Option Text → Option Setting
pragma_or_line at (Some behind) = Some settings.Pass
pragma_or_line at None = line_or_marker at (behind_word (codes "line") at)

-- what stands behind `#`
unfoldable pub setting_of : Text → Option Setting
setting_of text = if only_space text then Some settings.Pass else pragma_or_line (no_space text) (behind_word (codes "pragma") (no_space text))
