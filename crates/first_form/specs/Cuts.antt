-- The tokens of a text: cuts with white space between them, each the longest sequence that can be a token
-- (ISO/IEC 9899:1999, 6.4).
use Rattle.std.specs.Prelude.{◌≡◌, ◌⊎◌, ℕ, ◌+◌, ◌≤◌, Bool, true, ◌==◌, if◌then◌else◌, List, [], ◌∷◌, ◌++◌, length, take, codes}
use Rattle.std.specs.List.{list_any}
use Rattle.std.specs.Str.{bytes_eq}
use Rattle.c_lexer.specs.Bytes.{is_digit, is_nondigit, is_word_byte, is_number_byte, is_sign, is_exponent}
use Rattle.first_form.specs.Pieces.{Piece}

abbrev pub AllAre : (ℕ → Bool) → List ℕ → Type 0
AllAre p [] = Unit {0}
AllAre p (b ∷ bs) = (p b ≡ true) × AllAre p bs

-- 6.4.2.1: an identifier, which may be a keyword (6.4.1)
abbrev pub IsWord : List ℕ → Type 0
IsWord [] = ⊥
IsWord (b ∷ bs) = (is_nondigit b ≡ true) × AllAre is_word_byte bs

-- 6.4.8: what goes on a preprocessing number behind its byte `last`
abbrev pub GoesOn : ℕ → List ℕ → Type 0
GoesOn last [] = Unit {0}
GoesOn last (b ∷ bs) = ((is_number_byte b ≡ true) ⊎ ((is_sign b ≡ true) × (is_exponent last ≡ true))) × GoesOn b bs

abbrev pub BeginsWithDigit : List ℕ → Type 0
BeginsWithDigit [] = ⊥
BeginsWithDigit (b ∷ bs) = is_digit b ≡ true

-- 6.4.8: a preprocessing number begins with a digit, or with a period and a digit
abbrev pub IsNumber : List ℕ → Type 0
IsNumber [] = ⊥
IsNumber (b ∷ bs) = ((is_digit b ≡ true) ⊎ ((b ≡ 46) × BeginsWithDigit bs)) × GoesOn b bs

-- 6.4.6: the punctuators
abbrev pub punctuators : List (List ℕ)
punctuators = codes "[" ∷ codes "]" ∷ codes "(" ∷ codes ")" ∷ codes "{" ∷ codes "}" ∷ codes "." ∷ codes "->"
    ∷ codes "++" ∷ codes "--" ∷ codes "&" ∷ codes "*" ∷ codes "+" ∷ codes "-" ∷ codes "~" ∷ codes "!"
    ∷ codes "/" ∷ codes "%" ∷ codes "<<" ∷ codes ">>" ∷ codes "<" ∷ codes ">" ∷ codes "<=" ∷ codes ">=" ∷ codes "==" ∷ codes "!="
    ∷ codes "^" ∷ codes "|" ∷ codes "&&" ∷ codes "||" ∷ codes "?" ∷ codes ":" ∷ codes ";" ∷ codes "..."
    ∷ codes "=" ∷ codes "*=" ∷ codes "/=" ∷ codes "%=" ∷ codes "+=" ∷ codes "-=" ∷ codes "<<=" ∷ codes ">>=" ∷ codes "&=" ∷ codes "^=" ∷ codes "|="
    ∷ codes "," ∷ codes "#" ∷ codes "##" ∷ codes "<:" ∷ codes ":>" ∷ codes "<%" ∷ codes "%>" ∷ codes "%:" ∷ codes "%:%:" ∷ []

abbrev pub is_punctuator : List ℕ → Bool
is_punctuator text = list_any (bytes_eq text) punctuators

-- A token. Character constants and string literals are left out so far: no file that is accepted has one.
abbrev pub IsToken : List ℕ → Type 0
IsToken text = IsWord text ⊎ (IsNumber text ⊎ (is_punctuator text ≡ true))

-- the text is a token, and with what stands behind it no longer one begins at its place
pub record IsLongest (text rest : List ℕ) : Type 0 where
  pub token : IsToken text
  pub longest : (n : ℕ) → n ≤ length (text ++ rest) → IsToken (take n (text ++ rest)) → n ≤ length text

-- spaces and newlines, the only white space that is accepted so far
abbrev pub AllBlank : List ℕ → Type 0
AllBlank [] = Unit {0}
AllBlank (b ∷ bs) = ((b ≡ 10) ⊎ (b ≡ 32)) × AllBlank bs

-- the line and the column behind a text that begins at a line and a column
abbrev pub line_after : ℕ → List ℕ → ℕ
line_after line [] = line
line_after line (b ∷ bs) = line_after (if b == 10 then line + 1 else line) bs

abbrev pub col_after : ℕ → List ℕ → ℕ
col_after col [] = col
col_after col (b ∷ bs) = col_after (if b == 10 then 1 else col + 1) bs

-- the first token of a text that begins at a line and a column, and what holds of what stands behind it
pub record FirstCut (line col : ℕ) (bytes : List ℕ) (p : Piece) (Behind : ℕ → ℕ → List ℕ → Type 0) : Type 0 where
  pub white : List ℕ
  pub rest : List ℕ
  pub blank : AllBlank white
  pub parts : bytes ≡ white ++ (p.text ++ rest)
  pub line_is : p.line ≡ line_after line white
  pub col_is : p.col ≡ col_after col white
  pub cut : IsLongest p.text rest
  pub behind : Behind p.line (p.col + length p.text) rest

-- a text that begins at a line and a column is these tokens, with white space round them
abbrev pub Cuts : ℕ → ℕ → List ℕ → List Piece → Type 0
Cuts line col bytes [] = AllBlank bytes
Cuts line col bytes (p ∷ ps) = FirstCut line col bytes p (λ l c rest. Cuts l c rest ps)
