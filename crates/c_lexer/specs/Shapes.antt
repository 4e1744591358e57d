-- What a token can be, before anything is asked of its meaning (ISO/IEC 9899:1999, 6.4).
use Rattle.std.specs.Prelude.{◌≡◌, ◌≢◌, ◌⊎◌, ℕ, ◌≤◌, true, if◌then◌else◌, Option, Some, None, List, [], ◌∷◌, ◌++◌, length}
use Rattle.std.specs.Str.{bytes_eq}
use Rattle.c_syntax.specs.Marks.{Mark, marks}
use Rattle.c_lexer.specs.Bytes.{Text, AllAre, is_digit, is_nondigit, is_word_byte, is_number_byte, is_sign, is_exponent}
use Rattle.c_lexer.specs.declared.shape.Shape.{Shape}
use Rattle.c_lexer.specs.declared.shape.Shape.TheVariants as shapes

-- 6.4.2.1: an identifier, which may be a keyword (6.4.1)
abbrev pub IsWord : Text → Type 0
IsWord [] = ⊥
IsWord (b ∷ bs) = (is_nondigit b ≡ true) × AllAre is_word_byte bs

-- 6.4.8: what goes on a preprocessing number behind its byte `last`
abbrev pub GoesOn : ℕ → Text → Type 0
GoesOn last [] = Unit {0}
GoesOn last (b ∷ bs) = ((is_number_byte b ≡ true) ⊎ ((is_sign b ≡ true) × (is_exponent last ≡ true))) × GoesOn b bs

abbrev pub BeginsWithDigit : Text → Type 0
BeginsWithDigit [] = ⊥
BeginsWithDigit (b ∷ bs) = is_digit b ≡ true

-- 6.4.8: a preprocessing number begins with a digit, or with a period and a digit
abbrev pub IsNumber : Text → Type 0
IsNumber [] = ⊥
IsNumber (b ∷ bs) = ((is_digit b ≡ true) ⊎ ((b ≡ 46) × BeginsWithDigit bs)) × GoesOn b bs

-- 6.4.4.4 and 6.4.5: between the quotes `q` stand bytes that are neither the quote, a backslash nor a newline, and
-- backslashes each with a byte that is no newline
pub data Quotes (q : ℕ) : Text → Type 0 where
  none : Quotes q []
  plain : {b : ℕ} {bs : Text} → b ≢ q → b ≢ 92 → b ≢ 10 → Quotes q bs → Quotes q (b ∷ bs)
  escape : {b : ℕ} {bs : Text} → b ≢ 10 → Quotes q bs → Quotes q (92 ∷ b ∷ bs)

pub record IsQuoted (q : ℕ) (text : Text) : Type 0 where
  pub body : Text
  pub cut : text ≡ q ∷ (body ++ q ∷ [])
  pub inside : Quotes q body

-- 6.4.6: the number of the mark of this spelling
abbrev pub mark_number : List Mark → Text → Option ℕ
mark_number [] text = None
mark_number (m ∷ ms) text = if bytes_eq m.text text then Some m.number else mark_number ms text

abbrev pub IsMark : ℕ → Text → Type 0
IsMark number text = mark_number marks text ≡ Some number

abbrev pub CanBe : Shape → Text → Type 0
CanBe shapes.Word text = IsWord text
CanBe shapes.Number text = IsNumber text
CanBe shapes.Character text = IsQuoted 39 text
CanBe shapes.Text text = IsQuoted 34 text
CanBe (shapes.Mark number) text = IsMark number text

-- 6.4: the text begins with this word, and no longer sequence at its front could be a token
pub record IsLongest (shape : Shape) (word rest text : Text) : Type 0 where
  pub cut : text ≡ word ++ rest
  pub can : CanBe shape word
  pub longest : (other : Shape) (front back : Text) → text ≡ front ++ back → CanBe other front → length front ≤ length word

-- no token begins here; so an open literal is none
abbrev pub NoToken : Text → Type 0
NoToken text = (shape : Shape) (front back : Text) → text ≡ front ++ back → CanBe shape front → ⊥
