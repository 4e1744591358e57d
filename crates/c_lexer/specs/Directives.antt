-- The directives that preprocessing leaves (ISO/IEC 9899:1999, 6.10.4, 6.10.6 and 6.10.7, and the line markers of GCC).
-- A text here is what is left of a line.
use Rattle.std.specs.Prelude.{◌≡◌, ◌≢◌, ◌⊎◌, ℕ, ◌≤◌, true, [], ◌∷◌, ◌++◌, codes}
use Rattle.std.specs.Str.Parse.{digits_value}
use Rattle.c_lexer.specs.Bytes.{Text, AllAre, Stops, is_blank, is_digit, is_word_byte, is_number_byte}
use Rattle.c_lexer.specs.White.{ClosesFirst}
use Rattle.c_lexer.specs.declared.directive.Setting.{Setting}
use Rattle.c_lexer.specs.declared.directive.Setting.TheVariants as settings

-- blanks and comments that end in the line
pub data Space : Text → Text → Type 0 where
  none : {text : Text} → Space text text
  blank : {b : ℕ} {text rest : Text} → is_blank b ≡ true → Space text rest → Space (b ∷ text) rest
  comment : {body inside text rest : Text} → ClosesFirst body inside text → Space text rest → Space (47 ∷ 42 ∷ inside) rest

-- nothing more, or a comment to the end of the line
abbrev pub AtEnd : Text → Type 0
AtEnd [] = Unit {0}
AtEnd (a ∷ []) = ⊥
AtEnd (a ∷ b ∷ bs) = (a ≡ 47) × (b ≡ 47)

abbrev pub OnlySpace : Text → Type 0
OnlySpace text = (at : Text) × Space text at × AtEnd at

abbrev pub IsDigits : Text → Type 0
IsDigits [] = ⊥
IsDigits (d ∷ ds) = (is_digit d ≡ true) × AllAre is_digit ds

-- behind the opening quote stand a name and its closing quote; `\\` and `\"` are one byte each
pub data IsNamed : Text → Text → Text → Type 0 where
  close : {behind : Text} → IsNamed (34 ∷ behind) [] behind
  plain : {b : ℕ} {bs name behind : Text} → b ≢ 34 → b ≢ 92 → IsNamed bs name behind → IsNamed (b ∷ bs) (b ∷ name) behind
  escaped : {b : ℕ} {bs name behind : Text} → (b ≡ 34) ⊎ (b ≡ 92) → IsNamed bs name behind → IsNamed (92 ∷ b ∷ bs) (b ∷ name) behind
  backslash : {b : ℕ} {bs name behind : Text} → b ≢ 34 → b ≢ 92 → IsNamed bs name behind → IsNamed (92 ∷ b ∷ bs) (92 ∷ b ∷ name) behind

-- numbers of digits alone, which mean nothing here
pub data Flags : Text → Type 0 where
  none : {text : Text} → OnlySpace text → Flags text
  flag : {text : Text} (ds behind : Text) → Space text (ds ++ behind) → IsDigits ds → Stops is_number_byte behind → Flags behind → Flags text

-- the number of the next line
pub record IsLineNumber (ds : Text) (number : ℕ) : Type 0 where
  pub digits : IsDigits ds
  pub value : number ≡ digits_value 10 ds
  pub high : number ≤ 2147483647

-- what stands behind the `#` of a directive, and what the directive sets
pub data Directive : Text → Setting → Type 0 where
  -- #
  lone : {text : Text} → OnlySpace text → Directive text settings.Pass
  -- #pragma ANYTHING
  pragma : {text : Text} (behind : Text) → Space text (codes "pragma" ++ behind) → Stops is_word_byte behind → Directive text settings.Pass
  -- # N "NAME" FLAGS
  marker : {text name : Text} (ds behind inside after : Text) {number : ℕ} → Space text (ds ++ behind) → IsLineNumber ds number
      → Space behind (34 ∷ inside) → IsNamed inside name after → Flags after → Directive text (settings.Named number name)
  -- #line N
  line : {text : Text} (word ds behind : Text) {number : ℕ} → Space text (codes "line" ++ word) → Stops is_word_byte word → Space word (ds ++ behind) → IsLineNumber ds number
      → OnlySpace behind → Directive text (settings.Line number)
  -- #line N "NAME"
  named_line : {text name : Text} (word ds behind inside after : Text) {number : ℕ} → Space text (codes "line" ++ word) → Stops is_word_byte word → Space word (ds ++ behind)
      → IsLineNumber ds number → Space behind (34 ∷ inside) → IsNamed inside name after → OnlySpace after → Directive text (settings.Named number name)
