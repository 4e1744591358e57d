-- The characters between the quotes of a character constant or a string literal (ISO/IEC 9899:1999, 6.4.4.4).
use Rattle.std.specs.Prelude.{◌≡◌, ◌≢◌, ◌⊎◌, ℕ, ◌≤◌, Bool, true, false, ◌||◌, ◌==◌, nat_lt, if◌then◌else◌, List, [], ◌∷◌, ◌++◌, length, Option, Some, None}
use Rattle.std.specs.Str.Parse.{digits_value}
use Rattle.c_lexer.specs.Bytes.{Text, AllAre, Stops, is_octal, is_hexadecimal}
use Rattle.c_lexer.specs.declared.character.Character.{Character}
use Rattle.c_lexer.specs.declared.character.Character.TheVariants as characters

-- the simple escapes: \' \" \? \\ \a \b \f \n \r \t \v
abbrev pub simple : ℕ → Option ℕ
simple b =
    if (b == 39) || (b == 34) || (b == 63) || (b == 92) then Some b
    else if b == 97 then Some 7
    else if b == 98 then Some 8
    else if b == 102 then Some 12
    else if b == 110 then Some 10
    else if b == 114 then Some 13
    else if b == 116 then Some 9
    else if b == 118 then Some 11
    else None

-- a numeric escape gives one byte; a greater value is wrong
abbrev pub in_byte : ℕ → Character
in_byte value = if nat_lt value 256 then characters.Byte value else characters.Wrong

-- `u` or `U`, which begins a universal character name behind a backslash (6.4.3)
abbrev pub is_universal : ℕ → Bool
is_universal b = (b == 117) || (b == 85)

-- what stands behind a backslash begins no escape
pub record IsNoEscape (b : ℕ) (bs : Text) : Type 0 where
  pub no_simple : simple b ≡ None
  pub no_octal : is_octal b ≡ false
  pub no_universal : is_universal b ≡ false
  pub no_hexadecimal : b ≡ 120 → Stops is_hexadecimal bs

-- the text is these characters; an octal or hexadecimal escape is the longest sequence that can be one
pub data Reads : Text → List Character → Type 0 where
  done : Reads [] []
  plain : {b : ℕ} {bs : Text} {cs : List Character} → b ≢ 92 → Reads bs cs → Reads (b ∷ bs) (characters.Byte b ∷ cs)
  simple_escape : {b v : ℕ} {bs : Text} {cs : List Character} → simple b ≡ Some v → Reads bs cs → Reads (92 ∷ b ∷ bs) (characters.Byte v ∷ cs)
  octal_escape : {d : ℕ} (ds bs : Text) {cs : List Character} → AllAre is_octal (d ∷ ds) → length ds ≤ 2 → (length ds ≡ 2) ⊎ Stops is_octal bs
      → Reads bs cs → Reads (92 ∷ d ∷ (ds ++ bs)) (in_byte (digits_value 8 (d ∷ ds)) ∷ cs)
  hexadecimal_escape : {d : ℕ} (ds bs : Text) {cs : List Character} → AllAre is_hexadecimal (d ∷ ds) → Stops is_hexadecimal bs
      → Reads bs cs → Reads (92 ∷ 120 ∷ d ∷ (ds ++ bs)) (in_byte (digits_value 16 (d ∷ ds)) ∷ cs)
  universal : {b : ℕ} {bs : Text} {cs : List Character} → is_universal b ≡ true → Reads bs cs → Reads (92 ∷ b ∷ bs) (characters.Universal ∷ cs)
  wrong : {b : ℕ} {bs : Text} {cs : List Character} → IsNoEscape b bs → Reads bs cs → Reads (92 ∷ b ∷ bs) (characters.Wrong ∷ cs)
  -- never between quotes, where a backslash stands with the byte behind it
  alone : Reads (92 ∷ []) (characters.Wrong ∷ [])
