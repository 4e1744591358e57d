-- The bytes that tokens are made of. Sections are those of ISO/IEC 9899:1999.
use Rattle.std.specs.Prelude.{◌≡◌, ℕ, Bool, true, false, not, ◌&&◌, ◌||◌, ◌==◌, nat_le, List, [], ◌∷◌}

abbrev pub Text : Type 0
Text = List ℕ

-- 6.4.2.1: a digit
abbrev pub is_digit : ℕ → Bool
is_digit b = nat_le 48 b && nat_le b 57

-- 6.4.2.1: a nondigit, that is a letter or `_`
abbrev pub is_nondigit : ℕ → Bool
is_nondigit b = (nat_le 97 b && nat_le b 122) || (nat_le 65 b && nat_le b 90) || (b == 95)

-- a byte that goes on an identifier
abbrev pub is_word_byte : ℕ → Bool
is_word_byte b = is_nondigit b || is_digit b

-- 6.4.8: a byte that goes on a preprocessing number, signs aside
abbrev pub is_number_byte : ℕ → Bool
is_number_byte b = is_word_byte b || (b == 46)

-- `+` or `-`
abbrev pub is_sign : ℕ → Bool
is_sign b = (b == 43) || (b == 45)

-- `e`, `E`, `p` or `P`, behind which a sign goes on a preprocessing number
abbrev pub is_exponent : ℕ → Bool
is_exponent b = (b == 101) || (b == 69) || (b == 112) || (b == 80)

-- 6.4.4.1: an octal digit, and a hexadecimal one
abbrev pub is_octal : ℕ → Bool
is_octal b = nat_le 48 b && nat_le b 55

abbrev pub is_hexadecimal : ℕ → Bool
is_hexadecimal b = is_digit b || (nat_le 97 b && nat_le b 102) || (nat_le 65 b && nat_le b 70)

-- 6.4: space, tab, vertical tab, form feed and carriage return, the white space inside a line
abbrev pub is_blank : ℕ → Bool
is_blank b = (b == 32) || (b == 9) || (b == 11) || (b == 12) || (b == 13)

abbrev pub is_newline : ℕ → Bool
is_newline b = b == 10

abbrev pub in_line : ℕ → Bool
in_line b = not (is_newline b)

-- ---- texts of bytes of one kind
abbrev pub AllAre : (ℕ → Bool) → Text → Type 0
AllAre p [] = Unit {0}
AllAre p (b ∷ bs) = (p b ≡ true) × AllAre p bs

-- the text does not go on with a byte of the kind
abbrev pub Stops : (ℕ → Bool) → Text → Type 0
Stops p [] = Unit {0}
Stops p (b ∷ bs) = p b ≡ false
