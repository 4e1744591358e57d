-- Integer constants: their spelling, value and type (ISO/IEC 9899:1999, 6.4.4.1).
use Rattle.std.specs.Prelude.{◌≡◌, ◌≢◌, ◌⊎◌, ℕ, Bool, true, false, ◌&&◌, ◌||◌, ◌==◌, if◌then◌else◌, List, [], ◌∷◌, ◌++◌, Option, Some, None, pos}
use Rattle.std.specs.Str.Parse.{digits_value}
use Rattle.c_values.specs.declared.int_type.IntType.{IntType}
use Rattle.c_values.specs.declared.int_type.IntType.TheVariants as types
use Rattle.c_values.specs.Types.{is_inside}
use Rattle.c_lexer.specs.Bytes.{Text, AllAre, is_digit, is_octal, is_hexadecimal}
use Rattle.c_lexer.specs.declared.constant.Suffix.{Suffix}

abbrev pub is_u : ℕ → Bool
is_u b = (b == 117) || (b == 85)

abbrev pub is_l : ℕ → Bool
is_l b = (b == 108) || (b == 76)

abbrev pub suffix : Bool → ℕ → Option Suffix
suffix is_unsigned longs = Some (record { is_unsigned = is_unsigned; longs = longs })

-- a suffix: nothing, or `u` and `l` or `ll` in either order and case, the two `l` of one case
unfoldable pub suffix_of : Text → Option Suffix
suffix_of [] = suffix false 0
suffix_of (a ∷ []) = if is_u a then suffix true 0 else if is_l a then suffix false 1 else None
suffix_of (a ∷ b ∷ []) = if is_u a && is_l b then suffix true 1 else if is_l a && is_u b then suffix true 1 else if is_l a && (a == b) then suffix false 2 else None
suffix_of (a ∷ b ∷ c ∷ []) = if is_u a && is_l b && (b == c) then suffix true 2 else if is_l a && (a == b) && is_u c then suffix true 2 else None
suffix_of (a ∷ b ∷ c ∷ d ∷ more) = None

-- a constant's base, its digits, and what stands behind them
pub data Spells : Text → ℕ → Text → Text → Type 0 where
  decimal : {d : ℕ} (ds behind : Text) → is_digit d ≡ true → d ≢ 48 → AllAre is_digit ds → Spells (d ∷ (ds ++ behind)) 10 (d ∷ ds) behind
  octal : (ds behind : Text) → AllAre is_octal ds → Spells (48 ∷ (ds ++ behind)) 8 (48 ∷ ds) behind
  hexadecimal : {x d : ℕ} (ds behind : Text) → (x ≡ 120) ⊎ (x ≡ 88) → is_hexadecimal d ≡ true → AllAre is_hexadecimal ds → Spells (48 ∷ x ∷ d ∷ (ds ++ behind)) 16 (d ∷ ds) behind

-- the types that a constant of a base and a suffix may have, the first that holds it before the others
abbrev pub unsigned_types : ℕ → List IntType
unsigned_types longs = if longs == 0 then types.UInt ∷ types.ULong ∷ types.ULongLong ∷ [] else if longs == 1 then types.ULong ∷ types.ULongLong ∷ [] else types.ULongLong ∷ []

abbrev pub decimal_types : ℕ → List IntType
decimal_types longs = if longs == 0 then types.Int ∷ types.Long ∷ types.LongLong ∷ [] else if longs == 1 then types.Long ∷ types.LongLong ∷ [] else types.LongLong ∷ []

abbrev pub other_types : ℕ → List IntType
other_types longs =
    if longs == 0 then types.Int ∷ types.UInt ∷ types.Long ∷ types.ULong ∷ types.LongLong ∷ types.ULongLong ∷ []
    else if longs == 1 then types.Long ∷ types.ULong ∷ types.LongLong ∷ types.ULongLong ∷ []
    else types.LongLong ∷ types.ULongLong ∷ []

abbrev pub candidates : ℕ → Suffix → List IntType
candidates base s = if s.is_unsigned then unsigned_types s.longs else if base == 10 then decimal_types s.longs else other_types s.longs

abbrev pub first_holding : ℕ → List IntType → Option IntType
first_holding value [] = None
first_holding value (t ∷ ts) = if is_inside t (pos value) then Some t else first_holding value ts

-- the text is a constant of this value and type
pub record IsConstant (text : Text) (value : ℕ) (kind : IntType) : Type 0 where
  pub base : ℕ
  pub digits : Text
  pub behind : Text
  pub suffix : Suffix
  pub spells : Spells text base digits behind
  pub ends : suffix_of behind ≡ Some suffix
  pub value_is : value ≡ digits_value base digits
  pub kind_is : first_holding value (candidates base suffix) ≡ Some kind

-- ---- the same as a function
abbrev pub is_x : ℕ → Bool
is_x b = (b == 120) || (b == 88)
