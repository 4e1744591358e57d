-- The number that digits write, digit by digit.
use Rattle.std.proofs.Common.{◌≡◌, ℕ, ◌+◌, ◌*◌, ◌<◌, ◌≤◌, List, length, get_or, take, arith}
use Rattle.std.specs.Char.{digit_value}
use Rattle.std.specs.Str.Parse.{digits_value}
use Rattle.std.proofs.lemmas.Int.Digits.{digits_value_more}
use Rattle.std.proofs.lemmas.Str.Parse.{digits_value-take-le}

pub record IsStep (base : ℕ) (digits : List ℕ) (i value : ℕ) : Type 0 where
  pub more : value * base + digit_value (get_or digits i 0) ≡ digits_value base (take (i + 1) digits)
  pub most : digits_value base (take (i + 1) digits) ≤ digits_value base digits

pub is_step : (base : ℕ) (digits : List ℕ) (i value : ℕ) → 0 < base → i < length digits → value ≡ digits_value base (take i digits) → IsStep base digits i value
is_step base digits i value pos lt e = record {
  more = rw e (grind (arith, digits_value_more base digits i lt));
  most = digits_value-take-le base digits (i + 1) (omega arith);
}
