-- The value of a short text of digits, digit by digit.
use Rattle.std.proofs.Common.{◌≡◌, ℕ, ◌+◌, ◌-◌, ◌*◌, ◌^◌, ◌<◌, ◌≤◌, true, List, length, get_or, take, arith}
use Rattle.std.specs.Str.{all_ascii_digits}
use Rattle.std.specs.Str.Parse.{digits_value}
use Rattle.std.proofs.lemmas.Int.Digits.{digits_value_more}
use Rattle.std.proofs.lemmas.Str.{digit_value_digit}
use Rattle.std.proofs.lemmas.Str.Parse.{IsNumeralModel, numerals_by_value, tells_all_ascii_digits, digits_value_short, digits_value-take-le, digit_at}

pub own : IsNumeralModel (λ ds. all_ascii_digits ds ≡ true) (digits_value 10)
own = numerals_by_value _ tells_all_ascii_digits

-- what one more digit makes of the value so far
pub record IsStep (text : List ℕ) (i value : ℕ) : Type 0 where
  pub digit_low : 48 ≤ get_or text i 0
  pub digit_high : get_or text i 0 ≤ 57
  pub more : value * 10 + (get_or text i 0 - 48) ≡ digits_value 10 (take (i + 1) text)
  pub small : value * 10 + (get_or text i 0 - 48) < 1000000000

pub is_step : (text : List ℕ) (i value : ℕ) → all_ascii_digits text ≡ true → length text ≤ 9 → i < length text → value ≡ digits_value 10 (take i text) → IsStep text i value
is_step text i value digits short lt e =
    let range = digit_at text i (own.to text digits) lt in
    let whole : digits_value 10 text < 10 ^ 9 = digits_value_short own text 9 digits short in
    let value_is : value * 10 + (get_or text i 0 - 48) ≡ digits_value 10 (take (i + 1) text) = omega (arith, digits_value_more 10 text i lt, digit_value_digit (get_or text i 0) range, range.0) in
    record {
      digit_low = range.0;
      digit_high = range.1;
      more = value_is;
      small = omega (arith, digits_value-take-le 10 text (i + 1) (omega arith));
    }
