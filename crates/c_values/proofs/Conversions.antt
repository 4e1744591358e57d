-- Conversions: what the code computes is the definition, a value of the type, and the number itself where it fits.
use Rattle.std.proofs.Common.{◌≡◌, ℕ, zero, suc, Bool, true, false, cond, ℤ, pos, negsuc, ◌+ℤ◌, ◌-ℤ◌, ◌*ℤ◌, ◌≤ℤ◌, ◌<ℤ◌, int_lt, refl, arith}
use Rattle.std.specs.Prelude.{if◌then◌else◌}
use Rattle.std.specs.Int.{int_div_euclid, int_rem_euclid}
use Rattle.std.specs.Ordering.{int_eq}
use Rattle.std.proofs.lemmas.Int.{ints}
use Rattle.int_laws.proofs.Euclid.{euclid, euclid_rest, rest_unique}
use Rattle.int_laws.proofs.Products.{plus_times}
use Rattle.c_values.specs.declared.int_type.IntType.{IntType}
use Rattle.c_values.specs.declared.int_type.IntType.TheVariants as types
use Rattle.c_values.specs.Conversions.{IsCongruent, converted, wrapped}
use Rattle.c_values.specs.Types.{IsOf, greatest, least, modulus}
use Rattle.c_values.proofs.Ranges.{modulus_small, range}

pub wrapped_is : (t : IntType) (v : ℤ) →
    (if int_lt (greatest t) (int_rem_euclid v (pos (modulus t))) then int_rem_euclid v (pos (modulus t)) -ℤ pos (modulus t) else int_rem_euclid v (pos (modulus t))) ≡ wrapped t v
wrapped_is t v = by (int_lt (greatest t) r) refl
  where
    m : ℕ
    m = modulus t

    q : ℤ
    q = int_div_euclid v (pos (modulus t))

    r : ℤ
    r = int_rem_euclid v (pos (modulus t))

    whole : v ≡ (int_div_euclid v (pos (modulus t)) *ℤ pos (modulus t)) +ℤ int_rem_euclid v (pos (modulus t))
    whole = euclid v (modulus t) (modulus_small t).0

    rest : (pos 0 ≤ℤ int_rem_euclid v (pos (modulus t))) × (int_rem_euclid v (pos (modulus t)) <ℤ pos (modulus t))
    rest = euclid_rest v (modulus t) (modulus_small t).0

    by : (s : Bool) → int_lt (greatest t) (int_rem_euclid v (pos (modulus t))) ≡ s →
        (if s then int_rem_euclid v (pos (modulus t)) -ℤ pos (modulus t) else int_rem_euclid v (pos (modulus t))) ≡ wrapped t v
    by true e =
        let n = int_div_euclid v (pos (modulus t)) in
        let o = int_rem_euclid v (pos (modulus t)) in
        let one = plus_times n (pos 1) (pos (modulus t)) in
        let u = rest_unique (v -ℤ least t) (n +ℤ pos 1) ((o -ℤ pos (modulus t)) -ℤ least t) (modulus t)
        (omega (arith, ints, one, whole)) (omega (arith, ints, e, (range t).size)) (omega (arith, ints, rest.1, (range t).size, (range t).not_negative, (range t).not_positive)) in
        omega (arith, ints, u)
    by false e =
        let n = int_div_euclid v (pos (modulus t)) in
        let o = int_rem_euclid v (pos (modulus t)) in
        let u = rest_unique (v -ℤ least t) n (o -ℤ least t) (modulus t)
        (omega (arith, ints, whole)) (omega (arith, ints, rest.0, (range t).not_positive)) (omega (arith, ints, e, (range t).size)) in
        omega (arith, ints, u)

pub wrapped_is_of : (t : IntType) (v : ℤ) → IsOf t (wrapped t v)
wrapped_is_of t v =
    let b = euclid_rest (v -ℤ least t) (modulus t) (modulus_small t).0 in
    record { low = omega (arith, ints, b.0); high = omega (arith, ints, b.1, (range t).size) }

pub wrapped_same : (t : IntType) (v : ℤ) → IsOf t v → wrapped t v ≡ v
wrapped_same t v h =
    let u = rest_unique (v -ℤ least t) (pos 0) (v -ℤ least t) (modulus t) (omega (arith, ints)) (omega (arith, ints, h.low)) (omega (arith, ints, h.high, (range t).size)) in
    omega (arith, ints, u)

pub wrapped_congruent : (t : IntType) (v : ℤ) → IsCongruent t v (wrapped t v)
wrapped_congruent t v = record {
  turns = int_div_euclid (v -ℤ least t) (pos (modulus t));
  differ = omega (arith, ints, euclid (v -ℤ least t) (modulus t) (modulus_small t).0);
}

truth_is_of : (s : Bool) → IsOf types.Bool (cond s (pos 0) (pos 1))
truth_is_of true = record { low = omega (arith, ints); high = omega (arith, ints) }
truth_is_of false = record { low = omega (arith, ints); high = omega (arith, ints) }

pub converted_is_of : (t : IntType) (v : ℤ) → IsOf t (converted t v)
converted_is_of types.Bool v = truth_is_of (int_eq v (pos 0))
converted_is_of t v = wrapped_is_of t v

pub converted_same : (t : IntType) (v : ℤ) → IsOf t v → converted t v ≡ v
converted_same types.Bool (pos zero) h = refl
converted_same types.Bool (pos (suc zero)) h = refl
converted_same types.Bool (pos (suc (suc n))) h = absurd (omega (arith, ints, h.high))
converted_same types.Bool (negsuc n) h = absurd (omega (arith, ints, h.low))
converted_same t v h = wrapped_same t v h
