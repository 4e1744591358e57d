-- The operators on two's complement act on each digit alone.
use Rattle.std.proofs.Common.{◌≡◌, ℕ, zero, suc, ◌+◌, ◌-◌, ◌%◌, ◌<◌, ℤ, pos, negsuc, bit_and, max, min, refl, sym, ◌∙◌, ap, arith}
use Rattle.std.specs.Int.{bit_at}
use Rattle.std.specs.Int.Bits.{bit_xor, and_self, xor_add_and}
use Rattle.std.proofs.lemmas.Nat.{and_assoc, and_comm, and_le_l}
use Rattle.std.proofs.lemmas.Nat.Bits.{bit_at-lt, bit_at_and, bit_at_or, bit_at_xor}
use Rattle.int_laws.specs.Bits.{digit, z_and, z_or, z_xor}

without_is : (a b : ℕ) → bit_xor a (bit_and a b) ≡ a - bit_and a b
without_is a b = omega (arith, xor_add_and a (bit_and a b), and_assoc b a a, again, and_le_l a b)
  where
    again : bit_and (bit_and a a) b ≡ bit_and a b
    again = ap (λ (n : ℕ). bit_and n b) (and_self a)

odd : (p q : ℕ) → p < 2 → q < 2 → (p + min p q) % 2 ≡ p - q
odd zero q h k = grind arith
odd (suc zero) zero h k = refl
odd (suc zero) (suc zero) h k = refl
odd (suc zero) (suc (suc q)) h k = absurd (omega (arith, k))
odd (suc (suc p)) q h k = absurd (omega (arith, h))

without_digits : (a b i : ℕ) → bit_at (a - bit_and a b) i ≡ bit_at a i - bit_at b i
without_digits a b i =
    ap (λ (n : ℕ). bit_at n i) (sym (without_is a b)) ∙ bit_at_xor a (bit_and a b) i ∙ ap (λ (n : ℕ). (bit_at a i + n) % 2) (bit_at_and a b i)
    ∙ odd (bit_at a i) (bit_at b i) (bit_at-lt a i) (bit_at-lt b i)

pub and_digits : (x y : ℤ) (i : ℕ) → digit (z_and x y) i ≡ min (digit x i) (digit y i)
and_digits (pos a) (pos b) i = bit_at_and a b i
and_digits (pos a) (negsuc b) i = omega (arith, without_digits a b i, bit_at-lt a i, bit_at-lt b i)
and_digits (negsuc a) (pos b) i = omega (arith, ap (λ (n : ℕ). bit_at (b - n) i) (and_comm a b), without_digits b a i, bit_at-lt a i, bit_at-lt b i)
and_digits (negsuc a) (negsuc b) i = omega (arith, bit_at_or a b i, bit_at-lt a i, bit_at-lt b i)

pub or_digits : (x y : ℤ) (i : ℕ) → digit (z_or x y) i ≡ max (digit x i) (digit y i)
or_digits (pos a) (pos b) i = bit_at_or a b i
or_digits (pos a) (negsuc b) i = omega (arith, ap (λ (n : ℕ). bit_at (b - n) i) (and_comm a b), without_digits b a i, bit_at-lt a i, bit_at-lt b i)
or_digits (negsuc a) (pos b) i = omega (arith, without_digits a b i, bit_at-lt a i, bit_at-lt b i)
or_digits (negsuc a) (negsuc b) i = omega (arith, bit_at_and a b i, bit_at-lt a i, bit_at-lt b i)

opposite : (p q : ℕ) → p < 2 → q < 2 → 1 - (p + q) % 2 ≡ (p + (1 - q)) % 2
opposite p q h k = omega (arith, h, k)

pub xor_digits : (x y : ℤ) (i : ℕ) → digit (z_xor x y) i ≡ (digit x i + digit y i) % 2
xor_digits (pos a) (pos b) i = bit_at_xor a b i
xor_digits (pos a) (negsuc b) i = ap (λ (n : ℕ). 1 - n) (bit_at_xor a b i) ∙ opposite (bit_at a i) (bit_at b i) (bit_at-lt a i) (bit_at-lt b i)
xor_digits (negsuc a) (pos b) i = omega (arith, bit_at_xor a b i, bit_at-lt a i, bit_at-lt b i)
xor_digits (negsuc a) (negsuc b) i = omega (arith, bit_at_xor a b i, bit_at-lt a i, bit_at-lt b i)
