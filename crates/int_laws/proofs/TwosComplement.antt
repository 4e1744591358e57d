-- The operators on the bits of an i128 are those on two's complement without a width.
use Rattle.std.proofs.Common.{◌≡◌, ℕ, suc, ◌-◌, ◌^◌, ◌<◌, ℤ, pos, negsuc, bit_and, bit_or, to_z, of_z, FitsSigned, ◌∙◌, ap, arith}
use mir.Syntax.{w128}
use Rattle.std.specs.Int.Bits.{bit_xor, or_add_and, xor_add_and}
use Rattle.std.proofs.lemmas.Int.{to_z-of_z, to_z_pos}
use Rattle.std.proofs.lemmas.Nat.{and-not, and_comm, and_le_l, and_le_r, or_lt, xor_lt}
use Rattle.int_laws.specs.Bits.{z_and, z_or, z_xor}

-- what the code computes of bits that are those of the result z
read_as : (z : ℤ) (n : ℕ) → FitsSigned w128 z → n ≡ of_z w128 z → to_z w128 n ≡ z
read_as z n f e = ap (to_z w128) e ∙ to_z-of_z w128 z f

bits_below : (a : ℕ) → of_z w128 (negsuc a) ≡ 2 ^ 128 - 1 - a
bits_below a = omega arith

-- n without the digits of m
kept : (m n : ℕ) → m < 2 ^ 127 → n < 2 ^ 127 → bit_and (2 ^ 128 - 1 - m) n ≡ n - bit_and n m
kept m n h k = omega (arith, and-not 128 m n (omega (arith, h)) (omega (arith, k)), and_comm m n)

both_below : (a b : ℕ) → a < 2 ^ 127 → b < 2 ^ 127 → bit_and (2 ^ 128 - 1 - a) (2 ^ 128 - 1 - b) ≡ 2 ^ 128 - suc (bit_or a b)
both_below a b h k = omega (
  arith,
  and-not 128 a (2 ^ 128 - 1 - b) (omega (arith, h)) (omega arith),
  and-not 128 b a (omega (arith, k)) (omega (arith, h)),
  and_comm a (2 ^ 128 - 1 - b),
  and_comm a b,
  or_add_and a b,
  or_lt 127 a b h k,
)

pub and_is : (x y : ℤ) → FitsSigned w128 x → FitsSigned w128 y → to_z w128 (bit_and (of_z w128 x) (of_z w128 y)) ≡ z_and x y
and_is (pos a) (pos b) f g = to_z_pos w128 (bit_and a b) (omega (arith, and_le_l a b, f.sfits))
and_is (pos a) (negsuc b) f g = read_as (pos (a - bit_and a b)) (bit_and a (of_z w128 (negsuc b))) (record { sfits = omega (arith, f.sfits) })
    (rw (bits_below b) (and_comm a (2 ^ 128 - 1 - b) ∙ kept b a g.sfits f.sfits))
and_is (negsuc a) (pos b) f g = read_as (pos (b - bit_and a b)) (bit_and (of_z w128 (negsuc a)) b) (record { sfits = omega (arith, g.sfits) })
    (rw (bits_below a) (omega (arith, kept a b f.sfits g.sfits, and_comm a b)))
and_is (negsuc a) (negsuc b) f g = read_as (negsuc (bit_or a b)) (bit_and (of_z w128 (negsuc a)) (of_z w128 (negsuc b))) (record { sfits = or_lt 127 a b f.sfits g.sfits })
    (rw (bits_below a, bits_below b) (both_below a b f.sfits g.sfits))

pub or_is : (x y : ℤ) → FitsSigned w128 x → FitsSigned w128 y → to_z w128 (bit_or (of_z w128 x) (of_z w128 y)) ≡ z_or x y
or_is (pos a) (pos b) f g = to_z_pos w128 (bit_or a b) (or_lt 127 a b f.sfits g.sfits)
or_is (pos a) (negsuc b) f g = read_as (negsuc (b - bit_and a b)) (bit_or a (of_z w128 (negsuc b))) (record { sfits = omega (arith, g.sfits) })
    (rw (bits_below b) (omega (arith, or_add_and a (2 ^ 128 - 1 - b), and_comm a (2 ^ 128 - 1 - b), kept b a g.sfits f.sfits, and_le_r a b, and_le_l a b, g.sfits)))
or_is (negsuc a) (pos b) f g = read_as (negsuc (a - bit_and a b)) (bit_or (of_z w128 (negsuc a)) b) (record { sfits = omega (arith, f.sfits) })
    (rw (bits_below a) (omega (arith, or_add_and (2 ^ 128 - 1 - a) b, kept a b f.sfits g.sfits, and_comm a b, and_le_r a b, and_le_l a b, f.sfits)))
or_is (negsuc a) (negsuc b) f g = read_as (negsuc (bit_and a b)) (bit_or (of_z w128 (negsuc a)) (of_z w128 (negsuc b))) (record { sfits = omega (arith, and_le_l a b, f.sfits) })
    (rw (bits_below a, bits_below b) (omega (arith, or_add_and (2 ^ 128 - 1 - a) (2 ^ 128 - 1 - b), both_below a b f.sfits g.sfits, or_add_and a b, or_lt 127 a b f.sfits g.sfits, f.sfits, g.sfits)))

pub xor_is : (x y : ℤ) → FitsSigned w128 x → FitsSigned w128 y → to_z w128 (bit_xor (of_z w128 x) (of_z w128 y)) ≡ z_xor x y
xor_is (pos a) (pos b) f g = to_z_pos w128 (bit_xor a b) (xor_lt 127 a b f.sfits g.sfits)
xor_is (pos a) (negsuc b) f g = read_as (negsuc (bit_xor a b)) (bit_xor a (of_z w128 (negsuc b))) (record { sfits = xor_lt 127 a b f.sfits g.sfits })
    (rw (bits_below b) (omega (arith, xor_add_and a (2 ^ 128 - 1 - b), and_comm a (2 ^ 128 - 1 - b), kept b a g.sfits f.sfits, xor_add_and a b, and_le_l a b, and_le_r a b, f.sfits, g.sfits)))
xor_is (negsuc a) (pos b) f g = read_as (negsuc (bit_xor a b)) (bit_xor (of_z w128 (negsuc a)) b) (record { sfits = xor_lt 127 a b f.sfits g.sfits })
    (rw (bits_below a) (omega (arith, xor_add_and (2 ^ 128 - 1 - a) b, kept a b f.sfits g.sfits, and_comm a b, xor_add_and a b, and_le_l a b, and_le_r a b, f.sfits, g.sfits)))
xor_is (negsuc a) (negsuc b) f g = read_as (pos (bit_xor a b)) (bit_xor (of_z w128 (negsuc a)) (of_z w128 (negsuc b))) (record { sfits = xor_lt 127 a b f.sfits g.sfits })
    (rw (bits_below a, bits_below b) (omega (arith, xor_add_and (2 ^ 128 - 1 - a) (2 ^ 128 - 1 - b), both_below a b f.sfits g.sfits, xor_add_and a b, or_add_and a b, or_lt 127 a b f.sfits g.sfits, f.sfits, g.sfits)))
