-- The bit operators stay within the numbers of a width.
use Rattle.std.proofs.Common.{ℕ, ◌^◌, ℤ, pos, negsuc, neg_ℤ, ◌≤ℤ◌, ◌<ℤ◌, arith}
use Rattle.std.proofs.lemmas.Int.{ints}
use Rattle.std.proofs.lemmas.Nat.{and_le_l, and_le_r, le_or_l, le_or_r, or_lt, xor_lt}
use Rattle.int_laws.specs.Bits.{z_and, z_or, z_xor}

-- z has k binary digits beside its sign
pub record IsWide (k : ℕ) (z : ℤ) : Type 0 where
  pub low : neg_ℤ (pos (2 ^ k)) ≤ℤ z
  pub high : z <ℤ pos (2 ^ k)

pub wide_and : (k : ℕ) (x y : ℤ) → IsWide k x → IsWide k y → IsWide k (z_and x y)
wide_and k (pos a) (pos b) h g = record { low = omega (arith, ints); high = omega (arith, ints, and_le_l a b, h.high) }
wide_and k (pos a) (negsuc b) h g = record { low = omega (arith, ints); high = omega (arith, ints, h.high) }
wide_and k (negsuc a) (pos b) h g = record { low = omega (arith, ints); high = omega (arith, ints, g.high) }
wide_and k (negsuc a) (negsuc b) h g = record { low = omega (arith, ints, or_lt k a b (omega (arith, ints, h.low)) (omega (arith, ints, g.low))); high = omega (arith, ints) }

pub wide_or : (k : ℕ) (x y : ℤ) → IsWide k x → IsWide k y → IsWide k (z_or x y)
wide_or k (pos a) (pos b) h g = record { low = omega (arith, ints); high = omega (arith, ints, or_lt k a b (omega (arith, ints, h.high)) (omega (arith, ints, g.high))) }
wide_or k (pos a) (negsuc b) h g = record { low = omega (arith, ints, g.low); high = omega (arith, ints) }
wide_or k (negsuc a) (pos b) h g = record { low = omega (arith, ints, h.low); high = omega (arith, ints) }
wide_or k (negsuc a) (negsuc b) h g = record { low = omega (arith, ints, and_le_l a b, h.low); high = omega (arith, ints) }

pub wide_xor : (k : ℕ) (x y : ℤ) → IsWide k x → IsWide k y → IsWide k (z_xor x y)
wide_xor k (pos a) (pos b) h g = record { low = omega (arith, ints); high = omega (arith, ints, xor_lt k a b (omega (arith, ints, h.high)) (omega (arith, ints, g.high))) }
wide_xor k (pos a) (negsuc b) h g = record { low = omega (arith, ints, xor_lt k a b (omega (arith, ints, h.high)) (omega (arith, ints, g.low))); high = omega (arith, ints) }
wide_xor k (negsuc a) (pos b) h g = record { low = omega (arith, ints, xor_lt k a b (omega (arith, ints, h.low)) (omega (arith, ints, g.high))); high = omega (arith, ints) }
wide_xor k (negsuc a) (negsuc b) h g = record { low = omega (arith, ints); high = omega (arith, ints, xor_lt k a b (omega (arith, ints, h.low)) (omega (arith, ints, g.low))) }

-- with one number from 0, so is what both have in common
pub and_left : (x y : ℤ) → pos 0 ≤ℤ x → (pos 0 ≤ℤ z_and x y) × (z_and x y ≤ℤ x)
and_left (pos a) (pos b) h = (omega (arith, ints), omega (arith, ints, and_le_l a b))
and_left (pos a) (negsuc b) h = (omega (arith, ints), omega (arith, ints))
and_left (negsuc a) y h = absurd (omega (arith, ints, h))

pub and_right : (x y : ℤ) → pos 0 ≤ℤ y → (pos 0 ≤ℤ z_and x y) × (z_and x y ≤ℤ y)
and_right (pos a) (pos b) h = (omega (arith, ints), omega (arith, ints, and_le_r a b))
and_right (negsuc a) (pos b) h = (omega (arith, ints), omega (arith, ints))
and_right x (negsuc b) h = absurd (omega (arith, ints, h))

pub or_up : (x y : ℤ) → pos 0 ≤ℤ x → pos 0 ≤ℤ y → (x ≤ℤ z_or x y) × (y ≤ℤ z_or x y)
or_up (pos a) (pos b) h g = (omega (arith, ints, le_or_l a b), omega (arith, ints, le_or_r a b))
or_up (negsuc a) y h g = absurd (omega (arith, ints, h))
or_up (pos a) (negsuc b) h g = absurd (omega (arith, ints, g))

pub xor_up : (x y : ℤ) → pos 0 ≤ℤ x → pos 0 ≤ℤ y → pos 0 ≤ℤ z_xor x y
xor_up (pos a) (pos b) h g = omega (arith, ints)
xor_up (negsuc a) y h g = absurd (omega (arith, ints, h))
xor_up (pos a) (negsuc b) h g = absurd (omega (arith, ints, g))
