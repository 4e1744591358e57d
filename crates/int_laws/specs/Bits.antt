-- Binary digits of all integers in two's complement, without a width: a number below 0 has infinitely many ones.
use Rattle.std.specs.Prelude.{ℕ, ◌-◌, ℤ, pos, negsuc}
use Rattle.std.specs.Int.{bit_at}
use Rattle.std.specs.Int.Bits.{bit_and, bit_or, bit_xor}

-- the digits of -1 - n are those of n, each the other way round
abbrev pub digit : ℤ → ℕ → ℕ
digit (pos n) i = bit_at n i
digit (negsuc n) i = 1 - bit_at n i

-- `n - bit_and n m` has the digits of n where m has none
abbrev pub z_and : ℤ → ℤ → ℤ
z_and (pos a) (pos b) = pos (bit_and a b)
z_and (pos a) (negsuc b) = pos (a - bit_and a b)
z_and (negsuc a) (pos b) = pos (b - bit_and a b)
z_and (negsuc a) (negsuc b) = negsuc (bit_or a b)

abbrev pub z_or : ℤ → ℤ → ℤ
z_or (pos a) (pos b) = pos (bit_or a b)
z_or (pos a) (negsuc b) = negsuc (b - bit_and a b)
z_or (negsuc a) (pos b) = negsuc (a - bit_and a b)
z_or (negsuc a) (negsuc b) = negsuc (bit_and a b)

abbrev pub z_xor : ℤ → ℤ → ℤ
z_xor (pos a) (pos b) = pos (bit_xor a b)
z_xor (pos a) (negsuc b) = negsuc (bit_xor a b)
z_xor (negsuc a) (pos b) = negsuc (bit_xor a b)
z_xor (negsuc a) (negsuc b) = pos (bit_xor a b)
