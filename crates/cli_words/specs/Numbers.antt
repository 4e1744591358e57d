-- Numbers as words give them.
use Rattle.std.specs.Prelude.{ℕ, ◌+◌, ◌-◌, ◌*◌, Bool, ◌&&◌, List, [], ◌∷◌, Option, Some, None, length, nat_le, if◌then◌else◌}
use Rattle.std.specs.List.{list_all}
use Rattle.std.specs.Char.{is_ascii_digit}

-- one to ten ASCII digits
abbrev pub is_number : List ℕ → Bool
is_number text = nat_le 1 (length text) && nat_le (length text) 10 && list_all is_ascii_digit text

-- the number that the digits write behind those of n
abbrev pub value_after : ℕ → List ℕ → ℕ
value_after n [] = n
value_after n (c ∷ cs) = value_after (10 * n + (c - 48)) cs

-- the number that the text writes, where it lies in the range
abbrev pub number_between : ℕ → ℕ → List ℕ → Option ℕ
number_between low high text =
    let n = value_after 0 text in if is_number text && nat_le low n && nat_le n high then Some n else None
