-- How bytes are shown in a line of a terminal.
use Rattle.std.specs.Prelude.{ℕ, ◌+◌, ◌-◌, ◌/◌, ◌%◌, ◌==◌, ◌||◌, nat_lt, List, [], ◌∷◌, if◌then◌else◌}
use Rattle.std.specs.List.{flat_map}

-- 0 to 9 and a to f
abbrev pub hex_digit : ℕ → ℕ
hex_digit n = if nat_lt n 10 then 48 + n else 97 + (n - 10)

-- \xHH
abbrev pub escaped_byte : ℕ → List ℕ
escaped_byte b = 92 ∷ 120 ∷ hex_digit (b / 16) ∷ hex_digit (b % 16) ∷ []

-- a control byte is escaped, every other byte stands for itself
abbrev pub shown_byte : ℕ → List ℕ
shown_byte b = if nat_lt b 32 || b == 127 then escaped_byte b else b ∷ []

-- bytes as a terminal shows them
abbrev pub shown : List ℕ → List ℕ
shown bytes = flat_map shown_byte bytes
