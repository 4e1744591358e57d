-- The punctuators that the form has.
use Rattle.std.specs.Prelude.{ℕ, Bool, ◌||◌, ◌==◌}

-- one of [ ] ( ) { } ; =
abbrev pub is_mark : ℕ → Bool
is_mark b = (b == 91) || (b == 93) || (b == 40) || (b == 41) || (b == 123) || (b == 125) || (b == 59) || (b == 61)
