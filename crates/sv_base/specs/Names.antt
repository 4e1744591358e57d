-- Lists of distinct names. A name's number is its place in the list.
use Rattle.std.specs.Prelude.{ℕ, Bool, List, [], ◌∷◌, ◌++◌, if◌then◌else◌}
use Rattle.std.specs.List.{list_any, position_or_len}
use Rattle.std.specs.Str.{bytes_eq}

-- whether the text is one of the names
abbrev pub has_name : List (List ℕ) → List ℕ → Bool
has_name names text = list_any (bytes_eq text) names

-- the names after the text was numbered: they stay where it is one of them, and else it goes last
abbrev pub with_name : List (List ℕ) → List ℕ → List (List ℕ)
with_name names text = if has_name names text then names else names ++ text ∷ []

-- the text's number: its place among the names, or the next one
abbrev pub number_in : List (List ℕ) → List ℕ → ℕ
number_in names text = position_or_len (bytes_eq text) names
