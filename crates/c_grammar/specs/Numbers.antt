-- That numbers are those of the tables of keywords and punctuators.
use Rattle.std.specs.Prelude.{ℕ, Bool, false, ◌==◌, ◌&&◌, ◌||◌, List, [], ◌∷◌, Option, Some, None}
use Rattle.std.specs.Str.{bytes_eq}
use Rattle.c_syntax.specs.Keywords.{keyword_number}
use Rattle.c_syntax.specs.Marks.{Mark}

-- an entry of the table of punctuators has this spelling and this number
abbrev pub has_mark : List Mark → List ℕ × ℕ → Bool
has_mark [] named = false
has_mark (mark ∷ others) named = bytes_eq mark.text named.0 && mark.number == named.1 || has_mark others named

abbrev pub is_number : ℕ → Option ℕ → Bool
is_number n None = false
is_number n (Some m) = m == n

-- the keyword of this spelling has this number
abbrev pub has_keyword : List ℕ × ℕ → Bool
has_keyword named = is_number named.1 (keyword_number named.0)
