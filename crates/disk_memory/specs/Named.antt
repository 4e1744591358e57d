-- Values by name, of which the first of a name is meant.
use Rattle.std.specs.Prelude.{◌≡◌, ◌==◌, length, ℕ, zero, suc, true, false, List, [], ◌∷◌, Option, Some, None, if◌then◌else◌, String, string_bytes}
use Rattle.std.specs.Str.{bytes_eq}
use Rattle.std.specs.declared.alloc.Global.{Global}

abbrev pub named : {T : Type 0} → List (String Global × T) → List ℕ → Option T
named [] name = None
named (pair ∷ pairs) name = if bytes_eq (string_bytes pair.0) name then Some pair.1 else named pairs name

-- the first value of that name stands there
abbrev pub IsPlace : {T : Type 0} → List (String Global × T) → List ℕ → ℕ → Type 0
IsPlace [] name at = ⊥
IsPlace (pair ∷ pairs) name zero = bytes_eq (string_bytes pair.0) name ≡ true
IsPlace (pair ∷ pairs) name (suc at) = (bytes_eq (string_bytes pair.0) name ≡ false) × IsPlace pairs name at

-- without the first value of that name
abbrev pub without : {T : Type 0} → List (String Global × T) → List ℕ → List (String Global × T)
without [] name = []
without (pair ∷ pairs) name = if bytes_eq (string_bytes pair.0) name then pairs else pair ∷ without pairs name

-- what is left once the value under a name was taken, of which there is none under the empty name
abbrev pub left_of : {T : Type 0} → List (String Global × T) → List ℕ → List (String Global × T)
left_of list name = if length name == 0 then list else without list name

-- the value under a name, of which there is none under the empty name
abbrev pub under : {T : Type 0} → List (String Global × T) → List ℕ → Option T
under list name = if length name == 0 then None else named list name
