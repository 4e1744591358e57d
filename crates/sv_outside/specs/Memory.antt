-- Files and failing calls of the forms in memory.
use Rattle.std.specs.Prelude.{ℕ, ◌==◌, List, [], ◌∷◌, Option, Some, None, if◌then◌else◌, String, Vec, string_bytes, unwrap_or}
use Rattle.std.specs.Str.{bytes_eq}
use Rattle.std.specs.declared.alloc.Global.{Global}
use Rattle.sv_outside.specs.Outside.{Files}

-- the first file of that name
abbrev pub file_named : List (String Global × Vec ℕ Global) → Files
file_named [] name = None
file_named (file ∷ files) name = if bytes_eq (string_bytes file.0) name then Some file.1.items else file_named files name

-- the same, where a name that was not given is an empty file
abbrev pub file_or_empty : List (String Global × Vec ℕ Global) → Files
file_or_empty files name = Some (unwrap_or (file_named files name) [])

-- the bytes of a file that was found
abbrev pub items_found : Option (Vec ℕ Global) → Option (List ℕ)
items_found None = None
items_found (Some bytes) = Some bytes.items

-- how many bytes the put of that number takes before it fails, where it is one that fails
abbrev pub failing_at : List (ℕ × ℕ) → ℕ → Option ℕ
failing_at [] number = None
failing_at (pair ∷ failing) number = if pair.0 == number then Some pair.1 else failing_at failing number
