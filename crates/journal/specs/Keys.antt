-- Records, and where the first of each task of a round is among them.
use Rattle.std.specs.Prelude.{◌≡◌, ◌==◌, ◌&&◌, ◌<◌, ℕ, Bool, List, [], ◌∷◌, ◌++◌, length, map, find, slice_get, Option, Some, None, Vec}
use Rattle.std.specs.declared.alloc.Global.{Global}
use Rattle.journal.specs.declared.kept.Kept.{Kept}
use Rattle.journal.specs.declared.first_bodies.TaskKey.{TaskKey}
use Rattle.journal.specs.Format.{Entry}
use Rattle.journal.specs.Looks.{filled}
use Rattle.journal.specs.Steps.{entry_of}

-- of this task of this round
abbrev pub is_of : TaskKey → Entry → Bool
is_of key entry = (entry.round == key.round) && (entry.task == key.task)

abbrev pub same_key : TaskKey → TaskKey → Bool
same_key p q = (p.round == q.round) && (p.task == q.task)

abbrev pub key_of : Entry → TaskKey
key_of entry = record { round = entry.round; task = entry.task }

abbrev pub given : List Kept → List Entry
given records = map entry_of records

-- the index of the first of these records at a key, where there is one
abbrev pub IsFirst : Option ℕ → List Entry → TaskKey → Type 0
IsFirst None entries key = find (is_of key) entries ≡ None
IsFirst (Some index) entries key = (index < length entries) × (find (is_of key) entries ≡ slice_get entries index)

-- the body of this record, where there is one
abbrev pub IsBodyOf : Option Entry → Option (Vec ℕ Global) → Type 0
IsBodyOf None None = Unit {0}
IsBodyOf (Some entry) (Some body) = body.items ≡ entry.body
IsBodyOf None (Some body) = ⊥
IsBodyOf (Some entry) None = ⊥

-- a record more, filled from those before it
abbrev pub Gains : List Kept → Kept → List Kept → Type 0
Gains old kept new = (map (λ k. k.at) new ≡ map (λ k. k.at) old ++ kept.at ∷ []) × (given new ≡ given old ++ filled (given old) (entry_of kept) ∷ [])
