-- A shelf of artifacts.
use Rattle.std.specs.Prelude.{◌-◌, nat_le, ◌&&◌, ℕ, Bool, true, false, if◌then◌else◌, List, [], ◌∷◌, ◌++◌, map, length, replicate, Option, Some, None, slice_set, slice_index_or, Vec}
use Rattle.std.specs.Str.{bytes_eq}
use Rattle.std.specs.declared.alloc.Global.{Global}

-- the artifacts of a round by task, none where the task is not done
abbrev pub Row : Type 0
Row = List (Option (List ℕ))

abbrev pub bytes_in : Option (Vec ℕ Global) → Option (List ℕ)
bytes_in None = None
bytes_in (Some artifact) = Some artifact.items

abbrev pub row_of : Vec (Option (Vec ℕ Global)) Global → Row
row_of row = map bytes_in row.items

-- each round by its number, empty where it is not kept; and the first round before the current one that has the artifacts
-- of the round before it
pub record Shelved : Type 0 where
  pub rows : List Row
  pub still_before : Option ℕ

abbrev pub row_at : Shelved → ℕ → Row
row_at shelf round = slice_index_or shelf.rows round []

abbrev pub row_length : Shelved → ℕ → ℕ
row_length shelf round = length (row_at shelf round)

abbrev pub artifact_at : Shelved → ℕ → ℕ → Option (List ℕ)
artifact_at shelf round task = slice_index_or (row_at shelf round) task None

-- whether each task is done in both rounds, with the same artifact
abbrev pub is_same : Row → Row → Bool
is_same [] [] = true
is_same (Some old ∷ before) (Some new ∷ now) = bytes_eq old new && is_same before now
is_same before now = false

-- whether the last round is the same as the one before it
abbrev pub ends_still : List Row → Bool
ends_still rows = nat_le 2 (length rows) && is_same (slice_index_or rows (length rows - 2) []) (slice_index_or rows (length rows - 1) [])

-- the first round that is done and the same as the one before it
abbrev pub still_of : Shelved → Option ℕ
still_of shelf = first_of shelf.still_before (if ends_still shelf.rows then Some (length shelf.rows - 1) else None)
  where
    first_of : Option ℕ → Option ℕ → Option ℕ
    first_of None other = other
    first_of (Some round) other = Some round

-- of the rounds from 3 on only the last two are kept
abbrev pub only_kept : List Row → List Row
only_kept rows = if nat_le 6 (length rows) then slice_set rows (length rows - 3) [] else rows

-- once the next round has begun, of so many tasks
abbrev pub begun : Shelved → ℕ → Shelved
begun shelf tasks = record { rows = only_kept (shelf.rows ++ replicate tasks None ∷ []); still_before = still_of shelf }

-- with the artifact of a task of the current round
abbrev pub shelved : Shelved → ℕ → List ℕ → Shelved
shelved shelf task artifact = let round = length shelf.rows - 1 in
    record { rows = slice_set shelf.rows round (slice_set (row_at shelf round) task (Some artifact)); still_before = shelf.still_before }
