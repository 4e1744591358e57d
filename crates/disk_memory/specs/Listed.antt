-- Some of the images that a crash may leave, as a list: what stood after the last sync that was done, that after each of the
-- calls since, and before each write what is read with ones in the range of the write.
use Rattle.std.specs.Prelude.{ℕ, ◌+◌, true, false, List, [], ◌∷◌, ◌++◌, length, take, drop, replicate}
use Rattle.disk_memory.specs.Calls.{Op, read_after}
use Rattle.disk_memory.specs.Calls.Op.{wrote, cut, synced}

-- ones in a range of so many bytes
abbrev pub filled : List ℕ → ℕ → ℕ → List ℕ
filled r at n = take at r ++ replicate n 1 ++ drop (at + n) r

-- the list after one call, and after a list of calls
abbrev pub listed_after : List ℕ → List (List ℕ) → Op → List (List ℕ)
listed_after r listed (wrote at bytes done) = listed ++ (filled r at (length bytes) ∷ read_after r (wrote at bytes done) ∷ [])
listed_after r listed (cut n done) = listed ++ read_after r (cut n done) ∷ []
listed_after r listed (synced true) = r ∷ []
listed_after r listed (synced false) = listed

abbrev pub listed_by : List ℕ → List (List ℕ) → List Op → List (List ℕ)
listed_by r listed [] = listed
listed_by r listed (op ∷ ops) = listed_by (read_after r op) (listed_after r listed op) ops

-- from a first image, which is on the disk
abbrev pub listed_images : List ℕ → List Op → List (List ℕ)
listed_images first ops = listed_by first (first ∷ []) ops
