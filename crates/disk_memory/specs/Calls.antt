-- What a disk in memory is after a list of calls, and what a crash may leave of it.
use Rattle.std.specs.Prelude.{◌≡◌, ℕ, ◌+◌, ◌-◌, ◌≤◌, Bool, true, false, cond, List, [], ◌∷◌, ◌++◌, length, take, drop}
use Rattle.sv_outside.specs.Disk.{Torn, Cut as CutShort}
use Rattle.disk_memory.specs.declared.medium.Call.{Call}
use Rattle.disk_memory.specs.declared.medium.Call.TheVariants.{Write, Cut, Sync}

-- a write with its bytes, a cut and a sync, each done or failed
pub data Op : Type 0 where
  wrote : ℕ → List ℕ → Bool → Op
  cut : ℕ → Bool → Op
  synced : Bool → Op

-- the calls, with the bytes of the writes from a common store
abbrev pub ops_of : List Call → List ℕ → List Op
ops_of [] store = []
ops_of (Write at len done ∷ calls) store = wrote at (take len store) done ∷ ops_of calls (drop len store)
ops_of (Cut len done ∷ calls) store = cut len done ∷ ops_of calls store
ops_of (Sync done ∷ calls) store = synced done ∷ ops_of calls store

-- how many bytes the calls have written
abbrev pub bytes_of : List Call → ℕ
bytes_of [] = 0
bytes_of (Write at len done ∷ calls) = len + bytes_of calls
bytes_of (Cut len done ∷ calls) = bytes_of calls
bytes_of (Sync done ∷ calls) = bytes_of calls

-- what is read after one call, and after a list of calls
abbrev pub read_after : List ℕ → Op → List ℕ
read_after r (wrote at bytes done) = cond done (take at r ++ bytes ++ drop (at + length bytes) r) r
read_after r (cut n done) = cond done (take n r) r
read_after r (synced done) = r

abbrev pub reads : List ℕ → List Op → List ℕ
reads r [] = r
reads r (op ∷ ops) = reads (read_after r op) ops

-- how far calls lie past the end: 0 where each begins within what is there
abbrev pub past_end : List ℕ → Op → ℕ
past_end r (wrote at bytes done) = at - length r
past_end r (cut n done) = n - length r
past_end r (synced done) = 0

abbrev pub all_past_end : List ℕ → List Op → ℕ
all_past_end r [] = 0
all_past_end r (op ∷ ops) = past_end r op + all_past_end (read_after r op) ops

-- what a crash may leave after one call, and after a list of calls
abbrev pub left_after : List ℕ → (List ℕ → Type 0) → Op → List ℕ → Type 0
left_after r I (wrote at bytes done) c = (d : List ℕ) × I d × Torn at (length bytes) d c
left_after r I (cut n done) c = (d : List ℕ) × I d × CutShort n d c
left_after r I (synced true) c = c ≡ r
left_after r I (synced false) c = I c

abbrev pub leaves : List ℕ → (List ℕ → Type 0) → List Op → List ℕ → Type 0
leaves r I [] c = I c
leaves r I (op ∷ ops) c = leaves (read_after r op) (left_after r I op) ops c

-- from a first image, which is on the disk
abbrev pub image : List ℕ → List Op → List ℕ → Type 0
image first ops c = leaves first (λ x. x ≡ first) ops c

-- at some moment from t on
abbrev pub image_since : List ℕ → List Op → ℕ → List ℕ → Type 0
image_since first ops t c = (k : ℕ) × (t ≤ k) × (k ≤ length ops) × image first (take k ops) c
