-- The calls one by one, with the store that has the bytes of the writes.
use Rattle.std.specs.Prelude.{◌≡◌, ◌⊎◌, ℕ, ◌+◌, ◌-◌, ◌≤◌, true, List, [], ◌∷◌, ◌++◌, length, map, take, drop, Vec}
use Rattle.std.specs.declared.alloc.Global.{Global}
use Rattle.disk_memory.specs.Calls.{Op, ops_of, bytes_of, reads, all_past_end}
use Rattle.disk_memory.specs.Calls.Op.{wrote, cut, synced}
use Rattle.disk_memory.specs.declared.medium.Call.{Call}
use Rattle.disk_memory.specs.declared.medium.Call.TheVariants.{Write, Cut, Sync}

-- the bytes of each image
abbrev pub contents : List (Vec ℕ Global) → List (List ℕ)
contents images = map (λ v. v.items) images

-- a call, with the bytes that it wrote
abbrev pub op_with : Call → List ℕ → Op
op_with (Write at len done) bytes = wrote at bytes done
op_with (Cut n done) bytes = cut n done
op_with (Sync done) bytes = synced done

-- how many bytes a call wrote
abbrev pub size_of : Call → ℕ
size_of (Write at len done) = len
size_of (Cut n done) = 0
size_of (Sync done) = 0

-- these calls, from that place in the store on, can be done one after another where this is read
pub record IsReplayable (read : List ℕ) (calls : List Call) (store : List ℕ) (used : ℕ) : Type 0 where
  pub inside : used ≤ length store
  pub stored : bytes_of calls ≡ length store - used
  pub placed : all_past_end read (ops_of calls (drop used store)) ≡ 0

-- the last of the first n calls is a sync that was done, or there is none
abbrev pub IsSettled : List Call → ℕ → Type 0
IsSettled calls n = (n ≡ 0) ⊎ ((k : ℕ) × (n ≡ k + 1) × (take n calls ≡ take k calls ++ Sync true ∷ []))

-- the first n of these calls were done again from a first image on, which has used so much of the store
pub record IsReplayed (first : List ℕ) (ops : List Op) (calls : List Call) (store : List ℕ) (n : ℕ) (read : List ℕ) (used : ℕ) : Type 0 where
  pub can_go_on : IsReplayable read (drop n calls) store used
  pub rest : drop n ops ≡ ops_of (drop n calls) (drop used store)
  pub done : read ≡ reads first (take n ops)
