-- What the calls of a disk do, and what a crash may leave of it. Between two syncs a written range, and whatever lies past
-- the old end or past a cut, may hold any bytes, and the length may be any between the old and the new one.
use Rattle.std.specs.Prelude.{◌≡◌, ◌⊎◌, ℕ, ◌+◌, ◌≤◌, min, max, List, ◌++◌, length, take, drop}

-- new is old with these bytes at this offset
abbrev pub Holds : List ℕ → ℕ → List ℕ → List ℕ → Type 0
Holds old at bytes new = new ≡ take at old ++ bytes ++ drop (at + length bytes) old

-- after a write of n bytes that may be cut short: any bytes in the range and past the old end, the same elsewhere
pub record Torn (at n : ℕ) (old new : List ℕ) : Type 0 where
  pub before : take at new ≡ take at old
  pub after : drop (at + n) new ≡ drop (at + n) old
  pub no_shorter : length old ≤ length new
  pub no_longer : length new ≤ max (length old) (at + n)

-- after a cut to n bytes that may be cut short: some length between, and any bytes behind the first n
pub record Cut (n : ℕ) (old new : List ℕ) : Type 0 where
  pub no_shorter : min n (length old) ≤ length new
  pub no_longer : length new ≤ length old
  pub front : take n new ≡ take n old

-- each new outcome of a crash is an old outcome after a step
abbrev pub Follows : (List ℕ → List ℕ → Type 0) → (List ℕ → Type 0) → (List ℕ → Type 0) → Type 0
Follows step old new = (c : List ℕ) → new c → (d : List ℕ) × old d × step d c

-- a crash leaves this and nothing else
abbrev pub Only : List ℕ → (List ℕ → Type 0) → Type 0
Only image images = (c : List ℕ) → images c → c ≡ image

-- time goes on: a crash since t might have left what it might have left before, or what it may leave now
pub record Elapses (before now : ℕ) (past since : ℕ → List ℕ → Type 0) (may_leave : List ℕ → Type 0) : Type 0 where
  pub later : before ≤ now
  pub nothing_else : (t : ℕ) (c : List ℕ) → t ≤ before → since t c → past t c ⊎ may_leave c
  pub keeps : (t : ℕ) (c : List ℕ) → t ≤ before → past t c → since t c

-- no moment has passed, and what a crash may leave, or might have left, is the same
pub record IsStill (before now : ℕ) (past since : ℕ → List ℕ → Type 0) (old new : List ℕ → Type 0) : Type 0 where
  pub moment : now ≡ before
  pub past_same : (t : ℕ) (c : List ℕ) → (since t c → past t c) × (past t c → since t c)
  pub images : (c : List ℕ) → (new c → old c) × (old c → new c)

-- the room of a disk: the length that it may reach, and the calls and bytes that may still be written
pub record Room : Type 0 where
  pub length : ℕ
  pub calls : ℕ
  pub bytes : ℕ

-- there is room for a length, for calls and for the bytes that they write
pub record HasRoom (room : Room) (length calls bytes : ℕ) : Type 0 where
  pub reach : length ≤ room.length
  pub more_calls : calls ≤ room.calls
  pub more_bytes : bytes ≤ room.bytes

-- these calls took no more room than for themselves and for their bytes
pub record TakesRoom (calls bytes : ℕ) (old new : Room) : Type 0 where
  pub reach : old.length ≤ new.length
  pub fewer_calls : old.calls ≤ new.calls + calls
  pub fewer_bytes : old.bytes ≤ new.bytes + bytes

-- a crash at any moment since old leaves an image that has P
pub record LeavesOnly {D : Type 0} (moment : D → ℕ) (left_since : D → ℕ → List ℕ → Type 0) (old new : D) (P : List ℕ → Type 0) : Type 0 where
  pub later : moment old ≤ moment new
  pub each : (c : List ℕ) → left_since new (moment old) c → P c
  -- for a run that began earlier
  pub before : (t : ℕ) (c : List ℕ) → t ≤ moment old → left_since new t c → left_since old t c ⊎ P c
