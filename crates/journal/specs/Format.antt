-- The records of a journal, and what an image stands for.
use Rattle.std.specs.Prelude.{◌≡◌, ◌≢◌, ◌⊎◌, ◌≤◌, ◌^◌, ℕ, List, [], ◌∷◌, ◌++◌, length}
use Rattle.byteorder.specs.Endian.{big_bytes}

-- what a record says: the body of a task of a round
pub record Entry : Type 0 where
  pub round : ℕ
  pub task : ℕ
  pub body : List ℕ

-- the bytes of a record behind its gate: round, task and length of the body, each of four bytes, and the body
abbrev pub bytes_of : Entry → List ℕ
bytes_of e = big_bytes 4 e.round ++ big_bytes 4 e.task ++ big_bytes 4 (length e.body) ++ e.body

-- open records, each behind its gate
abbrev pub opened : List Entry → List ℕ
opened [] = []
opened (entry ∷ entries) = (1 ∷ bytes_of entry) ++ opened entries

-- a gate that is closed, or is the last byte
abbrev pub IsClosed : List ℕ → Type 0
IsClosed [] = ⊥
IsClosed (gate ∷ []) = Unit {0}
IsClosed (gate ∷ x ∷ rest) = gate ≢ 1

-- a gate that counts as open: it is, and is not the last byte
abbrev pub IsOpen : List ℕ → Type 0
IsOpen [] = ⊥
IsOpen (gate ∷ []) = ⊥
IsOpen (gate ∷ x ∷ rest) = gate ≡ 1

-- behind the header stand these records, up to the first closed gate
abbrev pub Stands : List ℕ → List Entry → List ℕ → Type 0
Stands header entries image = (tail : List ℕ) × (image ≡ (header ++ opened entries) ++ tail) × IsClosed tail

-- the header, these records and a closed gate, and nothing behind
abbrev pub at_rest : List ℕ → List Entry → List ℕ
at_rest header entries = (header ++ opened entries) ++ 0 ∷ []

-- the same with any gate that is closed
pub record Rests (header : List ℕ) (entries : List Entry) (image : List ℕ) : Type 0 where
  pub last : ℕ
  pub shut : last ≢ 1
  pub whole : image ≡ (header ++ opened entries) ++ last ∷ []

-- the records from before, or those and all of a batch, in an image that is not too long
abbrev pub IsBeforeOrAfter : List ℕ → List Entry → List Entry → List ℕ → Type 0
IsBeforeOrAfter header entries batch image = (length image ≤ 2 ^ 31) × (Stands header entries image ⊎ Stands header (entries ++ batch) image)

-- the bytes of a batch of records behind the gate of the first: the gates between them are open, and the next one is closed
abbrev pub IsBatch : List Entry → List ℕ → Type 0
IsBatch batch bytes = 1 ∷ bytes ≡ opened batch ++ 0 ∷ []
