-- Publications whose records are to be written together.
use Rattle.std.specs.Prelude.{◌≡◌, ℕ, Bool, List, [], length, All, Option, Some, None}
use Rattle.journal.specs.declared.piece.Piece.{Piece}
use Rattle.journal.specs.Format.{Entry, IsBatch}
use Rattle.journal.specs.Pieces.{piece_bytes}
use Rattle.journal.specs.Settling.{ArePlain}
use Rattle.tables.specs.declared.batch.Publication.{Publication}
use Rattle.tables.specs.declared.publish.Publish.{Publish}
use Rattle.tables.specs.declared.publish.Publish.TheVariants.{Stored, Lost, Disk, Full, NoMemory}
use Rattle.tables.specs.Shelves.{Shelved}
use Rattle.tables.specs.Sound.{HasCause}
use Rattle.tables.specs.Stored.{records_of, answered_by, is_stored, is_failed}

-- the records that are to be written
abbrev pub IsPieceOf : List Entry → Option Piece → Type 0
IsPieceOf entries None = entries ≡ []
IsPieceOf entries (Some piece) = IsBatch entries (piece_bytes piece)

-- so far these publications were answered, and the records of those that are to be stored stand in the batch
pub record IsBatchOf (shelf : Shelved) (round : ℕ) (done : List Publication) (piece : Option Piece) (taken : List Publication) (answers : List Publish) : Type 0 where
  pub answered : length answers ≡ length done
  pub taken_is : taken ≡ answered_by is_stored done answers
  pub plain : ArePlain (records_of shelf round taken)
  pub written : IsPieceOf (records_of shelf round taken) piece
  pub none_failed : answered_by is_failed done answers ≡ []
  pub causes : (failed : Bool) → All (HasCause failed) answers

-- an answer in place of that to what was to be stored
abbrev pub instead : Publish → Publish → Publish
instead answer Stored = answer
instead answer (Lost round standing) = Lost round standing
instead answer Disk = Disk
instead answer (Full size) = Full size
instead answer NoMemory = NoMemory
