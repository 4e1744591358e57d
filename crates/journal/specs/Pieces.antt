-- The bytes of a record to be written, its next gate among them.
use Rattle.std.specs.Prelude.{ℕ, List}
use Rattle.journal.specs.declared.piece.Piece.{Piece}

abbrev pub piece_bytes : Piece → List ℕ
piece_bytes p = p.bytes.items
