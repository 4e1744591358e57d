-- A token as contracts see it, and how the code keeps it.
use Rattle.std.specs.Prelude.{ℕ, ◌-◌, ◌≤◌, List, length, take, drop, map}
use Rattle.first_form.specs.declared.token.Token.{Token}

-- a token: its text, and the line and column of its first byte, both from 1
pub record Piece : Type 0 where
  pub text : List ℕ
  pub line : ℕ
  pub col : ℕ

-- the token that the code keeps as a range of the file
abbrev pub piece : List ℕ → Token → Piece
piece bytes t = record { text = take (t.end - t.start) (drop t.start bytes); line = t.line; col = t.col }

abbrev pub pieces : List ℕ → List Token → List Piece
pieces bytes ts = map (piece bytes) ts

-- the range lies in the file
pub record IsInFile (bytes : List ℕ) (t : Token) : Type 0 where
  pub ordered : t.start ≤ t.end
  pub inside : t.end ≤ length bytes
