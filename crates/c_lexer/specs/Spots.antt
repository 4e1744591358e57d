-- Where the lexer stands: the presumed place (ISO/IEC 9899:1999, 6.10.4), the offset, and what depends on what was
-- read before.
use Rattle.std.specs.Prelude.{ℕ, ◌+◌, ◌-◌, ◌≤◌, true, false, if◌then◌else◌, [], ◌∷◌, length}
use Rattle.std.specs.Str.{bytes_eq}
use Rattle.sv_base.specs.declared.ids.FileId.{FileId}
use Rattle.sv_base.specs.declared.place.Place.{Place}
use Rattle.c_syntax.specs.declared.token.Token.{Token}
use Rattle.c_syntax.specs.declared.token.TokenKind.{TokenKind}
use Rattle.c_lexer.specs.Bytes.{Text, is_newline}
use Rattle.c_lexer.specs.declared.spot.Spot.{Spot}

-- the first byte of a file of this name, with room for so many tokens
abbrev pub at_start : FileId → ℕ → Spot
at_start file room = record { file = file; line = 1; col = 1; at = 0; is_first = true; is_wide = false; room = room }

abbrev pub place_of : Spot → Place
place_of s = record { file = s.file; line = s.line; col = s.col }

-- behind one byte that belongs to no token
abbrev pub past_byte : Spot → ℕ → Spot
past_byte s b =
    if is_newline b
    then record { file = s.file; line = s.line + 1; col = 1; at = s.at + 1; is_first = true; is_wide = false; room = s.room }
    else record { file = s.file; line = s.line; col = s.col + 1; at = s.at + 1; is_first = s.is_first; is_wide = false; room = s.room }

-- behind a text that has no token
abbrev pub past : Spot → Text → Spot
past s [] = s
past s (b ∷ bs) = past (past_byte s b) bs

-- behind a token; only the name `L` makes a literal that follows directly a wide one
abbrev pub past_token : Spot → Text → Spot
past_token s text =
    record { file = s.file; line = s.line; col = s.col + length text; at = s.at + length text; is_first = false; is_wide = bytes_eq text (76 ∷ []); room = s.room - 1 }

-- behind a directive that sets the number of the next line. At the end of the text there is no next line, and the end
-- itself has the number.
abbrev pub past_directive : Spot → FileId → ℕ → Text → Text → Spot
past_directive s file number line [] =
    record { file = file; line = number; col = s.col + length line; at = s.at + length line; is_first = true; is_wide = false; room = s.room }
past_directive s file number line (newline ∷ rest) =
    record { file = file; line = number; col = 1; at = s.at + length line + 1; is_first = true; is_wide = false; room = s.room }

abbrev pub token_at : Spot → TokenKind → ℕ → Token
token_at s kind len = record { kind = kind; place = place_of s; start = s.at; end = s.at + len }

-- a spot with so many bytes behind it has room for their numbers in 32 bits: no file has more than 2^24 bytes, and no
-- directive a greater number than 2^31 - 1
pub record IsWithin (s : Spot) (n : ℕ) : Type 0 where
  pub offset : s.at + n ≤ 16777216
  pub column : s.col + n ≤ 16777217
  pub lines : s.line + n ≤ 2164260863
