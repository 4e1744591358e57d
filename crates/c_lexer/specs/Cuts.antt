-- The tokens of a text, or its first fault: cuts of the text with white space, comments and directives between them.
use Rattle.std.specs.Prelude.{◌≡◌, ◌⊎◌, ℕ, ◌<◌, ◌≤◌, true, false, List, [], ◌∷◌, ◌++◌, length, Option, Some, None, Ok, Err}
use Rattle.sv_base.specs.Names.{has_name, with_name, number_in}
use Rattle.sv_base.specs.declared.ids.FileId.{FileId}
use Rattle.sv_base.specs.declared.fault.FaultKind.{FaultKind}
use Rattle.sv_base.specs.declared.fault.FaultKind.TheVariants as faults
use Rattle.sv_base.specs.declared.fault.SourceFault.{SourceFault}
use Rattle.sv_base.specs.declared.limits.TheConstants as limits
use Rattle.c_syntax.specs.declared.token.Token.{Token}
use Rattle.c_syntax.specs.declared.token.TokenKind.{TokenKind}
use Rattle.c_syntax.specs.declared.token.TokenKind.TheVariants as kinds
use Rattle.c_lexer.specs.Bytes.{Text, is_blank, is_newline}
use Rattle.c_lexer.specs.White.{ClosesFirst, NeverCloses, IsLine}
use Rattle.c_lexer.specs.Shapes.{IsLongest, NoToken}
use Rattle.c_lexer.specs.Meaning.{Means}
use Rattle.c_lexer.specs.Directives.{Directive}
use Rattle.c_lexer.specs.Spots.{at_start, past, past_token, past_directive, place_of, token_at}
use Rattle.c_lexer.specs.declared.shape.Shape.{Shape}
use Rattle.c_lexer.specs.declared.directive.Setting.{Setting}
use Rattle.c_lexer.specs.declared.directive.Setting.TheVariants as settings
use Rattle.c_lexer.specs.declared.spot.Spot.{Spot}

abbrev pub Names : Type 0
Names = List Text

-- behind a piece of the text: the names that stand then, where it ends, the token that it is, and what is left
pub record Turn : Type 0 where
  pub names : Names
  pub spot : Spot
  pub token : Option Token
  pub rest : Text

abbrev pub passed : Names → Spot → Text → Turn
passed names spot rest = record { names = names; spot = spot; token = None; rest = rest }

abbrev pub found : Names → Spot → Token → Text → Turn
found names spot token rest = record { names = names; spot = spot; token = Some token; rest = rest }

abbrev pub file_of : ℕ → FileId
file_of n = record { 0 = n }

abbrev pub behind_newline : Text → Text
behind_newline [] = []
behind_newline (b ∷ bs) = bs

-- a `#` here begins a directive: only white space stands before it on its line
abbrev pub BeginsDirective : Spot → Text → Type 0
BeginsDirective s [] = ⊥
BeginsDirective s (b ∷ bs) = (s.is_first ≡ true) × (b ≡ 35)

-- white space, a comment or a directive begins here
abbrev pub BeginsNoToken : Spot → Text → Type 0
BeginsNoToken s [] = ⊥
BeginsNoToken s (b ∷ []) = ((is_newline b ≡ true) ⊎ (is_blank b ≡ true)) ⊎ BeginsDirective s (b ∷ [])
BeginsNoToken s (b ∷ c ∷ bs) = (((is_newline b ≡ true) ⊎ (is_blank b ≡ true)) ⊎ ((b ≡ 47) × ((c ≡ 42) ⊎ (c ≡ 47)))) ⊎ BeginsDirective s (b ∷ c ∷ bs)

-- how many names there can be, tokens of one file by the room that is left, and bytes of one token
abbrev pub most_names : ℕ
most_names = limits.NAMES

abbrev pub most_bytes : ℕ
most_bytes = limits.TOKEN_BYTES

abbrev pub IsFull : Names → Text → Type 0
IsFull names name = (has_name names name ≡ false) × (length names ≡ most_names)

-- one piece of the text is passed over
pub data Piece (names : Names) (s : Spot) : Text → Turn → Type 0 where
  white : {b : ℕ} {rest : Text} → (is_newline b ≡ true) ⊎ (is_blank b ≡ true) → Piece names s (b ∷ rest) (passed names (past s (b ∷ [])) rest)
  block_comment : {body inside rest : Text} → ClosesFirst body inside rest
      → Piece names s (47 ∷ 42 ∷ inside) (passed names (past s (47 ∷ 42 ∷ (body ++ 42 ∷ 47 ∷ []))) rest)
  line_comment : {line text rest : Text} → IsLine line (47 ∷ 47 ∷ text) rest → Piece names s (47 ∷ 47 ∷ text) (passed names (past s line) rest)
  passed_over : {line text rest : Text} → s.is_first ≡ true → IsLine line text rest → Directive line settings.Pass
      → Piece names s (35 ∷ text) (passed names (past s (35 ∷ line)) rest)
  numbered : {line text rest : Text} {number : ℕ} → s.is_first ≡ true → IsLine line text rest → Directive line (settings.Line number)
      → Piece names s (35 ∷ text) (passed names (past_directive s s.file number (35 ∷ line) rest) (behind_newline rest))
  renamed : {line text rest name : Text} {number : ℕ} → s.is_first ≡ true → IsLine line text rest → Directive line (settings.Named number name) → (IsFull names name → ⊥)
      → Piece names s (35 ∷ text) (passed (with_name names name) (past_directive s (file_of (number_in names name)) number (35 ∷ line) rest) (behind_newline rest))
  token : {shape : Shape} {word rest text : Text} {kind : TokenKind} → (BeginsNoToken s text → ⊥) → IsLongest shape word rest text → Means s.is_wide shape word (Ok kind)
      → 0 < s.room → length word ≤ most_bytes → Piece names s text (found names (past_token s word) (token_at s kind (length word)) rest)

-- a fault stands here
pub data Fault (names : Names) (s : Spot) : Text → FaultKind → Type 0 where
  open_comment : {inside : Text} → NeverCloses inside → Fault names s (47 ∷ 42 ∷ inside) faults.Lex
  no_directive : {line text rest : Text} → s.is_first ≡ true → IsLine line text rest → ((setting : Setting) → Directive line setting → ⊥) → Fault names s (35 ∷ text) faults.Lex
  full : {line text rest name : Text} {number : ℕ} → s.is_first ≡ true → IsLine line text rest → Directive line (settings.Named number name) → IsFull names name
      → Fault names s (35 ∷ text) (faults.Limit 13)
  no_token : {b : ℕ} {text : Text} → (BeginsNoToken s (b ∷ text) → ⊥) → NoToken (b ∷ text) → Fault names s (b ∷ text) faults.Lex
  no_meaning : {shape : Shape} {word rest text : Text} {fault : FaultKind} → (BeginsNoToken s text → ⊥) → IsLongest shape word rest text → Means s.is_wide shape word (Err fault)
      → Fault names s text fault
  no_room : {shape : Shape} {word rest text : Text} {kind : TokenKind} → (BeginsNoToken s text → ⊥) → IsLongest shape word rest text → Means s.is_wide shape word (Ok kind)
      → s.room ≡ 0 → Fault names s text (faults.Limit 3)
  too_long : {shape : Shape} {word rest text : Text} {kind : TokenKind} → (BeginsNoToken s text → ⊥) → IsLongest shape word rest text → Means s.is_wide shape word (Ok kind)
      → 0 < s.room → most_bytes < length word → Fault names s text (faults.Limit 12)

-- the whole text: all its tokens with the names that stand in the end, or its first fault with those that stand there
pub data Outcome : Type 0 where
  Done : List Token → Names → Outcome
  Refused : SourceFault → Names → Outcome

abbrev pub fault_at : Spot → FaultKind → SourceFault
fault_at s kind = record { kind = kind; place = place_of s }

abbrev pub with_token : Option Token → Outcome → Outcome
with_token None outcome = outcome
with_token (Some t) (Done ts names) = Done (t ∷ ts) names
with_token (Some t) (Refused fault names) = Refused fault names

pub data Cuts : Names → Spot → Text → Outcome → Type 0 where
  end : {names : Names} {s : Spot} → Cuts names s [] (Done (token_at s kinds.End 0 ∷ []) names)
  stop : {names : Names} {s : Spot} {text : Text} {kind : FaultKind} → Fault names s text kind → Cuts names s text (Refused (fault_at s kind) names)
  more : {names : Names} {s : Spot} {text : Text} {turn : Turn} {outcome : Outcome} → Piece names s text turn → Cuts turn.names turn.spot turn.rest outcome
      → Cuts names s text (with_token turn.token outcome)

-- how many bytes a file can have
abbrev pub most_file_bytes : ℕ
most_file_bytes = limits.FILE_BYTES

-- the tokens of a file, or its first fault, for the number of its own name, the room that is left and the names that stand
pub data IsLexed (bytes : Text) (name : FileId) (room : ℕ) (names : Names) : Outcome → Type 0 where
  cut : {outcome : Outcome} → length bytes ≤ most_file_bytes → Cuts names (at_start name room) bytes outcome → IsLexed bytes name room names outcome
  too_large : most_file_bytes < length bytes → IsLexed bytes name room names (Refused (record { kind = faults.Limit 1; place = record { file = name; line = 0; col = 0 } }) names)
