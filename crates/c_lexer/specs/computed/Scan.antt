-- The lexer as a function.
use Rattle.std.specs.Prelude.{◌≡◌, ℕ, zero, suc, ◌+◌, Bool, false, not, ◌||◌, ◌&&◌, ◌==◌, nat_lt, if◌then◌else◌, List, [], ◌∷◌, ◌++◌, length, take, drop, Option, Some, None, Result, Ok, Err}
use Rattle.std.specs.List.{prefix_len}
use Rattle.sv_base.specs.Names.{has_name, with_name, number_in}
use Rattle.sv_base.specs.declared.fault.FaultKind.{FaultKind}
use Rattle.sv_base.specs.declared.fault.FaultKind.TheVariants as faults
use Rattle.sv_base.specs.declared.fault.FrontFault.{FrontFault}
use Rattle.sv_base.specs.declared.fault.FrontFault.TheVariants as refusals
use Rattle.c_syntax.specs.declared.token.Token.{Token}
use Rattle.c_syntax.specs.declared.token.TokenKind.{TokenKind}
use Rattle.c_syntax.specs.declared.token.TokenKind.TheVariants as kinds
use Rattle.c_lexer.specs.Bytes.{Text, in_line, is_blank, is_newline}
use Rattle.c_lexer.specs.Meaning.{Meaning}
use Rattle.c_lexer.specs.Spots.{past, past_token, past_directive, token_at}
use Rattle.c_lexer.specs.Cuts.{Names, Turn, file_of, behind_newline, most_names, most_bytes, Outcome, Outcome.Done, Outcome.Refused, fault_at, with_token}
use Rattle.c_lexer.specs.computed.Lengths.{shape_at}
use Rattle.c_lexer.specs.computed.Values.{meaning}
use Rattle.c_lexer.specs.computed.Settings.{close_len, opens_block, opens_line, setting_of}
use Rattle.c_lexer.specs.declared.shape.Shape.{Shape}
use Rattle.c_lexer.specs.declared.directive.Setting.{Setting}
use Rattle.c_lexer.specs.declared.directive.Setting.TheVariants as settings
use Rattle.c_lexer.specs.declared.spot.Spot.{Spot}

-- behind a piece of the text: where it ends, the token that it is, and what is left
pub record Step : Type 0 where
  pub spot : Spot
  pub token : Option Token
  pub rest : Text

abbrev pub step : Spot → Option Token → Text → Step
step spot token rest = record { spot = spot; token = token; rest = rest }

abbrev pub Stepped : Type 0
Stepped = Result Step FaultKind

-- the same, with the names that stand then
abbrev pub with_names : Names → Step → Turn
with_names names s = record { names = names; spot = s.spot; token = s.token; rest = s.rest }

abbrev pub Turned : Type 0
Turned = Result Turn FaultKind

abbrev pub named : Names → Stepped → Turned
named names (Ok s) = Ok (with_names names s)
named names (Err fault) = Err fault

-- ---- comments
abbrev pub commented : Spot → Text → Option ℕ → Stepped
commented s text None = Err faults.Lex
commented s text (Some n) = Ok (step (past s (take (n + 2) text)) None (drop (n + 2) text))

unfoldable pub block_comment : Spot → Text → Stepped
block_comment s text = commented s text (close_len (drop 2 text))

unfoldable pub line_comment : Spot → Text → Step
line_comment s text = step (past s (take (prefix_len in_line text) text)) None (drop (prefix_len in_line text) text)

-- ---- tokens
abbrev pub counted : Spot → Text → ℕ → TokenKind → Stepped
counted s text n kind =
    if s.room == 0 then Err (faults.Limit 3)
    else if nat_lt most_bytes n then Err (faults.Limit 12)
    else Ok (step (past_token s (take n text)) (Some (token_at s kind n)) (drop n text))

abbrev pub meant : Spot → Text → ℕ → Meaning → Stepped
meant s text n (Err fault) = Err fault
meant s text n (Ok kind) = counted s text n kind

abbrev pub shaped : Spot → Text → Option (Shape × ℕ) → Stepped
shaped s text None = Err faults.Lex
shaped s text (Some p) = meant s text p.1 (meaning s.is_wide p.0 (take p.1 text))

unfoldable pub token : Spot → Text → Stepped
token s text = shaped s text (shape_at text)

-- ---- what is no directive, of a text that is not empty
unfoldable pub plain : Spot → Text → Stepped
plain s [] = Err faults.Lex
plain s (b ∷ bs) =
    if is_newline b || is_blank b then Ok (step (past s (b ∷ [])) None bs)
    else if opens_block (b ∷ bs) then block_comment s (b ∷ bs)
    else if opens_line (b ∷ bs) then Ok (line_comment s (b ∷ bs))
    else token s (b ∷ bs)

-- ---- directives
abbrev pub is_full : Names → Text → Bool
is_full names name = not (has_name names name) && (length names == most_names)

abbrev pub set : Names → Spot → Text → Text → Option Setting → Turned
set names s line rest None = Err faults.Lex
set names s line rest (Some settings.Pass) = Ok (with_names names (step (past s line) None rest))
set names s line rest (Some (settings.Line number)) = Ok (with_names names (step (past_directive s s.file number line rest) None (behind_newline rest)))
set names s line rest (Some (settings.Named number name)) =
    if is_full names name then Err (faults.Limit 13)
    else Ok (with_names (with_name names name) (step (past_directive s (file_of (number_in names name)) number line rest) None (behind_newline rest)))

unfoldable pub directive : Names → Spot → Text → Turned
directive names s text = set names s (take (prefix_len in_line text) text) (drop (prefix_len in_line text) text) (setting_of (drop 1 (take (prefix_len in_line text) text)))

-- ---- one piece
abbrev pub begins_directive : Spot → Text → Bool
begins_directive s [] = false
begins_directive s (b ∷ bs) = s.is_first && (b == 35)

unfoldable pub turn : Names → Spot → Text → Turned
turn names s text = if begins_directive s text then directive names s text else named names (plain s text)

-- ---- the whole text
abbrev pub go_on : (Names → Spot → Text → Outcome) → Names → Spot → Turned → Outcome
go_on on names s (Err fault) = Refused (fault_at s fault) names
go_on on names s (Ok t) = with_token t.token (on t.names t.spot t.rest)

-- each turn takes a byte at least
unfoldable pub run : ℕ → Names → Spot → Text → Outcome
run turns names s [] = Done (token_at s kinds.End 0 ∷ []) names
run zero names s (b ∷ bs) = Refused (fault_at s faults.Lex) names
run (suc turns) names s (b ∷ bs) = go_on (run turns) names s (turn names s (b ∷ bs))

-- with these tokens in front
abbrev pub joined : List Token → Outcome → Outcome
joined ts (Done us names) = Done (ts ++ us) names
joined ts (Refused fault names) = Refused fault names

-- what the code answers for a fault; want of memory may come anywhere
abbrev pub Refuses : Spot → FrontFault → Turned → Type 0
Refuses s refusals.NoMemory turned = Unit {0}
Refuses s (refusals.Fault fault) turned = (kind : FaultKind) × (turned ≡ Err kind) × (fault ≡ fault_at s kind)

-- a fault that ends the lexer, with the names that stand there
abbrev pub Ends : FrontFault → Outcome → Names → Type 0
Ends refusals.NoMemory outcome names = Unit {0}
Ends (refusals.Fault fault) outcome names = outcome ≡ Refused fault names

abbrev pub with_option : List Token → Option Token → List Token
with_option ts None = ts
with_option ts (Some t) = ts ++ t ∷ []

-- names are only added
pub record Extends (old new : Names) : Type 0 where
  pub more : Names
  pub is : new ≡ old ++ more
