-- Parsers as functions of the state and the tokens that are left.
use Rattle.std.specs.Prelude.{◌≡◌, ◌≢◌, ℕ, suc, Bool, false, ◌||◌, if◌then◌else◌, List, [], ◌∷◌, length, Result, Ok, Err}
use denote.Bor.{Bor}
use Rattle.c_tree.specs.declared.lexeme.Lexeme.{Lexeme}
use Rattle.c_grammar.specs.State.{State}
use Rattle.c_grammar.specs.Terminals.{Terminal}
use Rattle.c_cursor.specs.declared.error.ReadError.{ReadError}
use Rattle.c_cursor.specs.declared.error.ReadError.TheVariants as errors

-- where a parser stands
pub record Input : Type 0 where
  pub state : State
  pub rest : List Lexeme

-- what it gives, and where it then stands
abbrev pub Outcome : Type 0 → Type 0
Outcome A = Result (A × Input) ReadError

abbrev pub Parser : Type 0 → Type 0
Parser A = Input → Outcome A

abbrev pub and_then : {A B : Type 0} → Outcome A → (A → Parser B) → Outcome B
and_then (Ok p) f = f p.0 p.1
and_then (Err e) f = Err e

-- one parser, and then another over what the first gave
infixl 10 ◌>>=◌
abbrev pub ◌>>=◌ : {A B : Type 0} → Parser A → (A → Parser B) → Parser B
p >>= f = λ i. and_then (p i) f

infixl 10 ◌>>◌
abbrev pub ◌>>◌ : {A B : Type 0} → Parser A → Parser B → Parser B
p >> q = p >>= (λ _. q)

abbrev pub pure : {A : Type 0} → A → Parser A
pure a = λ i. Ok (a, i)

abbrev pub taken : Terminal → State → List Lexeme → Outcome Lexeme
taken w s [] = Err (errors.Wrong 0)
taken w s (t ∷ ts) = if w.fits s t then Ok (t, record { state = w.after s t; rest = ts }) else Err (errors.Wrong (length (t ∷ ts)))

-- takes a token that the terminal fits
unfoldable pub take : Terminal → Parser Lexeme
take w = λ i. taken w i.state i.rest

-- changes the state
unfoldable pub change : (State → State) → Parser (Unit {0})
change f = λ i. Ok (tt, record i { state = f i.state })

abbrev pub sees_in : Terminal → State → List Lexeme → Bool
sees_in w s [] = false
sees_in w s (t ∷ ts) = w.fits s t

-- whether the terminal fits the next token
abbrev pub sees : Terminal → Input → Bool
sees w i = sees_in w i.state i.rest

-- does one thing or the other, by whether the terminal fits the next token
unfoldable pub on : {A : Type 0} → Terminal → Parser A → Parser A → Parser A
on w p q = λ i. if sees w i then p i else q i

-- a token was read that passes the limit of the nesting of nodes or of loops
abbrev pub past_limit : State → Bool
past_limit s = s.nesting.passed || s.loops.passed

-- gives up where a limit was passed
unfoldable pub within_limits : Parser (Unit {0})
within_limits = λ i. if past_limit i.state then Err errors.TooDeep else Ok (tt, i)

-- the turns of a loop that takes a token in each but the last
abbrev pub turns : Input → ℕ
turns i = suc (length i.rest)

-- what the answer of code, and where it then stands, have to do with the outcome
abbrev pub Reads : {A : Type 0} → Outcome A → Result A ReadError → Input → Type 0
Reads outcome (Ok a) new = outcome ≡ Ok (a, new)
Reads outcome (Err e) new = e ≢ errors.NoMemory → outcome ≡ Err e

-- the same of an answer that is a token where it stands
abbrev pub Takes : Outcome Lexeme → Result (Bor Lexeme) ReadError → Input → Type 0
Takes outcome (Ok token) new = outcome ≡ Ok (token.now, new)
Takes outcome (Err e) new = e ≢ errors.NoMemory → outcome ≡ Err e
