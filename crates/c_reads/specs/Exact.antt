-- What it means that a parser reads a symbol of the grammar, and no more than it.
use Rattle.std.specs.Prelude.{◌≡◌, ℕ, Bool, true, List, [], ◌∷◌, ◌++◌, length, Ok, Err}
use Rattle.c_tree.specs.declared.lexeme.Lexeme.{Lexeme}
use Rattle.c_grammar.specs.Derives.{Derives, Begins, Reaches}
use Rattle.c_grammar.specs.Items.{Sym, In, Out, Item, nt, Shape, sym as symbol}
use Rattle.c_grammar.specs.State.{State}
use Rattle.c_cursor.specs.declared.error.ReadError.TheVariants as errors
use Rattle.c_cursor.specs.Parsers.{Input, Outcome, Parser, past_limit}

-- shapes that are still to come
abbrev pub Stack : Type 0
Stack = List Shape

-- no such token begins what stands behind
pub record Stops (goes_on : State → Lexeme → Bool) (behind : Stack) : Type 0 where
  pub never : (s : State) (t : Lexeme) (ts : List Lexeme) → goes_on s t ≡ true → Begins behind s (t ∷ ts) → ⊥

-- From the start up to the end the shapes were read, whatever stands behind: what begins it at the end begins both at the start, and
-- where it is fit to stand behind (H), each front of the tokens that begins both is past the shapes. A run over the tokens leaves nothing.
pub record Read (H : Stack → Type 0) (xs : Stack) (start end : Input) : Type 0 where
  pub used : List Lexeme
  pub cut : start.rest ≡ used ++ end.rest
  pub run : Reaches xs start.state used [] end.state
  pub goes : (behind : Stack) (more : List Lexeme) → Begins behind end.state more → Begins (xs ++ behind) start.state (used ++ more)
  pub only : (behind : Stack) (front back : List Lexeme) → end.rest ≡ front ++ back → H behind → Begins (xs ++ behind) start.state (used ++ front) → Begins behind end.state front

-- From the start the shapes begin with the tokens up to the first of those that are left, and not with that one too, whatever stands
-- behind and is fit to.
pub record Refused (H : Stack → Type 0) (xs : Stack) (start : Input) (left : ℕ) : Type 0 where
  pub rest : List Lexeme
  pub left_is : left ≡ length rest
  pub used : List Lexeme
  pub cut : start.rest ≡ used ++ rest
  pub goes : (behind : Stack) → Begins (xs ++ behind) start.state used
  pub none : (behind : Stack) (t : Lexeme) (ts : List Lexeme) → rest ≡ t ∷ ts → H behind → Begins (xs ++ behind) start.state (used ++ t ∷ []) → ⊥

-- From the start a run over the shapes passes the limit of the nesting of nodes or of loops, with the last of these tokens or before.
pub record Past (xs : Stack) (start : Input) : Type 0 where
  pub used : List Lexeme
  pub rest : List Lexeme
  pub cut : start.rest ≡ used ++ rest
  pub left : Stack
  pub end : State
  pub run : Reaches xs start.state used left end
  pub passed : past_limit end ≡ true

-- the tokens from the start up to the end are those of the items
pub record Makes (items : List Item) (start end : Input) : Type 0 where
  pub used : List Lexeme
  pub cut : start.rest ≡ used ++ end.rest
  pub sound : (behind : List Item) (more : List Lexeme) (last : State) → Derives behind end.state more last → Derives (items ++ behind) start.state (used ++ more) last

-- A parser at its start: what it gives has P, it refuses at the first wrong token, it gives up only where a limit is passed, and its loops
-- have turns enough.
abbrev pub Ends : {A : Type 0} → (Stack → Type 0) → Stack → (A → Input → Type 0) → Input → Outcome A → Type 0
Ends H xs P start (Ok p) = Read H xs start p.1 × P p.0 p.1
Ends H xs P start (Err (errors.Wrong left)) = Refused H xs start left
Ends H xs P start (Err errors.TooDeep) = Past xs start
Ends H xs P start (Err errors.Spent) = ⊥
Ends H xs P start (Err errors.NoMemory) = ⊥

pub record Does {A : Type 0} (H : Stack → Type 0) (xs : Stack) (P : A → Input → Type 0) (p : Parser A) (start : Input) : Type 0 where
  pub ends : Ends H xs P start (p start)

-- the parser reads the symbol, and its tree is one that the grammar derives
abbrev pub Parses : (Stack → Type 0) → (n : Sym) → In n → Parser (Out n) → Input → Type 0
Parses H n a p start = Does H (symbol n ∷ []) (λ b end. Makes (nt n a b ∷ []) start end) p start
