-- A production as a program that reads tokens, asks for what nonterminals make, and gives a value.
use Rattle.std.proofs.Common.{ℕ, zero, suc, List, [], ◌∷◌, Option, Some, None}
use Rattle.c_tree.specs.declared.lexeme.Lexeme.{Lexeme}
use Rattle.c_grammar.specs.Items.{Sym, In, Out, Item, term, ahead, act, nt}
use Rattle.c_grammar.specs.State.{State}
use Rattle.c_grammar.specs.Terminals.{Terminal}

pub data Program (O : Type 0) : Type 0 where
  give : O → Program O
  take : Terminal → (Lexeme → Program O) → Program O
  look : (Lexeme → Program O) → Program O
  turn : (State → State) → Program O → Program O
  call : (n : Sym) → In n → (Out n → Program O) → Program O
  fail : Program O

-- what was made, and what is left
pub record Made (O : Type 0) : Type 0 where
  pub value : O
  pub state : State
  pub rest : List Lexeme

abbrev pub made : {O : Type 0} → O → State → List Lexeme → Made O
made o s ts = record { value = o; state = s; rest = ts }

abbrev pub Reader : Type 0
Reader = (n : Sym) → In n → State → List Lexeme → Option (Made (Out n))

abbrev pub and_then : {A B : Type 0} → Option (Made A) → (A → State → List Lexeme → Option (Made B)) → Option (Made B)
and_then None f = None
and_then (Some m) f = f m.value m.state m.rest

abbrev pub run : {O : Type 0} → Reader → Program O → State → List Lexeme → Option (Made O)
run inner (give o) s ts = Some (made o s ts)
run inner (take w f) s [] = None
run inner (take w f) s (t ∷ ts) = run inner (f t) (w.after s t) ts
run inner (look f) s [] = None
run inner (look f) s (t ∷ ts) = run inner (f t) s (t ∷ ts)
run inner (turn g p) s ts = run inner p (g s) ts
run inner (call n a f) s ts = and_then (inner n a s ts) (λ b r rest. run inner (f b) r rest)
run inner fail s ts = None

abbrev pub item_at : {A : Type 0} → A → List A → ℕ → A
item_at d [] i = d
item_at d (x ∷ xs) zero = x
item_at d (x ∷ xs) (suc i) = item_at d xs i

-- a program that gives the value on the items
pub data Fits {O : Type 0} : Program O → O → List Item → Type 0 where
  give : {o : O} → Fits (Program.give o) o []
  take : {w : Terminal} {f : Lexeme → Program O} {t : Lexeme} {o : O} {items : List Item} → Fits (f t) o items
      → Fits (Program.take w f) o (term w t ∷ items)
  look : {f : Lexeme → Program O} {t : Lexeme} {o : O} {items : List Item} → Fits (f t) o items → Fits (Program.look f) o (ahead t ∷ items)
  turn : {g : State → State} {p : Program O} {o : O} {items : List Item} → Fits p o items → Fits (Program.turn g p) o (act g ∷ items)
  call : {n : Sym} {a : In n} {b : Out n} {f : Out n → Program O} {o : O} {items : List Item} → Fits (f b) o items
      → Fits (Program.call n a f) o (nt n a b ∷ items)
