-- A reader of the grammar, and that it reads what a derivation takes.
use Rattle.std.proofs.Common.{◌≡◌, ℕ, zero, suc, true, false, not, ◌&&◌, ◌||◌, List, [], ◌∷◌, Option, Some, None, refl, ap, ◌∙◌}
use Rattle.std.proofs.lemmas.Bool.{and_parts}
use Rattle.c_tree.specs.declared.lexeme.Lexeme.{Lexeme}
use Rattle.c_grammar.specs.Items.{Sym, In, Out, Item, nt}
use Rattle.c_grammar.specs.State.{State}
use Rattle.c_grammar.proofs.Categories.{sees, within, apart}
use Rattle.c_grammar.proofs.Choices.{choose}
use Rattle.c_grammar.proofs.Described.{Described}
use Rattle.c_grammar.proofs.Firsts.{Piece, conts, begin, empty, through, follows}
use Rattle.c_grammar.proofs.Parts.{Parts}
use Rattle.c_grammar.proofs.RulePrograms.{productions}
use Rattle.c_grammar.proofs.Programs.{Program, Fits, item_at, Made, made, Reader, and_then, run}
use Rattle.c_grammar.proofs.Starts.{starts, stops}

-- a reader by how deep it goes
abbrev pub reader : ℕ → Reader
reader zero n a s ts = None
reader (suc k) n a s ts = run (reader k) (item_at Program.fail (productions n a) (choose (reader k) n s ts)) s ts

-- it reads what derivations of its depth take, where the nonterminal cannot go on
pub record Complete (k : ℕ) : Type 0 where
  pub at : (n : Sym) (a : In n) (b : Out n) (s : State) (ts : List Lexeme) (end : State) (rest : List Lexeme)
      → Parts k (nt n a b ∷ []) s ts end rest → sees (conts n) end rest ≡ false → reader k n a s ts ≡ Some (made b end rest)

goes_on : {A B : Type 0} (o : Option (Made A)) (b : A) (mid : State) (middle : List Lexeme) (f : A → State → List Lexeme → Option (Made B))
    → o ≡ Some (made b mid middle) → and_then o f ≡ f b mid middle
goes_on o b mid middle f e = ap (λ x. and_then x f) e

pub runs : (n : Sym) {k : ℕ} → Complete k
    → {O : Type 0} {p : Program O} {o : O} {items : List Item} {ps : List Piece} {s : State} {ts : List Lexeme} {end : State}
    {rest : List Lexeme}
    → Fits p o items → Described items ps → follows n ps ≡ true → Parts k items s ts end rest → sees (conts n) end rest ≡ false
    → run (reader k) p s ts ≡ Some (made o end rest)
runs n all Fits.give Described.none e Parts.done stop = refl
runs n all (Fits.take x) (Described.token v d) e (Parts.token h p) stop = runs n all x d e p stop
runs n all (Fits.look x) (Described.next d) e (Parts.seen p) stop = runs n all x d e p stop
runs n all (Fits.turn x) (Described.change v d) e (Parts.acted p) stop = runs n all x d e p stop
runs n all (Fits.call {n = m} {a = a} {b = b} {f = f} x) (Described.symbol {ps = ps} d) e
    (Parts.by {k = j} {s = s} {ts = ts} {mid = mid} {middle = middle} r p q) stop =
    let tail = (and_parts (apart (conts m) (begin ps) && (not (empty ps) || within (through ps (conts m)) (conts n))) (follows n ps) e).1 in
    let here = all.at m a b s ts mid middle (Parts.by r p Parts.done) (stops n m ps e stop (starts d q)) in
    goes_on (reader (suc j) m a s ts) b mid middle (λ y r rest. run (reader (suc j)) (f y) r rest) here ∙ runs n all x d tail q stop
