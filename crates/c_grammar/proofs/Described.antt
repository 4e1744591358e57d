-- The items of a production, and its pieces.
use Rattle.std.proofs.Common.{List, [], ◌∷◌}
use Rattle.c_tree.specs.declared.lexeme.Lexeme.{Lexeme}
use Rattle.c_grammar.specs.Items.{Sym, In, Out, Item, term, ahead, act, nt}
use Rattle.c_grammar.specs.State.{State}
use Rattle.c_grammar.specs.Terminals.{Terminal}
use Rattle.c_grammar.proofs.Categories.{Set}
use Rattle.c_grammar.proofs.Changes.{Change, Changes}
use Rattle.c_grammar.proofs.Firsts.{Piece}
use Rattle.c_grammar.proofs.Sorts.{Sorts}

pub data Described : List Item → List Piece → Type 0 where
  none : Described [] []
  token : {w : Terminal} {A : Set} {t : Lexeme} {items : List Item} {ps : List Piece} → Sorts w A → Described items ps
      → Described (term w t ∷ items) (Piece.token A ∷ ps)
  next : {t : Lexeme} {items : List Item} {ps : List Piece} → Described items ps → Described (ahead t ∷ items) (Piece.next ∷ ps)
  change : {f : State → State} {c : Change} {items : List Item} {ps : List Piece} → Changes f c → Described items ps
      → Described (act f ∷ items) (Piece.change c ∷ ps)
  symbol : {n : Sym} {a : In n} {b : Out n} {items : List Item} {ps : List Piece} → Described items ps
      → Described (nt n a b ∷ items) (Piece.symbol n ∷ ps)
