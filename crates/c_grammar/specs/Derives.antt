-- What it means that a list of items derives tokens, and that a list of shapes begins with tokens.
use Rattle.std.specs.Prelude.{◌≡◌, true, List, [], ◌∷◌, ◌++◌}
use Rattle.c_tree.specs.declared.lexeme.Lexeme.{Lexeme}
use Rattle.c_grammar.specs.Items.{Sym, In, Out, Item, term, ahead, act, nt, Shape, some, next, change, sym as symbol, shapes}
use Rattle.c_grammar.specs.Productions.{Rule}
use Rattle.c_grammar.specs.State.{State}
use Rattle.c_grammar.specs.Terminals.{Terminal}

-- from a state the items derive these tokens, and leave a state
pub data Derives : List Item → State → List Lexeme → State → Type 0 where
  done : {s : State} → Derives [] s [] s
  token : {w : Terminal} {more : List Item} {s : State} {t : Lexeme} {ts : List Lexeme} {end : State}
      → w.fits s t ≡ true → Derives more (w.after s t) ts end → Derives (term w t ∷ more) s (t ∷ ts) end
  seen : {more : List Item} {s : State} {t : Lexeme} {ts : List Lexeme} {end : State}
      → Derives more s (t ∷ ts) end → Derives (ahead t ∷ more) s (t ∷ ts) end
  acted : {f : State → State} {more : List Item} {s : State} {ts : List Lexeme} {end : State}
      → Derives more (f s) ts end → Derives (act f ∷ more) s ts end
  by : {n : Sym} {a : In n} {b : Out n} {items more : List Item} {s : State} {ts : List Lexeme} {end : State}
      → Rule n a b items → Derives (items ++ more) s ts end → Derives (nt n a b ∷ more) s ts end

-- from a state a list of these shapes begins with the tokens
pub data Begins : List Shape → State → List Lexeme → Type 0 where
  -- it breaks off here
  stop : {more : List Shape} {s : State} → Begins more s []
  token : {w : Terminal} {more : List Shape} {s : State} {t : Lexeme} {ts : List Lexeme}
      → w.fits s t ≡ true → Begins more (w.after s t) ts → Begins (some w ∷ more) s (t ∷ ts)
  seen : {more : List Shape} {s : State} {ts : List Lexeme} → Begins more s ts → Begins (next ∷ more) s ts
  acted : {f : State → State} {more : List Shape} {s : State} {ts : List Lexeme} → Begins more (f s) ts → Begins (change f ∷ more) s ts
  by : {n : Sym} {a : In n} {b : Out n} {items : List Item} {more : List Shape} {s : State} {ts : List Lexeme}
      → Rule n a b items → Begins (shapes items ++ more) s ts → Begins (symbol n ∷ more) s ts

-- from a state a list of these shapes begins with the tokens, and what is still to come, from which state
pub data Reaches : List Shape → State → List Lexeme → List Shape → State → Type 0 where
  here : {more : List Shape} {s : State} → Reaches more s [] more s
  token : {w : Terminal} {more left : List Shape} {s end : State} {t : Lexeme} {ts : List Lexeme}
      → w.fits s t ≡ true → Reaches more (w.after s t) ts left end → Reaches (some w ∷ more) s (t ∷ ts) left end
  seen : {more left : List Shape} {s end : State} {ts : List Lexeme}
      → Reaches more s ts left end → Reaches (next ∷ more) s ts left end
  acted : {f : State → State} {more left : List Shape} {s end : State} {ts : List Lexeme}
      → Reaches more (f s) ts left end → Reaches (change f ∷ more) s ts left end
  by : {n : Sym} {a : In n} {b : Out n} {items : List Item} {more left : List Shape} {s end : State} {ts : List Lexeme}
      → Rule n a b items → Reaches (shapes items ++ more) s ts left end → Reaches (symbol n ∷ more) s ts left end
