-- What a file is, and the first token with which no file goes on (ISO/IEC 9899:1999, 6.9).
use Rattle.std.specs.Prelude.{◌≡◌, List, [], ◌∷◌, ◌++◌}
use Rattle.c_tree.specs.declared.lexeme.Lexeme.{Lexeme}
use Rattle.c_tree.specs.declared.tree.Item.{Item as External}
use Rattle.c_grammar.specs.Derives.{Derives, Begins, Reaches}
use Rattle.c_grammar.specs.Items.{Sym, nt, Shape, sym as symbol}
use Rattle.c_grammar.specs.State.{State, start}

-- the tokens are a file with these external declarations
pub record IsFile (tokens : List Lexeme) (items : List External) : Type 0 where
  pub end : State
  pub derives : Derives (nt Sym.File tt items ∷ []) start tokens end

-- a file may begin with the tokens
abbrev pub BeginsFile : List Lexeme → Type 0
BeginsFile tokens = Begins (symbol Sym.File ∷ []) start tokens

-- a file may begin with the tokens, and then this is still to come, from this state
abbrev pub ReachesInFile : List Lexeme → List Shape → State → Type 0
ReachesInFile tokens left s = Reaches (symbol Sym.File ∷ []) start tokens left s

-- the first token with which no file goes on, and what stands before and behind it
pub record IsFirstBad (tokens before : List Lexeme) (t : Lexeme) (behind : List Lexeme) : Type 0 where
  pub cut : tokens ≡ before ++ t ∷ behind
  pub begins : BeginsFile before
  pub ends : BeginsFile (before ++ t ∷ []) → ⊥
