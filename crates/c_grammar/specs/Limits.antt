-- The first token whose reading passes a limit. The counts guard nothing: what passes them may still be a file.
use Rattle.std.specs.Prelude.{◌≡◌, Bool, true, List, [], ◌∷◌, ◌++◌}
use Rattle.c_tree.specs.declared.lexeme.Lexeme.{Lexeme}
use Rattle.c_grammar.specs.Derives.{Begins}
use Rattle.c_grammar.specs.Files.{ReachesInFile}
use Rattle.c_grammar.specs.Items.{Shape}
use Rattle.c_grammar.specs.State.{State}

-- what has passed in a state: the nesting of the tree, or that of loops
abbrev pub nesting_passed : State → Bool
nesting_passed s = s.nesting.passed

abbrev pub loops_passed : State → Bool
loops_passed s = s.loops.passed

-- a reading of the tokens has passed the limit, and so has every reading of them that goes on with the token behind them. Readings differ
-- in depth at `sizeof (`, where the parenthesis of an expression counts and that of a type name does not.
pub record IsPassed (passed : State → Bool) (tokens behind : List Lexeme) : Type 0 where
  pub left : List Shape
  pub end : State
  pub run : ReachesInFile tokens left end
  pub here : passed end ≡ true
  pub each : (next : Lexeme) (others : List Lexeme) → behind ≡ next ∷ others
      → (more : List Shape) (s : State) → ReachesInFile tokens more s → Begins more s (next ∷ []) → passed s ≡ true

-- with this token the limit is passed, and with none before it
pub record Passes (passed : State → Bool) (before : List Lexeme) (t : Lexeme) (behind : List Lexeme) : Type 0 where
  pub here : IsPassed passed (before ++ t ∷ []) behind
  pub not_before : (front : List Lexeme) (u : Lexeme) (between : List Lexeme) → before ≡ front ++ u ∷ between
      → IsPassed passed (front ++ u ∷ []) (between ++ t ∷ behind) → ⊥
