-- White space: blanks, newlines and comments of both kinds (ISO/IEC 9899:1999, 6.4 and 6.4.9).
use Rattle.std.specs.Prelude.{◌≡◌, ◌≤◌, ◌∷◌, ◌++◌, length}
use Rattle.c_lexer.specs.Bytes.{Text, AllAre, Stops, in_line}

-- behind `/*` a comment has this body, up to the first `*/`
pub record ClosesFirst (body inside rest : Text) : Type 0 where
  pub cut : inside ≡ body ++ 42 ∷ 47 ∷ rest
  pub first : (before after : Text) → inside ≡ before ++ 42 ∷ 47 ∷ after → length body ≤ length before

-- no `*/` follows
abbrev pub NeverCloses : Text → Type 0
NeverCloses inside = (before after : Text) → inside ≡ before ++ 42 ∷ 47 ∷ after → ⊥

-- what is left of a line, and what stands behind it: nothing, or a newline and more
pub record IsLine (line text rest : Text) : Type 0 where
  pub cut : text ≡ line ++ rest
  pub inside : AllAre in_line line
  pub ends : Stops in_line rest
