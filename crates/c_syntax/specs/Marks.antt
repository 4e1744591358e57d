-- The punctuators (ISO/IEC 9899:1999, 6.4.6) that are left after preprocessing, with their numbers.
use Rattle.std.specs.Prelude.{ℕ, List, [], ◌∷◌, codes}

-- a spelling, and the number of the punctuator that it stands for
pub record Mark : Type 0 where
  pub text : List ℕ
  pub number : ℕ

abbrev pub mark : List ℕ → ℕ → Mark
mark text number = record { text = text; number = number }

-- the last four are the digraphs of [ ] { }
abbrev pub marks : List Mark
marks =
    mark (codes "[") 0 ∷ mark (codes "]") 1 ∷ mark (codes "(") 2 ∷ mark (codes ")") 3 ∷ mark (codes "{") 4 ∷ mark (codes "}") 5 ∷
    mark (codes ".") 6 ∷ mark (codes "->") 7 ∷ mark (codes "++") 8 ∷ mark (codes "--") 9 ∷ mark (codes "&") 10 ∷ mark (codes "*") 11 ∷
    mark (codes "+") 12 ∷ mark (codes "-") 13 ∷ mark (codes "~") 14 ∷ mark (codes "!") 15 ∷ mark (codes "/") 16 ∷ mark (codes "%") 17 ∷
    mark (codes "<<") 18 ∷ mark (codes ">>") 19 ∷ mark (codes "<") 20 ∷ mark (codes ">") 21 ∷ mark (codes "<=") 22 ∷ mark (codes ">=") 23 ∷
    mark (codes "==") 24 ∷ mark (codes "!=") 25 ∷ mark (codes "^") 26 ∷ mark (codes "|") 27 ∷ mark (codes "&&") 28 ∷ mark (codes "||") 29 ∷
    mark (codes "?") 30 ∷ mark (codes ":") 31 ∷ mark (codes ";") 32 ∷ mark (codes "...") 33 ∷ mark (codes "=") 34 ∷ mark (codes "*=") 35 ∷
    mark (codes "/=") 36 ∷ mark (codes "%=") 37 ∷ mark (codes "+=") 38 ∷ mark (codes "-=") 39 ∷ mark (codes "<<=") 40 ∷
    mark (codes ">>=") 41 ∷ mark (codes "&=") 42 ∷ mark (codes "^=") 43 ∷ mark (codes "|=") 44 ∷ mark (codes ",") 45 ∷
    mark (codes "<:") 0 ∷ mark (codes ":>") 1 ∷ mark (codes "<%") 4 ∷ mark (codes "%>") 5 ∷ []
