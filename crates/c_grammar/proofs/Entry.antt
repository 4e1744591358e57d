-- What is tested of a production.
use Rattle.std.proofs.Common.{◌≡◌, ℕ, Bool, true, false, List}
use Rattle.c_grammar.specs.Items.{Sym, In, Out, Item}
use Rattle.c_grammar.proofs.Categories.{Set}
use Rattle.c_grammar.proofs.Changes.{after, before}
use Rattle.c_grammar.proofs.Described.{Described}
use Rattle.c_grammar.proofs.Firsts.{empty, through, before_all, nulls}
use Rattle.c_grammar.proofs.RulePrograms.{productions}
use Rattle.c_grammar.proofs.Programs.{Program.fail, Fits, item_at}
use Rattle.c_grammar.proofs.Rows.{row, sound}

pub differ : {b : Bool} {P : Type 0} → b ≡ true → b ≡ false → P
differ e f = absurd cc

pub record Entry (n : Sym) (a : In n) (b : Out n) (items : List Item) : Type 0 where
  -- the place of the production among those of its nonterminal
  pub place : ℕ
  pub described : Described items (row n place)
  pub fits : Fits (item_at fail (productions n a) place) b items
  pub tested : sound n place ≡ true
  pub quiet : empty (row n place) ≡ true → (A : Set) → through (row n place) A ≡ after (nulls n) A
  pub quiet_before : empty (row n place) ≡ true → (A : Set) → before_all (row n place) A ≡ before (nulls n) A

abbrev pub entry : {n : Sym} {a : In n} {b : Out n} {items : List Item} (i : ℕ) → Described items (row n i)
    → Fits (item_at fail (productions n a) i) b items → sound n i ≡ true
    → empty (row n i) ≡ false → Entry n a b items
entry i d f t e = record { place = i; described = d; fits = f; tested = t; quiet = λ h A. differ h e; quiet_before = λ h A. differ h e }

abbrev pub null_entry : {n : Sym} {a : In n} {b : Out n} {items : List Item} (i : ℕ) → Described items (row n i)
    → Fits (item_at fail (productions n a) i) b items → sound n i ≡ true
    → ((A : Set) → through (row n i) A ≡ after (nulls n) A) → ((A : Set) → before_all (row n i) A ≡ before (nulls n) A) → Entry n a b items
null_entry i d f t q q2 = record { place = i; described = d; fits = f; tested = t; quiet = λ h A. q A; quiet_before = λ h A. q2 A }
