-- What a token is to the grammar in a state, and sets of that.
use Rattle.std.proofs.Common.{◌≡◌, ℕ, Bool, true, false, not, ◌&&◌, ◌||◌, ◌==◌, List, [], ◌∷◌, ◌++◌, refl, ap, inl, inr}
use Rattle.std.proofs.lemmas.Bool.{eqb-true, eq-eqb, and_parts, or_cases}
use Rattle.c_tree.specs.declared.lexeme.LexemeKind.{LexemeKind}
use Rattle.c_tree.specs.declared.lexeme.LexemeKind.TheVariants as k
use Rattle.c_tree.specs.declared.lexeme.Lexeme.{Lexeme}
use Rattle.c_grammar.specs.Words as wd
use Rattle.c_grammar.specs.State.{State, frame, names_type}

pub data Category : Type 0 where
  of_mark : ℕ → Category
  of_word : ℕ → Category
  -- an `else` that may follow, and one that may not
  free_else : Category
  bound_else : Category
  -- a name: no typedef name, a typedef name, and a typedef name behind a type word
  value : Category
  type : Category
  late_type : Category
  number : Category
  character : Category
  text : Category
  extension : Category
  end : Category

abbrev pub alike : Category → Category → Bool
alike (of_mark m) (of_mark n) = m == n
alike (of_word m) (of_word n) = m == n
alike free_else free_else = true
alike bound_else bound_else = true
alike value value = true
alike type type = true
alike late_type late_type = true
alike number number = true
alike character character = true
alike text text = true
alike extension extension = true
alike end end = true
alike _ _ = false

pub alike_is : (c d : Category) → alike c d ≡ true → c ≡ d
alike_is (of_mark m) (of_mark n) e = ap of_mark (eqb-true m n e)
alike_is (of_word m) (of_word n) e = ap of_word (eqb-true m n e)
alike_is free_else free_else e = refl
alike_is bound_else bound_else e = refl
alike_is value value e = refl
alike_is type type e = refl
alike_is late_type late_type e = refl
alike_is number number e = refl
alike_is character character e = refl
alike_is text text e = refl
alike_is extension extension e = refl
alike_is end end e = refl
alike_is _ _ e = cc

pub alike_itself : (c : Category) → alike c c ≡ true
alike_itself (of_mark m) = eq-eqb m m refl
alike_itself (of_word m) = eq-eqb m m refl
alike_itself free_else = refl
alike_itself bound_else = refl
alike_itself value = refl
alike_itself type = refl
alike_itself late_type = refl
alike_itself number = refl
alike_itself character = refl
alike_itself text = refl
alike_itself extension = refl
alike_itself end = refl

-- ---- sets
abbrev pub Set : Type 0
Set = List Category

abbrev pub marks : List ℕ → Set
marks [] = []
marks (m ∷ ms) = of_mark m ∷ marks ms

abbrev pub words : List ℕ → Set
words [] = []
words (w ∷ ws) = of_word w ∷ words ws

abbrev pub among : Set → Category → Bool
among [] c = false
among (x ∷ xs) c = alike x c || among xs c

-- everything of the first is in the second
abbrev pub within : Set → Set → Bool
within [] B = true
within (x ∷ A) B = among B x && within A B

-- nothing of the first is in the second
abbrev pub apart : Set → Set → Bool
apart [] B = true
apart (x ∷ A) B = not (among B x) && apart A B

same_among : (B : Set) (x c : Category) → alike x c ≡ true → among B x ≡ among B c
same_among B x c e = ap (λ (y : Category). among B y) (alike_is x c e)

pub within_is : (A B : Set) (c : Category) → within A B ≡ true → among A c ≡ true → among B c ≡ true
within_is [] B c w e = cc
within_is (x ∷ A) B c w e =
    let parts = and_parts (among B x) (within A B) w in
    elim (or_cases (alike x c) (among A c) e) [
      | inl h ↦
          (let s = same_among B x c h in let p = parts.0 in cc)
      | inr h ↦ within_is A B c parts.1 h
    ]

clash : (x y : Bool) → x ≡ y → not x ≡ true → y ≡ true → ⊥
clash true y e f g = cc
clash false true e f g = cc
clash false false e f g = cc

pub apart_is : (A B : Set) (c : Category) → apart A B ≡ true → among A c ≡ true → among B c ≡ true → ⊥
apart_is [] B c w e o = cc
apart_is (x ∷ A) B c w e o =
    let parts = and_parts (not (among B x)) (apart A B) w in
    elim (or_cases (alike x c) (among A c) e) [
      | inl h ↦ clash (among B x) (among B c)
          (same_among B x c h) parts.0 o
      | inr h ↦ apart_is A B c parts.1 h o
    ]

among_left : (x y : Bool) → x ≡ true → x || y ≡ true
among_left true y e = refl
among_left false y e = cc

among_right : (x y : Bool) → y ≡ true → x || y ≡ true
among_right true y e = refl
among_right false y e = e

pub among_first : (A B : Set) (c : Category) → among A c ≡ true → among (A ++ B) c ≡ true
among_first [] B c e = cc
among_first (x ∷ A) B c e = elim (or_cases (alike x c) (among A c) e) [
  | inl h ↦ among_left _ _ h
  | inr h ↦ among_right _ _
      (among_first A B c h)
]

pub among_second : (A B : Set) (c : Category) → among B c ≡ true → among (A ++ B) c ≡ true
among_second [] B c e = e
among_second (x ∷ A) B c e = among_right _ _ (among_second A B c e)

-- ---- what a token is
abbrev pub word_category : Bool → Bool → ℕ → Category
word_category true true v = bound_else
word_category true false v = free_else
word_category false dangling v = of_word v

abbrev pub name_category : Bool → Bool → Category
name_category false has_type = value
name_category true false = type
name_category true true = late_type

abbrev pub category : State → LexemeKind → Category
category s (k.Mark n) = of_mark n
category s (k.Word v) = word_category (v == wd.else_word) s.dangling v
category s (k.Name x) = name_category (names_type s.scopes x) (frame s).has_type
category s (k.Number n of) = number
category s (k.Character n) = character
category s (k.Text bytes) = text
category s k.Extension = extension
category s k.End = end

-- the first of the tokens is one of these
abbrev pub sees : Set → State → List Lexeme → Bool
sees A s [] = false
sees A s (t ∷ ts) = among A (category s t.kind)

pub sees_within : (A B : Set) (s : State) (ts : List Lexeme) → within A B ≡ true → sees A s ts ≡ true → sees B s ts ≡ true
sees_within A B s [] w e = cc
sees_within A B s (t ∷ ts) w e = within_is A B (category s t.kind) w e

pub sees_apart : (A B : Set) (s : State) (ts : List Lexeme) → apart A B ≡ true → sees A s ts ≡ true → sees B s ts ≡ true → ⊥
sees_apart A B s [] w e o = cc
sees_apart A B s (t ∷ ts) w e o = apart_is A B (category s t.kind) w e o

pub sees_first : (A B : Set) (s : State) (ts : List Lexeme) → sees A s ts ≡ true → sees (A ++ B) s ts ≡ true
sees_first A B s [] e = cc
sees_first A B s (t ∷ ts) e = among_first A B (category s t.kind) e

pub sees_second : (A B : Set) (s : State) (ts : List Lexeme) → sees B s ts ≡ true → sees (A ++ B) s ts ≡ true
sees_second A B s [] e = cc
sees_second A B s (t ∷ ts) e = among_second A B (category s t.kind) e
