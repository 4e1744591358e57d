-- Which categories the terminals take.
use Rattle.std.proofs.Common.{◌≡◌, ℕ, zero, suc, Bool, true, false, not, ◌&&◌, ◌||◌, ◌==◌, if◌then◌else◌, List, [], ◌∷◌, Option, Some, is_some, refl, ap, sym, subst, inl, inr}
use Rattle.std.proofs.lemmas.Bool.{eqb-true, and_parts, or_cases}
use Rattle.c_tree.specs.declared.lexeme.LexemeKind.{LexemeKind}
use Rattle.c_tree.specs.declared.lexeme.LexemeKind.TheVariants as k
use Rattle.c_tree.specs.declared.lexeme.Lexeme.{Lexeme}
use Rattle.c_grammar.specs.Marks as mk
use Rattle.c_grammar.specs.Words as wd
use Rattle.c_grammar.specs.Operators.{found, found_for, Binary, is_at_level, binary_operators, unary_operators, assignment_operators}
use Rattle.c_grammar.specs.State.{State, frame, names_type}
use Rattle.c_grammar.specs.Terminals.{Terminal}
use Rattle.c_grammar.specs.Terminals as w
use Rattle.c_grammar.specs.Tokens.{is_mark, is_mark_of, is_word, is_word_of, is_name, is_number, is_character, is_text, is_end, name_of, name_in}
use Rattle.c_grammar.proofs.Categories.{Category, Category.of_mark, Category.of_word, Category.free_else, Category.value, Category.type, Category.late_type, Category.number, Category.character, Category.text, Category.end, alike, alike_itself, Set, marks, words, among, among_first, among_second, word_category, name_category, category}

-- what fits the terminal is one of these
pub record Sorts (v : Terminal) (A : Set) : Type 0 where
  pub has : (s : State) (t : Lexeme) → v.fits s t ≡ true → among A (category s t.kind) ≡ true

pub closing : {v : Terminal} {A : Set} → Sorts v A → Sorts (w.closing v) A
closing f = record { has = λ s t e. f.has s t e }

pub operator : {v : Terminal} {A : Set} → Sorts v A → Sorts (w.operator v) A
operator f = record { has = λ s t e. f.has s t e }

-- ---- marks and keywords
is_that_mark : (n : ℕ) (kind : LexemeKind) → is_mark n kind ≡ true → kind ≡ k.Mark n
is_that_mark n (k.Mark m) e = ap k.Mark (eqb-true m n e)
is_that_mark n (k.Word v) e = cc
is_that_mark n (k.Name x) e = cc
is_that_mark n (k.Number m of) e = cc
is_that_mark n (k.Character m) e = cc
is_that_mark n (k.Text bytes) e = cc
is_that_mark n k.Extension e = cc
is_that_mark n k.End e = cc

is_that_word : (n : ℕ) (kind : LexemeKind) → is_word n kind ≡ true → kind ≡ k.Word n
is_that_word n (k.Word m) e = ap k.Word (eqb-true m n e)
is_that_word n (k.Mark v) e = cc
is_that_word n (k.Name x) e = cc
is_that_word n (k.Number m of) e = cc
is_that_word n (k.Character m) e = cc
is_that_word n (k.Text bytes) e = cc
is_that_word n k.Extension e = cc
is_that_word n k.End e = cc

first_among : (c : Category) (A : Set) → among (c ∷ A) c ≡ true
first_among c A = among_first (c ∷ []) A c (alone (alike c c) (alike_itself c))
  where
    alone : (b : Bool) → b ≡ true → b || false ≡ true
    alone true e = refl
    alone false e = cc

mark_among : (s : State) (n : ℕ) (A : Set) (kind : LexemeKind) → is_mark n kind ≡ true → among (of_mark n ∷ A) (category s kind) ≡ true
mark_among s n A kind e = subst (λ (x : LexemeKind). among (of_mark n ∷ A) (category s x) ≡ true) (sym (is_that_mark n kind e))
    (first_among (of_mark n) A)

word_among : (s : State) (n : ℕ) (A : Set) (kind : LexemeKind) → n == wd.else_word ≡ false → is_word n kind ≡ true
    → among (of_word n ∷ A) (category s kind) ≡ true
word_among s n A kind other e = subst (λ (x : LexemeKind). among (of_word n ∷ A) (category s x) ≡ true) (sym (is_that_word n kind e))
    (subst (λ (b : Bool). among (of_word n ∷ A) (word_category b s.dangling n) ≡ true) (sym other) (first_among (of_word n) A))

mark_of_among : (s : State) (ns : List ℕ) (kind : LexemeKind) → is_mark_of ns kind ≡ true → among (marks ns) (category s kind) ≡ true
mark_of_among s [] kind e = cc
mark_of_among s (n ∷ ns) kind e = elim (or_cases (is_mark n kind) (is_mark_of ns kind) e) [
  | inl here ↦ mark_among s n (marks ns) kind here
  | inr there ↦ among_second (of_mark n ∷ []) (marks ns) (category s kind) (mark_of_among s ns kind there)
]

abbrev pub no_else : List ℕ → Bool
no_else [] = true
no_else (n ∷ ns) = not (n == wd.else_word) && no_else ns

not_true : (b : Bool) → not b ≡ true → b ≡ false
not_true true e = cc
not_true false e = refl

word_of_among : (s : State) (ns : List ℕ) (kind : LexemeKind) → no_else ns ≡ true → is_word_of ns kind ≡ true
    → among (words ns) (category s kind) ≡ true
word_of_among s [] kind other e = cc
word_of_among s (n ∷ ns) kind other e =
    let parts = and_parts (not (n == wd.else_word)) (no_else ns) other in
    elim (or_cases (is_word n kind) (is_word_of ns kind) e) [
      | inl here ↦ word_among s n (words ns) kind (not_true (n == wd.else_word) parts.0) here
      | inr there ↦ among_second (of_word n ∷ []) (words ns) (category s kind) (word_of_among s ns kind parts.1 there)
    ]

pub mark : (n : ℕ) → Sorts (w.mark n) (of_mark n ∷ [])
mark n = record { has = λ s t e. mark_among s n [] t.kind e }

pub word : (n : ℕ) → n == wd.else_word ≡ false → Sorts (w.word n) (of_word n ∷ [])
word n other = record { has = λ s t e. word_among s n [] t.kind other e }

pub loop_word : (n : ℕ) → n == wd.else_word ≡ false → Sorts (w.loop_word n) (of_word n ∷ [])
loop_word n other = record { has = λ s t e. word_among s n [] t.kind other e }

pub bump : Sorts w.bump (marks (mk.plus_plus ∷ mk.minus_minus ∷ []))
bump = record { has = λ s t e. mark_of_among s (mk.plus_plus ∷ mk.minus_minus ∷ []) t.kind e }

pub typedef : Sorts w.typedef (of_word wd.typedef_word ∷ [])
typedef = record { has = λ s t e. word_among s wd.typedef_word [] t.kind refl e }

abbrev pub plain_words : List ℕ
plain_words = wd.extern_word ∷ wd.static_word ∷ wd.auto_word ∷ wd.register_word ∷ wd.const_word ∷ wd.volatile_word ∷ wd.restrict_word
    ∷ wd.inline_word ∷ []

abbrev pub type_words : List ℕ
type_words = wd.void_word ∷ wd.char_word ∷ wd.short_word ∷ wd.int_word ∷ wd.long_word ∷ wd.signed_word ∷ wd.unsigned_word ∷ wd.bool_word
    ∷ []

pub plain_specifier : Sorts w.plain_specifier (words plain_words)
plain_specifier = record { has = λ s t e. word_of_among s plain_words t.kind refl e }

pub type_word : Sorts w.type_word (words type_words)
type_word = record { has = λ s t e. word_of_among s type_words t.kind refl e }

pub record_word : Sorts w.record_word (words (wd.struct_word ∷ wd.union_word ∷ []))
record_word = record { has = λ s t e. word_of_among s (wd.struct_word ∷ wd.union_word ∷ []) t.kind refl e }

pub enumeration_word : Sorts w.enumeration_word (of_word wd.enum_word ∷ [])
enumeration_word = record { has = λ s t e. word_among s wd.enum_word [] t.kind refl e }

pub qualifier : Sorts w.qualifier (words (wd.const_word ∷ wd.volatile_word ∷ wd.restrict_word ∷ []))
qualifier = record { has = λ s t e. word_of_among s (wd.const_word ∷ wd.volatile_word ∷ wd.restrict_word ∷ []) t.kind refl e }

pub else : Sorts w.else (free_else ∷ [])
else = record {
  has = λ s t e. let parts = and_parts (is_word wd.else_word t.kind) (not s.dangling) e in
      subst (λ (x : LexemeKind). among (free_else ∷ []) (category s x) ≡ true) (sym (is_that_word wd.else_word t.kind parts.0))
      (free s.dangling parts.1);
}
  where
    free : (b : Bool) → not b ≡ true → among (free_else ∷ []) (word_category true b wd.else_word) ≡ true
    free true e = cc
    free false e = refl

-- ---- operators
abbrev pub keys : {A : Type 0} → List (ℕ × A) → List ℕ
keys [] = []
keys (x ∷ xs) = x.0 ∷ keys xs

chosen : {A : Type 0} (b : Bool) (o p : Option A) (c : Bool) → is_some (if b then o else p) ≡ true → (is_some p ≡ true → c ≡ true)
    → b || c ≡ true
chosen true o p c e f = refl
chosen false o p c e f = f e

found_among : {A : Type 0} (table : List (ℕ × A)) (n : ℕ) → is_some (found table n) ≡ true → among (marks (keys table)) (of_mark n) ≡ true
found_among [] n e = cc
found_among (x ∷ xs) n e = chosen (x.0 == n) (Some x.1) (found xs n) (among (marks (keys xs)) (of_mark n)) e (λ f. found_among xs n f)

found_for_among : {A : Type 0} (s : State) (table : List (ℕ × A)) (kind : LexemeKind) → is_some (found_for table kind) ≡ true
    → among (marks (keys table)) (category s kind) ≡ true
found_for_among s table (k.Mark n) e = found_among table n e
found_for_among s table (k.Word n) e = cc
found_for_among s table (k.Name x) e = cc
found_for_among s table (k.Number m of) e = cc
found_for_among s table (k.Character m) e = cc
found_for_among s table (k.Text bytes) e = cc
found_for_among s table k.Extension e = cc
found_for_among s table k.End e = cc

abbrev pub unary_marks : List ℕ
unary_marks = mk.ampersand ∷ mk.asterisk ∷ mk.plus ∷ mk.minus ∷ mk.tilde ∷ mk.exclamation ∷ []

abbrev pub assignment_marks : List ℕ
assignment_marks = mk.equal ∷ mk.times_equal ∷ mk.over_equal ∷ mk.remainder_equal ∷ mk.plus_equal ∷ mk.minus_equal ∷ mk.shift_left_equal
    ∷ mk.shift_right_equal ∷ mk.and_equal ∷ mk.xor_equal ∷ mk.or_equal ∷ []

pub unary_operator : Sorts w.unary_operator (marks unary_marks)
unary_operator = record { has = λ s t e. found_for_among s unary_operators t.kind e }

pub assignment_operator : Sorts w.assignment_operator (marks assignment_marks)
assignment_operator = record {
  has =
      λ s t e. found_for_among s assignment_operators t.kind (and_parts s.unary (is_some (found_for assignment_operators t.kind)) e).1;
}

-- the binary operators of a level, and of those below it
abbrev pub at_level : ℕ → List ℕ
at_level zero = mk.asterisk ∷ mk.slash ∷ mk.percent ∷ []
at_level (suc zero) = mk.plus ∷ mk.minus ∷ []
at_level (suc (suc zero)) = mk.shift_left ∷ mk.shift_right ∷ []
at_level (suc (suc (suc zero))) = mk.less ∷ mk.greater ∷ mk.less_equal ∷ mk.greater_equal ∷ []
at_level (suc (suc (suc (suc zero)))) = mk.equal_equal ∷ mk.not_equal ∷ []
at_level (suc (suc (suc (suc (suc zero))))) = mk.ampersand ∷ []
at_level (suc (suc (suc (suc (suc (suc zero)))))) = mk.caret ∷ []
at_level (suc (suc (suc (suc (suc (suc (suc zero))))))) = mk.bar ∷ []
at_level (suc (suc (suc (suc (suc (suc (suc (suc zero)))))))) = mk.and_and ∷ []
at_level (suc (suc (suc (suc (suc (suc (suc (suc (suc zero))))))))) = mk.or_or ∷ []
at_level _ = []

abbrev pub levelled : List (ℕ × Binary) → Bool
levelled [] = true
levelled (x ∷ xs) = among (marks (at_level x.1.level)) (of_mark x.0) && levelled xs

level_step : (x : ℕ × Binary) (o : Option Binary) (n m : ℕ) (b : Bool) → among (marks (at_level x.1.level)) (of_mark x.0) ≡ true
    → (is_at_level n o ≡ true → among (marks (at_level n)) (of_mark m) ≡ true)
    → x.0 == m ≡ b → is_at_level n (if b then Some x.1 else o) ≡ true → among (marks (at_level n)) (of_mark m) ≡ true
level_step x o n m true p f h g = subst (λ (l : ℕ). among (marks (at_level l)) (of_mark m) ≡ true) (eqb-true x.1.level n g)
    (subst (λ (y : ℕ). among (marks (at_level x.1.level)) (of_mark y) ≡ true) (eqb-true x.0 m h) p)
level_step x o n m false p f h g = f g

level_among : (table : List (ℕ × Binary)) (n m : ℕ) → levelled table ≡ true → is_at_level n (found table m) ≡ true
    → among (marks (at_level n)) (of_mark m) ≡ true
level_among [] n m f e = cc
level_among (x ∷ xs) n m f e =
    let parts = and_parts (among (marks (at_level x.1.level)) (of_mark x.0)) (levelled xs) f in
    level_step x (found xs m) n m (x.0 == m) parts.0 (λ g. level_among xs n m parts.1 g) refl e

level_for_among : (s : State) (n : ℕ) (kind : LexemeKind) → is_at_level n (found_for binary_operators kind) ≡ true
    → among (marks (at_level n)) (category s kind) ≡ true
level_for_among s n (k.Mark m) e = level_among binary_operators n m refl e
level_for_among s n (k.Word m) e = cc
level_for_among s n (k.Name x) e = cc
level_for_among s n (k.Number m of) e = cc
level_for_among s n (k.Character m) e = cc
level_for_among s n (k.Text bytes) e = cc
level_for_among s n k.Extension e = cc
level_for_among s n k.End e = cc

pub binary_operator : (n : ℕ) → Sorts (w.binary_operator n) (marks (at_level n))
binary_operator n = record { has = λ s t e. level_for_among s n t.kind e }

-- ---- names, constants and the end
named : (A : Set) (s : State) (kind : LexemeKind) → is_name kind ≡ true
    → among A (name_category (names_type s.scopes (name_in kind)) (frame s).has_type) ≡ true → among A (category s kind) ≡ true
named A s (k.Name x) e h = h
named A s (k.Mark m) e h = cc
named A s (k.Word m) e h = cc
named A s (k.Number m of) e h = cc
named A s (k.Character m) e h = cc
named A s (k.Text bytes) e h = cc
named A s k.Extension e h = cc
named A s k.End e h = cc

any_among : (a b : Bool) → among (value ∷ type ∷ late_type ∷ []) (name_category a b) ≡ true
any_among false b = refl
any_among true false = refl
any_among true true = refl

value_among : (a b : Bool) → not a ≡ true → among (value ∷ []) (name_category a b) ≡ true
value_among true b e = cc
value_among false b e = refl

declared_among : (a b : Bool) → b || not a ≡ true → among (value ∷ late_type ∷ []) (name_category a b) ≡ true
declared_among false b e = refl
declared_among true true e = refl
declared_among true false e = cc

type_among : (a b : Bool) → a ≡ true → not b ≡ true → among (type ∷ []) (name_category a b) ≡ true
type_among true false e f = refl
type_among true true e f = cc
type_among false b e f = cc

pub any_name : Sorts w.any_name (value ∷ type ∷ late_type ∷ [])
any_name = record {
  has = λ s t e. named (value ∷ type ∷ late_type ∷ []) s t.kind e
      (any_among (names_type s.scopes (name_of t)) (frame s).has_type);
}

pub enumerator_name : Sorts w.enumerator_name (value ∷ type ∷ late_type ∷ [])
enumerator_name = record {
  has =
      λ s t e. named (value ∷ type ∷ late_type ∷ []) s t.kind e (any_among (names_type s.scopes (name_of t)) (frame s).has_type);
}

pub value_name : Sorts w.value_name (value ∷ [])
value_name = record {
  has = λ s t e. let p =
      and_parts (is_name t.kind) (not (names_type s.scopes (name_of t))) e in named (value ∷ []) s t.kind p.0
      (value_among (names_type s.scopes (name_of t)) (frame s).has_type p.1);
}

pub grouped_name : Sorts w.grouped_name (value ∷ [])
grouped_name = record {
  has = λ s t e. let p =
      and_parts (is_name t.kind) (not (names_type s.scopes (name_of t))) e in named (value ∷ []) s t.kind p.0
      (value_among (names_type s.scopes (name_of t)) (frame s).has_type p.1);
}

pub declared_name : Sorts w.declared_name (value ∷ late_type ∷ [])
declared_name = record {
  has = λ s t e. let p =
      and_parts (is_name t.kind) ((frame s).has_type || not (names_type s.scopes (name_of t))) e in named
      (value ∷ late_type ∷ []) s t.kind p.0 (declared_among (names_type s.scopes (name_of t)) (frame s).has_type p.1);
}

pub typedef_name : Sorts w.typedef_name (type ∷ [])
typedef_name = record {
  has = λ s t e. parts s t (is_name t.kind) (names_type s.scopes (name_of t))
      (not (frame s).has_type) refl refl refl e;
}
  where
    parts : (s : State) (t : Lexeme) (a b c : Bool) → is_name t.kind ≡ a → names_type s.scopes (name_of t) ≡ b → not (frame s).has_type ≡ c
        → a && b && c ≡ true → among (type ∷ []) (category s t.kind) ≡ true
    parts s t true true true x y z e = named (type ∷ []) s t.kind x (type_among (names_type s.scopes (name_of t)) (frame s).has_type y z)
    parts s t true true false x y z e = cc
    parts s t true false c x y z e = cc
    parts s t false b c x y z e = cc

number_among : (s : State) (kind : LexemeKind) → is_number kind ≡ true → among (number ∷ []) (category s kind) ≡ true
number_among s (k.Number n of) e = refl
number_among s (k.Mark m) e = cc
number_among s (k.Word m) e = cc
number_among s (k.Name x) e = cc
number_among s (k.Character m) e = cc
number_among s (k.Text bytes) e = cc
number_among s k.Extension e = cc
number_among s k.End e = cc

character_among : (s : State) (kind : LexemeKind) → is_character kind ≡ true → among (character ∷ []) (category s kind) ≡ true
character_among s (k.Character m) e = refl
character_among s (k.Mark m) e = cc
character_among s (k.Word m) e = cc
character_among s (k.Name x) e = cc
character_among s (k.Number m of) e = cc
character_among s (k.Text bytes) e = cc
character_among s k.Extension e = cc
character_among s k.End e = cc

text_among : (s : State) (kind : LexemeKind) → is_text kind ≡ true → among (text ∷ []) (category s kind) ≡ true
text_among s (k.Text bytes) e = refl
text_among s (k.Mark m) e = cc
text_among s (k.Word m) e = cc
text_among s (k.Name x) e = cc
text_among s (k.Number m of) e = cc
text_among s (k.Character m) e = cc
text_among s k.Extension e = cc
text_among s k.End e = cc

end_among : (s : State) (kind : LexemeKind) → is_end kind ≡ true → among (end ∷ []) (category s kind) ≡ true
end_among s k.End e = refl
end_among s (k.Mark m) e = cc
end_among s (k.Word m) e = cc
end_among s (k.Name x) e = cc
end_among s (k.Number m of) e = cc
end_among s (k.Character m) e = cc
end_among s (k.Text bytes) e = cc
end_among s k.Extension e = cc

pub number_token : Sorts w.number (number ∷ [])
number_token = record { has = λ s t e. number_among s t.kind e }

pub character_token : Sorts w.character (character ∷ [])
character_token = record { has = λ s t e. character_among s t.kind e }

pub text_token : Sorts w.text (text ∷ [])
text_token = record { has = λ s t e. text_among s t.kind e }

pub end_token : Sorts w.end (end ∷ [])
end_token = record { has = λ s t e. end_among s t.kind e }
