-- What the changes of the state do to the categories of tokens.
use Rattle.std.proofs.Common.{◌≡◌, ℕ, Bool, true, false, ◌||◌, ◌==◌, List, [], ◌∷◌, ◌++◌, Option, Some, None, refl, ap, sym, subst, inl, inr}
use Rattle.std.proofs.lemmas.Bool.{or_cases}
use Rattle.c_tree.specs.declared.lexeme.LexemeKind.{LexemeKind}
use Rattle.c_tree.specs.declared.lexeme.LexemeKind.TheVariants as k
use Rattle.c_tree.specs.declared.lexeme.Lexeme.{Lexeme}
use Rattle.c_grammar.specs.Words as wd
use Rattle.c_grammar.specs.State.{State, Frame, frame, names_type}
use Rattle.c_grammar.specs.State as st
use Rattle.c_grammar.proofs.Categories.{Category, Category.of_mark, Category.of_word, Category.free_else, Category.bound_else, Category.value, Category.type, Category.late_type, Category.number, Category.character, Category.text, Category.extension, Category.end, alike, alike_is, alike_itself, Set, among, among_first, among_second, word_category, name_category, category, sees}

pub data Change : Type 0 where
  -- no category changes
  calm : Change
  -- those of names may
  naming : Change
  -- no type word has been read
  fresh : Change
  -- one has been read, or none can come any more
  typed : Change
  -- no `else` may follow
  dangling : Change

abbrev pub names : Set
names = value ∷ type ∷ late_type ∷ []

-- what a category may become, and what it may have been
abbrev pub becomes : Change → Category → Set
becomes naming value = names
becomes naming type = names
becomes naming late_type = names
becomes fresh late_type = type ∷ []
becomes typed type = late_type ∷ []
becomes dangling free_else = bound_else ∷ []
becomes _ c = c ∷ []

abbrev pub was : Change → Category → Set
was naming value = names
was naming type = names
was naming late_type = names
was fresh type = type ∷ late_type ∷ []
was fresh late_type = []
was typed type = []
was typed late_type = type ∷ late_type ∷ []
was dangling bound_else = free_else ∷ bound_else ∷ []
was dangling free_else = []
was _ c = c ∷ []

abbrev pub spread : (Category → Set) → Set → Set
spread f [] = []
spread f (c ∷ A) = f c ++ spread f A

abbrev pub after : Change → Set → Set
after calm A = A
after c A = spread (becomes c) A

abbrev pub before : Change → Set → Set
before calm A = A
before c A = spread (was c) A

spread_has : (f : Category → Set) (A : Set) (c d : Category) → among A c ≡ true → among (f c) d ≡ true → among (spread f A) d ≡ true
spread_has f [] c d e h = cc
spread_has f (x ∷ A) c d e h = elim (or_cases (alike x c) (among A c) e) [
  | inl same ↦ among_first (f x) (spread f A) d (subst (λ (y : Category). among (f y) d ≡ true) (sym (alike_is x c same)) h)
  | inr more ↦ among_second (f x) (spread f A) d (spread_has f A c d more h)
]

pub record Changes (f : State → State) (c : Change) : Type 0 where
  pub forward : (A : Set) (s : State) (ts : List Lexeme) → sees A s ts ≡ true → sees (after c A) (f s) ts ≡ true
  pub back : (A : Set) (s : State) (ts : List Lexeme) → sees A (f s) ts ≡ true → sees (before c A) s ts ≡ true

-- ---- calm changes
keeps : (f : State → State) → ((s : State) (kind : LexemeKind) → category (f s) kind ≡ category s kind) → Changes f calm
keeps f same = record { forward = λ A s ts e. on A s ts e; back = λ A s ts e. off A s ts e }
  where
    on : (A : Set) (s : State) (ts : List Lexeme) → sees A s ts ≡ true → sees A (f s) ts ≡ true
    on A s [] e = e
    on A s (t ∷ ts) e = subst (λ (c : Category). among A c ≡ true) (sym (same s t.kind)) e

    off : (A : Set) (s : State) (ts : List Lexeme) → sees A (f s) ts ≡ true → sees A s ts ≡ true
    off A s [] e = e
    off A s (t ∷ ts) e = subst (λ (c : Category). among A c ≡ true) (same s t.kind) e

same_name : {a b c d : Bool} → a ≡ b → c ≡ d → name_category a c ≡ name_category b d
same_name e f = cc

-- where names, type words and `else` stay what they are
pub same_category : (s r : State) → ((x : ℕ) → names_type s.scopes x ≡ names_type r.scopes x) → (frame s).has_type ≡ (frame r).has_type
    → s.dangling ≡ r.dangling → (kind : LexemeKind) → category s kind ≡ category r kind
same_category s r n h d (k.Mark m) = refl
same_category s r n h d (k.Word v) = ap (λ (b : Bool). word_category (v == wd.else_word) b v) d
same_category s r n h d (k.Name x) = same_name (n x) h
same_category s r n h d (k.Number m of) = refl
same_category s r n h d (k.Character m) = refl
same_category s r n h d (k.Text bytes) = refl
same_category s r n h d k.Extension = refl
same_category s r n h d k.End = refl

pub sees_alike : (A : Set) (s r : State) (ts : List Lexeme) → ((x : ℕ) → names_type s.scopes x ≡ names_type r.scopes x)
    → (frame s).has_type ≡ (frame r).has_type → s.dangling ≡ r.dangling → sees A s ts ≡ true → sees A r ts ≡ true
sees_alike A s r [] n h d e = cc
sees_alike A s r (t ∷ ts) n h d e = subst (λ (c : Category). among A c ≡ true) (same_category s r n h d t.kind) e

pub enter : Changes st.enter calm
enter = keeps st.enter (λ s kind. same_category (st.enter s) s (λ x. refl) refl refl kind)

pub leave : Changes st.leave calm
leave = keeps st.leave (λ s kind. same_category (st.leave s) s (λ x. refl) refl refl kind)

pub begin_operand : Changes st.begin_operand calm
begin_operand = keeps st.begin_operand (λ s kind. same_category (st.begin_operand s) s (λ x. refl) refl refl kind)

pub end_operand : Changes st.end_operand calm
end_operand = keeps st.end_operand (λ s kind. same_category (st.end_operand s) s (λ x. refl) refl refl kind)

pub is_unary : Changes st.is_unary calm
is_unary = keeps st.is_unary (λ s kind. same_category (st.is_unary s) s (λ x. refl) refl refl kind)

pub is_no_unary : Changes st.is_no_unary calm
is_no_unary = keeps st.is_no_unary (λ s kind. same_category (st.is_no_unary s) s (λ x. refl) refl refl kind)

pub open_scope : Changes st.open_scope calm
open_scope = keeps st.open_scope (λ s kind. same_category (st.open_scope s) s (λ x. refl) refl refl kind)

pub indirect : Changes st.indirect calm
indirect = keeps st.indirect (λ s kind. same_category (st.indirect s) s (λ x. refl) refl refl kind)

pub leave_loop : Changes st.leave_loop calm
leave_loop = keeps st.leave_loop (λ s kind. same_category (st.leave_loop s) s (λ x. refl) refl refl kind)

-- ---- changes of names
itself : (c : Category) → among (c ∷ []) c ≡ true
itself c = elim (alike c c) as (λ b. alike c c ≡ b → b || false ≡ true) [
  | true ↦ λ e. refl
  | false ↦ λ e.
      (let o = alike_itself c in cc)
] refl

one_of_names : (f : Category → Set) → f value ≡ names → f type ≡ names → f late_type ≡ names → (a b c d : Bool)
    → among (f (name_category a b)) (name_category c d) ≡ true
one_of_names f u v w a b c d = name a b (λ x. among (f x) (name_category c d) ≡ true) (rw u (is c d)) (rw v (is c d)) (rw w (is c d))
  where
    name : (a b : Bool) (P : Category → Type 0) → P value → P type → P late_type → P (name_category a b)
    name false b P x y z = x
    name true false P x y z = y
    name true true P x y z = z

    is : (c d : Bool) → among names (name_category c d) ≡ true
    is false d = refl
    is true false = refl
    is true true = refl

becomes_named : (s r : State) → s.dangling ≡ r.dangling → (kind : LexemeKind)
    → among (becomes naming (category s kind)) (category r kind) ≡ true
becomes_named s r d (k.Mark m) = itself (of_mark m)
becomes_named s r d (k.Word v) = word (v == wd.else_word) s.dangling r.dangling d v
  where
    word : (b x y : Bool) → x ≡ y → (v : ℕ) → among (becomes naming (word_category b x v)) (word_category b y v) ≡ true
    word true true true e v = refl
    word true false false e v = refl
    word true true false e v = cc
    word true false true e v = cc
    word false x y e v = itself (of_word v)
becomes_named s r d (k.Name x) =
    one_of_names (becomes naming) refl refl refl (names_type s.scopes x) (frame s).has_type (names_type r.scopes x) (frame r).has_type
becomes_named s r d (k.Number m of) = refl
becomes_named s r d (k.Character m) = refl
becomes_named s r d (k.Text bytes) = refl
becomes_named s r d k.Extension = refl
becomes_named s r d k.End = refl

-- whatever the state is, but for what may follow an `if`
pub sees_named : (A : Set) (s r : State) (ts : List Lexeme) → s.dangling ≡ r.dangling → sees A s ts ≡ true
    → sees (after naming A) r ts ≡ true
sees_named A s r [] d e = cc
sees_named A s r (t ∷ ts) d e = spread_has (becomes naming) A (category s t.kind) (category r t.kind) e (becomes_named s r d t.kind)

was_named : (c d : Category) → among (becomes naming c) d ≡ true → among (was naming c) d ≡ true
was_named value d e = e
was_named type d e = e
was_named late_type d e = e
was_named (of_mark m) d e = e
was_named (of_word m) d e = e
was_named free_else d e = e
was_named bound_else d e = e
was_named number d e = e
was_named character d e = e
was_named text d e = e
was_named extension d e = e
was_named end d e = e

renames : (f : State → State) → ((s : State) → (f s).dangling ≡ s.dangling) → Changes f naming
renames f d = record { forward = λ A s ts e. sees_named A s (f s) ts (sym (d s)) e; back = λ A s ts e. off A s ts e }
  where
    off : (A : Set) (s : State) (ts : List Lexeme) → sees A (f s) ts ≡ true → sees (before naming A) s ts ≡ true
    off A s [] e = cc
    off A s (t ∷ ts) e = spread_has (was naming) A (category (f s) t.kind) (category s t.kind) e
        (was_named (category (f s) t.kind) (category s t.kind) (becomes_named (f s) s (d s) t.kind))

pub finish : Changes st.finish naming
finish = renames st.finish (λ s. refl)

pub declared_dangling : (o : Option ℕ) (b : Bool) (s : State) → (st.declared o b s).dangling ≡ s.dangling
declared_dangling None b s = refl
declared_dangling (Some x) b s = refl

pub declare : Changes st.declare naming
declare = renames st.declare (λ s. declared_dangling (frame s).held (frame s).is_typedef s)

pub close_scope : Changes st.close_scope naming
close_scope = renames st.close_scope (λ s. refl)

pub open_body : Changes st.open_body naming
open_body = renames st.open_body (λ s. refl)

pub close_parameters : Changes st.close_parameters naming
close_parameters = renames st.close_parameters (λ s. refl)

-- ---- a declaration begins
pub begin : Changes st.begin fresh
begin = record { forward = λ A s ts e. on A s ts e; back = λ A s ts e. off A s ts e }
  where
    becomes_fresh : (a b : Bool) → among (becomes fresh (name_category a b)) (name_category a false) ≡ true
    becomes_fresh false b = refl
    becomes_fresh true false = refl
    becomes_fresh true true = refl

    was_fresh : (a b : Bool) → among (was fresh (name_category a false)) (name_category a b) ≡ true
    was_fresh false b = refl
    was_fresh true false = refl
    was_fresh true true = refl

    becomes_word : (b x : Bool) (v : ℕ) → among (becomes fresh (word_category b x v)) (word_category b x v) ≡ true
    becomes_word true true v = refl
    becomes_word true false v = refl
    becomes_word false x v = itself (of_word v)

    was_word : (b x : Bool) (v : ℕ) → among (was fresh (word_category b x v)) (word_category b x v) ≡ true
    was_word true true v = refl
    was_word true false v = refl
    was_word false x v = itself (of_word v)

    one : (s : State) (kind : LexemeKind) → among (becomes fresh (category s kind)) (category (st.begin s) kind) ≡ true
    one s (k.Mark m) = itself (of_mark m)
    one s (k.Word v) = becomes_word (v == wd.else_word) s.dangling v
    one s (k.Name x) = becomes_fresh (names_type s.scopes x) (frame s).has_type
    one s (k.Number m of) = refl
    one s (k.Character m) = refl
    one s (k.Text bytes) = refl
    one s k.Extension = refl
    one s k.End = refl

    other : (s : State) (kind : LexemeKind) → among (was fresh (category (st.begin s) kind)) (category s kind) ≡ true
    other s (k.Mark m) = itself (of_mark m)
    other s (k.Word v) = was_word (v == wd.else_word) s.dangling v
    other s (k.Name x) = was_fresh (names_type s.scopes x) (frame s).has_type
    other s (k.Number m of) = refl
    other s (k.Character m) = refl
    other s (k.Text bytes) = refl
    other s k.Extension = refl
    other s k.End = refl

    on : (A : Set) (s : State) (ts : List Lexeme) → sees A s ts ≡ true → sees (after fresh A) (st.begin s) ts ≡ true
    on A s [] e = cc
    on A s (t ∷ ts) e = spread_has (becomes fresh) A (category s t.kind) (category (st.begin s) t.kind) e (one s t.kind)

    off : (A : Set) (s : State) (ts : List Lexeme) → sees A (st.begin s) ts ≡ true → sees (before fresh A) s ts ≡ true
    off A s [] e = cc
    off A s (t ∷ ts) e = spread_has (was fresh) A (category (st.begin s) t.kind) (category s t.kind) e (other s t.kind)

-- ---- the specifiers end
pub end_specifiers : Changes st.end_specifiers typed
end_specifiers = record { forward = λ A s ts e. on A s ts e; back = λ A s ts e. off A s ts e }
  where
    becomes_typed : (a b : Bool) → among (becomes typed (name_category a b)) (name_category a true) ≡ true
    becomes_typed false b = refl
    becomes_typed true false = refl
    becomes_typed true true = refl

    was_typed : (a b : Bool) → among (was typed (name_category a true)) (name_category a b) ≡ true
    was_typed false b = refl
    was_typed true false = refl
    was_typed true true = refl

    becomes_word : (b x : Bool) (v : ℕ) → among (becomes typed (word_category b x v)) (word_category b x v) ≡ true
    becomes_word true true v = refl
    becomes_word true false v = refl
    becomes_word false x v = itself (of_word v)

    was_word : (b x : Bool) (v : ℕ) → among (was typed (word_category b x v)) (word_category b x v) ≡ true
    was_word true true v = refl
    was_word true false v = refl
    was_word false x v = itself (of_word v)

    one : (s : State) (kind : LexemeKind) → among (becomes typed (category s kind)) (category (st.end_specifiers s) kind) ≡ true
    one s (k.Mark m) = itself (of_mark m)
    one s (k.Word v) = becomes_word (v == wd.else_word) s.dangling v
    one s (k.Name x) = becomes_typed (names_type s.scopes x) (frame s).has_type
    one s (k.Number m of) = refl
    one s (k.Character m) = refl
    one s (k.Text bytes) = refl
    one s k.Extension = refl
    one s k.End = refl

    other : (s : State) (kind : LexemeKind) → among (was typed (category (st.end_specifiers s) kind)) (category s kind) ≡ true
    other s (k.Mark m) = itself (of_mark m)
    other s (k.Word v) = was_word (v == wd.else_word) s.dangling v
    other s (k.Name x) = was_typed (names_type s.scopes x) (frame s).has_type
    other s (k.Number m of) = refl
    other s (k.Character m) = refl
    other s (k.Text bytes) = refl
    other s k.Extension = refl
    other s k.End = refl

    on : (A : Set) (s : State) (ts : List Lexeme) → sees A s ts ≡ true → sees (after typed A) (st.end_specifiers s) ts ≡ true
    on A s [] e = cc
    on A s (t ∷ ts) e = spread_has (becomes typed) A (category s t.kind) (category (st.end_specifiers s) t.kind) e (one s t.kind)

    off : (A : Set) (s : State) (ts : List Lexeme) → sees A (st.end_specifiers s) ts ≡ true → sees (before typed A) s ts ≡ true
    off A s [] e = cc
    off A s (t ∷ ts) e = spread_has (was typed) A (category (st.end_specifiers s) t.kind) (category s t.kind) e (other s t.kind)

-- ---- an `if` without `else` ends
pub leave_dangling : Changes st.leave_dangling dangling
leave_dangling = record { forward = λ A s ts e. on A s ts e; back = λ A s ts e. off A s ts e }
  where
    becomes_word : (b x : Bool) (v : ℕ) → among (becomes dangling (word_category b x v)) (word_category b true v) ≡ true
    becomes_word true true v = refl
    becomes_word true false v = refl
    becomes_word false x v = itself (of_word v)

    was_word : (b x : Bool) (v : ℕ) → among (was dangling (word_category b true v)) (word_category b x v) ≡ true
    was_word true true v = refl
    was_word true false v = refl
    was_word false x v = itself (of_word v)

    becomes_name : (a b : Bool) → among (becomes dangling (name_category a b)) (name_category a b) ≡ true
    becomes_name false b = refl
    becomes_name true false = refl
    becomes_name true true = refl

    was_name : (a b : Bool) → among (was dangling (name_category a b)) (name_category a b) ≡ true
    was_name false b = refl
    was_name true false = refl
    was_name true true = refl

    one : (s : State) (kind : LexemeKind) → among (becomes dangling (category s kind)) (category (st.leave_dangling s) kind) ≡ true
    one s (k.Mark m) = itself (of_mark m)
    one s (k.Word v) = becomes_word (v == wd.else_word) s.dangling v
    one s (k.Name x) = becomes_name (names_type s.scopes x) (frame s).has_type
    one s (k.Number m of) = refl
    one s (k.Character m) = refl
    one s (k.Text bytes) = refl
    one s k.Extension = refl
    one s k.End = refl

    other : (s : State) (kind : LexemeKind) → among (was dangling (category (st.leave_dangling s) kind)) (category s kind) ≡ true
    other s (k.Mark m) = itself (of_mark m)
    other s (k.Word v) = was_word (v == wd.else_word) s.dangling v
    other s (k.Name x) = was_name (names_type s.scopes x) (frame s).has_type
    other s (k.Number m of) = refl
    other s (k.Character m) = refl
    other s (k.Text bytes) = refl
    other s k.Extension = refl
    other s k.End = refl

    on : (A : Set) (s : State) (ts : List Lexeme) → sees A s ts ≡ true → sees (after dangling A) (st.leave_dangling s) ts ≡ true
    on A s [] e = cc
    on A s (t ∷ ts) e = spread_has (becomes dangling) A (category s t.kind) (category (st.leave_dangling s) t.kind) e (one s t.kind)

    off : (A : Set) (s : State) (ts : List Lexeme) → sees A (st.leave_dangling s) ts ≡ true → sees (before dangling A) s ts ≡ true
    off A s [] e = cc
    off A s (t ∷ ts) e = spread_has (was dangling) A (category (st.leave_dangling s) t.kind) (category s t.kind) e (other s t.kind)
