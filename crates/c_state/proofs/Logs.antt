-- Logs of scopes, and tables of the visible declarations.
use Rattle.std.proofs.Common.{◌≡◌, ◌<◌, ◌≤◌, ℕ, ◌==◌, Bool, true, false, if◌then◌else◌, List, [], ◌∷◌, ◌++◌, length, reverse, Option, Some, None, take, get_or, ◌-◌, ◌+◌, refl, sym, ap, ◌∙◌, subst, inl, inr, arith}
use Rattle.std.proofs.lemmas.Bool.{cond_both, eqb-true, eq-eqb}
use Rattle.std.proofs.lemmas.List.{get_or_past, reverse-append, take_all, take_more}
use Rattle.std.proofs.lemmas.Option.{slice_get_cases}
use Rattle.c_grammar.specs.State.{Scope, look_up, with_name, names_type, or_else, innermost, outer}
use Rattle.c_state.specs.declared.scopes.Declaration.{Declaration}
use Rattle.c_state.specs.declared.scopes.Step.{Step}
use Rattle.c_state.specs.declared.scopes.Step.TheVariants.{Opened, Declared}
use Rattle.c_state.specs.Log.{scopes_of, with_names, or_outer, visible, entry, Agrees}

or_chosen : (t a : Bool) (p q : Option Bool) → or_outer (if t then Some a else p) q ≡ (if t then Some a else or_outer p q)
or_chosen true a p q = refl
or_chosen false a p q = refl

-- what is visible behind a declaration
pub visible_with : (n : ℕ) (b : Bool) (ss : List Scope) (x : ℕ) → visible (with_name n b ss) x ≡ (if n == x then Some b else visible ss x)
visible_with n b [] x = or_chosen (n == x) b None None
visible_with n b (s ∷ others) x = or_chosen (n == x) b (look_up s x) (visible others x)

or_else_visible : (p q : Option Bool) (b : Bool) → b ≡ or_else q false → or_else p b ≡ or_else (or_outer p q) false
or_else_visible None q b e = e
or_else_visible (Some a) q b e = refl

-- a name is a typedef name where what is visible of it is
pub names_visible : (ss : List Scope) (x : ℕ) → names_type ss x ≡ or_else (visible ss x) false
names_visible [] x = refl
names_visible (s ∷ others) x = or_else_visible (look_up s x) (visible others x) _ (names_visible others x)

pub agrees_nothing : Agrees [] (Opened ∷ [])
agrees_nothing = record { now = λ x. refl; before = tt }

-- a table that has the same of each name
pub agrees_same : (t u : List (Option Bool)) (log : List Step) → Agrees t log → ((x : ℕ) → entry u x ≡ entry t x) → Agrees u log
agrees_same t u log h e = record { now = λ x. e x ∙ h.now x; before = h.before }

pub agrees_opened : (t : List (Option Bool)) (log : List Step) → Agrees t log → Agrees t (Opened ∷ log)
agrees_opened t log h = record { now = h.now; before = h.before }

pub agrees_closed : (t : List (Option Bool)) (log : List Step) → Agrees t (Opened ∷ log) → Agrees t log
agrees_closed t log h = record { now = h.now; before = h.before }

pub agrees_declared : (t u : List (Option Bool)) (log : List Step) (d : Declaration) → Agrees t log → d.hidden ≡ entry t d.name
    → ((x : ℕ) → entry u x ≡ (if d.name == x then Some d.is_typedef else entry t x)) → Agrees u (Declared d ∷ log)
agrees_declared t u log d h hid e = record {
  now = λ x. e x ∙ ap (λ o. if d.name == x then Some d.is_typedef else o) (h.now x) ∙ sym (visible_with d.name d.is_typedef (scopes_of log) x);
  before = (hid ∙ h.now d.name, h.before);
}

pub agrees_taken_back : (t u : List (Option Bool)) (log : List Step) (d : Declaration) → Agrees t (Declared d ∷ log)
    → ((x : ℕ) → entry u x ≡ (if d.name == x then d.hidden else entry t x)) → Agrees u log
agrees_taken_back t u log d h e = record {
  now = λ x. e x ∙ cond_both (d.name == x) d.hidden (entry t x) (λ o. o ≡ visible (scopes_of log) x)
      (λ same. h.before.0 ∙ ap (λ n. visible (scopes_of log) n) (eqb-true d.name x same))
      (λ other. h.now x ∙ visible_with d.name d.is_typedef (scopes_of log) x ∙ ap (λ (b : Bool). if b then Some d.is_typedef else visible (scopes_of log) x) other);
  before = h.before.1;
}

none_is_some : {b : Bool} → None ≡ Some b → ⊥
none_is_some e = cc

-- a declared name has a place in the table
pub declared_within : (t : List (Option Bool)) (log : List Step) (d : Declaration) → Agrees t (Declared d ∷ log) → d.name < length t
declared_within t log d h = elim (slice_get_cases t d.name).1 [
  | inl is ↦ is.1
  | inr is ↦ absurd (none_is_some (sym (get_or_past t d.name None is.0) ∙ h.now d.name ∙ visible_with d.name d.is_typedef (scopes_of log) d.name
      ∙ ap (λ (b : Bool). if b then Some d.is_typedef else visible (scopes_of log) d.name) (eq-eqb d.name d.name refl)))
]

-- what a table has for a name tells whether it names a type
pub looked_up : (t : List (Option Bool)) (log : List Step) (ss : List Scope) (x : ℕ) (o : Option Bool) → Agrees t log → scopes_of log ≡ ss → o ≡ entry t x
    → or_else o false ≡ names_type ss x
looked_up t log ss x o h e is =
    ap (λ p. or_else p false) (is ∙ h.now x) ∙ sym (names_visible (scopes_of log) x) ∙ ap (λ s. names_type s x) e

-- the latest step is a declaration
pub latest_declared : (t : List (Option Bool)) (log before : List Step) (step : Step) (d : Declaration) → Agrees t (reverse log) → log ≡ before ++ step ∷ []
    → step ≡ Declared d → Agrees t (Declared d ∷ reverse before)
latest_declared t log before step d h e is =
    subst (λ steps. Agrees t steps) (ap reverse e ∙ reverse-append before (step ∷ []) ∙ ap (λ s. s ∷ reverse before) is) h

-- ---- several names
pub with_last_name : (names : Scope) (d : ℕ × Bool) (ss : List Scope) → with_names (names ++ d ∷ []) ss ≡ with_names names (with_name d.0 d.1 ss)
with_last_name [] d ss = refl
with_last_name (n ∷ names) d ss = ap (λ s. with_name n.0 n.1 s) (with_last_name names d ss)

last_apart : (xs : Scope) (d : ℕ × Bool) → 1 ≤ length xs → xs ≡ take (length xs - 1) xs ++ get_or xs (length xs - 1) d ∷ []
last_apart xs d h =
    let whole : length xs ≤ length xs = omega arith in
    let less : length xs - 1 < length xs = omega (arith, h) in
    let more : length xs - 1 + 1 ≡ length xs = omega (arith, h) in
    sym (ap (λ n. take n xs) more ∙ take_all (length xs) xs whole) ∙ take_more xs (length xs - 1) d less

-- the last of the names is declared, and then the others
pub last_name_first : (names : Scope) (d : ℕ × Bool) (ss next : List Scope) → 1 ≤ length names
    → next ≡ with_name (get_or names (length names - 1) d).0 (get_or names (length names - 1) d).1 ss
    → with_names names ss ≡ with_names (take (length names - 1) names) next
last_name_first names d ss next h e =
    ap (λ ns. with_names ns ss) (last_apart names d h) ∙ with_last_name (take (length names - 1) names) (get_or names (length names - 1) d) ss
    ∙ ap (λ s. with_names (take (length names - 1) names) s) (sym e)

pub names_alone : (names : Scope) (others : List Scope) → with_names names ([] ∷ others) ≡ names ∷ others
names_alone [] others = refl
names_alone (n ∷ names) others = ap (λ s. with_name n.0 n.1 s) (names_alone names others)

pub outer_with : (n : ℕ) (b : Bool) (ss : List Scope) → outer (with_name n b ss) ≡ outer ss
outer_with n b [] = refl
outer_with n b (s ∷ others) = refl

pub innermost_with : (n : ℕ) (b : Bool) (ss : List Scope) → innermost (with_name n b ss) ≡ (n, b) ∷ innermost ss
innermost_with n b [] = refl
innermost_with n b (s ∷ others) = refl
