-- How scopes are kept: the steps by which they came about, and a table of the visible declarations.
use Rattle.std.specs.Prelude.{◌≡◌, ℕ, Bool, List, [], ◌∷◌, Option, Some, None, slice_index_or}
use Rattle.c_grammar.specs.State.{Scope, look_up, with_name}
use Rattle.c_state.specs.declared.scopes.Step.{Step}
use Rattle.c_state.specs.declared.scopes.Step.TheVariants.{Opened, Declared}

-- the scopes that steps leave, the latest of which comes first
abbrev pub scopes_of : List Step → List Scope
scopes_of [] = []
scopes_of (Opened ∷ before) = [] ∷ scopes_of before
scopes_of (Declared d ∷ before) = with_name d.name d.is_typedef (scopes_of before)

-- names declared in the innermost scope, the last one first
abbrev pub with_names : Scope → List Scope → List Scope
with_names [] scopes = scopes
with_names (declared ∷ before) scopes = with_name declared.0 declared.1 (with_names before scopes)

abbrev pub or_outer : Option Bool → Option Bool → Option Bool
or_outer None b = b
or_outer (Some a) b = Some a

-- whether the innermost visible declaration of a name is a typedef (ISO/IEC 9899:1999, 6.2.1), where it has one
abbrev pub visible : List Scope → ℕ → Option Bool
visible [] x = None
visible (scope ∷ outer) x = or_outer (look_up scope x) (visible outer x)

-- what a table has for a name: a name past its end has no declaration
abbrev pub entry : List (Option Bool) → ℕ → Option Bool
entry table x = slice_index_or table x None

-- each declaration knows what it hides
abbrev pub Remembers : List Step → Type 0
Remembers [] = Unit {0}
Remembers (Opened ∷ before) = Remembers before
Remembers (Declared d ∷ before) = (d.hidden ≡ visible (scopes_of before) d.name) × Remembers before

pub record Agrees (table : List (Option Bool)) (latest_first : List Step) : Type 0 where
  pub now : (x : ℕ) → entry table x ≡ visible (scopes_of latest_first) x
  pub before : Remembers latest_first
