-- What decides which token may come next, and what is counted, while the tokens of a file are read.
use Rattle.std.specs.Prelude.{ℕ, Bool, true, false, ◌==◌, ◌||◌, ◌+◌, ◌-◌, if◌then◌else◌, nat_lt, max, List, [], ◌∷◌, Option, Some, None}

-- the names that a scope declares (ISO/IEC 9899:1999, 6.2.1), the latest first, each with whether it is a typedef name (6.7.7)
abbrev pub Scope : Type 0
Scope = List (ℕ × Bool)

-- a declaration, parameter, type name or enumerator that is being read
pub record Frame : Type 0 where
  -- whether `typedef` is among its specifiers, and whether no typedef name can be a type word any more: one was read, or the list has ended
  pub is_typedef : Bool
  pub has_type : Bool
  -- the name that it declares
  pub held : Option ℕ
  -- whether the part of a declarator that comes next stands directly behind the name
  pub direct : Bool
  -- the names of the parameter list that stands directly behind the name
  pub parameters : Scope

-- the nesting of nodes: how many are open, and for each operand that is being read, the innermost first, the deepest node in it
pub record Nesting : Type 0 where
  pub depth : ℕ
  pub deepest : List ℕ
  -- whether a token was read that makes the nesting pass 256
  pub passed : Bool

-- the nesting of loops
pub record Loops : Type 0 where
  pub around : ℕ
  -- whether the keyword of a thirteenth loop was read
  pub passed : Bool

pub record State : Type 0 where
  -- the scopes and declarations that are open, the innermost first
  pub scopes : List Scope
  pub frames : List Frame
  -- whether what was read last is a unary expression (6.5.3), which alone is assigned to (6.5.16)
  pub unary : Bool
  -- whether what was read last is a statement that ends with an `if` without `else` (6.8.4.1)
  pub dangling : Bool
  pub nesting : Nesting
  pub loops : Loops

abbrev pub start : State
start = record {
  scopes = [] ∷ [];
  frames = [];
  unary = false;
  dangling = false;
  nesting = record { depth = 0; deepest = 0 ∷ []; passed = false };
  loops = record { around = 0; passed = false };
}

-- ---- names
abbrev pub look_up : Scope → ℕ → Option Bool
look_up [] x = None
look_up (declared ∷ before) x = if declared.0 == x then Some declared.1 else look_up before x

abbrev pub or_else : Option Bool → Bool → Bool
or_else None b = b
or_else (Some a) b = a

-- whether the innermost visible declaration of the name is a typedef (6.2.1, 6.7.7)
abbrev pub names_type : List Scope → ℕ → Bool
names_type [] x = false
names_type (scope ∷ outer) x = or_else (look_up scope x) (names_type outer x)

abbrev pub with_name : ℕ → Bool → List Scope → List Scope
with_name x is_typedef [] = ((x, is_typedef) ∷ []) ∷ []
with_name x is_typedef (scope ∷ outer) = ((x, is_typedef) ∷ scope) ∷ outer

abbrev pub innermost : List Scope → Scope
innermost [] = []
innermost (scope ∷ outer) = scope

abbrev pub outer : List Scope → List Scope
outer [] = []
outer (scope ∷ others) = others

-- ---- the declaration that is being read
abbrev pub no_frame : Frame
no_frame = record { is_typedef = false; has_type = false; held = None; direct = false; parameters = [] }

abbrev pub first_frame : List Frame → Frame
first_frame [] = no_frame
first_frame (f ∷ fs) = f

abbrev pub frame : State → Frame
frame s = first_frame s.frames

abbrev pub enclosing : List Frame → List Frame
enclosing [] = []
enclosing (f ∷ fs) = fs

abbrev pub with_frame : (Frame → Frame) → State → State
with_frame change s = record s { frames = change (frame s) ∷ enclosing s.frames }

-- a declaration begins, and ends
abbrev pub begin : State → State
begin s = record s { frames = no_frame ∷ s.frames }

abbrev pub finish : State → State
finish s = record s { frames = enclosing s.frames }

abbrev pub see_typedef : State → State
see_typedef = with_frame (λ f. record f { is_typedef = true })

abbrev pub see_type : State → State
see_type = with_frame (λ f. record f { has_type = true })

-- a `*`, a nesting `(` or a `,` ends the list of specifiers: behind it a typedef name is declared anew, as behind a type word
abbrev pub end_specifiers : State → State
end_specifiers = see_type

-- the declared name
abbrev pub hold : ℕ → State → State
hold x = with_frame (λ f. record f { held = Some x; direct = true; parameters = [] })

-- what comes next does not stand directly behind the name
abbrev pub indirect : State → State
indirect = with_frame (λ f. record f { direct = false })

abbrev pub declared : Option ℕ → Bool → State → State
declared None is_typedef s = s
declared (Some x) is_typedef s = record s { scopes = with_name x is_typedef s.scopes }

-- the name that was held becomes visible
abbrev pub declare : State → State
declare s = declared (frame s).held (frame s).is_typedef s

-- ---- scopes
abbrev pub open_scope : State → State
open_scope s = record s { scopes = [] ∷ s.scopes }

abbrev pub close_scope : State → State
close_scope s = record s { scopes = outer s.scopes }

-- a parameter list ends; where it stands directly behind the declared name, the scope of a body begins with its names
abbrev pub close_parameters : State → State
close_parameters s = with_frame (λ f. if f.direct then record f { direct = false; parameters = innermost s.scopes } else f) (close_scope s)

abbrev pub open_body : State → State
open_body s = record s { scopes = (frame s).parameters ∷ s.scopes }

-- ---- what was read last
abbrev pub is_unary : State → State
is_unary s = record s { unary = true }

abbrev pub is_no_unary : State → State
is_no_unary s = record s { unary = false }

abbrev pub leave_dangling : State → State
leave_dangling s = record s { dangling = true }

-- ---- counts
-- the deepest node of the operand that is being read, and the same for those around it
abbrev pub top : List ℕ → ℕ
top [] = 0
top (n ∷ ns) = n

abbrev pub below : List ℕ → List ℕ
below [] = []
below (n ∷ ns) = ns

abbrev pub reach : ℕ → Nesting → Nesting
reach n nesting = record nesting { deepest = max (top nesting.deepest) n ∷ below nesting.deepest; passed = nesting.passed || nat_lt 256 n }

-- what reading any token does
abbrev pub read : State → State
read s = record s { dangling = false; nesting = reach s.nesting.depth s.nesting }

-- an operand begins, and joins those around it
abbrev pub begin_operand : State → State
begin_operand s = record s { nesting = record (s.nesting) { deepest = 0 ∷ s.nesting.deepest } }

abbrev pub end_operand : State → State
end_operand s = record s {
  nesting = record (s.nesting) {
    deepest = max (top s.nesting.deepest) (top (below s.nesting.deepest)) ∷ below (below s.nesting.deepest);
  };
}

-- a node opens, and closes
abbrev pub enter : State → State
enter s = let inside = begin_operand s in record inside { nesting = record (inside.nesting) { depth = inside.nesting.depth + 1 } }

abbrev pub leave : State → State
leave s = let outside = end_operand s in record outside { nesting = record (outside.nesting) { depth = outside.nesting.depth - 1 } }

-- an operator puts the operand to its left one deeper
abbrev pub deepen : State → State
deepen s = record s { nesting = reach (top s.nesting.deepest + 1) s.nesting }

abbrev pub enter_loop : State → State
enter_loop s = record s { loops = record { around = s.loops.around + 1; passed = s.loops.passed || nat_lt 12 (s.loops.around + 1) } }

abbrev pub leave_loop : State → State
leave_loop s = record s { loops = record (s.loops) { around = s.loops.around - 1 } }
