-- The nodes of trees, each at a token.
use Rattle.std.specs.Prelude.{ℕ, Bool, if◌then◌else◌, List, [], ◌∷◌, Option, Some, None}
use Rattle.c_tree.specs.declared.declarator.DeclCore.{DeclCore}
use Rattle.c_tree.specs.declared.declarator.DeclCore.TheVariants as core
use Rattle.c_tree.specs.declared.declarator.DeclPart.{DeclPart}
use Rattle.c_tree.specs.declared.declarator.DeclPart.TheVariants as part
use Rattle.c_tree.specs.declared.declarator.Declarator.{Declarator, roll-Declarator}
use Rattle.c_tree.specs.declared.declarator.Dots.{Dots}
use Rattle.c_tree.specs.declared.declarator.Param.{Param, roll-Param}
use Rattle.c_tree.specs.declared.declarator.TypeName.{TypeName, roll-TypeName}
use Rattle.c_tree.specs.declared.expression.Expr.{Expr, roll-Expr}
use Rattle.c_tree.specs.declared.expression.ExprKind.{ExprKind}
use Rattle.c_tree.specs.declared.expression.ExprKind.TheVariants as e
use Rattle.c_tree.specs.declared.initialiser.Designator.{Designator}
use Rattle.c_tree.specs.declared.initialiser.Designator.TheVariants as designator
use Rattle.c_tree.specs.declared.initialiser.InitEntry.{InitEntry, roll-InitEntry}
use Rattle.c_tree.specs.declared.initialiser.Initialiser.{Initialiser}
use Rattle.c_tree.specs.declared.initialiser.Initialiser.TheVariants as initial
use Rattle.c_tree.specs.declared.lexeme.Lexeme.{Lexeme}
use Rattle.c_tree.specs.declared.lexeme.LexemeKind.{LexemeKind}
use Rattle.c_tree.specs.declared.lexeme.LexemeKind.TheVariants as k
use Rattle.c_tree.specs.declared.specifier.EnumItem.{EnumItem, roll-EnumItem}
use Rattle.c_tree.specs.declared.specifier.MemberDecl.{MemberDecl, roll-MemberDecl}
use Rattle.c_tree.specs.declared.specifier.RecordKind.{RecordKind}
use Rattle.c_tree.specs.declared.specifier.RecordKind.TheVariants.{Struct, Union}
use Rattle.c_tree.specs.declared.specifier.SpecKind.{SpecKind}
use Rattle.c_tree.specs.declared.specifier.SpecKind.TheVariants as specifier
use Rattle.c_tree.specs.declared.specifier.SpecWord.{SpecWord, roll-SpecWord}
use Rattle.c_tree.specs.declared.statement.Statement.{Statement, roll-Statement}
use Rattle.c_tree.specs.declared.statement.StatementKind.{StatementKind}
use Rattle.c_values.specs.declared.operator.Op.{Op}
use Rattle.c_grammar.specs.Marks.{plus_plus}
use Rattle.c_grammar.specs.Operators.{Binary, found_for, binary_operators, unary_operators, assignment_operators}
use Rattle.c_grammar.specs.Tokens.{is_mark, is_word, name_of}
use Rattle.c_grammar.specs.Words.{struct_word, void_word}

-- ---- expressions
-- an expression that stands at a token
abbrev pub expression : Lexeme → ExprKind → Expr
expression t kind = roll-Expr (record { kind = kind; place = t.place; start = t.start })

-- what a constant is
abbrev pub constant_in : LexemeKind → ExprKind
constant_in (k.Number n of) = e.Number n of
constant_in (k.Character n) = e.Character n
constant_in _ = e.Name 0

-- whether it is `++`
abbrev pub goes_up : Lexeme → Bool
goes_up t = is_mark plus_plus t.kind

abbrev pub joined_by : Option Binary → Expr → Expr → ExprKind
joined_by (Some operator) a b = operator.node a b
joined_by None a b = e.Name 0

-- the operands of a binary operator, joined
abbrev pub joined : Lexeme → Expr → Expr → Expr
joined t a b = expression t (joined_by (found_for binary_operators t.kind) a b)

abbrev pub applied_by : Option (Expr → ExprKind) → Expr → ExprKind
applied_by (Some operator) a = operator a
applied_by None a = e.Name 0

-- a unary operator, applied
abbrev pub applied : Lexeme → Expr → Expr
applied t a = expression t (applied_by (found_for unary_operators t.kind) a)

abbrev pub operator_in : Option (Option Op) → Option Op
operator_in (Some op) = op
operator_in None = None

abbrev pub assigned : Lexeme → Expr → Expr → Expr
assigned t a b = expression t (e.Assign (operator_in (found_for assignment_operators t.kind)) a b)

-- ---- specifiers
abbrev pub spec_word : Lexeme → SpecKind → SpecWord
spec_word t kind = roll-SpecWord (record { kind = kind; place = t.place; start = t.start })

abbrev pub record_kind : Lexeme → RecordKind
record_kind t = if is_word struct_word t.kind then Struct else Union

abbrev pub member_declaration : List SpecWord → List Declarator → MemberDecl
member_declaration head parts = roll-MemberDecl (record { head = head; parts = parts })

abbrev pub enumerator : Lexeme → Option Expr → EnumItem
enumerator t value = roll-EnumItem (record { name = name_of t; place = t.place; start = t.start; value = value })

-- ---- declarators
-- a declarator without its pointers, and the token of its name
pub record Direct : Type 0 where
  pub core : DeclCore
  pub parts : List DeclPart
  pub name : Option Lexeme

-- a declarator, and the token of its name
pub record Declared : Type 0 where
  pub tree : Declarator
  pub name : Option Lexeme

-- the name's token, or else the first
abbrev pub named_or : Option Lexeme → Lexeme → Lexeme
named_or None t = t
named_or (Some u) t = u

abbrev pub declarator : Lexeme → List (List ℕ) → Direct → Declared
declarator first pointers direct = record {
  tree = roll-Declarator (record {
    pointers = pointers;
    core = direct.core;
    parts = direct.parts;
    place = (named_or direct.name first).place;
    start = (named_or direct.name first).start;
  });
  name = direct.name;
}

abbrev pub direct_name : Lexeme → List DeclPart → Direct
direct_name t parts = record { core = core.Name (name_of t); parts = parts; name = Some t }

abbrev pub direct_nested : Declared → List DeclPart → Direct
direct_nested inside parts = record { core = core.Nested inside.tree; parts = parts; name = inside.name }

abbrev pub direct_absent : List DeclPart → Direct
direct_absent parts = record { core = core.Absent; parts = parts; name = None }

abbrev pub array_part : Lexeme → Option Expr → DeclPart
array_part t size = part.Array size t.place t.start

abbrev pub parameters_part : Lexeme → List Param × Option Dots → DeclPart
parameters_part t inside = part.Params inside.0 inside.1 t.place t.start

abbrev pub dots : Lexeme → Dots
dots t = record { place = t.place; start = t.start }

abbrev pub tree_of : Option Declared → Option Declarator
tree_of None = None
tree_of (Some declared) = Some declared.tree

abbrev pub parameter : List SpecWord → Option Declared → Param
parameter head declared = roll-Param (record { head = head; declarator = tree_of declared })

abbrev pub type_name : List SpecWord → Option Declared → TypeName
type_name head declared = roll-TypeName (record { head = head; declarator = tree_of declared })

-- the parameter `void` alone
abbrev pub lone_void : Lexeme → List Param × Option Dots
lone_void t = (parameter (spec_word t (specifier.Plain void_word) ∷ []) None ∷ [], None)

-- ---- initialisers and statements
abbrev pub braced : Lexeme → List InitEntry → Initialiser
braced t entries = initial.List entries t.place t.start

abbrev pub entry : List Designator → Initialiser → InitEntry
entry path value = roll-InitEntry (record { path = path; value = value })

abbrev pub member_designator : Lexeme → Designator
member_designator t = designator.Member (name_of t) t.place t.start

abbrev pub statement : Lexeme → StatementKind → Statement
statement t kind = roll-Statement (record { kind = kind; place = t.place; start = t.start })
