-- Tokens in a row, and nodes by the number of the token that they stand at.
use Rattle.std.specs.Prelude.{ℕ, ◌+◌, List, [], ◌∷◌, Option}
use Rattle.c_tree.specs.declared.declaration.Declaration.{Declaration}
use Rattle.c_tree.specs.declared.declaration.InitDeclarator.{InitDeclarator}
use Rattle.c_tree.specs.declared.declarator.DeclCore.{DeclCore}
use Rattle.c_tree.specs.declared.declarator.DeclCore.TheVariants as core
use Rattle.c_tree.specs.declared.declarator.DeclPart.{DeclPart}
use Rattle.c_tree.specs.declared.declarator.DeclPart.TheVariants as part
use Rattle.c_tree.specs.declared.declarator.Declarator.{Declarator, roll-Declarator}
use Rattle.c_tree.specs.declared.declarator.Dots.{Dots}
use Rattle.c_tree.specs.declared.declarator.Param.{Param, roll-Param}
use Rattle.c_tree.specs.declared.declarator.TypeName.{TypeName, roll-TypeName}
use Rattle.c_tree.specs.declared.expression.Expr.{Expr, roll-Expr}
use Rattle.c_tree.specs.declared.expression.ExprKind.{ExprKind}
use Rattle.c_tree.specs.declared.expression.ExprKind.TheVariants as e
use Rattle.c_tree.specs.declared.initialiser.Designator.{Designator}
use Rattle.c_tree.specs.declared.initialiser.InitEntry.{InitEntry, roll-InitEntry}
use Rattle.c_tree.specs.declared.initialiser.Initialiser.{Initialiser}
use Rattle.c_tree.specs.declared.initialiser.Initialiser.TheVariants as initial
use Rattle.c_tree.specs.declared.lexeme.Lexeme.{Lexeme}
use Rattle.c_tree.specs.declared.lexeme.LexemeKind.{LexemeKind}
use Rattle.c_tree.specs.declared.specifier.MemberDecl.{MemberDecl, roll-MemberDecl}
use Rattle.c_tree.specs.declared.specifier.SpecKind.{SpecKind}
use Rattle.c_tree.specs.declared.specifier.SpecKind.TheVariants as sk
use Rattle.c_tree.specs.declared.specifier.SpecWord.{SpecWord, roll-SpecWord}
use Rattle.c_tree.specs.declared.statement.Statement.{Statement, roll-Statement}
use Rattle.c_tree.specs.declared.statement.StatementKind.{StatementKind}
use Rattle.c_values.specs.declared.int_type.IntType.TheVariants.{Int}
use Rattle.sv_base.specs.declared.ids.FileId.{FileId}
use Rattle.sv_base.specs.declared.place.Place.{Place}

abbrev pub first_file : FileId
first_file = record { 0 = 0 }

-- the place of the token with this number, as if each token were a byte of one line
abbrev pub place : ℕ → Place
place n = record { file = first_file; line = 1; col = n + 1 }

abbrev pub lexeme : ℕ → LexemeKind → Lexeme
lexeme n kind = record { kind = kind; place = place n; start = n }

-- tokens of these kinds, from the one with this number
abbrev pub in_a_row : ℕ → List LexemeKind → List Lexeme
in_a_row n [] = []
in_a_row n (kind ∷ kinds) = lexeme n kind ∷ in_a_row (n + 1) kinds

abbrev pub expression : ℕ → ExprKind → Expr
expression n kind = roll-Expr (record { kind = kind; place = place n; start = n })

abbrev pub statement : ℕ → StatementKind → Statement
statement n kind = roll-Statement (record { kind = kind; place = place n; start = n })

abbrev pub spec_word : ℕ → SpecKind → SpecWord
spec_word n kind = roll-SpecWord (record { kind = kind; place = place n; start = n })

abbrev pub declarator : ℕ → List (List ℕ) → DeclCore → List DeclPart → Declarator
declarator n pointers middle parts = roll-Declarator (record { pointers = pointers; core = middle; parts = parts; place = place n; start = n })

abbrev pub array : ℕ → Option Expr → DeclPart
array n size = part.Array size (place n) n

abbrev pub parameters : ℕ → List Param → Option Dots → DeclPart
parameters n list dots = part.Params list dots (place n) n

abbrev pub parameter : List SpecWord → Option Declarator → Param
parameter head declarator = roll-Param (record { head = head; declarator = declarator })

abbrev pub type_name : List SpecWord → Option Declarator → TypeName
type_name head declarator = roll-TypeName (record { head = head; declarator = declarator })

abbrev pub member_declaration : List SpecWord → List Declarator → MemberDecl
member_declaration head parts = roll-MemberDecl (record { head = head; parts = parts })

abbrev pub braced : ℕ → List InitEntry → Initialiser
braced n entries = initial.List entries (place n) n

abbrev pub entry : List Designator → Initialiser → InitEntry
entry path value = roll-InitEntry (record { path = path; value = value })

-- ---- what the examples have most often
abbrev pub number : ℕ → ℕ → Expr
number n value = expression n (e.Number value Int)

abbrev pub name : ℕ → ℕ → Expr
name n x = expression n (e.Name x)

-- a keyword as a specifier
abbrev pub plain : ℕ → ℕ → SpecWord
plain n word = spec_word n (sk.Plain word)

-- a declarator of a name without pointers
abbrev pub named : ℕ → ℕ → List DeclPart → Declarator
named n x parts = declarator n [] (core.Name x) parts

abbrev pub declaration : List SpecWord → List InitDeclarator → Declaration
declaration head parts = record { head = head; parts = parts }

abbrev pub with_initial : Declarator → Option Initialiser → InitDeclarator
with_initial declarator value = record { declarator = declarator; initial = value }
