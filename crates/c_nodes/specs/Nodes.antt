-- Nodes of syntax trees, by their parts.
use Rattle.std.specs.Prelude.{ℕ, List, Option}
use Rattle.c_tree.specs.declared.declarator.DeclCore.{DeclCore}
use Rattle.c_tree.specs.declared.declarator.DeclPart.{DeclPart}
use Rattle.c_tree.specs.declared.declarator.Declarator.{Declarator, roll-Declarator}
use Rattle.c_tree.specs.declared.declarator.TypeName.{TypeName, roll-TypeName}
use Rattle.c_tree.specs.declared.expression.Expr.{Expr, roll-Expr}
use Rattle.c_tree.specs.declared.expression.ExprKind.{ExprKind}
use Rattle.c_tree.specs.declared.specifier.SpecWord.{SpecWord}
use Rattle.c_tree.specs.declared.statement.Statement.{Statement, roll-Statement}
use Rattle.c_tree.specs.declared.statement.StatementKind.{StatementKind}
use Rattle.sv_base.specs.declared.place.Place.{Place}

abbrev pub expression : Place → ℕ → ExprKind → Expr
expression place start kind = roll-Expr (record { kind = kind; place = place; start = start })

abbrev pub statement : Place → ℕ → StatementKind → Statement
statement place start kind = roll-Statement (record { kind = kind; place = place; start = start })

abbrev pub declarator : List (List ℕ) → DeclCore → List DeclPart → Place → ℕ → Declarator
declarator pointers core parts place start =
    roll-Declarator (record { pointers = pointers; core = core; parts = parts; place = place; start = start })

abbrev pub type_name : List SpecWord → Option Declarator → TypeName
type_name head declarator = roll-TypeName (record { head = head; declarator = declarator })
