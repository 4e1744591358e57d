-- What lists in syntax trees hold, by their parts.
use Rattle.std.specs.Prelude.{ℕ, List, Option}
use Rattle.c_tree.specs.declared.declarator.Declarator.{Declarator}
use Rattle.c_tree.specs.declared.declarator.Param.{Param, roll-Param}
use Rattle.c_tree.specs.declared.expression.Expr.{Expr}
use Rattle.c_tree.specs.declared.initialiser.Designator.{Designator}
use Rattle.c_tree.specs.declared.initialiser.InitEntry.{InitEntry, roll-InitEntry}
use Rattle.c_tree.specs.declared.initialiser.Initialiser.{Initialiser}
use Rattle.c_tree.specs.declared.specifier.EnumItem.{EnumItem, roll-EnumItem}
use Rattle.c_tree.specs.declared.specifier.MemberDecl.{MemberDecl, roll-MemberDecl}
use Rattle.c_tree.specs.declared.specifier.SpecKind.{SpecKind}
use Rattle.c_tree.specs.declared.specifier.SpecWord.{SpecWord, roll-SpecWord}
use Rattle.sv_base.specs.declared.place.Place.{Place}

abbrev pub spec_word : Place → ℕ → SpecKind → SpecWord
spec_word place start kind = roll-SpecWord (record { kind = kind; place = place; start = start })

abbrev pub member_declaration : List SpecWord → List Declarator → MemberDecl
member_declaration head parts = roll-MemberDecl (record { head = head; parts = parts })

abbrev pub enumerator : ℕ → Option Expr → Place → ℕ → EnumItem
enumerator name value place start = roll-EnumItem (record { name = name; place = place; start = start; value = value })

abbrev pub parameter : List SpecWord → Option Declarator → Param
parameter head declarator = roll-Param (record { head = head; declarator = declarator })

abbrev pub entry : List Designator → Initialiser → InitEntry
entry path value = roll-InitEntry (record { path = path; value = value })
