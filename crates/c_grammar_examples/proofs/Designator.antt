-- A derivation, written by a script: the tokens, the values, the states before tokens, and the steps.
use Rattle.std.proofs.Common.{true, false, List, [], ◌∷◌, None, Some, refl}
use Rattle.c_tree.specs.declared.declaration.Declaration.{Declaration}
use Rattle.c_tree.specs.declared.declaration.InitDeclarator.{InitDeclarator}
use Rattle.c_tree.specs.declared.declarator.DeclPart.{DeclPart}
use Rattle.c_tree.specs.declared.expression.Expr.{Expr}
use Rattle.c_tree.specs.declared.initialiser.Designator.TheVariants as dg
use Rattle.c_tree.specs.declared.initialiser.InitEntry.{InitEntry}
use Rattle.c_tree.specs.declared.initialiser.Initialiser.TheVariants as iv
use Rattle.c_tree.specs.declared.lexeme.Lexeme.{Lexeme}
use Rattle.c_tree.specs.declared.lexeme.LexemeKind.TheVariants as k
use Rattle.c_tree.specs.declared.specifier.SpecKind.TheVariants as sk
use Rattle.c_tree.specs.declared.specifier.SpecWord.{SpecWord}
use Rattle.c_tree.specs.declared.tree.Item.{Item as External}
use Rattle.c_tree.specs.declared.tree.Item.TheVariants as xd
use Rattle.c_values.specs.declared.int_type.IntType.TheVariants.{Int}
use Rattle.c_grammar.specs.Marks as m
use Rattle.c_grammar.specs.Words as d
use Rattle.c_grammar.specs.Derives.{Derives}
use Rattle.c_grammar.specs.Items.{Mode, Sym, nt}
use Rattle.c_grammar.specs.Productions.{Rule}
use Rattle.c_grammar.specs.State.{State, start}
use Rattle.c_grammar.specs.Tokens.{word_of}
use Rattle.c_grammar.specs.Trees as t
use Rattle.c_grammar.specs.Trees.{Direct, Declared, expression}
use Rattle.c_grammar_examples.specs.Rows.{lexeme}

abbrev pub u0 : Lexeme
u0 = lexeme 0 (k.Word d.int_word)

abbrev pub u1 : Lexeme
u1 = lexeme 1 (k.Name 0)

abbrev pub u2 : Lexeme
u2 = lexeme 2 (k.Mark m.left_bracket)

abbrev pub u3 : Lexeme
u3 = lexeme 3 (k.Mark m.right_bracket)

abbrev pub u4 : Lexeme
u4 = lexeme 4 (k.Mark m.equal)

abbrev pub u5 : Lexeme
u5 = lexeme 5 (k.Mark m.left_brace)

abbrev pub u6 : Lexeme
u6 = lexeme 6 (k.Mark m.left_bracket)

abbrev pub u7 : Lexeme
u7 = lexeme 7 (k.Number 2 Int)

abbrev pub u8 : Lexeme
u8 = lexeme 8 (k.Mark m.right_bracket)

abbrev pub u9 : Lexeme
u9 = lexeme 9 (k.Mark m.equal)

abbrev pub u10 : Lexeme
u10 = lexeme 10 (k.Number 1 Int)

abbrev pub u11 : Lexeme
u11 = lexeme 11 (k.Mark m.comma)

abbrev pub u12 : Lexeme
u12 = lexeme 12 (k.Number 5 Int)

abbrev pub u13 : Lexeme
u13 = lexeme 13 (k.Mark m.right_brace)

abbrev pub u14 : Lexeme
u14 = lexeme 14 (k.Mark m.semicolon)

abbrev pub u15 : Lexeme
u15 = lexeme 15 k.End

abbrev v0 : List SpecWord
v0 = (t.spec_word u0 (sk.Plain (word_of u0))) ∷ []

abbrev v1 : SpecWord
v1 = t.spec_word u0 (sk.Plain (word_of u0))

abbrev v2 : List DeclPart
v2 = (t.array_part u2 None) ∷ []

abbrev v3 : Expr
v3 = expression u7 (t.constant_in u7.kind)

abbrev v4 : Expr
v4 = expression u10 (t.constant_in u10.kind)

abbrev v5 : Expr
v5 = expression u12 (t.constant_in u12.kind)

abbrev v6 : List InitEntry
v6 = (t.entry ((dg.Index v3) ∷ []) (iv.One v4)) ∷ (t.entry [] (iv.One v5)) ∷ []

abbrev v7 : List InitEntry
v7 = (t.entry ((dg.Index v3) ∷ []) (iv.One v4)) ∷ []

abbrev v8 : InitEntry
v8 = t.entry ((dg.Index v3) ∷ []) (iv.One v4)

abbrev v9 : Declared
v9 = t.declarator u1 [] (t.direct_name u1 v2)

abbrev v10 : List InitDeclarator
v10 = (record { declarator = v9.tree; initial = Some (t.braced u5 v6) }) ∷ []

abbrev v11 : InitDeclarator
v11 = (record { declarator = v9.tree; initial = Some (t.braced u5 v6) })

abbrev v12 : Declaration
v12 = (record { head = v0; parts = v10 })

abbrev v13 : List External
v13 = (xd.Declaration v12) ∷ []

abbrev s0 : State
s0 = record { scopes = [] ∷ []; frames = (record { is_typedef = false; has_type = false; held = None; direct = false; parameters = [] }) ∷ []; unary = false; dangling = false; nesting = record { depth = 0; deepest = 0 ∷ []; passed = false }; loops = record { around = 0; passed = false } }

abbrev s1 : State
s1 = record { scopes = [] ∷ []; frames = (record { is_typedef = false; has_type = true; held = None; direct = false; parameters = [] }) ∷ []; unary = false; dangling = false; nesting = record { depth = 1; deepest = 0 ∷ 0 ∷ []; passed = false }; loops = record { around = 0; passed = false } }

abbrev s2 : State
s2 = record { scopes = [] ∷ []; frames = (record { is_typedef = false; has_type = true; held = Some 0; direct = true; parameters = [] }) ∷ []; unary = false; dangling = false; nesting = record { depth = 1; deepest = 1 ∷ 0 ∷ []; passed = false }; loops = record { around = 0; passed = false } }

abbrev s3 : State
s3 = record { scopes = [] ∷ []; frames = (record { is_typedef = false; has_type = true; held = Some 0; direct = false; parameters = [] }) ∷ []; unary = false; dangling = false; nesting = record { depth = 1; deepest = 1 ∷ 0 ∷ []; passed = false }; loops = record { around = 0; passed = false } }

abbrev s4 : State
s4 = record { scopes = ((0, false) ∷ []) ∷ []; frames = (record { is_typedef = false; has_type = true; held = Some 0; direct = false; parameters = [] }) ∷ []; unary = false; dangling = false; nesting = record { depth = 0; deepest = 1 ∷ []; passed = false }; loops = record { around = 0; passed = false } }

abbrev s5 : State
s5 = record { scopes = ((0, false) ∷ []) ∷ []; frames = (record { is_typedef = false; has_type = true; held = Some 0; direct = false; parameters = [] }) ∷ []; unary = false; dangling = false; nesting = record { depth = 1; deepest = 0 ∷ 1 ∷ []; passed = false }; loops = record { around = 0; passed = false } }

abbrev s6 : State
s6 = record { scopes = ((0, false) ∷ []) ∷ []; frames = (record { is_typedef = false; has_type = true; held = Some 0; direct = false; parameters = [] }) ∷ []; unary = false; dangling = false; nesting = record { depth = 1; deepest = 1 ∷ 1 ∷ []; passed = false }; loops = record { around = 0; passed = false } }

abbrev s7 : State
s7 = record { scopes = ((0, false) ∷ []) ∷ []; frames = (record { is_typedef = false; has_type = true; held = Some 0; direct = false; parameters = [] }) ∷ []; unary = false; dangling = false; nesting = record { depth = 2; deepest = 0 ∷ 0 ∷ 1 ∷ 1 ∷ []; passed = false }; loops = record { around = 0; passed = false } }

abbrev s8 : State
s8 = record { scopes = ((0, false) ∷ []) ∷ []; frames = (record { is_typedef = false; has_type = true; held = Some 0; direct = false; parameters = [] }) ∷ []; unary = true; dangling = false; nesting = record { depth = 1; deepest = 2 ∷ 1 ∷ []; passed = false }; loops = record { around = 0; passed = false } }

abbrev s9 : State
s9 = record { scopes = ((0, false) ∷ []) ∷ []; frames = (record { is_typedef = false; has_type = true; held = Some 0; direct = false; parameters = [] }) ∷ []; unary = true; dangling = false; nesting = record { depth = 3; deepest = 0 ∷ 0 ∷ 2 ∷ 1 ∷ []; passed = false }; loops = record { around = 0; passed = false } }

abbrev s10 : State
s10 = record { scopes = ((0, false) ∷ []) ∷ []; frames = (record { is_typedef = false; has_type = true; held = Some 0; direct = false; parameters = [] }) ∷ []; unary = true; dangling = false; nesting = record { depth = 1; deepest = 3 ∷ 1 ∷ []; passed = false }; loops = record { around = 0; passed = false } }

abbrev s11 : State
s11 = record { scopes = ((0, false) ∷ []) ∷ []; frames = (record { is_typedef = false; has_type = true; held = Some 0; direct = false; parameters = [] }) ∷ []; unary = true; dangling = false; nesting = record { depth = 3; deepest = 0 ∷ 0 ∷ 3 ∷ 1 ∷ []; passed = false }; loops = record { around = 0; passed = false } }

abbrev s12 : State
s12 = record { scopes = ((0, false) ∷ []) ∷ []; frames = (record { is_typedef = false; has_type = true; held = Some 0; direct = false; parameters = [] }) ∷ []; unary = true; dangling = false; nesting = record { depth = 0; deepest = 3 ∷ []; passed = false }; loops = record { around = 0; passed = false } }

abbrev s13 : State
s13 = record { scopes = ((0, false) ∷ []) ∷ []; frames = []; unary = true; dangling = false; nesting = record { depth = 0; deepest = 3 ∷ []; passed = false }; loops = record { around = 0; passed = false } }

abbrev pub last : State
last = record { scopes = ((0, false) ∷ []) ∷ []; frames = []; unary = true; dangling = false; nesting = record { depth = 0; deepest = 3 ∷ []; passed = false }; loops = record { around = 0; passed = false } }

abbrev pub tokens : List Lexeme
tokens = u0 ∷ u1 ∷ u2 ∷ u3 ∷ u4 ∷ u5 ∷ u6 ∷ u7 ∷ u8 ∷ u9 ∷ u10 ∷ u11 ∷ u12 ∷ u13 ∷ u14 ∷ u15 ∷ []

pub derived : Derives (nt Sym.File tt v13 ∷ []) start tokens last
derived =
    Derives.by (Rule.file v13 u15) (
    Derives.by (Rule.more_externals (xd.Declaration v12) [] v13) (
    Derives.by (Rule.external_declaration v12) (
    Derives.by (Rule.declaration v0 v10 u14) (
    Derives.acted (
    Derives.by (Rule.specifiers v1 v0) (
    Derives.by (Rule.specifier (sk.Plain (word_of u0)) u0) (
    Derives.seen (
    Derives.by (Rule.type_word u0) (
    Derives.token {s = s0} refl (
    Derives.by (Rule.last_specifier v0) (
    Derives.by (Rule.init_declarators v11 v10) (
    Derives.by (Rule.init_declarator v9 (Some (t.braced u5 v6))) (
    Derives.by (Rule.plain_declarator Mode.concrete (t.direct_name u1 v2) u1) (
    Derives.seen (
    Derives.acted (
    Derives.by (Rule.named Mode.concrete v2 u1 refl) (
    Derives.token {s = s1} refl (
    Derives.by (Rule.more_parts (t.array_part u2 None) [] v2) (
    Derives.by (Rule.array None u2 u3) (
    Derives.token {s = s2} refl (
    Derives.acted (
    Derives.by Rule.no_size (
    Derives.token {s = s3} refl (
    Derives.by (Rule.last_part v2) (
    Derives.acted (
    Derives.acted (
    Derives.by (Rule.initialised (t.braced u5 v6) u4) (
    Derives.token {s = s4} refl (
    Derives.by (Rule.braced v8 v6 u5 u13) (
    Derives.acted (
    Derives.token {s = s5} refl (
    Derives.by (Rule.designated_entry (dg.Index v3) ((dg.Index v3) ∷ []) (iv.One v4) u9) (
    Derives.by (Rule.designated_element v3 u6 u8) (
    Derives.token {s = s6} refl (
    Derives.by (Rule.constant v3) (
    Derives.acted (
    Derives.by (Rule.conditional v3 v3) (
    Derives.by (Rule.level 9 v3 v3) (
    Derives.by (Rule.level 8 v3 v3) (
    Derives.by (Rule.level 7 v3 v3) (
    Derives.by (Rule.level 6 v3 v3) (
    Derives.by (Rule.level 5 v3 v3) (
    Derives.by (Rule.level 4 v3 v3) (
    Derives.by (Rule.level 3 v3 v3) (
    Derives.by (Rule.level 2 v3 v3) (
    Derives.by (Rule.level 1 v3 v3) (
    Derives.by (Rule.level 0 v3 v3) (
    Derives.by (Rule.cast_alone v3) (
    Derives.by (Rule.unary_alone v3) (
    Derives.by (Rule.postfix_alone v3) (
    Derives.by (Rule.postfix v3 v3) (
    Derives.by (Rule.number u7) (
    Derives.acted (
    Derives.token {s = s7} refl (
    Derives.acted (
    Derives.by (Rule.no_postfix v3) (
    Derives.by (Rule.last_operand 0 v3) (
    Derives.by (Rule.last_operand 1 v3) (
    Derives.by (Rule.last_operand 2 v3) (
    Derives.by (Rule.last_operand 3 v3) (
    Derives.by (Rule.last_operand 4 v3) (
    Derives.by (Rule.last_operand 5 v3) (
    Derives.by (Rule.last_operand 6 v3) (
    Derives.by (Rule.last_operand 7 v3) (
    Derives.by (Rule.last_operand 8 v3) (
    Derives.by (Rule.last_operand 9 v3) (
    Derives.by (Rule.no_choice v3) (
    Derives.acted (
    Derives.token {s = s8} refl (
    Derives.by (Rule.last_designator ((dg.Index v3) ∷ [])) (
    Derives.token {s = s8} refl (
    Derives.by (Rule.one_value v4) (
    Derives.acted (
    Derives.by (Rule.assignment v4 v4) (
    Derives.by (Rule.conditional v4 v4) (
    Derives.by (Rule.level 9 v4 v4) (
    Derives.by (Rule.level 8 v4 v4) (
    Derives.by (Rule.level 7 v4 v4) (
    Derives.by (Rule.level 6 v4 v4) (
    Derives.by (Rule.level 5 v4 v4) (
    Derives.by (Rule.level 4 v4 v4) (
    Derives.by (Rule.level 3 v4 v4) (
    Derives.by (Rule.level 2 v4 v4) (
    Derives.by (Rule.level 1 v4 v4) (
    Derives.by (Rule.level 0 v4 v4) (
    Derives.by (Rule.cast_alone v4) (
    Derives.by (Rule.unary_alone v4) (
    Derives.by (Rule.postfix_alone v4) (
    Derives.by (Rule.postfix v4 v4) (
    Derives.by (Rule.number u10) (
    Derives.acted (
    Derives.token {s = s9} refl (
    Derives.acted (
    Derives.by (Rule.no_postfix v4) (
    Derives.by (Rule.last_operand 0 v4) (
    Derives.by (Rule.last_operand 1 v4) (
    Derives.by (Rule.last_operand 2 v4) (
    Derives.by (Rule.last_operand 3 v4) (
    Derives.by (Rule.last_operand 4 v4) (
    Derives.by (Rule.last_operand 5 v4) (
    Derives.by (Rule.last_operand 6 v4) (
    Derives.by (Rule.last_operand 7 v4) (
    Derives.by (Rule.last_operand 8 v4) (
    Derives.by (Rule.last_operand 9 v4) (
    Derives.by (Rule.no_choice v4) (
    Derives.by (Rule.not_assigned v4) (
    Derives.acted (
    Derives.by (Rule.more_entries (t.entry [] (iv.One v5)) v7 v6 u11) (
    Derives.token {s = s10} refl (
    Derives.by (Rule.plain_entry (iv.One v5)) (
    Derives.by (Rule.one_value v5) (
    Derives.acted (
    Derives.by (Rule.assignment v5 v5) (
    Derives.by (Rule.conditional v5 v5) (
    Derives.by (Rule.level 9 v5 v5) (
    Derives.by (Rule.level 8 v5 v5) (
    Derives.by (Rule.level 7 v5 v5) (
    Derives.by (Rule.level 6 v5 v5) (
    Derives.by (Rule.level 5 v5 v5) (
    Derives.by (Rule.level 4 v5 v5) (
    Derives.by (Rule.level 3 v5 v5) (
    Derives.by (Rule.level 2 v5 v5) (
    Derives.by (Rule.level 1 v5 v5) (
    Derives.by (Rule.level 0 v5 v5) (
    Derives.by (Rule.cast_alone v5) (
    Derives.by (Rule.unary_alone v5) (
    Derives.by (Rule.postfix_alone v5) (
    Derives.by (Rule.postfix v5 v5) (
    Derives.by (Rule.number u12) (
    Derives.acted (
    Derives.token {s = s11} refl (
    Derives.acted (
    Derives.by (Rule.no_postfix v5) (
    Derives.by (Rule.last_operand 0 v5) (
    Derives.by (Rule.last_operand 1 v5) (
    Derives.by (Rule.last_operand 2 v5) (
    Derives.by (Rule.last_operand 3 v5) (
    Derives.by (Rule.last_operand 4 v5) (
    Derives.by (Rule.last_operand 5 v5) (
    Derives.by (Rule.last_operand 6 v5) (
    Derives.by (Rule.last_operand 7 v5) (
    Derives.by (Rule.last_operand 8 v5) (
    Derives.by (Rule.last_operand 9 v5) (
    Derives.by (Rule.no_choice v5) (
    Derives.by (Rule.not_assigned v5) (
    Derives.acted (
    Derives.by (Rule.last_entry v6) (
    Derives.token {s = s10} refl (
    Derives.acted (
    Derives.by (Rule.last_init_declarator v10) (
    Derives.token {s = s12} refl (
    Derives.acted (
    Derives.by (Rule.last_external v13) (
    Derives.token {s = s13} refl (
    Derives.done)))))))))))))))))))))))))))))))))))))))))))))))))))))))))))))))))))))))))))))))))))))))))))))))))))))))))))))))))))))))))))))))))))))))))))))))))))))))))))
