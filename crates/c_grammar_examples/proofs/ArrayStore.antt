-- A derivation, written by a script: the tokens, the values, the states before tokens, and the steps.
use Rattle.std.proofs.Common.{true, false, List, [], ◌∷◌, Option, None, Some, refl}
use Rattle.c_tree.specs.declared.declaration.Declaration.{Declaration}
use Rattle.c_tree.specs.declared.declaration.InitDeclarator.{InitDeclarator}
use Rattle.c_tree.specs.declared.declarator.DeclPart.{DeclPart}
use Rattle.c_tree.specs.declared.expression.Expr.{Expr}
use Rattle.c_tree.specs.declared.expression.ExprKind.TheVariants as e
use Rattle.c_tree.specs.declared.lexeme.Lexeme.{Lexeme}
use Rattle.c_tree.specs.declared.lexeme.LexemeKind.TheVariants as k
use Rattle.c_tree.specs.declared.specifier.SpecKind.TheVariants as sk
use Rattle.c_tree.specs.declared.specifier.SpecWord.{SpecWord}
use Rattle.c_tree.specs.declared.statement.BlockItem.{BlockItem}
use Rattle.c_tree.specs.declared.statement.BlockItem.TheVariants as bi
use Rattle.c_tree.specs.declared.statement.Statement.{Statement}
use Rattle.c_tree.specs.declared.statement.StatementKind.TheVariants as st
use Rattle.c_tree.specs.declared.tree.Item.{Item as External}
use Rattle.c_tree.specs.declared.tree.Item.TheVariants as xd
use Rattle.c_values.specs.declared.int_type.IntType.TheVariants.{Int}
use Rattle.c_grammar.specs.Marks as m
use Rattle.c_grammar.specs.Words as d
use Rattle.c_grammar.specs.Derives.{Derives}
use Rattle.c_grammar.specs.Items.{Mode, Sym, nt}
use Rattle.c_grammar.specs.Productions.{Rule}
use Rattle.c_grammar.specs.State.{State, start}
use Rattle.c_grammar.specs.Tokens.{name_of, word_of}
use Rattle.c_grammar.specs.Trees as t
use Rattle.c_grammar.specs.Trees.{Direct, Declared, expression}
use Rattle.c_grammar_examples.specs.Rows.{lexeme}

abbrev pub u0 : Lexeme
u0 = lexeme 0 (k.Word d.int_word)

abbrev pub u1 : Lexeme
u1 = lexeme 1 (k.Name 0)

abbrev pub u2 : Lexeme
u2 = lexeme 2 (k.Mark m.left_bracket)

abbrev pub u3 : Lexeme
u3 = lexeme 3 (k.Number 4 Int)

abbrev pub u4 : Lexeme
u4 = lexeme 4 (k.Mark m.right_bracket)

abbrev pub u5 : Lexeme
u5 = lexeme 5 (k.Mark m.semicolon)

abbrev pub u6 : Lexeme
u6 = lexeme 6 (k.Word d.int_word)

abbrev pub u7 : Lexeme
u7 = lexeme 7 (k.Name 1)

abbrev pub u8 : Lexeme
u8 = lexeme 8 (k.Mark m.left_parenthesis)

abbrev pub u9 : Lexeme
u9 = lexeme 9 (k.Word d.void_word)

abbrev pub u10 : Lexeme
u10 = lexeme 10 (k.Mark m.right_parenthesis)

abbrev pub u11 : Lexeme
u11 = lexeme 11 (k.Mark m.left_brace)

abbrev pub u12 : Lexeme
u12 = lexeme 12 (k.Name 0)

abbrev pub u13 : Lexeme
u13 = lexeme 13 (k.Mark m.left_bracket)

abbrev pub u14 : Lexeme
u14 = lexeme 14 (k.Number 3 Int)

abbrev pub u15 : Lexeme
u15 = lexeme 15 (k.Mark m.right_bracket)

abbrev pub u16 : Lexeme
u16 = lexeme 16 (k.Mark m.equal)

abbrev pub u17 : Lexeme
u17 = lexeme 17 (k.Number 1 Int)

abbrev pub u18 : Lexeme
u18 = lexeme 18 (k.Mark m.semicolon)

abbrev pub u19 : Lexeme
u19 = lexeme 19 (k.Word d.return_word)

abbrev pub u20 : Lexeme
u20 = lexeme 20 (k.Number 0 Int)

abbrev pub u21 : Lexeme
u21 = lexeme 21 (k.Mark m.semicolon)

abbrev pub u22 : Lexeme
u22 = lexeme 22 (k.Mark m.right_brace)

abbrev pub u23 : Lexeme
u23 = lexeme 23 k.End

abbrev v0 : List SpecWord
v0 = (t.spec_word u0 (sk.Plain (word_of u0))) ∷ []

abbrev v1 : SpecWord
v1 = t.spec_word u0 (sk.Plain (word_of u0))

abbrev v2 : Expr
v2 = expression u3 (t.constant_in u3.kind)

abbrev v3 : List DeclPart
v3 = (t.array_part u2 (Some v2)) ∷ []

abbrev v4 : DeclPart
v4 = t.array_part u2 (Some v2)

abbrev v5 : Declared
v5 = t.declarator u1 [] (t.direct_name u1 v3)

abbrev v6 : List InitDeclarator
v6 = (record { declarator = v5.tree; initial = None }) ∷ []

abbrev v7 : InitDeclarator
v7 = (record { declarator = v5.tree; initial = None })

abbrev v8 : Declaration
v8 = (record { head = v0; parts = v6 })

abbrev v9 : List SpecWord
v9 = (t.spec_word u6 (sk.Plain (word_of u6))) ∷ []

abbrev v10 : SpecWord
v10 = t.spec_word u6 (sk.Plain (word_of u6))

abbrev v11 : List DeclPart
v11 = (t.parameters_part u8 ([], None)) ∷ []

abbrev v12 : DeclPart
v12 = t.parameters_part u8 ([], None)

abbrev v13 : Expr
v13 = expression u14 (t.constant_in u14.kind)

abbrev v14 : Expr
v14 = expression u13 (e.Index (expression u12 (e.Name (name_of u12))) v13)

abbrev v15 : Expr
v15 = expression u12 (e.Name (name_of u12))

abbrev v16 : Expr
v16 = expression u17 (t.constant_in u17.kind)

abbrev v17 : Option Expr
v17 = Some (t.assigned u16 v14 v16)

abbrev v18 : Expr
v18 = expression u20 (t.constant_in u20.kind)

abbrev v19 : List BlockItem
v19 = (bi.Statement (t.statement u12 (st.Plain v17))) ∷ (bi.Statement (t.statement u19 (st.Return (Some v18)))) ∷ []

abbrev v20 : Statement
v20 = t.statement u19 (st.Return (Some v18))

abbrev v21 : List BlockItem
v21 = (bi.Statement (t.statement u12 (st.Plain v17))) ∷ []

abbrev v22 : Statement
v22 = t.statement u12 (st.Plain v17)

abbrev v23 : Declared
v23 = t.declarator u7 [] (t.direct_name u7 v11)

abbrev v24 : List External
v24 = (xd.Declaration v8) ∷ (xd.Function v9 v23.tree (t.statement u11 (st.Compound v19))) ∷ []

abbrev v25 : External
v25 = xd.Function v9 v23.tree (t.statement u11 (st.Compound v19))

abbrev v26 : List External
v26 = (xd.Declaration v8) ∷ []

abbrev s0 : State
s0 = record { scopes = [] ∷ []; frames = (record { is_typedef = false; has_type = false; held = None; direct = false; parameters = [] }) ∷ []; unary = false; dangling = false; nesting = record { depth = 0; deepest = 0 ∷ []; passed = false }; loops = record { around = 0; passed = false } }

abbrev s1 : State
s1 = record { scopes = [] ∷ []; frames = (record { is_typedef = false; has_type = true; held = None; direct = false; parameters = [] }) ∷ []; unary = false; dangling = false; nesting = record { depth = 1; deepest = 0 ∷ 0 ∷ []; passed = false }; loops = record { around = 0; passed = false } }

abbrev s2 : State
s2 = record { scopes = [] ∷ []; frames = (record { is_typedef = false; has_type = true; held = Some 0; direct = true; parameters = [] }) ∷ []; unary = false; dangling = false; nesting = record { depth = 1; deepest = 1 ∷ 0 ∷ []; passed = false }; loops = record { around = 0; passed = false } }

abbrev s3 : State
s3 = record { scopes = [] ∷ []; frames = (record { is_typedef = false; has_type = true; held = Some 0; direct = false; parameters = [] }) ∷ []; unary = false; dangling = false; nesting = record { depth = 2; deepest = 0 ∷ 0 ∷ 1 ∷ 0 ∷ []; passed = false }; loops = record { around = 0; passed = false } }

abbrev s4 : State
s4 = record { scopes = [] ∷ []; frames = (record { is_typedef = false; has_type = true; held = Some 0; direct = false; parameters = [] }) ∷ []; unary = true; dangling = false; nesting = record { depth = 1; deepest = 2 ∷ 0 ∷ []; passed = false }; loops = record { around = 0; passed = false } }

abbrev s5 : State
s5 = record { scopes = ((0, false) ∷ []) ∷ []; frames = (record { is_typedef = false; has_type = true; held = Some 0; direct = false; parameters = [] }) ∷ []; unary = true; dangling = false; nesting = record { depth = 0; deepest = 2 ∷ []; passed = false }; loops = record { around = 0; passed = false } }

abbrev s6 : State
s6 = record { scopes = ((0, false) ∷ []) ∷ []; frames = (record { is_typedef = false; has_type = false; held = None; direct = false; parameters = [] }) ∷ []; unary = true; dangling = false; nesting = record { depth = 0; deepest = 2 ∷ []; passed = false }; loops = record { around = 0; passed = false } }

abbrev s7 : State
s7 = record { scopes = ((0, false) ∷ []) ∷ []; frames = (record { is_typedef = false; has_type = true; held = None; direct = false; parameters = [] }) ∷ []; unary = true; dangling = false; nesting = record { depth = 1; deepest = 0 ∷ 2 ∷ []; passed = false }; loops = record { around = 0; passed = false } }

abbrev s8 : State
s8 = record { scopes = ((0, false) ∷ []) ∷ []; frames = (record { is_typedef = false; has_type = true; held = Some 1; direct = true; parameters = [] }) ∷ []; unary = true; dangling = false; nesting = record { depth = 1; deepest = 1 ∷ 2 ∷ []; passed = false }; loops = record { around = 0; passed = false } }

abbrev s9 : State
s9 = record { scopes = [] ∷ ((0, false) ∷ []) ∷ []; frames = (record { is_typedef = false; has_type = true; held = Some 1; direct = true; parameters = [] }) ∷ []; unary = true; dangling = false; nesting = record { depth = 1; deepest = 1 ∷ 2 ∷ []; passed = false }; loops = record { around = 0; passed = false } }

abbrev s10 : State
s10 = record { scopes = [] ∷ ((1, false) ∷ (0, false) ∷ []) ∷ []; frames = (record { is_typedef = false; has_type = true; held = Some 1; direct = false; parameters = [] }) ∷ []; unary = true; dangling = false; nesting = record { depth = 1; deepest = 0 ∷ 2 ∷ []; passed = false }; loops = record { around = 0; passed = false } }

abbrev s11 : State
s11 = record { scopes = [] ∷ ((1, false) ∷ (0, false) ∷ []) ∷ []; frames = (record { is_typedef = false; has_type = true; held = Some 1; direct = false; parameters = [] }) ∷ []; unary = true; dangling = false; nesting = record { depth = 3; deepest = 0 ∷ 0 ∷ 0 ∷ 1 ∷ 2 ∷ []; passed = false }; loops = record { around = 0; passed = false } }

abbrev s12 : State
s12 = record { scopes = [] ∷ ((1, false) ∷ (0, false) ∷ []) ∷ []; frames = (record { is_typedef = false; has_type = true; held = Some 1; direct = false; parameters = [] }) ∷ []; unary = true; dangling = false; nesting = record { depth = 2; deepest = 3 ∷ 0 ∷ 1 ∷ 2 ∷ []; passed = false }; loops = record { around = 0; passed = false } }

abbrev s13 : State
s13 = record { scopes = [] ∷ ((1, false) ∷ (0, false) ∷ []) ∷ []; frames = (record { is_typedef = false; has_type = true; held = Some 1; direct = false; parameters = [] }) ∷ []; unary = true; dangling = false; nesting = record { depth = 4; deepest = 0 ∷ 0 ∷ 0 ∷ 4 ∷ 0 ∷ 1 ∷ 2 ∷ []; passed = false }; loops = record { around = 0; passed = false } }

abbrev s14 : State
s14 = record { scopes = [] ∷ ((1, false) ∷ (0, false) ∷ []) ∷ []; frames = (record { is_typedef = false; has_type = true; held = Some 1; direct = false; parameters = [] }) ∷ []; unary = true; dangling = false; nesting = record { depth = 3; deepest = 4 ∷ 4 ∷ 0 ∷ 1 ∷ 2 ∷ []; passed = false }; loops = record { around = 0; passed = false } }

abbrev s15 : State
s15 = record { scopes = [] ∷ ((1, false) ∷ (0, false) ∷ []) ∷ []; frames = (record { is_typedef = false; has_type = true; held = Some 1; direct = false; parameters = [] }) ∷ []; unary = true; dangling = false; nesting = record { depth = 2; deepest = 4 ∷ 0 ∷ 1 ∷ 2 ∷ []; passed = false }; loops = record { around = 0; passed = false } }

abbrev s16 : State
s16 = record { scopes = [] ∷ ((1, false) ∷ (0, false) ∷ []) ∷ []; frames = (record { is_typedef = false; has_type = true; held = Some 1; direct = false; parameters = [] }) ∷ []; unary = true; dangling = false; nesting = record { depth = 4; deepest = 0 ∷ 0 ∷ 5 ∷ 0 ∷ 1 ∷ 2 ∷ []; passed = false }; loops = record { around = 0; passed = false } }

abbrev s17 : State
s17 = record { scopes = [] ∷ ((1, false) ∷ (0, false) ∷ []) ∷ []; frames = (record { is_typedef = false; has_type = true; held = Some 1; direct = false; parameters = [] }) ∷ []; unary = true; dangling = false; nesting = record { depth = 2; deepest = 5 ∷ 1 ∷ 2 ∷ []; passed = false }; loops = record { around = 0; passed = false } }

abbrev s18 : State
s18 = record { scopes = [] ∷ ((1, false) ∷ (0, false) ∷ []) ∷ []; frames = (record { is_typedef = false; has_type = true; held = Some 1; direct = false; parameters = [] }) ∷ []; unary = true; dangling = false; nesting = record { depth = 2; deepest = 0 ∷ 5 ∷ 2 ∷ []; passed = false }; loops = record { around = 0; passed = false } }

abbrev s19 : State
s19 = record { scopes = [] ∷ ((1, false) ∷ (0, false) ∷ []) ∷ []; frames = (record { is_typedef = false; has_type = true; held = Some 1; direct = false; parameters = [] }) ∷ []; unary = true; dangling = false; nesting = record { depth = 3; deepest = 0 ∷ 0 ∷ 2 ∷ 5 ∷ 2 ∷ []; passed = false }; loops = record { around = 0; passed = false } }

abbrev s20 : State
s20 = record { scopes = [] ∷ ((1, false) ∷ (0, false) ∷ []) ∷ []; frames = (record { is_typedef = false; has_type = true; held = Some 1; direct = false; parameters = [] }) ∷ []; unary = true; dangling = false; nesting = record { depth = 2; deepest = 3 ∷ 5 ∷ 2 ∷ []; passed = false }; loops = record { around = 0; passed = false } }

abbrev s21 : State
s21 = record { scopes = [] ∷ ((1, false) ∷ (0, false) ∷ []) ∷ []; frames = (record { is_typedef = false; has_type = true; held = Some 1; direct = false; parameters = [] }) ∷ []; unary = true; dangling = false; nesting = record { depth = 1; deepest = 5 ∷ 2 ∷ []; passed = false }; loops = record { around = 0; passed = false } }

abbrev s22 : State
s22 = record { scopes = ((1, false) ∷ (0, false) ∷ []) ∷ []; frames = []; unary = true; dangling = false; nesting = record { depth = 0; deepest = 5 ∷ []; passed = false }; loops = record { around = 0; passed = false } }

abbrev pub last : State
last = record { scopes = ((1, false) ∷ (0, false) ∷ []) ∷ []; frames = []; unary = true; dangling = false; nesting = record { depth = 0; deepest = 5 ∷ []; passed = false }; loops = record { around = 0; passed = false } }

abbrev pub tokens : List Lexeme
tokens = u0 ∷ u1 ∷ u2 ∷ u3 ∷ u4 ∷ u5 ∷ u6 ∷ u7 ∷ u8 ∷ u9 ∷ u10 ∷ u11 ∷ u12 ∷ u13 ∷ u14 ∷ u15 ∷ u16 ∷ u17 ∷ u18 ∷ u19 ∷ u20 ∷ u21 ∷ u22 ∷ u23 ∷ []

pub derived : Derives (nt Sym.File tt v24 ∷ []) start tokens last
derived =
    Derives.by (Rule.file v24 u23) (
    Derives.by (Rule.more_externals (xd.Declaration v8) [] v24) (
    Derives.by (Rule.external_declaration v8) (
    Derives.by (Rule.declaration v0 v6 u5) (
    Derives.acted (
    Derives.by (Rule.specifiers v1 v0) (
    Derives.by (Rule.specifier (sk.Plain (word_of u0)) u0) (
    Derives.seen (
    Derives.by (Rule.type_word u0) (
    Derives.token {s = s0} refl (
    Derives.by (Rule.last_specifier v0) (
    Derives.by (Rule.init_declarators v7 v6) (
    Derives.by (Rule.init_declarator v5 None) (
    Derives.by (Rule.plain_declarator Mode.concrete (t.direct_name u1 v3) u1) (
    Derives.seen (
    Derives.acted (
    Derives.by (Rule.named Mode.concrete v3 u1 refl) (
    Derives.token {s = s1} refl (
    Derives.by (Rule.more_parts v4 [] v3) (
    Derives.by (Rule.array (Some v2) u2 u4) (
    Derives.token {s = s2} refl (
    Derives.acted (
    Derives.by (Rule.size v2) (
    Derives.by (Rule.constant v2) (
    Derives.acted (
    Derives.by (Rule.conditional v2 v2) (
    Derives.by (Rule.level 9 v2 v2) (
    Derives.by (Rule.level 8 v2 v2) (
    Derives.by (Rule.level 7 v2 v2) (
    Derives.by (Rule.level 6 v2 v2) (
    Derives.by (Rule.level 5 v2 v2) (
    Derives.by (Rule.level 4 v2 v2) (
    Derives.by (Rule.level 3 v2 v2) (
    Derives.by (Rule.level 2 v2 v2) (
    Derives.by (Rule.level 1 v2 v2) (
    Derives.by (Rule.level 0 v2 v2) (
    Derives.by (Rule.cast_alone v2) (
    Derives.by (Rule.unary_alone v2) (
    Derives.by (Rule.postfix_alone v2) (
    Derives.by (Rule.postfix v2 v2) (
    Derives.by (Rule.number u3) (
    Derives.acted (
    Derives.token {s = s3} refl (
    Derives.acted (
    Derives.by (Rule.no_postfix v2) (
    Derives.by (Rule.last_operand 0 v2) (
    Derives.by (Rule.last_operand 1 v2) (
    Derives.by (Rule.last_operand 2 v2) (
    Derives.by (Rule.last_operand 3 v2) (
    Derives.by (Rule.last_operand 4 v2) (
    Derives.by (Rule.last_operand 5 v2) (
    Derives.by (Rule.last_operand 6 v2) (
    Derives.by (Rule.last_operand 7 v2) (
    Derives.by (Rule.last_operand 8 v2) (
    Derives.by (Rule.last_operand 9 v2) (
    Derives.by (Rule.no_choice v2) (
    Derives.acted (
    Derives.token {s = s4} refl (
    Derives.by (Rule.last_part v3) (
    Derives.acted (
    Derives.acted (
    Derives.by Rule.no_initial (
    Derives.by (Rule.last_init_declarator v6) (
    Derives.token {s = s5} refl (
    Derives.acted (
    Derives.by (Rule.more_externals v25 v26 v24) (
    Derives.by (Rule.function v9 v23 v19 u11) (
    Derives.acted (
    Derives.by (Rule.specifiers v10 v9) (
    Derives.by (Rule.specifier (sk.Plain (word_of u6)) u6) (
    Derives.seen (
    Derives.by (Rule.type_word u6) (
    Derives.token {s = s6} refl (
    Derives.by (Rule.last_specifier v9) (
    Derives.by (Rule.plain_declarator Mode.concrete (t.direct_name u7 v11) u7) (
    Derives.seen (
    Derives.acted (
    Derives.by (Rule.named Mode.concrete v11 u7 refl) (
    Derives.token {s = s7} refl (
    Derives.by (Rule.more_parts v12 [] v11) (
    Derives.by (Rule.parameters ([], None) u8 u10) (
    Derives.token {s = s8} refl (
    Derives.acted (
    Derives.by (Rule.void_alone u9) (
    Derives.token {s = s9} refl (
    Derives.token {s = s9} refl (
    Derives.acted (
    Derives.by (Rule.last_part v11) (
    Derives.acted (
    Derives.acted (
    Derives.acted (
    Derives.seen (
    Derives.acted (
    Derives.by (Rule.block v19 u11 u22) (
    Derives.token {s = s10} refl (
    Derives.by (Rule.block_statement v22 [] v19) (
    Derives.by (Rule.statement (st.Plain v17) u12) (
    Derives.seen (
    Derives.acted (
    Derives.by (Rule.plain_statement v17 u18) (
    Derives.by (Rule.some_expression (t.assigned u16 v14 v16)) (
    Derives.by (Rule.expressions (t.assigned u16 v14 v16) (t.assigned u16 v14 v16)) (
    Derives.acted (
    Derives.by (Rule.assignment v14 (t.assigned u16 v14 v16)) (
    Derives.by (Rule.conditional v14 v14) (
    Derives.by (Rule.level 9 v14 v14) (
    Derives.by (Rule.level 8 v14 v14) (
    Derives.by (Rule.level 7 v14 v14) (
    Derives.by (Rule.level 6 v14 v14) (
    Derives.by (Rule.level 5 v14 v14) (
    Derives.by (Rule.level 4 v14 v14) (
    Derives.by (Rule.level 3 v14 v14) (
    Derives.by (Rule.level 2 v14 v14) (
    Derives.by (Rule.level 1 v14 v14) (
    Derives.by (Rule.level 0 v14 v14) (
    Derives.by (Rule.cast_alone v14) (
    Derives.by (Rule.unary_alone v14) (
    Derives.by (Rule.postfix_alone v14) (
    Derives.by (Rule.postfix v15 v14) (
    Derives.by (Rule.name u12) (
    Derives.acted (
    Derives.token {s = s11} refl (
    Derives.acted (
    Derives.by (Rule.subscript v15 v13 v14 u13 u15) (
    Derives.token {s = s12} refl (
    Derives.acted (
    Derives.by (Rule.expressions v13 v13) (
    Derives.acted (
    Derives.by (Rule.assignment v13 v13) (
    Derives.by (Rule.conditional v13 v13) (
    Derives.by (Rule.level 9 v13 v13) (
    Derives.by (Rule.level 8 v13 v13) (
    Derives.by (Rule.level 7 v13 v13) (
    Derives.by (Rule.level 6 v13 v13) (
    Derives.by (Rule.level 5 v13 v13) (
    Derives.by (Rule.level 4 v13 v13) (
    Derives.by (Rule.level 3 v13 v13) (
    Derives.by (Rule.level 2 v13 v13) (
    Derives.by (Rule.level 1 v13 v13) (
    Derives.by (Rule.level 0 v13 v13) (
    Derives.by (Rule.cast_alone v13) (
    Derives.by (Rule.unary_alone v13) (
    Derives.by (Rule.postfix_alone v13) (
    Derives.by (Rule.postfix v13 v13) (
    Derives.by (Rule.number u14) (
    Derives.acted (
    Derives.token {s = s13} refl (
    Derives.acted (
    Derives.by (Rule.no_postfix v13) (
    Derives.by (Rule.last_operand 0 v13) (
    Derives.by (Rule.last_operand 1 v13) (
    Derives.by (Rule.last_operand 2 v13) (
    Derives.by (Rule.last_operand 3 v13) (
    Derives.by (Rule.last_operand 4 v13) (
    Derives.by (Rule.last_operand 5 v13) (
    Derives.by (Rule.last_operand 6 v13) (
    Derives.by (Rule.last_operand 7 v13) (
    Derives.by (Rule.last_operand 8 v13) (
    Derives.by (Rule.last_operand 9 v13) (
    Derives.by (Rule.no_choice v13) (
    Derives.by (Rule.not_assigned v13) (
    Derives.by (Rule.last_expression v13) (
    Derives.acted (
    Derives.token {s = s14} refl (
    Derives.acted (
    Derives.by (Rule.no_postfix v14) (
    Derives.by (Rule.last_operand 0 v14) (
    Derives.by (Rule.last_operand 1 v14) (
    Derives.by (Rule.last_operand 2 v14) (
    Derives.by (Rule.last_operand 3 v14) (
    Derives.by (Rule.last_operand 4 v14) (
    Derives.by (Rule.last_operand 5 v14) (
    Derives.by (Rule.last_operand 6 v14) (
    Derives.by (Rule.last_operand 7 v14) (
    Derives.by (Rule.last_operand 8 v14) (
    Derives.by (Rule.last_operand 9 v14) (
    Derives.by (Rule.no_choice v14) (
    Derives.by (Rule.assigned v14 v16 u16) (
    Derives.token {s = s15} refl (
    Derives.acted (
    Derives.by (Rule.assignment v16 v16) (
    Derives.by (Rule.conditional v16 v16) (
    Derives.by (Rule.level 9 v16 v16) (
    Derives.by (Rule.level 8 v16 v16) (
    Derives.by (Rule.level 7 v16 v16) (
    Derives.by (Rule.level 6 v16 v16) (
    Derives.by (Rule.level 5 v16 v16) (
    Derives.by (Rule.level 4 v16 v16) (
    Derives.by (Rule.level 3 v16 v16) (
    Derives.by (Rule.level 2 v16 v16) (
    Derives.by (Rule.level 1 v16 v16) (
    Derives.by (Rule.level 0 v16 v16) (
    Derives.by (Rule.cast_alone v16) (
    Derives.by (Rule.unary_alone v16) (
    Derives.by (Rule.postfix_alone v16) (
    Derives.by (Rule.postfix v16 v16) (
    Derives.by (Rule.number u17) (
    Derives.acted (
    Derives.token {s = s16} refl (
    Derives.acted (
    Derives.by (Rule.no_postfix v16) (
    Derives.by (Rule.last_operand 0 v16) (
    Derives.by (Rule.last_operand 1 v16) (
    Derives.by (Rule.last_operand 2 v16) (
    Derives.by (Rule.last_operand 3 v16) (
    Derives.by (Rule.last_operand 4 v16) (
    Derives.by (Rule.last_operand 5 v16) (
    Derives.by (Rule.last_operand 6 v16) (
    Derives.by (Rule.last_operand 7 v16) (
    Derives.by (Rule.last_operand 8 v16) (
    Derives.by (Rule.last_operand 9 v16) (
    Derives.by (Rule.no_choice v16) (
    Derives.by (Rule.not_assigned v16) (
    Derives.acted (
    Derives.by (Rule.last_expression (t.assigned u16 v14 v16)) (
    Derives.acted (
    Derives.token {s = s17} refl (
    Derives.acted (
    Derives.by (Rule.block_statement v20 v21 v19) (
    Derives.by (Rule.statement (st.Return (Some v18)) u19) (
    Derives.seen (
    Derives.acted (
    Derives.by (Rule.return (Some v18) u19 u21) (
    Derives.token {s = s18} refl (
    Derives.by (Rule.some_expression v18) (
    Derives.by (Rule.expressions v18 v18) (
    Derives.acted (
    Derives.by (Rule.assignment v18 v18) (
    Derives.by (Rule.conditional v18 v18) (
    Derives.by (Rule.level 9 v18 v18) (
    Derives.by (Rule.level 8 v18 v18) (
    Derives.by (Rule.level 7 v18 v18) (
    Derives.by (Rule.level 6 v18 v18) (
    Derives.by (Rule.level 5 v18 v18) (
    Derives.by (Rule.level 4 v18 v18) (
    Derives.by (Rule.level 3 v18 v18) (
    Derives.by (Rule.level 2 v18 v18) (
    Derives.by (Rule.level 1 v18 v18) (
    Derives.by (Rule.level 0 v18 v18) (
    Derives.by (Rule.cast_alone v18) (
    Derives.by (Rule.unary_alone v18) (
    Derives.by (Rule.postfix_alone v18) (
    Derives.by (Rule.postfix v18 v18) (
    Derives.by (Rule.number u20) (
    Derives.acted (
    Derives.token {s = s19} refl (
    Derives.acted (
    Derives.by (Rule.no_postfix v18) (
    Derives.by (Rule.last_operand 0 v18) (
    Derives.by (Rule.last_operand 1 v18) (
    Derives.by (Rule.last_operand 2 v18) (
    Derives.by (Rule.last_operand 3 v18) (
    Derives.by (Rule.last_operand 4 v18) (
    Derives.by (Rule.last_operand 5 v18) (
    Derives.by (Rule.last_operand 6 v18) (
    Derives.by (Rule.last_operand 7 v18) (
    Derives.by (Rule.last_operand 8 v18) (
    Derives.by (Rule.last_operand 9 v18) (
    Derives.by (Rule.no_choice v18) (
    Derives.by (Rule.not_assigned v18) (
    Derives.by (Rule.last_expression v18) (
    Derives.acted (
    Derives.token {s = s20} refl (
    Derives.acted (
    Derives.by (Rule.last_block_item v19) (
    Derives.token {s = s21} refl (
    Derives.acted (
    Derives.acted (
    Derives.acted (
    Derives.by (Rule.last_external v24) (
    Derives.token {s = s22} refl (
    Derives.done)))))))))))))))))))))))))))))))))))))))))))))))))))))))))))))))))))))))))))))))))))))))))))))))))))))))))))))))))))))))))))))))))))))))))))))))))))))))))))))))))))))))))))))))))))))))))))))))))))))))))))))))))))))))))))))))))))))))))))))))))))))))))))))))))))))))))))))))
