-- A derivation, written by a script: the tokens, the values, the states before tokens, and the steps.
use Rattle.std.proofs.Common.{true, false, List, [], ◌∷◌, None, Some, refl}
use Rattle.c_tree.specs.declared.declaration.Declaration.{Declaration}
use Rattle.c_tree.specs.declared.declaration.InitDeclarator.{InitDeclarator}
use Rattle.c_tree.specs.declared.declarator.DeclPart.{DeclPart}
use Rattle.c_tree.specs.declared.expression.Expr.{Expr}
use Rattle.c_tree.specs.declared.expression.ExprKind.TheVariants as e
use Rattle.c_tree.specs.declared.lexeme.Lexeme.{Lexeme}
use Rattle.c_tree.specs.declared.lexeme.LexemeKind.TheVariants as k
use Rattle.c_tree.specs.declared.specifier.SpecKind.{SpecKind}
use Rattle.c_tree.specs.declared.specifier.SpecKind.TheVariants as sk
use Rattle.c_tree.specs.declared.specifier.SpecWord.{SpecWord}
use Rattle.c_tree.specs.declared.statement.BlockItem.{BlockItem}
use Rattle.c_tree.specs.declared.statement.BlockItem.TheVariants as bi
use Rattle.c_tree.specs.declared.statement.Statement.{Statement}
use Rattle.c_tree.specs.declared.statement.StatementKind.TheVariants as st
use Rattle.c_tree.specs.declared.tree.Item.{Item as External}
use Rattle.c_tree.specs.declared.tree.Item.TheVariants as xd
use Rattle.c_values.specs.declared.int_type.IntType.TheVariants.{Int}
use Rattle.c_grammar.specs.Marks as m
use Rattle.c_grammar.specs.Words as d
use Rattle.c_grammar.specs.Derives.{Derives}
use Rattle.c_grammar.specs.Items.{Mode, Sym, nt}
use Rattle.c_grammar.specs.Productions.{Rule}
use Rattle.c_grammar.specs.State.{State, start}
use Rattle.c_grammar.specs.Tokens.{name_of, word_of}
use Rattle.c_grammar.specs.Trees as t
use Rattle.c_grammar.specs.Trees.{Direct, Declared, expression}
use Rattle.c_grammar_examples.specs.Rows.{lexeme}

abbrev pub u0 : Lexeme
u0 = lexeme 0 (k.Word d.typedef_word)

abbrev pub u1 : Lexeme
u1 = lexeme 1 (k.Word d.int_word)

abbrev pub u2 : Lexeme
u2 = lexeme 2 (k.Name 0)

abbrev pub u3 : Lexeme
u3 = lexeme 3 (k.Mark m.semicolon)

abbrev pub u4 : Lexeme
u4 = lexeme 4 (k.Word d.void_word)

abbrev pub u5 : Lexeme
u5 = lexeme 5 (k.Name 1)

abbrev pub u6 : Lexeme
u6 = lexeme 6 (k.Mark m.left_parenthesis)

abbrev pub u7 : Lexeme
u7 = lexeme 7 (k.Word d.void_word)

abbrev pub u8 : Lexeme
u8 = lexeme 8 (k.Mark m.right_parenthesis)

abbrev pub u9 : Lexeme
u9 = lexeme 9 (k.Mark m.left_brace)

abbrev pub u10 : Lexeme
u10 = lexeme 10 (k.Name 0)

abbrev pub u11 : Lexeme
u11 = lexeme 11 (k.Mark m.left_parenthesis)

abbrev pub u12 : Lexeme
u12 = lexeme 12 (k.Name 2)

abbrev pub u13 : Lexeme
u13 = lexeme 13 (k.Mark m.right_parenthesis)

abbrev pub u14 : Lexeme
u14 = lexeme 14 (k.Mark m.semicolon)

abbrev pub u15 : Lexeme
u15 = lexeme 15 (k.Mark m.left_parenthesis)

abbrev pub u16 : Lexeme
u16 = lexeme 16 (k.Name 0)

abbrev pub u17 : Lexeme
u17 = lexeme 17 (k.Mark m.right_parenthesis)

abbrev pub u18 : Lexeme
u18 = lexeme 18 (k.Mark m.minus)

abbrev pub u19 : Lexeme
u19 = lexeme 19 (k.Number 1 Int)

abbrev pub u20 : Lexeme
u20 = lexeme 20 (k.Mark m.semicolon)

abbrev pub u21 : Lexeme
u21 = lexeme 21 (k.Mark m.right_brace)

abbrev pub u22 : Lexeme
u22 = lexeme 22 k.End

abbrev v0 : List SpecWord
v0 = (t.spec_word u0 (sk.Plain (word_of u0))) ∷ (t.spec_word u1 (sk.Plain (word_of u1))) ∷ []

abbrev v1 : SpecWord
v1 = t.spec_word u1 (sk.Plain (word_of u1))

abbrev v2 : List SpecWord
v2 = (t.spec_word u0 (sk.Plain (word_of u0))) ∷ []

abbrev v3 : SpecWord
v3 = t.spec_word u0 (sk.Plain (word_of u0))

abbrev v4 : Declared
v4 = t.declarator u2 [] (t.direct_name u2 [])

abbrev v5 : List InitDeclarator
v5 = (record { declarator = v4.tree; initial = None }) ∷ []

abbrev v6 : InitDeclarator
v6 = (record { declarator = v4.tree; initial = None })

abbrev v7 : Declaration
v7 = (record { head = v0; parts = v5 })

abbrev v8 : List SpecWord
v8 = (t.spec_word u4 (sk.Plain (word_of u4))) ∷ []

abbrev v9 : SpecWord
v9 = t.spec_word u4 (sk.Plain (word_of u4))

abbrev v10 : List DeclPart
v10 = (t.parameters_part u6 ([], None)) ∷ []

abbrev v11 : DeclPart
v11 = t.parameters_part u6 ([], None)

abbrev v12 : SpecKind
v12 = sk.Typedef (name_of u10)

abbrev v13 : List SpecWord
v13 = (t.spec_word u10 v12) ∷ []

abbrev v14 : Declared
v14 = t.declarator u12 [] (t.direct_name u12 [])

abbrev v15 : Declared
v15 = t.declarator u11 [] (t.direct_nested v14 [])

abbrev v16 : List InitDeclarator
v16 = (record { declarator = v15.tree; initial = None }) ∷ []

abbrev v17 : InitDeclarator
v17 = (record { declarator = v15.tree; initial = None })

abbrev v18 : SpecKind
v18 = sk.Typedef (name_of u16)

abbrev v19 : List SpecWord
v19 = (t.spec_word u16 v18) ∷ []

abbrev v20 : Expr
v20 = expression u19 (t.constant_in u19.kind)

abbrev v21 : Expr
v21 = expression u15 (e.Cast (t.type_name v19 None) (t.applied u18 v20))

abbrev v22 : List BlockItem
v22 = (bi.Declaration (record { head = v13; parts = v16 })) ∷ (bi.Statement (t.statement u15 (st.Plain (Some v21)))) ∷ []

abbrev v23 : Statement
v23 = t.statement u15 (st.Plain (Some v21))

abbrev v24 : List BlockItem
v24 = (bi.Declaration (record { head = v13; parts = v16 })) ∷ []

abbrev v25 : Declaration
v25 = (record { head = v13; parts = v16 })

abbrev v26 : Declared
v26 = t.declarator u5 [] (t.direct_name u5 v10)

abbrev v27 : List External
v27 = (xd.Declaration v7) ∷ (xd.Function v8 v26.tree (t.statement u9 (st.Compound v22))) ∷ []

abbrev v28 : External
v28 = xd.Function v8 v26.tree (t.statement u9 (st.Compound v22))

abbrev v29 : List External
v29 = (xd.Declaration v7) ∷ []

abbrev s0 : State
s0 = record { scopes = [] ∷ []; frames = (record { is_typedef = false; has_type = false; held = None; direct = false; parameters = [] }) ∷ []; unary = false; dangling = false; nesting = record { depth = 0; deepest = 0 ∷ []; passed = false }; loops = record { around = 0; passed = false } }

abbrev s1 : State
s1 = record { scopes = [] ∷ []; frames = (record { is_typedef = true; has_type = false; held = None; direct = false; parameters = [] }) ∷ []; unary = false; dangling = false; nesting = record { depth = 0; deepest = 0 ∷ []; passed = false }; loops = record { around = 0; passed = false } }

abbrev s2 : State
s2 = record { scopes = [] ∷ []; frames = (record { is_typedef = true; has_type = true; held = None; direct = false; parameters = [] }) ∷ []; unary = false; dangling = false; nesting = record { depth = 1; deepest = 0 ∷ 0 ∷ []; passed = false }; loops = record { around = 0; passed = false } }

abbrev s3 : State
s3 = record { scopes = ((0, true) ∷ []) ∷ []; frames = (record { is_typedef = true; has_type = true; held = Some 0; direct = true; parameters = [] }) ∷ []; unary = false; dangling = false; nesting = record { depth = 0; deepest = 1 ∷ []; passed = false }; loops = record { around = 0; passed = false } }

abbrev s4 : State
s4 = record { scopes = ((0, true) ∷ []) ∷ []; frames = (record { is_typedef = false; has_type = false; held = None; direct = false; parameters = [] }) ∷ []; unary = false; dangling = false; nesting = record { depth = 0; deepest = 1 ∷ []; passed = false }; loops = record { around = 0; passed = false } }

abbrev s5 : State
s5 = record { scopes = ((0, true) ∷ []) ∷ []; frames = (record { is_typedef = false; has_type = true; held = None; direct = false; parameters = [] }) ∷ []; unary = false; dangling = false; nesting = record { depth = 1; deepest = 0 ∷ 1 ∷ []; passed = false }; loops = record { around = 0; passed = false } }

abbrev s6 : State
s6 = record { scopes = ((0, true) ∷ []) ∷ []; frames = (record { is_typedef = false; has_type = true; held = Some 1; direct = true; parameters = [] }) ∷ []; unary = false; dangling = false; nesting = record { depth = 1; deepest = 1 ∷ 1 ∷ []; passed = false }; loops = record { around = 0; passed = false } }

abbrev s7 : State
s7 = record { scopes = [] ∷ ((0, true) ∷ []) ∷ []; frames = (record { is_typedef = false; has_type = true; held = Some 1; direct = true; parameters = [] }) ∷ []; unary = false; dangling = false; nesting = record { depth = 1; deepest = 1 ∷ 1 ∷ []; passed = false }; loops = record { around = 0; passed = false } }

abbrev s8 : State
s8 = record { scopes = [] ∷ ((1, false) ∷ (0, true) ∷ []) ∷ []; frames = (record { is_typedef = false; has_type = true; held = Some 1; direct = false; parameters = [] }) ∷ []; unary = false; dangling = false; nesting = record { depth = 1; deepest = 0 ∷ 1 ∷ []; passed = false }; loops = record { around = 0; passed = false } }

abbrev s9 : State
s9 = record { scopes = [] ∷ ((1, false) ∷ (0, true) ∷ []) ∷ []; frames = (record { is_typedef = false; has_type = false; held = None; direct = false; parameters = [] }) ∷ (record { is_typedef = false; has_type = true; held = Some 1; direct = false; parameters = [] }) ∷ []; unary = false; dangling = false; nesting = record { depth = 1; deepest = 1 ∷ 1 ∷ []; passed = false }; loops = record { around = 0; passed = false } }

abbrev s10 : State
s10 = record { scopes = [] ∷ ((1, false) ∷ (0, true) ∷ []) ∷ []; frames = (record { is_typedef = false; has_type = true; held = None; direct = false; parameters = [] }) ∷ (record { is_typedef = false; has_type = true; held = Some 1; direct = false; parameters = [] }) ∷ []; unary = false; dangling = false; nesting = record { depth = 2; deepest = 0 ∷ 1 ∷ 1 ∷ []; passed = false }; loops = record { around = 0; passed = false } }

abbrev s11 : State
s11 = record { scopes = [] ∷ ((1, false) ∷ (0, true) ∷ []) ∷ []; frames = (record { is_typedef = false; has_type = true; held = None; direct = false; parameters = [] }) ∷ (record { is_typedef = false; has_type = true; held = Some 1; direct = false; parameters = [] }) ∷ []; unary = false; dangling = false; nesting = record { depth = 3; deepest = 0 ∷ 2 ∷ 1 ∷ 1 ∷ []; passed = false }; loops = record { around = 0; passed = false } }

abbrev s12 : State
s12 = record { scopes = [] ∷ ((1, false) ∷ (0, true) ∷ []) ∷ []; frames = (record { is_typedef = false; has_type = true; held = Some 2; direct = true; parameters = [] }) ∷ (record { is_typedef = false; has_type = true; held = Some 1; direct = false; parameters = [] }) ∷ []; unary = false; dangling = false; nesting = record { depth = 2; deepest = 3 ∷ 1 ∷ 1 ∷ []; passed = false }; loops = record { around = 0; passed = false } }

abbrev s13 : State
s13 = record { scopes = ((2, false) ∷ []) ∷ ((1, false) ∷ (0, true) ∷ []) ∷ []; frames = (record { is_typedef = false; has_type = true; held = Some 2; direct = true; parameters = [] }) ∷ (record { is_typedef = false; has_type = true; held = Some 1; direct = false; parameters = [] }) ∷ []; unary = false; dangling = false; nesting = record { depth = 1; deepest = 3 ∷ 1 ∷ []; passed = false }; loops = record { around = 0; passed = false } }

abbrev s14 : State
s14 = record { scopes = ((2, false) ∷ []) ∷ ((1, false) ∷ (0, true) ∷ []) ∷ []; frames = (record { is_typedef = false; has_type = true; held = Some 1; direct = false; parameters = [] }) ∷ []; unary = false; dangling = false; nesting = record { depth = 3; deepest = 0 ∷ 0 ∷ 0 ∷ 3 ∷ 1 ∷ []; passed = false }; loops = record { around = 0; passed = false } }

abbrev s15 : State
s15 = record { scopes = ((2, false) ∷ []) ∷ ((1, false) ∷ (0, true) ∷ []) ∷ []; frames = (record { is_typedef = false; has_type = false; held = None; direct = false; parameters = [] }) ∷ (record { is_typedef = false; has_type = true; held = Some 1; direct = false; parameters = [] }) ∷ []; unary = false; dangling = false; nesting = record { depth = 3; deepest = 3 ∷ 0 ∷ 0 ∷ 3 ∷ 1 ∷ []; passed = false }; loops = record { around = 0; passed = false } }

abbrev s16 : State
s16 = record { scopes = ((2, false) ∷ []) ∷ ((1, false) ∷ (0, true) ∷ []) ∷ []; frames = (record { is_typedef = false; has_type = true; held = Some 1; direct = false; parameters = [] }) ∷ []; unary = false; dangling = false; nesting = record { depth = 3; deepest = 3 ∷ 0 ∷ 0 ∷ 3 ∷ 1 ∷ []; passed = false }; loops = record { around = 0; passed = false } }

abbrev s17 : State
s17 = record { scopes = ((2, false) ∷ []) ∷ ((1, false) ∷ (0, true) ∷ []) ∷ []; frames = (record { is_typedef = false; has_type = true; held = Some 1; direct = false; parameters = [] }) ∷ []; unary = false; dangling = false; nesting = record { depth = 4; deepest = 0 ∷ 3 ∷ 0 ∷ 0 ∷ 3 ∷ 1 ∷ []; passed = false }; loops = record { around = 0; passed = false } }

abbrev s18 : State
s18 = record { scopes = ((2, false) ∷ []) ∷ ((1, false) ∷ (0, true) ∷ []) ∷ []; frames = (record { is_typedef = false; has_type = true; held = Some 1; direct = false; parameters = [] }) ∷ []; unary = false; dangling = false; nesting = record { depth = 5; deepest = 0 ∷ 4 ∷ 3 ∷ 0 ∷ 0 ∷ 3 ∷ 1 ∷ []; passed = false }; loops = record { around = 0; passed = false } }

abbrev s19 : State
s19 = record { scopes = ((2, false) ∷ []) ∷ ((1, false) ∷ (0, true) ∷ []) ∷ []; frames = (record { is_typedef = false; has_type = true; held = Some 1; direct = false; parameters = [] }) ∷ []; unary = false; dangling = false; nesting = record { depth = 2; deepest = 5 ∷ 3 ∷ 1 ∷ []; passed = false }; loops = record { around = 0; passed = false } }

abbrev s20 : State
s20 = record { scopes = ((2, false) ∷ []) ∷ ((1, false) ∷ (0, true) ∷ []) ∷ []; frames = (record { is_typedef = false; has_type = true; held = Some 1; direct = false; parameters = [] }) ∷ []; unary = false; dangling = false; nesting = record { depth = 1; deepest = 5 ∷ 1 ∷ []; passed = false }; loops = record { around = 0; passed = false } }

abbrev s21 : State
s21 = record { scopes = ((1, false) ∷ (0, true) ∷ []) ∷ []; frames = []; unary = false; dangling = false; nesting = record { depth = 0; deepest = 5 ∷ []; passed = false }; loops = record { around = 0; passed = false } }

abbrev pub last : State
last = record { scopes = ((1, false) ∷ (0, true) ∷ []) ∷ []; frames = []; unary = false; dangling = false; nesting = record { depth = 0; deepest = 5 ∷ []; passed = false }; loops = record { around = 0; passed = false } }

abbrev pub tokens : List Lexeme
tokens = u0 ∷ u1 ∷ u2 ∷ u3 ∷ u4 ∷ u5 ∷ u6 ∷ u7 ∷ u8 ∷ u9 ∷ u10 ∷ u11 ∷ u12 ∷ u13 ∷ u14 ∷ u15 ∷ u16 ∷ u17 ∷ u18 ∷ u19 ∷ u20 ∷ u21 ∷ u22 ∷ []

pub derived : Derives (nt Sym.File tt v27 ∷ []) start tokens last
derived =
    Derives.by (Rule.file v27 u22) (
    Derives.by (Rule.more_externals (xd.Declaration v7) [] v27) (
    Derives.by (Rule.external_declaration v7) (
    Derives.by (Rule.declaration v0 v5 u3) (
    Derives.acted (
    Derives.by (Rule.specifiers v3 v0) (
    Derives.by (Rule.specifier (sk.Plain (word_of u0)) u0) (
    Derives.seen (
    Derives.by (Rule.typedef u0) (
    Derives.token {s = s0} refl (
    Derives.by (Rule.more_specifiers v1 v2 v0) (
    Derives.by (Rule.specifier (sk.Plain (word_of u1)) u1) (
    Derives.seen (
    Derives.by (Rule.type_word u1) (
    Derives.token {s = s1} refl (
    Derives.by (Rule.last_specifier v0) (
    Derives.by (Rule.init_declarators v6 v5) (
    Derives.by (Rule.init_declarator v4 None) (
    Derives.by (Rule.plain_declarator Mode.concrete (t.direct_name u2 []) u2) (
    Derives.seen (
    Derives.acted (
    Derives.by (Rule.named Mode.concrete [] u2 refl) (
    Derives.token {s = s2} refl (
    Derives.by (Rule.last_part []) (
    Derives.acted (
    Derives.acted (
    Derives.by Rule.no_initial (
    Derives.by (Rule.last_init_declarator v5) (
    Derives.token {s = s3} refl (
    Derives.acted (
    Derives.by (Rule.more_externals v28 v29 v27) (
    Derives.by (Rule.function v8 v26 v22 u9) (
    Derives.acted (
    Derives.by (Rule.specifiers v9 v8) (
    Derives.by (Rule.specifier (sk.Plain (word_of u4)) u4) (
    Derives.seen (
    Derives.by (Rule.type_word u4) (
    Derives.token {s = s4} refl (
    Derives.by (Rule.last_specifier v8) (
    Derives.by (Rule.plain_declarator Mode.concrete (t.direct_name u5 v10) u5) (
    Derives.seen (
    Derives.acted (
    Derives.by (Rule.named Mode.concrete v10 u5 refl) (
    Derives.token {s = s5} refl (
    Derives.by (Rule.more_parts v11 [] v10) (
    Derives.by (Rule.parameters ([], None) u6 u8) (
    Derives.token {s = s6} refl (
    Derives.acted (
    Derives.by (Rule.void_alone u7) (
    Derives.token {s = s7} refl (
    Derives.token {s = s7} refl (
    Derives.acted (
    Derives.by (Rule.last_part v10) (
    Derives.acted (
    Derives.acted (
    Derives.acted (
    Derives.seen (
    Derives.acted (
    Derives.by (Rule.block v22 u9 u21) (
    Derives.token {s = s8} refl (
    Derives.by (Rule.block_declaration v25 [] v22) (
    Derives.by (Rule.declaration v13 v16 u14) (
    Derives.acted (
    Derives.by (Rule.specifiers (t.spec_word u10 v12) v13) (
    Derives.by (Rule.specifier v12 u10) (
    Derives.seen (
    Derives.by (Rule.typedef_name u10) (
    Derives.token {s = s9} refl (
    Derives.by (Rule.last_specifier v13) (
    Derives.by (Rule.init_declarators v17 v16) (
    Derives.by (Rule.init_declarator v15 None) (
    Derives.by (Rule.plain_declarator Mode.concrete (t.direct_nested v14 []) u11) (
    Derives.seen (
    Derives.acted (
    Derives.by (Rule.nested Mode.concrete v14 [] u11 u13) (
    Derives.token {s = s10} refl (
    Derives.acted (
    Derives.by (Rule.plain_declarator Mode.concrete (t.direct_name u12 []) u12) (
    Derives.seen (
    Derives.acted (
    Derives.by (Rule.named Mode.concrete [] u12 refl) (
    Derives.token {s = s11} refl (
    Derives.by (Rule.last_part []) (
    Derives.acted (
    Derives.token {s = s12} refl (
    Derives.by (Rule.last_part []) (
    Derives.acted (
    Derives.acted (
    Derives.by Rule.no_initial (
    Derives.by (Rule.last_init_declarator v16) (
    Derives.token {s = s13} refl (
    Derives.acted (
    Derives.by (Rule.block_statement v23 v24 v22) (
    Derives.by (Rule.statement (st.Plain (Some v21)) u15) (
    Derives.seen (
    Derives.acted (
    Derives.by (Rule.plain_statement (Some v21) u20) (
    Derives.by (Rule.some_expression v21) (
    Derives.by (Rule.expressions v21 v21) (
    Derives.acted (
    Derives.by (Rule.assignment v21 v21) (
    Derives.by (Rule.conditional v21 v21) (
    Derives.by (Rule.level 9 v21 v21) (
    Derives.by (Rule.level 8 v21 v21) (
    Derives.by (Rule.level 7 v21 v21) (
    Derives.by (Rule.level 6 v21 v21) (
    Derives.by (Rule.level 5 v21 v21) (
    Derives.by (Rule.level 4 v21 v21) (
    Derives.by (Rule.level 3 v21 v21) (
    Derives.by (Rule.level 2 v21 v21) (
    Derives.by (Rule.level 1 v21 v21) (
    Derives.by (Rule.level 0 v21 v21) (
    Derives.by (Rule.cast_alone v21) (
    Derives.by (Rule.cast (t.type_name v19 None) (t.applied u18 v20) u15) (
    Derives.seen (
    Derives.acted (
    Derives.by (Rule.type_in_parentheses (t.type_name v19 None) u15 u17) (
    Derives.token {s = s14} refl (
    Derives.by (Rule.type_name v19 None) (
    Derives.acted (
    Derives.by (Rule.specifiers (t.spec_word u16 v18) v19) (
    Derives.by (Rule.specifier v18 u16) (
    Derives.seen (
    Derives.by (Rule.typedef_name u16) (
    Derives.token {s = s15} refl (
    Derives.by (Rule.last_specifier v19) (
    Derives.by (Rule.no_declarator Mode.abstract) (
    Derives.acted (
    Derives.token {s = s16} refl (
    Derives.by (Rule.unary_alone (t.applied u18 v20)) (
    Derives.by (Rule.unary v20 u18) (
    Derives.acted (
    Derives.token {s = s17} refl (
    Derives.by (Rule.unary_alone v20) (
    Derives.by (Rule.postfix_alone v20) (
    Derives.by (Rule.postfix v20 v20) (
    Derives.by (Rule.number u19) (
    Derives.acted (
    Derives.token {s = s18} refl (
    Derives.acted (
    Derives.by (Rule.no_postfix v20) (
    Derives.acted (
    Derives.acted (
    Derives.acted (
    Derives.acted (
    Derives.by (Rule.last_operand 0 v21) (
    Derives.by (Rule.last_operand 1 v21) (
    Derives.by (Rule.last_operand 2 v21) (
    Derives.by (Rule.last_operand 3 v21) (
    Derives.by (Rule.last_operand 4 v21) (
    Derives.by (Rule.last_operand 5 v21) (
    Derives.by (Rule.last_operand 6 v21) (
    Derives.by (Rule.last_operand 7 v21) (
    Derives.by (Rule.last_operand 8 v21) (
    Derives.by (Rule.last_operand 9 v21) (
    Derives.by (Rule.no_choice v21) (
    Derives.by (Rule.not_assigned v21) (
    Derives.by (Rule.last_expression v21) (
    Derives.acted (
    Derives.token {s = s19} refl (
    Derives.acted (
    Derives.by (Rule.last_block_item v22) (
    Derives.token {s = s20} refl (
    Derives.acted (
    Derives.acted (
    Derives.acted (
    Derives.by (Rule.last_external v27) (
    Derives.token {s = s21} refl (
    Derives.done))))))))))))))))))))))))))))))))))))))))))))))))))))))))))))))))))))))))))))))))))))))))))))))))))))))))))))))))))))))))))))))))))))))))))))))))))))))))))))))))))))))))
