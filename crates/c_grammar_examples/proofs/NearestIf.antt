-- A derivation, written by a script: the tokens, the values, the states before tokens, and the steps.
use Rattle.std.proofs.Common.{true, false, List, [], ◌∷◌, None, Some, refl}
use Rattle.c_tree.specs.declared.declarator.DeclPart.{DeclPart}
use Rattle.c_tree.specs.declared.expression.Expr.{Expr}
use Rattle.c_tree.specs.declared.expression.ExprKind.TheVariants as e
use Rattle.c_tree.specs.declared.lexeme.Lexeme.{Lexeme}
use Rattle.c_tree.specs.declared.lexeme.LexemeKind.TheVariants as k
use Rattle.c_tree.specs.declared.specifier.SpecKind.TheVariants as sk
use Rattle.c_tree.specs.declared.specifier.SpecWord.{SpecWord}
use Rattle.c_tree.specs.declared.statement.BlockItem.{BlockItem}
use Rattle.c_tree.specs.declared.statement.BlockItem.TheVariants as bi
use Rattle.c_tree.specs.declared.statement.Statement.{Statement}
use Rattle.c_tree.specs.declared.statement.StatementKind.TheVariants as st
use Rattle.c_tree.specs.declared.tree.Item.{Item as External}
use Rattle.c_tree.specs.declared.tree.Item.TheVariants as xd
use Rattle.c_grammar.specs.Marks as m
use Rattle.c_grammar.specs.Words as d
use Rattle.c_grammar.specs.Derives.{Derives}
use Rattle.c_grammar.specs.Items.{Mode, Sym, nt}
use Rattle.c_grammar.specs.Productions.{Rule}
use Rattle.c_grammar.specs.State.{State, start}
use Rattle.c_grammar.specs.Tokens.{name_of, word_of}
use Rattle.c_grammar.specs.Trees as t
use Rattle.c_grammar.specs.Trees.{Direct, Declared, expression}
use Rattle.c_grammar_examples.specs.Rows.{lexeme}

abbrev pub u0 : Lexeme
u0 = lexeme 0 (k.Word d.void_word)

abbrev pub u1 : Lexeme
u1 = lexeme 1 (k.Name 0)

abbrev pub u2 : Lexeme
u2 = lexeme 2 (k.Mark m.left_parenthesis)

abbrev pub u3 : Lexeme
u3 = lexeme 3 (k.Word d.void_word)

abbrev pub u4 : Lexeme
u4 = lexeme 4 (k.Mark m.right_parenthesis)

abbrev pub u5 : Lexeme
u5 = lexeme 5 (k.Mark m.left_brace)

abbrev pub u6 : Lexeme
u6 = lexeme 6 (k.Word d.if_word)

abbrev pub u7 : Lexeme
u7 = lexeme 7 (k.Mark m.left_parenthesis)

abbrev pub u8 : Lexeme
u8 = lexeme 8 (k.Name 1)

abbrev pub u9 : Lexeme
u9 = lexeme 9 (k.Mark m.right_parenthesis)

abbrev pub u10 : Lexeme
u10 = lexeme 10 (k.Word d.if_word)

abbrev pub u11 : Lexeme
u11 = lexeme 11 (k.Mark m.left_parenthesis)

abbrev pub u12 : Lexeme
u12 = lexeme 12 (k.Name 2)

abbrev pub u13 : Lexeme
u13 = lexeme 13 (k.Mark m.right_parenthesis)

abbrev pub u14 : Lexeme
u14 = lexeme 14 (k.Name 3)

abbrev pub u15 : Lexeme
u15 = lexeme 15 (k.Mark m.semicolon)

abbrev pub u16 : Lexeme
u16 = lexeme 16 (k.Word d.else_word)

abbrev pub u17 : Lexeme
u17 = lexeme 17 (k.Name 4)

abbrev pub u18 : Lexeme
u18 = lexeme 18 (k.Mark m.semicolon)

abbrev pub u19 : Lexeme
u19 = lexeme 19 (k.Mark m.right_brace)

abbrev pub u20 : Lexeme
u20 = lexeme 20 k.End

abbrev v0 : List SpecWord
v0 = (t.spec_word u0 (sk.Plain (word_of u0))) ∷ []

abbrev v1 : SpecWord
v1 = t.spec_word u0 (sk.Plain (word_of u0))

abbrev v2 : List DeclPart
v2 = (t.parameters_part u2 ([], None)) ∷ []

abbrev v3 : DeclPart
v3 = t.parameters_part u2 ([], None)

abbrev v4 : Expr
v4 = expression u8 (e.Name (name_of u8))

abbrev v5 : Expr
v5 = expression u12 (e.Name (name_of u12))

abbrev v6 : Expr
v6 = expression u14 (e.Name (name_of u14))

abbrev v7 : Statement
v7 = t.statement u14 (st.Plain (Some v6))

abbrev v8 : Expr
v8 = expression u17 (e.Name (name_of u17))

abbrev v9 : Statement
v9 = t.statement u17 (st.Plain (Some v8))

abbrev v10 : Statement
v10 = t.statement u10 (st.If v5 v7 (Some v9))

abbrev v11 : List BlockItem
v11 = (bi.Statement (t.statement u6 (st.If v4 v10 None))) ∷ []

abbrev v12 : Statement
v12 = t.statement u6 (st.If v4 v10 None)

abbrev v13 : Declared
v13 = t.declarator u1 [] (t.direct_name u1 v2)

abbrev v14 : List External
v14 = (xd.Function v0 v13.tree (t.statement u5 (st.Compound v11))) ∷ []

abbrev v15 : External
v15 = xd.Function v0 v13.tree (t.statement u5 (st.Compound v11))

abbrev s0 : State
s0 = record { scopes = [] ∷ []; frames = (record { is_typedef = false; has_type = false; held = None; direct = false; parameters = [] }) ∷ []; unary = false; dangling = false; nesting = record { depth = 0; deepest = 0 ∷ []; passed = false }; loops = record { around = 0; passed = false } }

abbrev s1 : State
s1 = record { scopes = [] ∷ []; frames = (record { is_typedef = false; has_type = true; held = None; direct = false; parameters = [] }) ∷ []; unary = false; dangling = false; nesting = record { depth = 1; deepest = 0 ∷ 0 ∷ []; passed = false }; loops = record { around = 0; passed = false } }

abbrev s2 : State
s2 = record { scopes = [] ∷ []; frames = (record { is_typedef = false; has_type = true; held = Some 0; direct = true; parameters = [] }) ∷ []; unary = false; dangling = false; nesting = record { depth = 1; deepest = 1 ∷ 0 ∷ []; passed = false }; loops = record { around = 0; passed = false } }

abbrev s3 : State
s3 = record { scopes = [] ∷ [] ∷ []; frames = (record { is_typedef = false; has_type = true; held = Some 0; direct = true; parameters = [] }) ∷ []; unary = false; dangling = false; nesting = record { depth = 1; deepest = 1 ∷ 0 ∷ []; passed = false }; loops = record { around = 0; passed = false } }

abbrev s4 : State
s4 = record { scopes = [] ∷ ((0, false) ∷ []) ∷ []; frames = (record { is_typedef = false; has_type = true; held = Some 0; direct = false; parameters = [] }) ∷ []; unary = false; dangling = false; nesting = record { depth = 1; deepest = 0 ∷ 1 ∷ []; passed = false }; loops = record { around = 0; passed = false } }

abbrev s5 : State
s5 = record { scopes = [] ∷ ((0, false) ∷ []) ∷ []; frames = (record { is_typedef = false; has_type = true; held = Some 0; direct = false; parameters = [] }) ∷ []; unary = false; dangling = false; nesting = record { depth = 2; deepest = 0 ∷ 1 ∷ 1 ∷ []; passed = false }; loops = record { around = 0; passed = false } }

abbrev s6 : State
s6 = record { scopes = [] ∷ [] ∷ ((0, false) ∷ []) ∷ []; frames = (record { is_typedef = false; has_type = true; held = Some 0; direct = false; parameters = [] }) ∷ []; unary = false; dangling = false; nesting = record { depth = 2; deepest = 2 ∷ 1 ∷ 1 ∷ []; passed = false }; loops = record { around = 0; passed = false } }

abbrev s7 : State
s7 = record { scopes = [] ∷ [] ∷ ((0, false) ∷ []) ∷ []; frames = (record { is_typedef = false; has_type = true; held = Some 0; direct = false; parameters = [] }) ∷ []; unary = false; dangling = false; nesting = record { depth = 3; deepest = 0 ∷ 0 ∷ 2 ∷ 1 ∷ 1 ∷ []; passed = false }; loops = record { around = 0; passed = false } }

abbrev s8 : State
s8 = record { scopes = [] ∷ [] ∷ ((0, false) ∷ []) ∷ []; frames = (record { is_typedef = false; has_type = true; held = Some 0; direct = false; parameters = [] }) ∷ []; unary = true; dangling = false; nesting = record { depth = 2; deepest = 3 ∷ 1 ∷ 1 ∷ []; passed = false }; loops = record { around = 0; passed = false } }

abbrev s9 : State
s9 = record { scopes = [] ∷ [] ∷ [] ∷ ((0, false) ∷ []) ∷ []; frames = (record { is_typedef = false; has_type = true; held = Some 0; direct = false; parameters = [] }) ∷ []; unary = true; dangling = false; nesting = record { depth = 3; deepest = 0 ∷ 3 ∷ 1 ∷ 1 ∷ []; passed = false }; loops = record { around = 0; passed = false } }

abbrev s10 : State
s10 = record { scopes = [] ∷ [] ∷ [] ∷ [] ∷ ((0, false) ∷ []) ∷ []; frames = (record { is_typedef = false; has_type = true; held = Some 0; direct = false; parameters = [] }) ∷ []; unary = true; dangling = false; nesting = record { depth = 3; deepest = 3 ∷ 3 ∷ 1 ∷ 1 ∷ []; passed = false }; loops = record { around = 0; passed = false } }

abbrev s11 : State
s11 = record { scopes = [] ∷ [] ∷ [] ∷ [] ∷ ((0, false) ∷ []) ∷ []; frames = (record { is_typedef = false; has_type = true; held = Some 0; direct = false; parameters = [] }) ∷ []; unary = true; dangling = false; nesting = record { depth = 4; deepest = 0 ∷ 0 ∷ 3 ∷ 3 ∷ 1 ∷ 1 ∷ []; passed = false }; loops = record { around = 0; passed = false } }

abbrev s12 : State
s12 = record { scopes = [] ∷ [] ∷ [] ∷ [] ∷ ((0, false) ∷ []) ∷ []; frames = (record { is_typedef = false; has_type = true; held = Some 0; direct = false; parameters = [] }) ∷ []; unary = true; dangling = false; nesting = record { depth = 3; deepest = 4 ∷ 3 ∷ 1 ∷ 1 ∷ []; passed = false }; loops = record { around = 0; passed = false } }

abbrev s13 : State
s13 = record { scopes = [] ∷ [] ∷ [] ∷ [] ∷ [] ∷ ((0, false) ∷ []) ∷ []; frames = (record { is_typedef = false; has_type = true; held = Some 0; direct = false; parameters = [] }) ∷ []; unary = true; dangling = false; nesting = record { depth = 5; deepest = 0 ∷ 0 ∷ 0 ∷ 4 ∷ 3 ∷ 1 ∷ 1 ∷ []; passed = false }; loops = record { around = 0; passed = false } }

abbrev s14 : State
s14 = record { scopes = [] ∷ [] ∷ [] ∷ [] ∷ [] ∷ ((0, false) ∷ []) ∷ []; frames = (record { is_typedef = false; has_type = true; held = Some 0; direct = false; parameters = [] }) ∷ []; unary = true; dangling = false; nesting = record { depth = 4; deepest = 5 ∷ 4 ∷ 3 ∷ 1 ∷ 1 ∷ []; passed = false }; loops = record { around = 0; passed = false } }

abbrev s15 : State
s15 = record { scopes = [] ∷ [] ∷ [] ∷ [] ∷ ((0, false) ∷ []) ∷ []; frames = (record { is_typedef = false; has_type = true; held = Some 0; direct = false; parameters = [] }) ∷ []; unary = true; dangling = false; nesting = record { depth = 3; deepest = 5 ∷ 3 ∷ 1 ∷ 1 ∷ []; passed = false }; loops = record { around = 0; passed = false } }

abbrev s16 : State
s16 = record { scopes = [] ∷ [] ∷ [] ∷ [] ∷ [] ∷ ((0, false) ∷ []) ∷ []; frames = (record { is_typedef = false; has_type = true; held = Some 0; direct = false; parameters = [] }) ∷ []; unary = true; dangling = false; nesting = record { depth = 5; deepest = 0 ∷ 0 ∷ 0 ∷ 5 ∷ 3 ∷ 1 ∷ 1 ∷ []; passed = false }; loops = record { around = 0; passed = false } }

abbrev s17 : State
s17 = record { scopes = [] ∷ [] ∷ [] ∷ [] ∷ [] ∷ ((0, false) ∷ []) ∷ []; frames = (record { is_typedef = false; has_type = true; held = Some 0; direct = false; parameters = [] }) ∷ []; unary = true; dangling = false; nesting = record { depth = 4; deepest = 5 ∷ 5 ∷ 3 ∷ 1 ∷ 1 ∷ []; passed = false }; loops = record { around = 0; passed = false } }

abbrev s18 : State
s18 = record { scopes = [] ∷ ((0, false) ∷ []) ∷ []; frames = (record { is_typedef = false; has_type = true; held = Some 0; direct = false; parameters = [] }) ∷ []; unary = true; dangling = true; nesting = record { depth = 1; deepest = 5 ∷ 1 ∷ []; passed = false }; loops = record { around = 0; passed = false } }

abbrev s19 : State
s19 = record { scopes = ((0, false) ∷ []) ∷ []; frames = []; unary = true; dangling = false; nesting = record { depth = 0; deepest = 5 ∷ []; passed = false }; loops = record { around = 0; passed = false } }

abbrev pub last : State
last = record { scopes = ((0, false) ∷ []) ∷ []; frames = []; unary = true; dangling = false; nesting = record { depth = 0; deepest = 5 ∷ []; passed = false }; loops = record { around = 0; passed = false } }

abbrev pub tokens : List Lexeme
tokens = u0 ∷ u1 ∷ u2 ∷ u3 ∷ u4 ∷ u5 ∷ u6 ∷ u7 ∷ u8 ∷ u9 ∷ u10 ∷ u11 ∷ u12 ∷ u13 ∷ u14 ∷ u15 ∷ u16 ∷ u17 ∷ u18 ∷ u19 ∷ u20 ∷ []

pub derived : Derives (nt Sym.File tt v14 ∷ []) start tokens last
derived =
    Derives.by (Rule.file v14 u20) (
    Derives.by (Rule.more_externals v15 [] v14) (
    Derives.by (Rule.function v0 v13 v11 u5) (
    Derives.acted (
    Derives.by (Rule.specifiers v1 v0) (
    Derives.by (Rule.specifier (sk.Plain (word_of u0)) u0) (
    Derives.seen (
    Derives.by (Rule.type_word u0) (
    Derives.token {s = s0} refl (
    Derives.by (Rule.last_specifier v0) (
    Derives.by (Rule.plain_declarator Mode.concrete (t.direct_name u1 v2) u1) (
    Derives.seen (
    Derives.acted (
    Derives.by (Rule.named Mode.concrete v2 u1 refl) (
    Derives.token {s = s1} refl (
    Derives.by (Rule.more_parts v3 [] v2) (
    Derives.by (Rule.parameters ([], None) u2 u4) (
    Derives.token {s = s2} refl (
    Derives.acted (
    Derives.by (Rule.void_alone u3) (
    Derives.token {s = s3} refl (
    Derives.token {s = s3} refl (
    Derives.acted (
    Derives.by (Rule.last_part v2) (
    Derives.acted (
    Derives.acted (
    Derives.acted (
    Derives.seen (
    Derives.acted (
    Derives.by (Rule.block v11 u5 u19) (
    Derives.token {s = s4} refl (
    Derives.by (Rule.block_statement v12 [] v11) (
    Derives.by (Rule.statement (st.If v4 v10 None) u6) (
    Derives.seen (
    Derives.acted (
    Derives.by (Rule.if v4 v10 None u6) (
    Derives.token {s = s5} refl (
    Derives.acted (
    Derives.by (Rule.condition v4 u7 u9) (
    Derives.token {s = s6} refl (
    Derives.by (Rule.expressions v4 v4) (
    Derives.acted (
    Derives.by (Rule.assignment v4 v4) (
    Derives.by (Rule.conditional v4 v4) (
    Derives.by (Rule.level 9 v4 v4) (
    Derives.by (Rule.level 8 v4 v4) (
    Derives.by (Rule.level 7 v4 v4) (
    Derives.by (Rule.level 6 v4 v4) (
    Derives.by (Rule.level 5 v4 v4) (
    Derives.by (Rule.level 4 v4 v4) (
    Derives.by (Rule.level 3 v4 v4) (
    Derives.by (Rule.level 2 v4 v4) (
    Derives.by (Rule.level 1 v4 v4) (
    Derives.by (Rule.level 0 v4 v4) (
    Derives.by (Rule.cast_alone v4) (
    Derives.by (Rule.unary_alone v4) (
    Derives.by (Rule.postfix_alone v4) (
    Derives.by (Rule.postfix v4 v4) (
    Derives.by (Rule.name u8) (
    Derives.acted (
    Derives.token {s = s7} refl (
    Derives.acted (
    Derives.by (Rule.no_postfix v4) (
    Derives.by (Rule.last_operand 0 v4) (
    Derives.by (Rule.last_operand 1 v4) (
    Derives.by (Rule.last_operand 2 v4) (
    Derives.by (Rule.last_operand 3 v4) (
    Derives.by (Rule.last_operand 4 v4) (
    Derives.by (Rule.last_operand 5 v4) (
    Derives.by (Rule.last_operand 6 v4) (
    Derives.by (Rule.last_operand 7 v4) (
    Derives.by (Rule.last_operand 8 v4) (
    Derives.by (Rule.last_operand 9 v4) (
    Derives.by (Rule.no_choice v4) (
    Derives.by (Rule.not_assigned v4) (
    Derives.by (Rule.last_expression v4) (
    Derives.acted (
    Derives.token {s = s8} refl (
    Derives.by (Rule.substatement v10) (
    Derives.acted (
    Derives.by (Rule.statement (st.If v5 v7 (Some v9)) u10) (
    Derives.seen (
    Derives.acted (
    Derives.by (Rule.if v5 v7 (Some v9) u10) (
    Derives.token {s = s9} refl (
    Derives.acted (
    Derives.by (Rule.condition v5 u11 u13) (
    Derives.token {s = s10} refl (
    Derives.by (Rule.expressions v5 v5) (
    Derives.acted (
    Derives.by (Rule.assignment v5 v5) (
    Derives.by (Rule.conditional v5 v5) (
    Derives.by (Rule.level 9 v5 v5) (
    Derives.by (Rule.level 8 v5 v5) (
    Derives.by (Rule.level 7 v5 v5) (
    Derives.by (Rule.level 6 v5 v5) (
    Derives.by (Rule.level 5 v5 v5) (
    Derives.by (Rule.level 4 v5 v5) (
    Derives.by (Rule.level 3 v5 v5) (
    Derives.by (Rule.level 2 v5 v5) (
    Derives.by (Rule.level 1 v5 v5) (
    Derives.by (Rule.level 0 v5 v5) (
    Derives.by (Rule.cast_alone v5) (
    Derives.by (Rule.unary_alone v5) (
    Derives.by (Rule.postfix_alone v5) (
    Derives.by (Rule.postfix v5 v5) (
    Derives.by (Rule.name u12) (
    Derives.acted (
    Derives.token {s = s11} refl (
    Derives.acted (
    Derives.by (Rule.no_postfix v5) (
    Derives.by (Rule.last_operand 0 v5) (
    Derives.by (Rule.last_operand 1 v5) (
    Derives.by (Rule.last_operand 2 v5) (
    Derives.by (Rule.last_operand 3 v5) (
    Derives.by (Rule.last_operand 4 v5) (
    Derives.by (Rule.last_operand 5 v5) (
    Derives.by (Rule.last_operand 6 v5) (
    Derives.by (Rule.last_operand 7 v5) (
    Derives.by (Rule.last_operand 8 v5) (
    Derives.by (Rule.last_operand 9 v5) (
    Derives.by (Rule.no_choice v5) (
    Derives.by (Rule.not_assigned v5) (
    Derives.by (Rule.last_expression v5) (
    Derives.acted (
    Derives.token {s = s12} refl (
    Derives.by (Rule.substatement v7) (
    Derives.acted (
    Derives.by (Rule.statement (st.Plain (Some v6)) u14) (
    Derives.seen (
    Derives.acted (
    Derives.by (Rule.plain_statement (Some v6) u15) (
    Derives.by (Rule.some_expression v6) (
    Derives.by (Rule.expressions v6 v6) (
    Derives.acted (
    Derives.by (Rule.assignment v6 v6) (
    Derives.by (Rule.conditional v6 v6) (
    Derives.by (Rule.level 9 v6 v6) (
    Derives.by (Rule.level 8 v6 v6) (
    Derives.by (Rule.level 7 v6 v6) (
    Derives.by (Rule.level 6 v6 v6) (
    Derives.by (Rule.level 5 v6 v6) (
    Derives.by (Rule.level 4 v6 v6) (
    Derives.by (Rule.level 3 v6 v6) (
    Derives.by (Rule.level 2 v6 v6) (
    Derives.by (Rule.level 1 v6 v6) (
    Derives.by (Rule.level 0 v6 v6) (
    Derives.by (Rule.cast_alone v6) (
    Derives.by (Rule.unary_alone v6) (
    Derives.by (Rule.postfix_alone v6) (
    Derives.by (Rule.postfix v6 v6) (
    Derives.by (Rule.name u14) (
    Derives.acted (
    Derives.token {s = s13} refl (
    Derives.acted (
    Derives.by (Rule.no_postfix v6) (
    Derives.by (Rule.last_operand 0 v6) (
    Derives.by (Rule.last_operand 1 v6) (
    Derives.by (Rule.last_operand 2 v6) (
    Derives.by (Rule.last_operand 3 v6) (
    Derives.by (Rule.last_operand 4 v6) (
    Derives.by (Rule.last_operand 5 v6) (
    Derives.by (Rule.last_operand 6 v6) (
    Derives.by (Rule.last_operand 7 v6) (
    Derives.by (Rule.last_operand 8 v6) (
    Derives.by (Rule.last_operand 9 v6) (
    Derives.by (Rule.no_choice v6) (
    Derives.by (Rule.not_assigned v6) (
    Derives.by (Rule.last_expression v6) (
    Derives.acted (
    Derives.token {s = s14} refl (
    Derives.acted (
    Derives.acted (
    Derives.by (Rule.else v9 u16) (
    Derives.token {s = s15} refl (
    Derives.by (Rule.substatement v9) (
    Derives.acted (
    Derives.by (Rule.statement (st.Plain (Some v8)) u17) (
    Derives.seen (
    Derives.acted (
    Derives.by (Rule.plain_statement (Some v8) u18) (
    Derives.by (Rule.some_expression v8) (
    Derives.by (Rule.expressions v8 v8) (
    Derives.acted (
    Derives.by (Rule.assignment v8 v8) (
    Derives.by (Rule.conditional v8 v8) (
    Derives.by (Rule.level 9 v8 v8) (
    Derives.by (Rule.level 8 v8 v8) (
    Derives.by (Rule.level 7 v8 v8) (
    Derives.by (Rule.level 6 v8 v8) (
    Derives.by (Rule.level 5 v8 v8) (
    Derives.by (Rule.level 4 v8 v8) (
    Derives.by (Rule.level 3 v8 v8) (
    Derives.by (Rule.level 2 v8 v8) (
    Derives.by (Rule.level 1 v8 v8) (
    Derives.by (Rule.level 0 v8 v8) (
    Derives.by (Rule.cast_alone v8) (
    Derives.by (Rule.unary_alone v8) (
    Derives.by (Rule.postfix_alone v8) (
    Derives.by (Rule.postfix v8 v8) (
    Derives.by (Rule.name u17) (
    Derives.acted (
    Derives.token {s = s16} refl (
    Derives.acted (
    Derives.by (Rule.no_postfix v8) (
    Derives.by (Rule.last_operand 0 v8) (
    Derives.by (Rule.last_operand 1 v8) (
    Derives.by (Rule.last_operand 2 v8) (
    Derives.by (Rule.last_operand 3 v8) (
    Derives.by (Rule.last_operand 4 v8) (
    Derives.by (Rule.last_operand 5 v8) (
    Derives.by (Rule.last_operand 6 v8) (
    Derives.by (Rule.last_operand 7 v8) (
    Derives.by (Rule.last_operand 8 v8) (
    Derives.by (Rule.last_operand 9 v8) (
    Derives.by (Rule.no_choice v8) (
    Derives.by (Rule.not_assigned v8) (
    Derives.by (Rule.last_expression v8) (
    Derives.acted (
    Derives.token {s = s17} refl (
    Derives.acted (
    Derives.acted (
    Derives.acted (
    Derives.acted (
    Derives.acted (
    Derives.by Rule.no_else (
    Derives.acted (
    Derives.acted (
    Derives.acted (
    Derives.by (Rule.last_block_item v11) (
    Derives.token {s = s18} refl (
    Derives.acted (
    Derives.acted (
    Derives.acted (
    Derives.by (Rule.last_external v14) (
    Derives.token {s = s19} refl (
    Derives.done))))))))))))))))))))))))))))))))))))))))))))))))))))))))))))))))))))))))))))))))))))))))))))))))))))))))))))))))))))))))))))))))))))))))))))))))))))))))))))))))))))))))))))))))))))))))))))))))))))))))))))))))))))))))))))))))))))))))))))
