-- A derivation, written by a script: the tokens, the values, the states before tokens, and the steps.
use Rattle.std.proofs.Common.{true, false, List, [], ◌∷◌, None, Some, refl}
use Rattle.c_tree.specs.declared.declarator.DeclPart.{DeclPart}
use Rattle.c_tree.specs.declared.declarator.TypeName.{TypeName}
use Rattle.c_tree.specs.declared.expression.Expr.{Expr}
use Rattle.c_tree.specs.declared.expression.ExprKind.TheVariants as e
use Rattle.c_tree.specs.declared.lexeme.Lexeme.{Lexeme}
use Rattle.c_tree.specs.declared.lexeme.LexemeKind.TheVariants as k
use Rattle.c_tree.specs.declared.specifier.SpecKind.TheVariants as sk
use Rattle.c_tree.specs.declared.specifier.SpecWord.{SpecWord}
use Rattle.c_tree.specs.declared.statement.BlockItem.{BlockItem}
use Rattle.c_tree.specs.declared.statement.BlockItem.TheVariants as bi
use Rattle.c_tree.specs.declared.statement.Statement.{Statement}
use Rattle.c_tree.specs.declared.statement.StatementKind.TheVariants as st
use Rattle.c_tree.specs.declared.tree.Item.{Item as External}
use Rattle.c_tree.specs.declared.tree.Item.TheVariants as xd
use Rattle.c_values.specs.declared.int_type.IntType.TheVariants.{Int}
use Rattle.c_grammar.specs.Marks as m
use Rattle.c_grammar.specs.Words as d
use Rattle.c_grammar.specs.Derives.{Derives}
use Rattle.c_grammar.specs.Items.{Mode, Sym, nt}
use Rattle.c_grammar.specs.Productions.{Rule}
use Rattle.c_grammar.specs.State.{State, start}
use Rattle.c_grammar.specs.Tokens.{word_of}
use Rattle.c_grammar.specs.Trees as t
use Rattle.c_grammar.specs.Trees.{Direct, Declared, expression}
use Rattle.c_grammar_examples.specs.Rows.{lexeme}

abbrev pub u0 : Lexeme
u0 = lexeme 0 (k.Word d.int_word)

abbrev pub u1 : Lexeme
u1 = lexeme 1 (k.Name 0)

abbrev pub u2 : Lexeme
u2 = lexeme 2 (k.Mark m.left_parenthesis)

abbrev pub u3 : Lexeme
u3 = lexeme 3 (k.Word d.void_word)

abbrev pub u4 : Lexeme
u4 = lexeme 4 (k.Mark m.right_parenthesis)

abbrev pub u5 : Lexeme
u5 = lexeme 5 (k.Mark m.left_brace)

abbrev pub u6 : Lexeme
u6 = lexeme 6 (k.Word d.return_word)

abbrev pub u7 : Lexeme
u7 = lexeme 7 (k.Word d.sizeof_word)

abbrev pub u8 : Lexeme
u8 = lexeme 8 (k.Mark m.left_parenthesis)

abbrev pub u9 : Lexeme
u9 = lexeme 9 (k.Word d.int_word)

abbrev pub u10 : Lexeme
u10 = lexeme 10 (k.Mark m.right_parenthesis)

abbrev pub u11 : Lexeme
u11 = lexeme 11 (k.Mark m.plus)

abbrev pub u12 : Lexeme
u12 = lexeme 12 (k.Number 1 Int)

abbrev pub u13 : Lexeme
u13 = lexeme 13 (k.Mark m.semicolon)

abbrev pub u14 : Lexeme
u14 = lexeme 14 (k.Mark m.right_brace)

abbrev pub u15 : Lexeme
u15 = lexeme 15 k.End

abbrev v0 : SpecWord
v0 = t.spec_word u0 (sk.Plain (word_of u0))

abbrev v1 : List SpecWord
v1 = v0 ∷ []

abbrev v2 : DeclPart
v2 = t.parameters_part u2 ([], None)

abbrev v3 : List DeclPart
v3 = v2 ∷ []

abbrev v4 : Direct
v4 = t.direct_name u1 v3

abbrev v5 : Declared
v5 = t.declarator u1 [] v4

abbrev v6 : SpecWord
v6 = t.spec_word u9 (sk.Plain (word_of u9))

abbrev v7 : List SpecWord
v7 = v6 ∷ []

abbrev v8 : TypeName
v8 = t.type_name v7 None

abbrev v9 : Expr
v9 = expression u7 (e.SizeOfName v8)

abbrev v10 : Expr
v10 = expression u12 (t.constant_in u12.kind)

abbrev v11 : Expr
v11 = t.joined u11 v9 v10

abbrev v12 : Statement
v12 = t.statement u6 (st.Return (Some v11))

abbrev v13 : List BlockItem
v13 = (bi.Statement v12) ∷ []

abbrev v14 : External
v14 = xd.Function v1 v5.tree (t.statement u5 (st.Compound v13))

abbrev v15 : List External
v15 = v14 ∷ []

abbrev s0 : State
s0 = record { scopes = [] ∷ []; frames = (record { is_typedef = false; has_type = false; held = None; direct = false; parameters = [] }) ∷ []; unary = false; dangling = false; nesting = record { depth = 0; deepest = 0 ∷ []; passed = false }; loops = record { around = 0; passed = false } }

abbrev s1 : State
s1 = record { scopes = [] ∷ []; frames = (record { is_typedef = false; has_type = true; held = None; direct = false; parameters = [] }) ∷ []; unary = false; dangling = false; nesting = record { depth = 1; deepest = 0 ∷ 0 ∷ []; passed = false }; loops = record { around = 0; passed = false } }

abbrev s2 : State
s2 = record { scopes = [] ∷ []; frames = (record { is_typedef = false; has_type = true; held = Some 0; direct = true; parameters = [] }) ∷ []; unary = false; dangling = false; nesting = record { depth = 1; deepest = 1 ∷ 0 ∷ []; passed = false }; loops = record { around = 0; passed = false } }

abbrev s3 : State
s3 = record { scopes = [] ∷ [] ∷ []; frames = (record { is_typedef = false; has_type = true; held = Some 0; direct = true; parameters = [] }) ∷ []; unary = false; dangling = false; nesting = record { depth = 1; deepest = 1 ∷ 0 ∷ []; passed = false }; loops = record { around = 0; passed = false } }

abbrev s4 : State
s4 = record { scopes = [] ∷ ((0, false) ∷ []) ∷ []; frames = (record { is_typedef = false; has_type = true; held = Some 0; direct = false; parameters = [] }) ∷ []; unary = false; dangling = false; nesting = record { depth = 1; deepest = 0 ∷ 1 ∷ []; passed = false }; loops = record { around = 0; passed = false } }

abbrev s5 : State
s5 = record { scopes = [] ∷ ((0, false) ∷ []) ∷ []; frames = (record { is_typedef = false; has_type = true; held = Some 0; direct = false; parameters = [] }) ∷ []; unary = false; dangling = false; nesting = record { depth = 2; deepest = 0 ∷ 1 ∷ 1 ∷ []; passed = false }; loops = record { around = 0; passed = false } }

abbrev s6 : State
s6 = record { scopes = [] ∷ ((0, false) ∷ []) ∷ []; frames = (record { is_typedef = false; has_type = true; held = Some 0; direct = false; parameters = [] }) ∷ []; unary = false; dangling = false; nesting = record { depth = 3; deepest = 0 ∷ 0 ∷ 2 ∷ 1 ∷ 1 ∷ []; passed = false }; loops = record { around = 0; passed = false } }

abbrev s7 : State
s7 = record { scopes = [] ∷ ((0, false) ∷ []) ∷ []; frames = (record { is_typedef = false; has_type = true; held = Some 0; direct = false; parameters = [] }) ∷ []; unary = false; dangling = false; nesting = record { depth = 3; deepest = 3 ∷ 0 ∷ 2 ∷ 1 ∷ 1 ∷ []; passed = false }; loops = record { around = 0; passed = false } }

abbrev s8 : State
s8 = record { scopes = [] ∷ ((0, false) ∷ []) ∷ []; frames = (record { is_typedef = false; has_type = false; held = None; direct = false; parameters = [] }) ∷ (record { is_typedef = false; has_type = true; held = Some 0; direct = false; parameters = [] }) ∷ []; unary = false; dangling = false; nesting = record { depth = 3; deepest = 3 ∷ 0 ∷ 2 ∷ 1 ∷ 1 ∷ []; passed = false }; loops = record { around = 0; passed = false } }

abbrev s9 : State
s9 = record { scopes = [] ∷ ((0, false) ∷ []) ∷ []; frames = (record { is_typedef = false; has_type = true; held = Some 0; direct = false; parameters = [] }) ∷ []; unary = true; dangling = false; nesting = record { depth = 2; deepest = 3 ∷ 2 ∷ 1 ∷ 1 ∷ []; passed = false }; loops = record { around = 0; passed = false } }

abbrev s10 : State
s10 = record { scopes = [] ∷ ((0, false) ∷ []) ∷ []; frames = (record { is_typedef = false; has_type = true; held = Some 0; direct = false; parameters = [] }) ∷ []; unary = true; dangling = false; nesting = record { depth = 4; deepest = 0 ∷ 0 ∷ 4 ∷ 2 ∷ 1 ∷ 1 ∷ []; passed = false }; loops = record { around = 0; passed = false } }

abbrev s11 : State
s11 = record { scopes = [] ∷ ((0, false) ∷ []) ∷ []; frames = (record { is_typedef = false; has_type = true; held = Some 0; direct = false; parameters = [] }) ∷ []; unary = false; dangling = false; nesting = record { depth = 2; deepest = 4 ∷ 1 ∷ 1 ∷ []; passed = false }; loops = record { around = 0; passed = false } }

abbrev s12 : State
s12 = record { scopes = [] ∷ ((0, false) ∷ []) ∷ []; frames = (record { is_typedef = false; has_type = true; held = Some 0; direct = false; parameters = [] }) ∷ []; unary = false; dangling = false; nesting = record { depth = 1; deepest = 4 ∷ 1 ∷ []; passed = false }; loops = record { around = 0; passed = false } }

abbrev s13 : State
s13 = record { scopes = ((0, false) ∷ []) ∷ []; frames = []; unary = false; dangling = false; nesting = record { depth = 0; deepest = 4 ∷ []; passed = false }; loops = record { around = 0; passed = false } }

abbrev pub last : State
last = record { scopes = ((0, false) ∷ []) ∷ []; frames = []; unary = false; dangling = false; nesting = record { depth = 0; deepest = 4 ∷ []; passed = false }; loops = record { around = 0; passed = false } }

abbrev pub tokens : List Lexeme
tokens = u0 ∷ u1 ∷ u2 ∷ u3 ∷ u4 ∷ u5 ∷ u6 ∷ u7 ∷ u8 ∷ u9 ∷ u10 ∷ u11 ∷ u12 ∷ u13 ∷ u14 ∷ u15 ∷ []

abbrev pub trees : List External
trees = v15

unfoldable pub derived : Derives (nt Sym.File tt trees ∷ []) start tokens last
derived =
    Derives.by (Rule.file v15 u15) (
    Derives.by (Rule.more_externals v14 [] v15) (
    Derives.by (Rule.function v1 v5 v13 u5) (
    Derives.acted (
    Derives.by (Rule.specifiers v0 v1) (
    Derives.by (Rule.specifier (sk.Plain (word_of u0)) u0) (
    Derives.seen (
    Derives.by (Rule.type_word u0) (
    Derives.token {s = s0} refl (
    Derives.by (Rule.last_specifier v1) (
    Derives.by (Rule.plain_declarator Mode.concrete v4 u1) (
    Derives.seen (
    Derives.acted (
    Derives.by (Rule.named Mode.concrete v3 u1 refl) (
    Derives.token {s = s1} refl (
    Derives.by (Rule.more_parts v2 [] v3) (
    Derives.by (Rule.parameters ([], None) u2 u4) (
    Derives.token {s = s2} refl (
    Derives.acted (
    Derives.by (Rule.void_alone u3) (
    Derives.token {s = s3} refl (
    Derives.token {s = s3} refl (
    Derives.acted (
    Derives.by (Rule.last_part v3) (
    Derives.acted (
    Derives.acted (
    Derives.acted (
    Derives.seen (
    Derives.acted (
    Derives.by (Rule.block v13 u5 u14) (
    Derives.token {s = s4} refl (
    Derives.by (Rule.block_statement v12 [] v13) (
    Derives.by (Rule.statement (st.Return (Some v11)) u6) (
    Derives.seen (
    Derives.acted (
    Derives.by (Rule.return (Some v11) u6 u13) (
    Derives.token {s = s5} refl (
    Derives.by (Rule.some_expression v11) (
    Derives.by (Rule.expressions v11 v11) (
    Derives.acted (
    Derives.by (Rule.assignment v11 v11) (
    Derives.by (Rule.conditional v11 v11) (
    Derives.by (Rule.level 9 v11 v11) (
    Derives.by (Rule.level 8 v11 v11) (
    Derives.by (Rule.level 7 v11 v11) (
    Derives.by (Rule.level 6 v11 v11) (
    Derives.by (Rule.level 5 v11 v11) (
    Derives.by (Rule.level 4 v11 v11) (
    Derives.by (Rule.level 3 v11 v11) (
    Derives.by (Rule.level 2 v11 v11) (
    Derives.by (Rule.level 1 v9 v11) (
    Derives.by (Rule.level 0 v9 v9) (
    Derives.by (Rule.cast_alone v9) (
    Derives.by (Rule.unary_alone v9) (
    Derives.by (Rule.size_of_type v8 u7) (
    Derives.acted (
    Derives.token {s = s6} refl (
    Derives.by (Rule.type_in_parentheses v8 u8 u10) (
    Derives.token {s = s7} refl (
    Derives.by (Rule.type_name v7 None) (
    Derives.acted (
    Derives.by (Rule.specifiers v6 v7) (
    Derives.by (Rule.specifier (sk.Plain (word_of u9)) u9) (
    Derives.seen (
    Derives.by (Rule.type_word u9) (
    Derives.token {s = s8} refl (
    Derives.by (Rule.last_specifier v7) (
    Derives.by (Rule.no_declarator Mode.abstract) (
    Derives.acted (
    Derives.token {s = s7} refl (
    Derives.acted (
    Derives.acted (
    Derives.by (Rule.last_operand 0 v9) (
    Derives.by (Rule.more_operands 1 v9 v10 v11 u11) (
    Derives.token {s = s9} refl (
    Derives.acted (
    Derives.by (Rule.level 0 v10 v10) (
    Derives.by (Rule.cast_alone v10) (
    Derives.by (Rule.unary_alone v10) (
    Derives.by (Rule.postfix_alone v10) (
    Derives.by (Rule.postfix v10 v10) (
    Derives.by (Rule.number u12) (
    Derives.acted (
    Derives.token {s = s10} refl (
    Derives.acted (
    Derives.by (Rule.no_postfix v10) (
    Derives.by (Rule.last_operand 0 v10) (
    Derives.acted (
    Derives.acted (
    Derives.by (Rule.last_operand 1 v11) (
    Derives.by (Rule.last_operand 2 v11) (
    Derives.by (Rule.last_operand 3 v11) (
    Derives.by (Rule.last_operand 4 v11) (
    Derives.by (Rule.last_operand 5 v11) (
    Derives.by (Rule.last_operand 6 v11) (
    Derives.by (Rule.last_operand 7 v11) (
    Derives.by (Rule.last_operand 8 v11) (
    Derives.by (Rule.last_operand 9 v11) (
    Derives.by (Rule.no_choice v11) (
    Derives.by (Rule.not_assigned v11) (
    Derives.by (Rule.last_expression v11) (
    Derives.acted (
    Derives.token {s = s11} refl (
    Derives.acted (
    Derives.by (Rule.last_block_item v13) (
    Derives.token {s = s12} refl (
    Derives.acted (
    Derives.acted (
    Derives.acted (
    Derives.by (Rule.last_external v15) (
    Derives.token {s = s13} refl (
    Derives.done)))))))))))))))))))))))))))))))))))))))))))))))))))))))))))))))))))))))))))))))))))))))))))))))))))))))))))))))
