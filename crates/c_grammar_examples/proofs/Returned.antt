-- A derivation, written by a script: the tokens, the values, the states before tokens, and the steps.
use Rattle.std.proofs.Common.{true, false, List, [], ◌∷◌, None, Some, refl}
use Rattle.c_tree.specs.declared.declarator.DeclPart.{DeclPart}
use Rattle.c_tree.specs.declared.expression.Expr.{Expr}
use Rattle.c_tree.specs.declared.lexeme.Lexeme.{Lexeme}
use Rattle.c_tree.specs.declared.lexeme.LexemeKind.TheVariants as k
use Rattle.c_tree.specs.declared.specifier.SpecKind.TheVariants as sk
use Rattle.c_tree.specs.declared.specifier.SpecWord.{SpecWord}
use Rattle.c_tree.specs.declared.statement.BlockItem.{BlockItem}
use Rattle.c_tree.specs.declared.statement.BlockItem.TheVariants as bi
use Rattle.c_tree.specs.declared.statement.Statement.{Statement}
use Rattle.c_tree.specs.declared.statement.StatementKind.TheVariants as st
use Rattle.c_tree.specs.declared.tree.Item.{Item as External}
use Rattle.c_tree.specs.declared.tree.Item.TheVariants as xd
use Rattle.c_values.specs.declared.int_type.IntType.TheVariants.{Int}
use Rattle.c_grammar.specs.Marks as m
use Rattle.c_grammar.specs.Words as d
use Rattle.c_grammar.specs.Derives.{Derives}
use Rattle.c_grammar.specs.Items.{Mode, Sym, nt}
use Rattle.c_grammar.specs.Productions.{Rule}
use Rattle.c_grammar.specs.State.{State, start}
use Rattle.c_grammar.specs.Tokens.{word_of}
use Rattle.c_grammar.specs.Trees as t
use Rattle.c_grammar.specs.Trees.{Direct, Declared, expression}
use Rattle.c_grammar_examples.specs.Rows.{lexeme}

abbrev pub u0 : Lexeme
u0 = lexeme 0 (k.Word d.int_word)

abbrev pub u1 : Lexeme
u1 = lexeme 1 (k.Name 0)

abbrev pub u2 : Lexeme
u2 = lexeme 2 (k.Mark m.left_parenthesis)

abbrev pub u3 : Lexeme
u3 = lexeme 3 (k.Word d.void_word)

abbrev pub u4 : Lexeme
u4 = lexeme 4 (k.Mark m.right_parenthesis)

abbrev pub u5 : Lexeme
u5 = lexeme 5 (k.Mark m.left_brace)

abbrev pub u6 : Lexeme
u6 = lexeme 6 (k.Word d.return_word)

abbrev pub u7 : Lexeme
u7 = lexeme 7 (k.Number 0 Int)

abbrev pub u8 : Lexeme
u8 = lexeme 8 (k.Mark m.semicolon)

abbrev pub u9 : Lexeme
u9 = lexeme 9 (k.Mark m.right_brace)

abbrev pub u10 : Lexeme
u10 = lexeme 10 k.End

abbrev v0 : List SpecWord
v0 = (t.spec_word u0 (sk.Plain (word_of u0))) ∷ []

abbrev v1 : SpecWord
v1 = t.spec_word u0 (sk.Plain (word_of u0))

abbrev v2 : List DeclPart
v2 = (t.parameters_part u2 ([], None)) ∷ []

abbrev v3 : DeclPart
v3 = t.parameters_part u2 ([], None)

abbrev v4 : Expr
v4 = expression u7 (t.constant_in u7.kind)

abbrev v5 : List BlockItem
v5 = (bi.Statement (t.statement u6 (st.Return (Some v4)))) ∷ []

abbrev v6 : Statement
v6 = t.statement u6 (st.Return (Some v4))

abbrev v7 : Declared
v7 = t.declarator u1 [] (t.direct_name u1 v2)

abbrev v8 : List External
v8 = (xd.Function v0 v7.tree (t.statement u5 (st.Compound v5))) ∷ []

abbrev v9 : External
v9 = xd.Function v0 v7.tree (t.statement u5 (st.Compound v5))

abbrev s0 : State
s0 = record { scopes = [] ∷ []; frames = (record { is_typedef = false; has_type = false; held = None; direct = false; parameters = [] }) ∷ []; unary = false; dangling = false; nesting = record { depth = 0; deepest = 0 ∷ []; passed = false }; loops = record { around = 0; passed = false } }

abbrev s1 : State
s1 = record { scopes = [] ∷ []; frames = (record { is_typedef = false; has_type = true; held = None; direct = false; parameters = [] }) ∷ []; unary = false; dangling = false; nesting = record { depth = 1; deepest = 0 ∷ 0 ∷ []; passed = false }; loops = record { around = 0; passed = false } }

abbrev s2 : State
s2 = record { scopes = [] ∷ []; frames = (record { is_typedef = false; has_type = true; held = Some 0; direct = true; parameters = [] }) ∷ []; unary = false; dangling = false; nesting = record { depth = 1; deepest = 1 ∷ 0 ∷ []; passed = false }; loops = record { around = 0; passed = false } }

abbrev s3 : State
s3 = record { scopes = [] ∷ [] ∷ []; frames = (record { is_typedef = false; has_type = true; held = Some 0; direct = true; parameters = [] }) ∷ []; unary = false; dangling = false; nesting = record { depth = 1; deepest = 1 ∷ 0 ∷ []; passed = false }; loops = record { around = 0; passed = false } }

abbrev s4 : State
s4 = record { scopes = [] ∷ ((0, false) ∷ []) ∷ []; frames = (record { is_typedef = false; has_type = true; held = Some 0; direct = false; parameters = [] }) ∷ []; unary = false; dangling = false; nesting = record { depth = 1; deepest = 0 ∷ 1 ∷ []; passed = false }; loops = record { around = 0; passed = false } }

abbrev s5 : State
s5 = record { scopes = [] ∷ ((0, false) ∷ []) ∷ []; frames = (record { is_typedef = false; has_type = true; held = Some 0; direct = false; parameters = [] }) ∷ []; unary = false; dangling = false; nesting = record { depth = 2; deepest = 0 ∷ 1 ∷ 1 ∷ []; passed = false }; loops = record { around = 0; passed = false } }

abbrev s6 : State
s6 = record { scopes = [] ∷ ((0, false) ∷ []) ∷ []; frames = (record { is_typedef = false; has_type = true; held = Some 0; direct = false; parameters = [] }) ∷ []; unary = false; dangling = false; nesting = record { depth = 3; deepest = 0 ∷ 0 ∷ 2 ∷ 1 ∷ 1 ∷ []; passed = false }; loops = record { around = 0; passed = false } }

abbrev s7 : State
s7 = record { scopes = [] ∷ ((0, false) ∷ []) ∷ []; frames = (record { is_typedef = false; has_type = true; held = Some 0; direct = false; parameters = [] }) ∷ []; unary = true; dangling = false; nesting = record { depth = 2; deepest = 3 ∷ 1 ∷ 1 ∷ []; passed = false }; loops = record { around = 0; passed = false } }

abbrev s8 : State
s8 = record { scopes = [] ∷ ((0, false) ∷ []) ∷ []; frames = (record { is_typedef = false; has_type = true; held = Some 0; direct = false; parameters = [] }) ∷ []; unary = true; dangling = false; nesting = record { depth = 1; deepest = 3 ∷ 1 ∷ []; passed = false }; loops = record { around = 0; passed = false } }

abbrev s9 : State
s9 = record { scopes = ((0, false) ∷ []) ∷ []; frames = []; unary = true; dangling = false; nesting = record { depth = 0; deepest = 3 ∷ []; passed = false }; loops = record { around = 0; passed = false } }

abbrev pub last : State
last = record { scopes = ((0, false) ∷ []) ∷ []; frames = []; unary = true; dangling = false; nesting = record { depth = 0; deepest = 3 ∷ []; passed = false }; loops = record { around = 0; passed = false } }

abbrev pub tokens : List Lexeme
tokens = u0 ∷ u1 ∷ u2 ∷ u3 ∷ u4 ∷ u5 ∷ u6 ∷ u7 ∷ u8 ∷ u9 ∷ u10 ∷ []

pub derived : Derives (nt Sym.File tt v8 ∷ []) start tokens last
derived =
    Derives.by (Rule.file v8 u10) (
    Derives.by (Rule.more_externals v9 [] v8) (
    Derives.by (Rule.function v0 v7 v5 u5) (
    Derives.acted (
    Derives.by (Rule.specifiers v1 v0) (
    Derives.by (Rule.specifier (sk.Plain (word_of u0)) u0) (
    Derives.seen (
    Derives.by (Rule.type_word u0) (
    Derives.token {s = s0} refl (
    Derives.by (Rule.last_specifier v0) (
    Derives.by (Rule.plain_declarator Mode.concrete (t.direct_name u1 v2) u1) (
    Derives.seen (
    Derives.acted (
    Derives.by (Rule.named Mode.concrete v2 u1 refl) (
    Derives.token {s = s1} refl (
    Derives.by (Rule.more_parts v3 [] v2) (
    Derives.by (Rule.parameters ([], None) u2 u4) (
    Derives.token {s = s2} refl (
    Derives.acted (
    Derives.by (Rule.void_alone u3) (
    Derives.token {s = s3} refl (
    Derives.token {s = s3} refl (
    Derives.acted (
    Derives.by (Rule.last_part v2) (
    Derives.acted (
    Derives.acted (
    Derives.acted (
    Derives.seen (
    Derives.acted (
    Derives.by (Rule.block v5 u5 u9) (
    Derives.token {s = s4} refl (
    Derives.by (Rule.block_statement v6 [] v5) (
    Derives.by (Rule.statement (st.Return (Some v4)) u6) (
    Derives.seen (
    Derives.acted (
    Derives.by (Rule.return (Some v4) u6 u8) (
    Derives.token {s = s5} refl (
    Derives.by (Rule.some_expression v4) (
    Derives.by (Rule.expressions v4 v4) (
    Derives.acted (
    Derives.by (Rule.assignment v4 v4) (
    Derives.by (Rule.conditional v4 v4) (
    Derives.by (Rule.level 9 v4 v4) (
    Derives.by (Rule.level 8 v4 v4) (
    Derives.by (Rule.level 7 v4 v4) (
    Derives.by (Rule.level 6 v4 v4) (
    Derives.by (Rule.level 5 v4 v4) (
    Derives.by (Rule.level 4 v4 v4) (
    Derives.by (Rule.level 3 v4 v4) (
    Derives.by (Rule.level 2 v4 v4) (
    Derives.by (Rule.level 1 v4 v4) (
    Derives.by (Rule.level 0 v4 v4) (
    Derives.by (Rule.cast_alone v4) (
    Derives.by (Rule.unary_alone v4) (
    Derives.by (Rule.postfix_alone v4) (
    Derives.by (Rule.postfix v4 v4) (
    Derives.by (Rule.number u7) (
    Derives.acted (
    Derives.token {s = s6} refl (
    Derives.acted (
    Derives.by (Rule.no_postfix v4) (
    Derives.by (Rule.last_operand 0 v4) (
    Derives.by (Rule.last_operand 1 v4) (
    Derives.by (Rule.last_operand 2 v4) (
    Derives.by (Rule.last_operand 3 v4) (
    Derives.by (Rule.last_operand 4 v4) (
    Derives.by (Rule.last_operand 5 v4) (
    Derives.by (Rule.last_operand 6 v4) (
    Derives.by (Rule.last_operand 7 v4) (
    Derives.by (Rule.last_operand 8 v4) (
    Derives.by (Rule.last_operand 9 v4) (
    Derives.by (Rule.no_choice v4) (
    Derives.by (Rule.not_assigned v4) (
    Derives.by (Rule.last_expression v4) (
    Derives.acted (
    Derives.token {s = s7} refl (
    Derives.acted (
    Derives.by (Rule.last_block_item v5) (
    Derives.token {s = s8} refl (
    Derives.acted (
    Derives.acted (
    Derives.acted (
    Derives.by (Rule.last_external v8) (
    Derives.token {s = s9} refl (
    Derives.done))))))))))))))))))))))))))))))))))))))))))))))))))))))))))))))))))))))))))))))))))))
