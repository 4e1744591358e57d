-- A derivation, written by a script: the tokens, the values, the states before tokens, and the steps.
use Rattle.std.proofs.Common.{true, false, List, [], ◌∷◌, None, Some, refl}
use Rattle.c_tree.specs.declared.declaration.Declaration.{Declaration}
use Rattle.c_tree.specs.declared.declaration.InitDeclarator.{InitDeclarator}
use Rattle.c_tree.specs.declared.declarator.DeclPart.{DeclPart}
use Rattle.c_tree.specs.declared.declarator.Declarator.{Declarator}
use Rattle.c_tree.specs.declared.expression.Expr.{Expr}
use Rattle.c_tree.specs.declared.lexeme.Lexeme.{Lexeme}
use Rattle.c_tree.specs.declared.lexeme.LexemeKind.TheVariants as k
use Rattle.c_tree.specs.declared.specifier.MemberDecl.{MemberDecl}
use Rattle.c_tree.specs.declared.specifier.SpecKind.{SpecKind}
use Rattle.c_tree.specs.declared.specifier.SpecKind.TheVariants as sk
use Rattle.c_tree.specs.declared.specifier.SpecWord.{SpecWord}
use Rattle.c_tree.specs.declared.tree.Item.{Item as External}
use Rattle.c_tree.specs.declared.tree.Item.TheVariants as xd
use Rattle.c_values.specs.declared.int_type.IntType.TheVariants.{Int}
use Rattle.c_grammar.specs.Marks as m
use Rattle.c_grammar.specs.Words as d
use Rattle.c_grammar.specs.Derives.{Derives}
use Rattle.c_grammar.specs.Items.{Mode, Sym, nt}
use Rattle.c_grammar.specs.Productions.{Rule}
use Rattle.c_grammar.specs.State.{State, start}
use Rattle.c_grammar.specs.Tokens.{word_of}
use Rattle.c_grammar.specs.Trees as t
use Rattle.c_grammar.specs.Trees.{Direct, Declared, expression}
use Rattle.c_grammar_examples.specs.Rows.{lexeme}

abbrev pub u0 : Lexeme
u0 = lexeme 0 (k.Word d.struct_word)

abbrev pub u1 : Lexeme
u1 = lexeme 1 (k.Mark m.left_brace)

abbrev pub u2 : Lexeme
u2 = lexeme 2 (k.Word d.int_word)

abbrev pub u3 : Lexeme
u3 = lexeme 3 (k.Name 0)

abbrev pub u4 : Lexeme
u4 = lexeme 4 (k.Mark m.left_bracket)

abbrev pub u5 : Lexeme
u5 = lexeme 5 (k.Number 4 Int)

abbrev pub u6 : Lexeme
u6 = lexeme 6 (k.Mark m.right_bracket)

abbrev pub u7 : Lexeme
u7 = lexeme 7 (k.Mark m.semicolon)

abbrev pub u8 : Lexeme
u8 = lexeme 8 (k.Word d.int_word)

abbrev pub u9 : Lexeme
u9 = lexeme 9 (k.Name 1)

abbrev pub u10 : Lexeme
u10 = lexeme 10 (k.Mark m.semicolon)

abbrev pub u11 : Lexeme
u11 = lexeme 11 (k.Mark m.right_brace)

abbrev pub u12 : Lexeme
u12 = lexeme 12 (k.Name 2)

abbrev pub u13 : Lexeme
u13 = lexeme 13 (k.Mark m.semicolon)

abbrev pub u14 : Lexeme
u14 = lexeme 14 k.End

abbrev v0 : List SpecWord
v0 = (t.spec_word u2 (sk.Plain (word_of u2))) ∷ []

abbrev v1 : SpecWord
v1 = t.spec_word u2 (sk.Plain (word_of u2))

abbrev v2 : Expr
v2 = expression u5 (t.constant_in u5.kind)

abbrev v3 : List DeclPart
v3 = (t.array_part u4 (Some v2)) ∷ []

abbrev v4 : DeclPart
v4 = t.array_part u4 (Some v2)

abbrev v5 : List Declarator
v5 = (t.declarator u3 [] (t.direct_name u3 v3)).tree ∷ []

abbrev v6 : Declared
v6 = t.declarator u3 [] (t.direct_name u3 v3)

abbrev v7 : List SpecWord
v7 = (t.spec_word u8 (sk.Plain (word_of u8))) ∷ []

abbrev v8 : SpecWord
v8 = t.spec_word u8 (sk.Plain (word_of u8))

abbrev v9 : List Declarator
v9 = (t.declarator u9 [] (t.direct_name u9 [])).tree ∷ []

abbrev v10 : Declared
v10 = t.declarator u9 [] (t.direct_name u9 [])

abbrev v11 : List MemberDecl
v11 = (t.member_declaration v0 v5) ∷ (t.member_declaration v7 v9) ∷ []

abbrev v12 : MemberDecl
v12 = t.member_declaration v7 v9

abbrev v13 : List MemberDecl
v13 = (t.member_declaration v0 v5) ∷ []

abbrev v14 : MemberDecl
v14 = t.member_declaration v0 v5

abbrev v15 : SpecKind
v15 = sk.Record (t.record_kind u0) None (Some v11)

abbrev v16 : List SpecWord
v16 = (t.spec_word u0 v15) ∷ []

abbrev v17 : Declared
v17 = t.declarator u12 [] (t.direct_name u12 [])

abbrev v18 : List InitDeclarator
v18 = (record { declarator = v17.tree; initial = None }) ∷ []

abbrev v19 : InitDeclarator
v19 = (record { declarator = v17.tree; initial = None })

abbrev v20 : Declaration
v20 = (record { head = v16; parts = v18 })

abbrev v21 : List External
v21 = (xd.Declaration v20) ∷ []

abbrev s0 : State
s0 = record { scopes = [] ∷ []; frames = (record { is_typedef = false; has_type = false; held = None; direct = false; parameters = [] }) ∷ []; unary = false; dangling = false; nesting = record { depth = 0; deepest = 0 ∷ []; passed = false }; loops = record { around = 0; passed = false } }

abbrev s1 : State
s1 = record { scopes = [] ∷ []; frames = (record { is_typedef = false; has_type = true; held = None; direct = false; parameters = [] }) ∷ []; unary = false; dangling = false; nesting = record { depth = 1; deepest = 0 ∷ 0 ∷ []; passed = false }; loops = record { around = 0; passed = false } }

abbrev s2 : State
s2 = record { scopes = [] ∷ []; frames = (record { is_typedef = false; has_type = false; held = None; direct = false; parameters = [] }) ∷ (record { is_typedef = false; has_type = true; held = None; direct = false; parameters = [] }) ∷ []; unary = false; dangling = false; nesting = record { depth = 1; deepest = 1 ∷ 0 ∷ []; passed = false }; loops = record { around = 0; passed = false } }

abbrev s3 : State
s3 = record { scopes = [] ∷ []; frames = (record { is_typedef = false; has_type = true; held = None; direct = false; parameters = [] }) ∷ (record { is_typedef = false; has_type = true; held = None; direct = false; parameters = [] }) ∷ []; unary = false; dangling = false; nesting = record { depth = 2; deepest = 0 ∷ 1 ∷ 0 ∷ []; passed = false }; loops = record { around = 0; passed = false } }

abbrev s4 : State
s4 = record { scopes = [] ∷ []; frames = (record { is_typedef = false; has_type = true; held = Some 0; direct = true; parameters = [] }) ∷ (record { is_typedef = false; has_type = true; held = None; direct = false; parameters = [] }) ∷ []; unary = false; dangling = false; nesting = record { depth = 2; deepest = 2 ∷ 1 ∷ 0 ∷ []; passed = false }; loops = record { around = 0; passed = false } }

abbrev s5 : State
s5 = record { scopes = [] ∷ []; frames = (record { is_typedef = false; has_type = true; held = Some 0; direct = false; parameters = [] }) ∷ (record { is_typedef = false; has_type = true; held = None; direct = false; parameters = [] }) ∷ []; unary = false; dangling = false; nesting = record { depth = 3; deepest = 0 ∷ 0 ∷ 2 ∷ 1 ∷ 0 ∷ []; passed = false }; loops = record { around = 0; passed = false } }

abbrev s6 : State
s6 = record { scopes = [] ∷ []; frames = (record { is_typedef = false; has_type = true; held = Some 0; direct = false; parameters = [] }) ∷ (record { is_typedef = false; has_type = true; held = None; direct = false; parameters = [] }) ∷ []; unary = true; dangling = false; nesting = record { depth = 2; deepest = 3 ∷ 1 ∷ 0 ∷ []; passed = false }; loops = record { around = 0; passed = false } }

abbrev s7 : State
s7 = record { scopes = [] ∷ []; frames = (record { is_typedef = false; has_type = true; held = Some 0; direct = false; parameters = [] }) ∷ (record { is_typedef = false; has_type = true; held = None; direct = false; parameters = [] }) ∷ []; unary = true; dangling = false; nesting = record { depth = 1; deepest = 3 ∷ 0 ∷ []; passed = false }; loops = record { around = 0; passed = false } }

abbrev s8 : State
s8 = record { scopes = [] ∷ []; frames = (record { is_typedef = false; has_type = false; held = None; direct = false; parameters = [] }) ∷ (record { is_typedef = false; has_type = true; held = None; direct = false; parameters = [] }) ∷ []; unary = true; dangling = false; nesting = record { depth = 1; deepest = 3 ∷ 0 ∷ []; passed = false }; loops = record { around = 0; passed = false } }

abbrev s9 : State
s9 = record { scopes = [] ∷ []; frames = (record { is_typedef = false; has_type = true; held = None; direct = false; parameters = [] }) ∷ (record { is_typedef = false; has_type = true; held = None; direct = false; parameters = [] }) ∷ []; unary = true; dangling = false; nesting = record { depth = 2; deepest = 0 ∷ 3 ∷ 0 ∷ []; passed = false }; loops = record { around = 0; passed = false } }

abbrev s10 : State
s10 = record { scopes = [] ∷ []; frames = (record { is_typedef = false; has_type = true; held = Some 1; direct = true; parameters = [] }) ∷ (record { is_typedef = false; has_type = true; held = None; direct = false; parameters = [] }) ∷ []; unary = true; dangling = false; nesting = record { depth = 1; deepest = 3 ∷ 0 ∷ []; passed = false }; loops = record { around = 0; passed = false } }

abbrev s11 : State
s11 = record { scopes = [] ∷ []; frames = (record { is_typedef = false; has_type = true; held = None; direct = false; parameters = [] }) ∷ []; unary = true; dangling = false; nesting = record { depth = 1; deepest = 3 ∷ 0 ∷ []; passed = false }; loops = record { around = 0; passed = false } }

abbrev s12 : State
s12 = record { scopes = [] ∷ []; frames = (record { is_typedef = false; has_type = true; held = None; direct = false; parameters = [] }) ∷ []; unary = true; dangling = false; nesting = record { depth = 1; deepest = 0 ∷ 3 ∷ []; passed = false }; loops = record { around = 0; passed = false } }

abbrev s13 : State
s13 = record { scopes = ((2, false) ∷ []) ∷ []; frames = (record { is_typedef = false; has_type = true; held = Some 2; direct = true; parameters = [] }) ∷ []; unary = true; dangling = false; nesting = record { depth = 0; deepest = 3 ∷ []; passed = false }; loops = record { around = 0; passed = false } }

abbrev s14 : State
s14 = record { scopes = ((2, false) ∷ []) ∷ []; frames = []; unary = true; dangling = false; nesting = record { depth = 0; deepest = 3 ∷ []; passed = false }; loops = record { around = 0; passed = false } }

abbrev pub last : State
last = record { scopes = ((2, false) ∷ []) ∷ []; frames = []; unary = true; dangling = false; nesting = record { depth = 0; deepest = 3 ∷ []; passed = false }; loops = record { around = 0; passed = false } }

abbrev pub tokens : List Lexeme
tokens = u0 ∷ u1 ∷ u2 ∷ u3 ∷ u4 ∷ u5 ∷ u6 ∷ u7 ∷ u8 ∷ u9 ∷ u10 ∷ u11 ∷ u12 ∷ u13 ∷ u14 ∷ []

pub derived : Derives (nt Sym.File tt v21 ∷ []) start tokens last
derived =
    Derives.by (Rule.file v21 u14) (
    Derives.by (Rule.more_externals (xd.Declaration v20) [] v21) (
    Derives.by (Rule.external_declaration v20) (
    Derives.by (Rule.declaration v16 v18 u13) (
    Derives.acted (
    Derives.by (Rule.specifiers (t.spec_word u0 v15) v16) (
    Derives.by (Rule.specifier v15 u0) (
    Derives.seen (
    Derives.by (Rule.record_content None v11 u0 u1 u11) (
    Derives.token {s = s0} refl (
    Derives.by Rule.no_tag (
    Derives.acted (
    Derives.token {s = s1} refl (
    Derives.by (Rule.members v14 v11) (
    Derives.by (Rule.member_declaration v0 v6 v5 u7) (
    Derives.acted (
    Derives.by (Rule.specifiers v1 v0) (
    Derives.by (Rule.specifier (sk.Plain (word_of u2)) u2) (
    Derives.seen (
    Derives.by (Rule.type_word u2) (
    Derives.token {s = s2} refl (
    Derives.by (Rule.last_specifier v0) (
    Derives.by (Rule.plain_declarator Mode.concrete (t.direct_name u3 v3) u3) (
    Derives.seen (
    Derives.acted (
    Derives.by (Rule.named Mode.concrete v3 u3 refl) (
    Derives.token {s = s3} refl (
    Derives.by (Rule.more_parts v4 [] v3) (
    Derives.by (Rule.array (Some v2) u4 u6) (
    Derives.token {s = s4} refl (
    Derives.acted (
    Derives.by (Rule.size v2) (
    Derives.by (Rule.constant v2) (
    Derives.acted (
    Derives.by (Rule.conditional v2 v2) (
    Derives.by (Rule.level 9 v2 v2) (
    Derives.by (Rule.level 8 v2 v2) (
    Derives.by (Rule.level 7 v2 v2) (
    Derives.by (Rule.level 6 v2 v2) (
    Derives.by (Rule.level 5 v2 v2) (
    Derives.by (Rule.level 4 v2 v2) (
    Derives.by (Rule.level 3 v2 v2) (
    Derives.by (Rule.level 2 v2 v2) (
    Derives.by (Rule.level 1 v2 v2) (
    Derives.by (Rule.level 0 v2 v2) (
    Derives.by (Rule.cast_alone v2) (
    Derives.by (Rule.unary_alone v2) (
    Derives.by (Rule.postfix_alone v2) (
    Derives.by (Rule.postfix v2 v2) (
    Derives.by (Rule.number u5) (
    Derives.acted (
    Derives.token {s = s5} refl (
    Derives.acted (
    Derives.by (Rule.no_postfix v2) (
    Derives.by (Rule.last_operand 0 v2) (
    Derives.by (Rule.last_operand 1 v2) (
    Derives.by (Rule.last_operand 2 v2) (
    Derives.by (Rule.last_operand 3 v2) (
    Derives.by (Rule.last_operand 4 v2) (
    Derives.by (Rule.last_operand 5 v2) (
    Derives.by (Rule.last_operand 6 v2) (
    Derives.by (Rule.last_operand 7 v2) (
    Derives.by (Rule.last_operand 8 v2) (
    Derives.by (Rule.last_operand 9 v2) (
    Derives.by (Rule.no_choice v2) (
    Derives.acted (
    Derives.token {s = s6} refl (
    Derives.by (Rule.last_part v3) (
    Derives.acted (
    Derives.by (Rule.last_declarator v5) (
    Derives.token {s = s7} refl (
    Derives.acted (
    Derives.by (Rule.more_members v12 v13 v11) (
    Derives.by (Rule.member_declaration v7 v10 v9 u10) (
    Derives.acted (
    Derives.by (Rule.specifiers v8 v7) (
    Derives.by (Rule.specifier (sk.Plain (word_of u8)) u8) (
    Derives.seen (
    Derives.by (Rule.type_word u8) (
    Derives.token {s = s8} refl (
    Derives.by (Rule.last_specifier v7) (
    Derives.by (Rule.plain_declarator Mode.concrete (t.direct_name u9 []) u9) (
    Derives.seen (
    Derives.acted (
    Derives.by (Rule.named Mode.concrete [] u9 refl) (
    Derives.token {s = s9} refl (
    Derives.by (Rule.last_part []) (
    Derives.acted (
    Derives.by (Rule.last_declarator v9) (
    Derives.token {s = s10} refl (
    Derives.acted (
    Derives.by (Rule.last_member v11) (
    Derives.token {s = s11} refl (
    Derives.acted (
    Derives.by (Rule.last_specifier v16) (
    Derives.by (Rule.init_declarators v19 v18) (
    Derives.by (Rule.init_declarator v17 None) (
    Derives.by (Rule.plain_declarator Mode.concrete (t.direct_name u12 []) u12) (
    Derives.seen (
    Derives.acted (
    Derives.by (Rule.named Mode.concrete [] u12 refl) (
    Derives.token {s = s12} refl (
    Derives.by (Rule.last_part []) (
    Derives.acted (
    Derives.acted (
    Derives.by Rule.no_initial (
    Derives.by (Rule.last_init_declarator v18) (
    Derives.token {s = s13} refl (
    Derives.acted (
    Derives.by (Rule.last_external v21) (
    Derives.token {s = s14} refl (
    Derives.done)))))))))))))))))))))))))))))))))))))))))))))))))))))))))))))))))))))))))))))))))))))))))))))))))))))))))))))))
