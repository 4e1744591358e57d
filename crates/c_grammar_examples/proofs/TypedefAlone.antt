-- A derivation, written by a script: the tokens, the values, the states before tokens, and the steps.
use Rattle.std.proofs.Common.{true, false, List, [], ◌∷◌, None, Some, refl}
use Rattle.c_tree.specs.declared.declaration.Declaration.{Declaration}
use Rattle.c_tree.specs.declared.declaration.InitDeclarator.{InitDeclarator}
use Rattle.c_tree.specs.declared.lexeme.Lexeme.{Lexeme}
use Rattle.c_tree.specs.declared.lexeme.LexemeKind.TheVariants as k
use Rattle.c_tree.specs.declared.specifier.SpecKind.{SpecKind}
use Rattle.c_tree.specs.declared.specifier.SpecKind.TheVariants as sk
use Rattle.c_tree.specs.declared.specifier.SpecWord.{SpecWord}
use Rattle.c_tree.specs.declared.tree.Item.{Item as External}
use Rattle.c_tree.specs.declared.tree.Item.TheVariants as xd
use Rattle.c_grammar.specs.Marks as m
use Rattle.c_grammar.specs.Words as d
use Rattle.c_grammar.specs.Derives.{Derives}
use Rattle.c_grammar.specs.Items.{Mode, Sym, nt}
use Rattle.c_grammar.specs.Productions.{Rule}
use Rattle.c_grammar.specs.State.{State, start}
use Rattle.c_grammar.specs.Tokens.{name_of, word_of}
use Rattle.c_grammar.specs.Trees as t
use Rattle.c_grammar.specs.Trees.{Direct, Declared, expression}
use Rattle.c_grammar_examples.specs.Rows.{lexeme}

abbrev pub u0 : Lexeme
u0 = lexeme 0 (k.Word d.typedef_word)

abbrev pub u1 : Lexeme
u1 = lexeme 1 (k.Word d.int_word)

abbrev pub u2 : Lexeme
u2 = lexeme 2 (k.Name 0)

abbrev pub u3 : Lexeme
u3 = lexeme 3 (k.Mark m.semicolon)

abbrev pub u4 : Lexeme
u4 = lexeme 4 (k.Word d.static_word)

abbrev pub u5 : Lexeme
u5 = lexeme 5 (k.Name 0)

abbrev pub u6 : Lexeme
u6 = lexeme 6 (k.Mark m.semicolon)

abbrev pub u7 : Lexeme
u7 = lexeme 7 k.End

abbrev v0 : List SpecWord
v0 = (t.spec_word u0 (sk.Plain (word_of u0))) ∷ (t.spec_word u1 (sk.Plain (word_of u1))) ∷ []

abbrev v1 : SpecWord
v1 = t.spec_word u1 (sk.Plain (word_of u1))

abbrev v2 : List SpecWord
v2 = (t.spec_word u0 (sk.Plain (word_of u0))) ∷ []

abbrev v3 : SpecWord
v3 = t.spec_word u0 (sk.Plain (word_of u0))

abbrev v4 : Declared
v4 = t.declarator u2 [] (t.direct_name u2 [])

abbrev v5 : List InitDeclarator
v5 = (record { declarator = v4.tree; initial = None }) ∷ []

abbrev v6 : InitDeclarator
v6 = (record { declarator = v4.tree; initial = None })

abbrev v7 : Declaration
v7 = (record { head = v0; parts = v5 })

abbrev v8 : SpecKind
v8 = sk.Typedef (name_of u5)

abbrev v9 : List SpecWord
v9 = (t.spec_word u4 (sk.Plain (word_of u4))) ∷ (t.spec_word u5 v8) ∷ []

abbrev v10 : List SpecWord
v10 = (t.spec_word u4 (sk.Plain (word_of u4))) ∷ []

abbrev v11 : SpecWord
v11 = t.spec_word u4 (sk.Plain (word_of u4))

abbrev v12 : Declaration
v12 = (record { head = v9; parts = [] })

abbrev v13 : List External
v13 = (xd.Declaration v7) ∷ (xd.Declaration v12) ∷ []

abbrev v14 : List External
v14 = (xd.Declaration v7) ∷ []

abbrev s0 : State
s0 = record { scopes = [] ∷ []; frames = (record { is_typedef = false; has_type = false; held = None; direct = false; parameters = [] }) ∷ []; unary = false; dangling = false; nesting = record { depth = 0; deepest = 0 ∷ []; passed = false }; loops = record { around = 0; passed = false } }

abbrev s1 : State
s1 = record { scopes = [] ∷ []; frames = (record { is_typedef = true; has_type = false; held = None; direct = false; parameters = [] }) ∷ []; unary = false; dangling = false; nesting = record { depth = 0; deepest = 0 ∷ []; passed = false }; loops = record { around = 0; passed = false } }

abbrev s2 : State
s2 = record { scopes = [] ∷ []; frames = (record { is_typedef = true; has_type = true; held = None; direct = false; parameters = [] }) ∷ []; unary = false; dangling = false; nesting = record { depth = 1; deepest = 0 ∷ 0 ∷ []; passed = false }; loops = record { around = 0; passed = false } }

abbrev s3 : State
s3 = record { scopes = ((0, true) ∷ []) ∷ []; frames = (record { is_typedef = true; has_type = true; held = Some 0; direct = true; parameters = [] }) ∷ []; unary = false; dangling = false; nesting = record { depth = 0; deepest = 1 ∷ []; passed = false }; loops = record { around = 0; passed = false } }

abbrev s4 : State
s4 = record { scopes = ((0, true) ∷ []) ∷ []; frames = (record { is_typedef = false; has_type = false; held = None; direct = false; parameters = [] }) ∷ []; unary = false; dangling = false; nesting = record { depth = 0; deepest = 1 ∷ []; passed = false }; loops = record { around = 0; passed = false } }

abbrev s5 : State
s5 = record { scopes = ((0, true) ∷ []) ∷ []; frames = (record { is_typedef = false; has_type = true; held = None; direct = false; parameters = [] }) ∷ []; unary = false; dangling = false; nesting = record { depth = 0; deepest = 1 ∷ []; passed = false }; loops = record { around = 0; passed = false } }

abbrev s6 : State
s6 = record { scopes = ((0, true) ∷ []) ∷ []; frames = []; unary = false; dangling = false; nesting = record { depth = 0; deepest = 1 ∷ []; passed = false }; loops = record { around = 0; passed = false } }

abbrev pub last : State
last = record { scopes = ((0, true) ∷ []) ∷ []; frames = []; unary = false; dangling = false; nesting = record { depth = 0; deepest = 1 ∷ []; passed = false }; loops = record { around = 0; passed = false } }

abbrev pub tokens : List Lexeme
tokens = u0 ∷ u1 ∷ u2 ∷ u3 ∷ u4 ∷ u5 ∷ u6 ∷ u7 ∷ []

pub derived : Derives (nt Sym.File tt v13 ∷ []) start tokens last
derived =
    Derives.by (Rule.file v13 u7) (
    Derives.by (Rule.more_externals (xd.Declaration v7) [] v13) (
    Derives.by (Rule.external_declaration v7) (
    Derives.by (Rule.declaration v0 v5 u3) (
    Derives.acted (
    Derives.by (Rule.specifiers v3 v0) (
    Derives.by (Rule.specifier (sk.Plain (word_of u0)) u0) (
    Derives.seen (
    Derives.by (Rule.typedef u0) (
    Derives.token {s = s0} refl (
    Derives.by (Rule.more_specifiers v1 v2 v0) (
    Derives.by (Rule.specifier (sk.Plain (word_of u1)) u1) (
    Derives.seen (
    Derives.by (Rule.type_word u1) (
    Derives.token {s = s1} refl (
    Derives.by (Rule.last_specifier v0) (
    Derives.by (Rule.init_declarators v6 v5) (
    Derives.by (Rule.init_declarator v4 None) (
    Derives.by (Rule.plain_declarator Mode.concrete (t.direct_name u2 []) u2) (
    Derives.seen (
    Derives.acted (
    Derives.by (Rule.named Mode.concrete [] u2 refl) (
    Derives.token {s = s2} refl (
    Derives.by (Rule.last_part []) (
    Derives.acted (
    Derives.acted (
    Derives.by Rule.no_initial (
    Derives.by (Rule.last_init_declarator v5) (
    Derives.token {s = s3} refl (
    Derives.acted (
    Derives.by (Rule.more_externals (xd.Declaration v12) v14 v13) (
    Derives.by (Rule.external_declaration v12) (
    Derives.by (Rule.declaration v9 [] u6) (
    Derives.acted (
    Derives.by (Rule.specifiers v11 v9) (
    Derives.by (Rule.specifier (sk.Plain (word_of u4)) u4) (
    Derives.seen (
    Derives.by (Rule.plain_specifier u4) (
    Derives.token {s = s4} refl (
    Derives.by (Rule.more_specifiers (t.spec_word u5 v8) v10 v9) (
    Derives.by (Rule.specifier v8 u5) (
    Derives.seen (
    Derives.by (Rule.typedef_name u5) (
    Derives.token {s = s4} refl (
    Derives.by (Rule.last_specifier v9) (
    Derives.by Rule.no_declarators (
    Derives.token {s = s5} refl (
    Derives.acted (
    Derives.by (Rule.last_external v13) (
    Derives.token {s = s6} refl (
    Derives.done))))))))))))))))))))))))))))))))))))))))))))))))))
