-- A derivation, written by a script: the tokens, the values, the states before tokens, and the steps.
use Rattle.std.proofs.Common.{true, false, List, [], ◌∷◌, None, Some, refl}
use Rattle.c_tree.specs.declared.declaration.Declaration.{Declaration}
use Rattle.c_tree.specs.declared.declaration.InitDeclarator.{InitDeclarator}
use Rattle.c_tree.specs.declared.lexeme.Lexeme.{Lexeme}
use Rattle.c_tree.specs.declared.lexeme.LexemeKind.TheVariants as k
use Rattle.c_tree.specs.declared.specifier.SpecKind.TheVariants as sk
use Rattle.c_tree.specs.declared.specifier.SpecWord.{SpecWord}
use Rattle.c_tree.specs.declared.tree.Item.{Item as External}
use Rattle.c_tree.specs.declared.tree.Item.TheVariants as xd
use Rattle.c_grammar.specs.Marks as m
use Rattle.c_grammar.specs.Words as d
use Rattle.c_grammar.specs.Derives.{Derives}
use Rattle.c_grammar.specs.Items.{Mode, Sym, nt}
use Rattle.c_grammar.specs.Productions.{Rule}
use Rattle.c_grammar.specs.State.{State, start}
use Rattle.c_grammar.specs.Tokens.{word_of}
use Rattle.c_grammar.specs.Trees as t
use Rattle.c_grammar.specs.Trees.{Direct, Declared}
use Rattle.c_grammar_examples.specs.Rows.{lexeme}

abbrev pub u0 : Lexeme
u0 = lexeme 0 (k.Word d.typedef_word)

abbrev pub u1 : Lexeme
u1 = lexeme 1 (k.Word d.int_word)

abbrev pub u2 : Lexeme
u2 = lexeme 2 (k.Name 0)

abbrev pub u3 : Lexeme
u3 = lexeme 3 (k.Mark m.comma)

abbrev pub u4 : Lexeme
u4 = lexeme 4 (k.Name 1)

abbrev pub u5 : Lexeme
u5 = lexeme 5 (k.Mark m.comma)

abbrev pub u6 : Lexeme
u6 = lexeme 6 (k.Name 2)

abbrev pub u7 : Lexeme
u7 = lexeme 7 (k.Mark m.semicolon)

abbrev pub u8 : Lexeme
u8 = lexeme 8 (k.Word d.const_word)

abbrev pub u9 : Lexeme
u9 = lexeme 9 (k.Mark m.asterisk)

abbrev pub u10 : Lexeme
u10 = lexeme 10 (k.Name 0)

abbrev pub u11 : Lexeme
u11 = lexeme 11 (k.Mark m.semicolon)

abbrev pub u12 : Lexeme
u12 = lexeme 12 (k.Word d.static_word)

abbrev pub u13 : Lexeme
u13 = lexeme 13 (k.Name 3)

abbrev pub u14 : Lexeme
u14 = lexeme 14 (k.Mark m.comma)

abbrev pub u15 : Lexeme
u15 = lexeme 15 (k.Name 1)

abbrev pub u16 : Lexeme
u16 = lexeme 16 (k.Mark m.semicolon)

abbrev pub u17 : Lexeme
u17 = lexeme 17 (k.Word d.static_word)

abbrev pub u18 : Lexeme
u18 = lexeme 18 (k.Mark m.left_parenthesis)

abbrev pub u19 : Lexeme
u19 = lexeme 19 (k.Name 2)

abbrev pub u20 : Lexeme
u20 = lexeme 20 (k.Mark m.right_parenthesis)

abbrev pub u21 : Lexeme
u21 = lexeme 21 (k.Mark m.semicolon)

abbrev pub u22 : Lexeme
u22 = lexeme 22 k.End

abbrev v0 : SpecWord
v0 = t.spec_word u0 (sk.Plain (word_of u0))

abbrev v1 : SpecWord
v1 = t.spec_word u1 (sk.Plain (word_of u1))

abbrev v2 : List SpecWord
v2 = v0 ∷ v1 ∷ []

abbrev v3 : List SpecWord
v3 = v0 ∷ []

abbrev v4 : Direct
v4 = t.direct_name u2 []

abbrev v5 : Declared
v5 = t.declarator u2 [] v4

abbrev v6 : InitDeclarator
v6 = (record { declarator = v5.tree; initial = None })

abbrev v7 : Direct
v7 = t.direct_name u4 []

abbrev v8 : Declared
v8 = t.declarator u4 [] v7

abbrev v9 : InitDeclarator
v9 = (record { declarator = v8.tree; initial = None })

abbrev v10 : Direct
v10 = t.direct_name u6 []

abbrev v11 : Declared
v11 = t.declarator u6 [] v10

abbrev v12 : InitDeclarator
v12 = (record { declarator = v11.tree; initial = None })

abbrev v13 : List InitDeclarator
v13 = v6 ∷ v9 ∷ v12 ∷ []

abbrev v14 : List InitDeclarator
v14 = v6 ∷ []

abbrev v15 : List InitDeclarator
v15 = v6 ∷ v9 ∷ []

abbrev v16 : Declaration
v16 = (record { head = v2; parts = v13 })

abbrev v17 : External
v17 = xd.Declaration v16

abbrev v18 : SpecWord
v18 = t.spec_word u8 (sk.Plain (word_of u8))

abbrev v19 : List SpecWord
v19 = v18 ∷ []

abbrev v20 : Direct
v20 = t.direct_name u10 []

abbrev v21 : Declared
v21 = t.declarator u9 ([] ∷ []) v20

abbrev v22 : InitDeclarator
v22 = (record { declarator = v21.tree; initial = None })

abbrev v23 : List InitDeclarator
v23 = v22 ∷ []

abbrev v24 : Declaration
v24 = (record { head = v19; parts = v23 })

abbrev v25 : External
v25 = xd.Declaration v24

abbrev v26 : SpecWord
v26 = t.spec_word u12 (sk.Plain (word_of u12))

abbrev v27 : List SpecWord
v27 = v26 ∷ []

abbrev v28 : Direct
v28 = t.direct_name u13 []

abbrev v29 : Declared
v29 = t.declarator u13 [] v28

abbrev v30 : InitDeclarator
v30 = (record { declarator = v29.tree; initial = None })

abbrev v31 : Direct
v31 = t.direct_name u15 []

abbrev v32 : Declared
v32 = t.declarator u15 [] v31

abbrev v33 : InitDeclarator
v33 = (record { declarator = v32.tree; initial = None })

abbrev v34 : List InitDeclarator
v34 = v30 ∷ v33 ∷ []

abbrev v35 : List InitDeclarator
v35 = v30 ∷ []

abbrev v36 : Declaration
v36 = (record { head = v27; parts = v34 })

abbrev v37 : External
v37 = xd.Declaration v36

abbrev v38 : SpecWord
v38 = t.spec_word u17 (sk.Plain (word_of u17))

abbrev v39 : List SpecWord
v39 = v38 ∷ []

abbrev v40 : Direct
v40 = t.direct_name u19 []

abbrev v41 : Declared
v41 = t.declarator u19 [] v40

abbrev v42 : Direct
v42 = t.direct_nested v41 []

abbrev v43 : Declared
v43 = t.declarator u18 [] v42

abbrev v44 : InitDeclarator
v44 = (record { declarator = v43.tree; initial = None })

abbrev v45 : List InitDeclarator
v45 = v44 ∷ []

abbrev v46 : Declaration
v46 = (record { head = v39; parts = v45 })

abbrev v47 : External
v47 = xd.Declaration v46

abbrev v48 : List External
v48 = v17 ∷ v25 ∷ v37 ∷ v47 ∷ []

abbrev v49 : List External
v49 = v17 ∷ []

abbrev v50 : List External
v50 = v17 ∷ v25 ∷ []

abbrev v51 : List External
v51 = v17 ∷ v25 ∷ v37 ∷ []

abbrev s0 : State
s0 = record { scopes = [] ∷ []; frames = (record { is_typedef = false; has_type = false; held = None; direct = false; parameters = [] }) ∷ []; unary = false; dangling = false; nesting = record { depth = 0; deepest = 0 ∷ []; passed = false }; loops = record { around = 0; passed = false } }

abbrev s1 : State
s1 = record { scopes = [] ∷ []; frames = (record { is_typedef = true; has_type = false; held = None; direct = false; parameters = [] }) ∷ []; unary = false; dangling = false; nesting = record { depth = 0; deepest = 0 ∷ []; passed = false }; loops = record { around = 0; passed = false } }

abbrev s2 : State
s2 = record { scopes = [] ∷ []; frames = (record { is_typedef = true; has_type = true; held = None; direct = false; parameters = [] }) ∷ []; unary = false; dangling = false; nesting = record { depth = 1; deepest = 0 ∷ 0 ∷ []; passed = false }; loops = record { around = 0; passed = false } }

abbrev s3 : State
s3 = record { scopes = ((0, true) ∷ []) ∷ []; frames = (record { is_typedef = true; has_type = true; held = Some 0; direct = true; parameters = [] }) ∷ []; unary = false; dangling = false; nesting = record { depth = 0; deepest = 1 ∷ []; passed = false }; loops = record { around = 0; passed = false } }

abbrev s4 : State
s4 = record { scopes = ((0, true) ∷ []) ∷ []; frames = (record { is_typedef = true; has_type = true; held = Some 0; direct = true; parameters = [] }) ∷ []; unary = false; dangling = false; nesting = record { depth = 1; deepest = 0 ∷ 1 ∷ []; passed = false }; loops = record { around = 0; passed = false } }

abbrev s5 : State
s5 = record { scopes = ((1, true) ∷ (0, true) ∷ []) ∷ []; frames = (record { is_typedef = true; has_type = true; held = Some 1; direct = true; parameters = [] }) ∷ []; unary = false; dangling = false; nesting = record { depth = 0; deepest = 1 ∷ []; passed = false }; loops = record { around = 0; passed = false } }

abbrev s6 : State
s6 = record { scopes = ((1, true) ∷ (0, true) ∷ []) ∷ []; frames = (record { is_typedef = true; has_type = true; held = Some 1; direct = true; parameters = [] }) ∷ []; unary = false; dangling = false; nesting = record { depth = 1; deepest = 0 ∷ 1 ∷ []; passed = false }; loops = record { around = 0; passed = false } }

abbrev s7 : State
s7 = record { scopes = ((2, true) ∷ (1, true) ∷ (0, true) ∷ []) ∷ []; frames = (record { is_typedef = true; has_type = true; held = Some 2; direct = true; parameters = [] }) ∷ []; unary = false; dangling = false; nesting = record { depth = 0; deepest = 1 ∷ []; passed = false }; loops = record { around = 0; passed = false } }

abbrev s8 : State
s8 = record { scopes = ((2, true) ∷ (1, true) ∷ (0, true) ∷ []) ∷ []; frames = (record { is_typedef = false; has_type = false; held = None; direct = false; parameters = [] }) ∷ []; unary = false; dangling = false; nesting = record { depth = 0; deepest = 1 ∷ []; passed = false }; loops = record { around = 0; passed = false } }

abbrev s9 : State
s9 = record { scopes = ((2, true) ∷ (1, true) ∷ (0, true) ∷ []) ∷ []; frames = (record { is_typedef = false; has_type = false; held = None; direct = false; parameters = [] }) ∷ []; unary = false; dangling = false; nesting = record { depth = 1; deepest = 0 ∷ 1 ∷ []; passed = false }; loops = record { around = 0; passed = false } }

abbrev s10 : State
s10 = record { scopes = ((2, true) ∷ (1, true) ∷ (0, true) ∷ []) ∷ []; frames = (record { is_typedef = false; has_type = true; held = None; direct = false; parameters = [] }) ∷ []; unary = false; dangling = false; nesting = record { depth = 1; deepest = 1 ∷ 1 ∷ []; passed = false }; loops = record { around = 0; passed = false } }

abbrev s11 : State
s11 = record { scopes = ((0, false) ∷ (2, true) ∷ (1, true) ∷ (0, true) ∷ []) ∷ []; frames = (record { is_typedef = false; has_type = true; held = Some 0; direct = false; parameters = [] }) ∷ []; unary = false; dangling = false; nesting = record { depth = 0; deepest = 1 ∷ []; passed = false }; loops = record { around = 0; passed = false } }

abbrev s12 : State
s12 = record { scopes = ((0, false) ∷ (2, true) ∷ (1, true) ∷ (0, true) ∷ []) ∷ []; frames = (record { is_typedef = false; has_type = false; held = None; direct = false; parameters = [] }) ∷ []; unary = false; dangling = false; nesting = record { depth = 0; deepest = 1 ∷ []; passed = false }; loops = record { around = 0; passed = false } }

abbrev s13 : State
s13 = record { scopes = ((0, false) ∷ (2, true) ∷ (1, true) ∷ (0, true) ∷ []) ∷ []; frames = (record { is_typedef = false; has_type = false; held = None; direct = false; parameters = [] }) ∷ []; unary = false; dangling = false; nesting = record { depth = 1; deepest = 0 ∷ 1 ∷ []; passed = false }; loops = record { around = 0; passed = false } }

abbrev s14 : State
s14 = record { scopes = ((3, false) ∷ (0, false) ∷ (2, true) ∷ (1, true) ∷ (0, true) ∷ []) ∷ []; frames = (record { is_typedef = false; has_type = false; held = Some 3; direct = true; parameters = [] }) ∷ []; unary = false; dangling = false; nesting = record { depth = 0; deepest = 1 ∷ []; passed = false }; loops = record { around = 0; passed = false } }

abbrev s15 : State
s15 = record { scopes = ((3, false) ∷ (0, false) ∷ (2, true) ∷ (1, true) ∷ (0, true) ∷ []) ∷ []; frames = (record { is_typedef = false; has_type = true; held = Some 3; direct = true; parameters = [] }) ∷ []; unary = false; dangling = false; nesting = record { depth = 1; deepest = 0 ∷ 1 ∷ []; passed = false }; loops = record { around = 0; passed = false } }

abbrev s16 : State
s16 = record { scopes = ((1, false) ∷ (3, false) ∷ (0, false) ∷ (2, true) ∷ (1, true) ∷ (0, true) ∷ []) ∷ []; frames = (record { is_typedef = false; has_type = true; held = Some 1; direct = true; parameters = [] }) ∷ []; unary = false; dangling = false; nesting = record { depth = 0; deepest = 1 ∷ []; passed = false }; loops = record { around = 0; passed = false } }

abbrev s17 : State
s17 = record { scopes = ((1, false) ∷ (3, false) ∷ (0, false) ∷ (2, true) ∷ (1, true) ∷ (0, true) ∷ []) ∷ []; frames = (record { is_typedef = false; has_type = false; held = None; direct = false; parameters = [] }) ∷ []; unary = false; dangling = false; nesting = record { depth = 0; deepest = 1 ∷ []; passed = false }; loops = record { around = 0; passed = false } }

abbrev s18 : State
s18 = record { scopes = ((1, false) ∷ (3, false) ∷ (0, false) ∷ (2, true) ∷ (1, true) ∷ (0, true) ∷ []) ∷ []; frames = (record { is_typedef = false; has_type = false; held = None; direct = false; parameters = [] }) ∷ []; unary = false; dangling = false; nesting = record { depth = 1; deepest = 0 ∷ 1 ∷ []; passed = false }; loops = record { around = 0; passed = false } }

abbrev s19 : State
s19 = record { scopes = ((1, false) ∷ (3, false) ∷ (0, false) ∷ (2, true) ∷ (1, true) ∷ (0, true) ∷ []) ∷ []; frames = (record { is_typedef = false; has_type = true; held = None; direct = false; parameters = [] }) ∷ []; unary = false; dangling = false; nesting = record { depth = 2; deepest = 0 ∷ 1 ∷ 1 ∷ []; passed = false }; loops = record { around = 0; passed = false } }

abbrev s20 : State
s20 = record { scopes = ((1, false) ∷ (3, false) ∷ (0, false) ∷ (2, true) ∷ (1, true) ∷ (0, true) ∷ []) ∷ []; frames = (record { is_typedef = false; has_type = true; held = Some 2; direct = true; parameters = [] }) ∷ []; unary = false; dangling = false; nesting = record { depth = 1; deepest = 2 ∷ 1 ∷ []; passed = false }; loops = record { around = 0; passed = false } }

abbrev s21 : State
s21 = record { scopes = ((2, false) ∷ (1, false) ∷ (3, false) ∷ (0, false) ∷ (2, true) ∷ (1, true) ∷ (0, true) ∷ []) ∷ []; frames = (record { is_typedef = false; has_type = true; held = Some 2; direct = true; parameters = [] }) ∷ []; unary = false; dangling = false; nesting = record { depth = 0; deepest = 2 ∷ []; passed = false }; loops = record { around = 0; passed = false } }

abbrev s22 : State
s22 = record { scopes = ((2, false) ∷ (1, false) ∷ (3, false) ∷ (0, false) ∷ (2, true) ∷ (1, true) ∷ (0, true) ∷ []) ∷ []; frames = []; unary = false; dangling = false; nesting = record { depth = 0; deepest = 2 ∷ []; passed = false }; loops = record { around = 0; passed = false } }

abbrev pub last : State
last = record { scopes = ((2, false) ∷ (1, false) ∷ (3, false) ∷ (0, false) ∷ (2, true) ∷ (1, true) ∷ (0, true) ∷ []) ∷ []; frames = []; unary = false; dangling = false; nesting = record { depth = 0; deepest = 2 ∷ []; passed = false }; loops = record { around = 0; passed = false } }

abbrev pub tokens : List Lexeme
tokens = u0 ∷ u1 ∷ u2 ∷ u3 ∷ u4 ∷ u5 ∷ u6 ∷ u7 ∷ u8 ∷ u9 ∷ u10 ∷ u11 ∷ u12 ∷ u13 ∷ u14 ∷ u15 ∷ u16 ∷ u17 ∷ u18 ∷ u19 ∷ u20 ∷ u21 ∷ u22 ∷ []

abbrev pub trees : List External
trees = v48

pub derived : Derives (nt Sym.File tt trees ∷ []) start tokens last
derived =
    Derives.by (Rule.file v48 u22) (
    Derives.by (Rule.more_externals v17 [] v48) (
    Derives.by (Rule.external_declaration v16) (
    Derives.by (Rule.declaration v2 v13 u7) (
    Derives.acted (
    Derives.by (Rule.specifiers v0 v2) (
    Derives.by (Rule.specifier (sk.Plain (word_of u0)) u0) (
    Derives.seen (
    Derives.by (Rule.typedef u0) (
    Derives.token {s = s0} refl (
    Derives.by (Rule.more_specifiers v1 v3 v2) (
    Derives.by (Rule.specifier (sk.Plain (word_of u1)) u1) (
    Derives.seen (
    Derives.by (Rule.type_word u1) (
    Derives.token {s = s1} refl (
    Derives.by (Rule.last_specifier v2) (
    Derives.by (Rule.init_declarators v6 v13) (
    Derives.by (Rule.init_declarator v5 None) (
    Derives.by (Rule.plain_declarator Mode.concrete v4 u2) (
    Derives.seen (
    Derives.acted (
    Derives.by (Rule.named Mode.concrete [] u2 refl) (
    Derives.token {s = s2} refl (
    Derives.by (Rule.last_part []) (
    Derives.acted (
    Derives.acted (
    Derives.by Rule.no_initial (
    Derives.by (Rule.more_init_declarators v9 v14 v13 u3) (
    Derives.token {s = s3} refl (
    Derives.acted (
    Derives.by (Rule.init_declarator v8 None) (
    Derives.by (Rule.plain_declarator Mode.concrete v7 u4) (
    Derives.seen (
    Derives.acted (
    Derives.by (Rule.named Mode.concrete [] u4 refl) (
    Derives.token {s = s4} refl (
    Derives.by (Rule.last_part []) (
    Derives.acted (
    Derives.acted (
    Derives.by Rule.no_initial (
    Derives.by (Rule.more_init_declarators v12 v15 v13 u5) (
    Derives.token {s = s5} refl (
    Derives.acted (
    Derives.by (Rule.init_declarator v11 None) (
    Derives.by (Rule.plain_declarator Mode.concrete v10 u6) (
    Derives.seen (
    Derives.acted (
    Derives.by (Rule.named Mode.concrete [] u6 refl) (
    Derives.token {s = s6} refl (
    Derives.by (Rule.last_part []) (
    Derives.acted (
    Derives.acted (
    Derives.by Rule.no_initial (
    Derives.by (Rule.last_init_declarator v13) (
    Derives.token {s = s7} refl (
    Derives.acted (
    Derives.by (Rule.more_externals v25 v49 v48) (
    Derives.by (Rule.external_declaration v24) (
    Derives.by (Rule.declaration v19 v23 u11) (
    Derives.acted (
    Derives.by (Rule.specifiers v18 v19) (
    Derives.by (Rule.specifier (sk.Plain (word_of u8)) u8) (
    Derives.seen (
    Derives.by (Rule.plain_specifier u8) (
    Derives.token {s = s8} refl (
    Derives.by (Rule.last_specifier v19) (
    Derives.by (Rule.init_declarators v22 v23) (
    Derives.by (Rule.init_declarator v21 None) (
    Derives.by (Rule.pointed_declarator Mode.concrete [] ([] ∷ []) v20 u9) (
    Derives.acted (
    Derives.token {s = s9} refl (
    Derives.acted (
    Derives.by (Rule.last_qualifier []) (
    Derives.by (Rule.last_pointer ([] ∷ [])) (
    Derives.by (Rule.named Mode.concrete [] u10 refl) (
    Derives.token {s = s10} refl (
    Derives.by (Rule.last_part []) (
    Derives.acted (
    Derives.acted (
    Derives.acted (
    Derives.by Rule.no_initial (
    Derives.by (Rule.last_init_declarator v23) (
    Derives.token {s = s11} refl (
    Derives.acted (
    Derives.by (Rule.more_externals v37 v50 v48) (
    Derives.by (Rule.external_declaration v36) (
    Derives.by (Rule.declaration v27 v34 u16) (
    Derives.acted (
    Derives.by (Rule.specifiers v26 v27) (
    Derives.by (Rule.specifier (sk.Plain (word_of u12)) u12) (
    Derives.seen (
    Derives.by (Rule.plain_specifier u12) (
    Derives.token {s = s12} refl (
    Derives.by (Rule.last_specifier v27) (
    Derives.by (Rule.init_declarators v30 v34) (
    Derives.by (Rule.init_declarator v29 None) (
    Derives.by (Rule.plain_declarator Mode.concrete v28 u13) (
    Derives.seen (
    Derives.acted (
    Derives.by (Rule.named Mode.concrete [] u13 refl) (
    Derives.token {s = s13} refl (
    Derives.by (Rule.last_part []) (
    Derives.acted (
    Derives.acted (
    Derives.by Rule.no_initial (
    Derives.by (Rule.more_init_declarators v33 v35 v34 u14) (
    Derives.token {s = s14} refl (
    Derives.acted (
    Derives.by (Rule.init_declarator v32 None) (
    Derives.by (Rule.plain_declarator Mode.concrete v31 u15) (
    Derives.seen (
    Derives.acted (
    Derives.by (Rule.named Mode.concrete [] u15 refl) (
    Derives.token {s = s15} refl (
    Derives.by (Rule.last_part []) (
    Derives.acted (
    Derives.acted (
    Derives.by Rule.no_initial (
    Derives.by (Rule.last_init_declarator v34) (
    Derives.token {s = s16} refl (
    Derives.acted (
    Derives.by (Rule.more_externals v47 v51 v48) (
    Derives.by (Rule.external_declaration v46) (
    Derives.by (Rule.declaration v39 v45 u21) (
    Derives.acted (
    Derives.by (Rule.specifiers v38 v39) (
    Derives.by (Rule.specifier (sk.Plain (word_of u17)) u17) (
    Derives.seen (
    Derives.by (Rule.plain_specifier u17) (
    Derives.token {s = s17} refl (
    Derives.by (Rule.last_specifier v39) (
    Derives.by (Rule.init_declarators v44 v45) (
    Derives.by (Rule.init_declarator v43 None) (
    Derives.by (Rule.plain_declarator Mode.concrete v42 u18) (
    Derives.seen (
    Derives.acted (
    Derives.by (Rule.nested Mode.concrete v41 [] u18 u20) (
    Derives.token {s = s18} refl (
    Derives.acted (
    Derives.by (Rule.plain_declarator Mode.concrete v40 u19) (
    Derives.seen (
    Derives.acted (
    Derives.by (Rule.named Mode.concrete [] u19 refl) (
    Derives.token {s = s19} refl (
    Derives.by (Rule.last_part []) (
    Derives.acted (
    Derives.token {s = s20} refl (
    Derives.by (Rule.last_part []) (
    Derives.acted (
    Derives.acted (
    Derives.by Rule.no_initial (
    Derives.by (Rule.last_init_declarator v45) (
    Derives.token {s = s21} refl (
    Derives.acted (
    Derives.by (Rule.last_external v48) (
    Derives.token {s = s22} refl (
    Derives.done))))))))))))))))))))))))))))))))))))))))))))))))))))))))))))))))))))))))))))))))))))))))))))))))))))))))))))))))))))))))))))))))))))))))))))))))))))))))))))
