-- A derivation, written by a script: the tokens, the values, the states before tokens, and the steps.
use Rattle.std.proofs.Common.{true, false, List, [], ◌∷◌, None, Some, refl}
use Rattle.c_tree.specs.declared.declaration.Declaration.{Declaration}
use Rattle.c_tree.specs.declared.declaration.InitDeclarator.{InitDeclarator}
use Rattle.c_tree.specs.declared.declarator.DeclPart.{DeclPart}
use Rattle.c_tree.specs.declared.declarator.Param.{Param}
use Rattle.c_tree.specs.declared.lexeme.Lexeme.{Lexeme}
use Rattle.c_tree.specs.declared.lexeme.LexemeKind.TheVariants as k
use Rattle.c_tree.specs.declared.specifier.SpecKind.TheVariants as sk
use Rattle.c_tree.specs.declared.specifier.SpecWord.{SpecWord}
use Rattle.c_tree.specs.declared.tree.Item.{Item as External}
use Rattle.c_tree.specs.declared.tree.Item.TheVariants as xd
use Rattle.c_grammar.specs.Marks as m
use Rattle.c_grammar.specs.Words as d
use Rattle.c_grammar.specs.Derives.{Derives}
use Rattle.c_grammar.specs.Items.{Mode, Sym, nt}
use Rattle.c_grammar.specs.Productions.{Rule}
use Rattle.c_grammar.specs.State.{State, start}
use Rattle.c_grammar.specs.Tokens.{word_of}
use Rattle.c_grammar.specs.Trees as t
use Rattle.c_grammar.specs.Trees.{Direct, Declared, expression}
use Rattle.c_grammar_examples.specs.Rows.{lexeme}
use Rattle.c_grammar_examples.proofs.Voids.{not_void}

abbrev pub u0 : Lexeme
u0 = lexeme 0 (k.Word d.int_word)

abbrev pub u1 : Lexeme
u1 = lexeme 1 (k.Mark m.left_parenthesis)

abbrev pub u2 : Lexeme
u2 = lexeme 2 (k.Mark m.asterisk)

abbrev pub u3 : Lexeme
u3 = lexeme 3 (k.Name 0)

abbrev pub u4 : Lexeme
u4 = lexeme 4 (k.Mark m.left_parenthesis)

abbrev pub u5 : Lexeme
u5 = lexeme 5 (k.Word d.int_word)

abbrev pub u6 : Lexeme
u6 = lexeme 6 (k.Name 1)

abbrev pub u7 : Lexeme
u7 = lexeme 7 (k.Mark m.right_parenthesis)

abbrev pub u8 : Lexeme
u8 = lexeme 8 (k.Mark m.right_parenthesis)

abbrev pub u9 : Lexeme
u9 = lexeme 9 (k.Mark m.left_parenthesis)

abbrev pub u10 : Lexeme
u10 = lexeme 10 (k.Word d.int_word)

abbrev pub u11 : Lexeme
u11 = lexeme 11 (k.Mark m.right_parenthesis)

abbrev pub u12 : Lexeme
u12 = lexeme 12 (k.Mark m.semicolon)

abbrev pub u13 : Lexeme
u13 = lexeme 13 k.End

abbrev v0 : List SpecWord
v0 = (t.spec_word u0 (sk.Plain (word_of u0))) ∷ []

abbrev v1 : SpecWord
v1 = t.spec_word u0 (sk.Plain (word_of u0))

abbrev v2 : List SpecWord
v2 = (t.spec_word u5 (sk.Plain (word_of u5))) ∷ []

abbrev v3 : SpecWord
v3 = t.spec_word u5 (sk.Plain (word_of u5))

abbrev v4 : Declared
v4 = t.declarator u6 [] (t.direct_name u6 [])

abbrev v5 : List Param
v5 = (t.parameter v2 (Some v4)) ∷ []

abbrev v6 : Param
v6 = t.parameter v2 (Some v4)

abbrev v7 : List DeclPart
v7 = (t.parameters_part u4 (v5, None)) ∷ []

abbrev v8 : DeclPart
v8 = t.parameters_part u4 (v5, None)

abbrev v9 : List SpecWord
v9 = (t.spec_word u10 (sk.Plain (word_of u10))) ∷ []

abbrev v10 : SpecWord
v10 = t.spec_word u10 (sk.Plain (word_of u10))

abbrev v11 : List Param
v11 = (t.parameter v9 None) ∷ []

abbrev v12 : List DeclPart
v12 = (t.parameters_part u9 (v11, None)) ∷ []

abbrev v13 : DeclPart
v13 = t.parameters_part u9 (v11, None)

abbrev v14 : Declared
v14 = t.declarator u2 ([] ∷ []) (t.direct_name u3 v7)

abbrev v15 : Direct
v15 = t.direct_nested v14 v12

abbrev v16 : List InitDeclarator
v16 = (record { declarator = (t.declarator u1 [] v15).tree; initial = None }) ∷ []

abbrev v17 : InitDeclarator
v17 = (record { declarator = (t.declarator u1 [] v15).tree; initial = None })

abbrev v18 : Declaration
v18 = (record { head = v0; parts = v16 })

abbrev v19 : List External
v19 = (xd.Declaration v18) ∷ []

abbrev s0 : State
s0 = record { scopes = [] ∷ []; frames = (record { is_typedef = false; has_type = false; held = None; direct = false; parameters = [] }) ∷ []; unary = false; dangling = false; nesting = record { depth = 0; deepest = 0 ∷ []; passed = false }; loops = record { around = 0; passed = false } }

abbrev s1 : State
s1 = record { scopes = [] ∷ []; frames = (record { is_typedef = false; has_type = true; held = None; direct = false; parameters = [] }) ∷ []; unary = false; dangling = false; nesting = record { depth = 1; deepest = 0 ∷ 0 ∷ []; passed = false }; loops = record { around = 0; passed = false } }

abbrev s2 : State
s2 = record { scopes = [] ∷ []; frames = (record { is_typedef = false; has_type = true; held = None; direct = false; parameters = [] }) ∷ []; unary = false; dangling = false; nesting = record { depth = 2; deepest = 0 ∷ 1 ∷ 0 ∷ []; passed = false }; loops = record { around = 0; passed = false } }

abbrev s3 : State
s3 = record { scopes = [] ∷ []; frames = (record { is_typedef = false; has_type = true; held = None; direct = false; parameters = [] }) ∷ []; unary = false; dangling = false; nesting = record { depth = 2; deepest = 2 ∷ 1 ∷ 0 ∷ []; passed = false }; loops = record { around = 0; passed = false } }

abbrev s4 : State
s4 = record { scopes = [] ∷ []; frames = (record { is_typedef = false; has_type = true; held = Some 0; direct = true; parameters = [] }) ∷ []; unary = false; dangling = false; nesting = record { depth = 2; deepest = 2 ∷ 1 ∷ 0 ∷ []; passed = false }; loops = record { around = 0; passed = false } }

abbrev s5 : State
s5 = record { scopes = [] ∷ [] ∷ []; frames = (record { is_typedef = false; has_type = false; held = None; direct = false; parameters = [] }) ∷ (record { is_typedef = false; has_type = true; held = Some 0; direct = true; parameters = [] }) ∷ []; unary = false; dangling = false; nesting = record { depth = 2; deepest = 2 ∷ 1 ∷ 0 ∷ []; passed = false }; loops = record { around = 0; passed = false } }

abbrev s6 : State
s6 = record { scopes = [] ∷ [] ∷ []; frames = (record { is_typedef = false; has_type = true; held = None; direct = false; parameters = [] }) ∷ (record { is_typedef = false; has_type = true; held = Some 0; direct = true; parameters = [] }) ∷ []; unary = false; dangling = false; nesting = record { depth = 3; deepest = 0 ∷ 2 ∷ 1 ∷ 0 ∷ []; passed = false }; loops = record { around = 0; passed = false } }

abbrev s7 : State
s7 = record { scopes = ((1, false) ∷ []) ∷ [] ∷ []; frames = (record { is_typedef = false; has_type = true; held = Some 0; direct = true; parameters = [] }) ∷ []; unary = false; dangling = false; nesting = record { depth = 2; deepest = 3 ∷ 1 ∷ 0 ∷ []; passed = false }; loops = record { around = 0; passed = false } }

abbrev s8 : State
s8 = record { scopes = [] ∷ []; frames = (record { is_typedef = false; has_type = true; held = Some 0; direct = false; parameters = ((1, false) ∷ []) }) ∷ []; unary = false; dangling = false; nesting = record { depth = 1; deepest = 3 ∷ 0 ∷ []; passed = false }; loops = record { around = 0; passed = false } }

abbrev s9 : State
s9 = record { scopes = [] ∷ [] ∷ []; frames = (record { is_typedef = false; has_type = false; held = None; direct = false; parameters = [] }) ∷ (record { is_typedef = false; has_type = true; held = Some 0; direct = false; parameters = ((1, false) ∷ []) }) ∷ []; unary = false; dangling = false; nesting = record { depth = 1; deepest = 3 ∷ 0 ∷ []; passed = false }; loops = record { around = 0; passed = false } }

abbrev s10 : State
s10 = record { scopes = [] ∷ [] ∷ []; frames = (record { is_typedef = false; has_type = true; held = Some 0; direct = false; parameters = ((1, false) ∷ []) }) ∷ []; unary = false; dangling = false; nesting = record { depth = 1; deepest = 3 ∷ 0 ∷ []; passed = false }; loops = record { around = 0; passed = false } }

abbrev s11 : State
s11 = record { scopes = ((0, false) ∷ []) ∷ []; frames = (record { is_typedef = false; has_type = true; held = Some 0; direct = false; parameters = ((1, false) ∷ []) }) ∷ []; unary = false; dangling = false; nesting = record { depth = 0; deepest = 3 ∷ []; passed = false }; loops = record { around = 0; passed = false } }

abbrev s12 : State
s12 = record { scopes = ((0, false) ∷ []) ∷ []; frames = []; unary = false; dangling = false; nesting = record { depth = 0; deepest = 3 ∷ []; passed = false }; loops = record { around = 0; passed = false } }

abbrev pub last : State
last = record { scopes = ((0, false) ∷ []) ∷ []; frames = []; unary = false; dangling = false; nesting = record { depth = 0; deepest = 3 ∷ []; passed = false }; loops = record { around = 0; passed = false } }

abbrev pub tokens : List Lexeme
tokens = u0 ∷ u1 ∷ u2 ∷ u3 ∷ u4 ∷ u5 ∷ u6 ∷ u7 ∷ u8 ∷ u9 ∷ u10 ∷ u11 ∷ u12 ∷ u13 ∷ []

pub derived : Derives (nt Sym.File tt v19 ∷ []) start tokens last
derived =
    Derives.by (Rule.file v19 u13) (
    Derives.by (Rule.more_externals (xd.Declaration v18) [] v19) (
    Derives.by (Rule.external_declaration v18) (
    Derives.by (Rule.declaration v0 v16 u12) (
    Derives.acted (
    Derives.by (Rule.specifiers v1 v0) (
    Derives.by (Rule.specifier (sk.Plain (word_of u0)) u0) (
    Derives.seen (
    Derives.by (Rule.type_word u0) (
    Derives.token {s = s0} refl (
    Derives.by (Rule.last_specifier v0) (
    Derives.by (Rule.init_declarators v17 v16) (
    Derives.by (Rule.init_declarator (t.declarator u1 [] v15) None) (
    Derives.by (Rule.plain_declarator Mode.concrete v15 u1) (
    Derives.seen (
    Derives.acted (
    Derives.by (Rule.nested Mode.concrete v14 v12 u1 u8) (
    Derives.token {s = s1} refl (
    Derives.acted (
    Derives.by (Rule.pointed_declarator Mode.concrete [] ([] ∷ []) (t.direct_name u3 v7) u2) (
    Derives.acted (
    Derives.token {s = s2} refl (
    Derives.acted (
    Derives.by (Rule.last_qualifier []) (
    Derives.by (Rule.last_pointer ([] ∷ [])) (
    Derives.by (Rule.named Mode.concrete v7 u3 refl) (
    Derives.token {s = s3} refl (
    Derives.by (Rule.more_parts v8 [] v7) (
    Derives.by (Rule.parameters (v5, None) u4 u7) (
    Derives.token {s = s4} refl (
    Derives.acted (
    Derives.by (Rule.parameter_list v6 (v5, None) (not_void u5 (word_of u5) [] (Some v4) [] None refl)) (
    Derives.by (Rule.parameter v2 (Some v4)) (
    Derives.acted (
    Derives.by (Rule.specifiers v3 v2) (
    Derives.by (Rule.specifier (sk.Plain (word_of u5)) u5) (
    Derives.seen (
    Derives.by (Rule.type_word u5) (
    Derives.token {s = s5} refl (
    Derives.by (Rule.last_specifier v2) (
    Derives.by (Rule.some_declarator Mode.parameter v4) (
    Derives.by (Rule.plain_declarator Mode.parameter (t.direct_name u6 []) u6) (
    Derives.seen (
    Derives.acted (
    Derives.by (Rule.named Mode.parameter [] u6 refl) (
    Derives.token {s = s6} refl (
    Derives.by (Rule.last_part []) (
    Derives.acted (
    Derives.acted (
    Derives.acted (
    Derives.by (Rule.last_parameter v5) (
    Derives.token {s = s7} refl (
    Derives.acted (
    Derives.by (Rule.last_part v7) (
    Derives.acted (
    Derives.acted (
    Derives.token {s = s8} refl (
    Derives.by (Rule.more_parts v13 [] v12) (
    Derives.by (Rule.parameters (v11, None) u9 u11) (
    Derives.token {s = s8} refl (
    Derives.acted (
    Derives.by (Rule.parameter_list (t.parameter v9 None) (v11, None) (not_void u10 (word_of u10) [] None [] None refl)) (
    Derives.by (Rule.parameter v9 None) (
    Derives.acted (
    Derives.by (Rule.specifiers v10 v9) (
    Derives.by (Rule.specifier (sk.Plain (word_of u10)) u10) (
    Derives.seen (
    Derives.by (Rule.type_word u10) (
    Derives.token {s = s9} refl (
    Derives.by (Rule.last_specifier v9) (
    Derives.by (Rule.no_declarator Mode.parameter) (
    Derives.acted (
    Derives.acted (
    Derives.by (Rule.last_parameter v11) (
    Derives.token {s = s10} refl (
    Derives.acted (
    Derives.by (Rule.last_part v12) (
    Derives.acted (
    Derives.acted (
    Derives.by Rule.no_initial (
    Derives.by (Rule.last_init_declarator v16) (
    Derives.token {s = s11} refl (
    Derives.acted (
    Derives.by (Rule.last_external v19) (
    Derives.token {s = s12} refl (
    Derives.done)))))))))))))))))))))))))))))))))))))))))))))))))))))))))))))))))))))))))))))))))))))
