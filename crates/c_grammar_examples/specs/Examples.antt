-- Lists of tokens, and what the grammar makes of them.
use Rattle.std.specs.Prelude.{List, [], ◌∷◌, ◌++◌, None, Some}
use Rattle.c_tree.specs.declared.expression.ExprKind.TheVariants as e
use Rattle.c_tree.specs.declared.initialiser.Designator.TheVariants as dg
use Rattle.c_tree.specs.declared.initialiser.Initialiser.TheVariants as iv
use Rattle.c_tree.specs.declared.lexeme.Lexeme.{Lexeme}
use Rattle.c_tree.specs.declared.lexeme.LexemeKind.TheVariants as k
use Rattle.c_tree.specs.declared.specifier.SpecKind.TheVariants as sk
use Rattle.c_tree.specs.declared.statement.BlockItem.TheVariants as bi
use Rattle.c_tree.specs.declared.statement.StatementKind.TheVariants as st
use Rattle.c_tree.specs.declared.tree.Item.{Item as External}
use Rattle.c_tree.specs.declared.tree.Item.TheVariants as xd
use Rattle.c_values.specs.declared.int_type.IntType.TheVariants.{Int}
use Rattle.c_values.specs.declared.operator.UnOp.TheVariants.{Neg}
use Rattle.c_grammar.specs.Marks as m
use Rattle.c_grammar.specs.Words as d
use Rattle.c_tree.specs.declared.declarator.DeclCore.TheVariants as core
use Rattle.c_tree.specs.declared.specifier.RecordKind.TheVariants.{Struct}
use Rattle.c_grammar_examples.specs.Rows.{lexeme, in_a_row, expression, number, name, spec_word, plain, member_declaration, declarator, named, array, parameters, parameter, type_name, declaration, with_initial, entry, braced, statement}

-- An array, and a store into it.
-- int a[4]; int main(void){ a[3]=1; return 0; }
abbrev pub array_store : List Lexeme
array_store = in_a_row 0 (
    k.Word d.int_word ∷ k.Name 0 ∷ k.Mark m.left_bracket ∷ k.Number 4 Int ∷ k.Mark m.right_bracket ∷ k.Mark m.semicolon ∷
    k.Word d.int_word ∷ k.Name 1 ∷ k.Mark m.left_parenthesis ∷ k.Word d.void_word ∷ k.Mark m.right_parenthesis ∷
    k.Mark m.left_brace ∷ k.Name 0 ∷ k.Mark m.left_bracket ∷ k.Number 3 Int ∷ k.Mark m.right_bracket ∷ k.Mark m.equal ∷
    k.Number 1 Int ∷ k.Mark m.semicolon ∷ k.Word d.return_word ∷ k.Number 0 Int ∷ k.Mark m.semicolon ∷ k.Mark m.right_brace ∷ k.End ∷ [])

abbrev pub array_store_tree : List External
array_store_tree =
    xd.Declaration (declaration (plain 0 d.int_word ∷ []) (with_initial (named 1 0 (array 2 (Some (number 3 4)) ∷ [])) None ∷ [])) ∷
    xd.Function (plain 6 d.int_word ∷ []) (named 7 1 (parameters 8 [] None ∷ [])) (statement 11 (st.Compound (
    bi.Statement (statement 12 (st.Plain (Some (expression 16 (e.Assign None (expression 13 (e.Index (name 12 0) (number 14 3))) (number 17 1)))))) ∷
    bi.Statement (statement 19 (st.Return (Some (number 20 0)))) ∷
    []))) ∷
    []

-- A declaration with a typedef name and parentheses, and a cast.
-- typedef int T; void f(void){ T(x); (T)-1; }
abbrev pub cast : List Lexeme
cast = in_a_row 0 (
    k.Word d.typedef_word ∷ k.Word d.int_word ∷ k.Name 0 ∷ k.Mark m.semicolon ∷ k.Word d.void_word ∷ k.Name 1 ∷
    k.Mark m.left_parenthesis ∷ k.Word d.void_word ∷ k.Mark m.right_parenthesis ∷ k.Mark m.left_brace ∷ k.Name 0 ∷
    k.Mark m.left_parenthesis ∷ k.Name 2 ∷ k.Mark m.right_parenthesis ∷ k.Mark m.semicolon ∷ k.Mark m.left_parenthesis ∷ k.Name 0 ∷
    k.Mark m.right_parenthesis ∷ k.Mark m.minus ∷ k.Number 1 Int ∷ k.Mark m.semicolon ∷ k.Mark m.right_brace ∷ k.End ∷ [])

abbrev pub cast_tree : List External
cast_tree =
    xd.Declaration (declaration (plain 0 d.typedef_word ∷ plain 1 d.int_word ∷ []) (with_initial (named 2 0 []) None ∷ [])) ∷
    xd.Function (plain 4 d.void_word ∷ []) (named 5 1 (parameters 6 [] None ∷ [])) (statement 9 (st.Compound (
    bi.Declaration (declaration (spec_word 10 (sk.Typedef 0) ∷ []) (with_initial (declarator 12 [] (core.Nested (named 12 2 [])) []) None ∷ [])) ∷
    bi.Statement (statement 15 (st.Plain (Some (
    expression 15 (e.Cast (type_name (spec_word 16 (sk.Typedef 0) ∷ []) None) (expression 18 (e.Unary Neg (number 19 1)))))))) ∷
    []))) ∷
    []

-- A function that returns a pointer to a function.
-- int (*f(int a))(int);
abbrev pub function_of_functions : List Lexeme
function_of_functions = in_a_row 0 (
    k.Word d.int_word ∷ k.Mark m.left_parenthesis ∷ k.Mark m.asterisk ∷ k.Name 0 ∷ k.Mark m.left_parenthesis ∷ k.Word d.int_word ∷
    k.Name 1 ∷ k.Mark m.right_parenthesis ∷ k.Mark m.right_parenthesis ∷ k.Mark m.left_parenthesis ∷ k.Word d.int_word ∷
    k.Mark m.right_parenthesis ∷ k.Mark m.semicolon ∷ k.End ∷ [])

abbrev pub function_of_functions_tree : List External
function_of_functions_tree =
    xd.Declaration (declaration (plain 0 d.int_word ∷ []) (with_initial (declarator 3 []
    (core.Nested (declarator 3 ([] ∷ []) (core.Name 0) (parameters 4 (parameter (plain 5 d.int_word ∷ []) (Some (named 6 1 [])) ∷ []) None ∷ [])))
    (parameters 9 (parameter (plain 10 d.int_word ∷ []) None ∷ []) None ∷ [])) None ∷ [])) ∷
    []

-- An `else` belongs to the nearest `if`.
-- void f(void){ if(a) if(b) c; else d; }
abbrev pub nearest_if : List Lexeme
nearest_if = in_a_row 0 (
    k.Word d.void_word ∷ k.Name 0 ∷ k.Mark m.left_parenthesis ∷ k.Word d.void_word ∷ k.Mark m.right_parenthesis ∷
    k.Mark m.left_brace ∷ k.Word d.if_word ∷ k.Mark m.left_parenthesis ∷ k.Name 1 ∷ k.Mark m.right_parenthesis ∷ k.Word d.if_word ∷
    k.Mark m.left_parenthesis ∷ k.Name 2 ∷ k.Mark m.right_parenthesis ∷ k.Name 3 ∷ k.Mark m.semicolon ∷ k.Word d.else_word ∷
    k.Name 4 ∷ k.Mark m.semicolon ∷ k.Mark m.right_brace ∷ k.End ∷ [])

abbrev pub nearest_if_tree : List External
nearest_if_tree =
    xd.Function (plain 0 d.void_word ∷ []) (named 1 0 (parameters 2 [] None ∷ [])) (statement 5 (st.Compound (
    bi.Statement (statement 6 (st.If (name 8 1)
    (statement 10 (st.If (name 12 2) (statement 14 (st.Plain (Some (name 14 3)))) (Some (statement 17 (st.Plain (Some (name 17 4)))))))
    None)) ∷
    []))) ∷
    []

-- A structure.
-- struct { int a[4]; int b; } s;
abbrev pub structure : List Lexeme
structure = in_a_row 0 (
    k.Word d.struct_word ∷ k.Mark m.left_brace ∷ k.Word d.int_word ∷ k.Name 0 ∷ k.Mark m.left_bracket ∷ k.Number 4 Int ∷
    k.Mark m.right_bracket ∷ k.Mark m.semicolon ∷ k.Word d.int_word ∷ k.Name 1 ∷ k.Mark m.semicolon ∷ k.Mark m.right_brace ∷
    k.Name 2 ∷ k.Mark m.semicolon ∷ k.End ∷ [])

abbrev pub structure_tree : List External
structure_tree =
    xd.Declaration (declaration
    (spec_word 0 (sk.Record Struct None (Some (
    member_declaration (plain 2 d.int_word ∷ []) (named 3 0 (array 4 (Some (number 5 4)) ∷ []) ∷ []) ∷
    member_declaration (plain 8 d.int_word ∷ []) (named 9 1 [] ∷ []) ∷
    []))) ∷ [])
    (with_initial (named 12 2 []) None ∷ [])) ∷
    []

-- A designator.
-- int x[] = { [2] = 1, 5 };
abbrev pub designator : List Lexeme
designator = in_a_row 0 (
    k.Word d.int_word ∷ k.Name 0 ∷ k.Mark m.left_bracket ∷ k.Mark m.right_bracket ∷ k.Mark m.equal ∷ k.Mark m.left_brace ∷
    k.Mark m.left_bracket ∷ k.Number 2 Int ∷ k.Mark m.right_bracket ∷ k.Mark m.equal ∷ k.Number 1 Int ∷ k.Mark m.comma ∷
    k.Number 5 Int ∷ k.Mark m.right_brace ∷ k.Mark m.semicolon ∷ k.End ∷ [])

abbrev pub designator_tree : List External
designator_tree =
    xd.Declaration (declaration (plain 0 d.int_word ∷ []) (with_initial (named 1 0 (array 2 None ∷ [])) (Some (braced 5 (
    entry (dg.Index (number 7 2) ∷ []) (iv.One (number 10 1)) ∷
    entry [] (iv.One (number 12 5)) ∷
    []))) ∷ [])) ∷
    []

-- Lists without a type word that have ended before a typedef name: the name is declared anew.
-- typedef int T, U, V; const *T; static x, U; static (V);
abbrev pub typedefs_anew : List Lexeme
typedefs_anew = in_a_row 0 (
    k.Word d.typedef_word ∷ k.Word d.int_word ∷ k.Name 0 ∷ k.Mark m.comma ∷ k.Name 1 ∷ k.Mark m.comma ∷ k.Name 2 ∷ k.Mark m.semicolon ∷
    k.Word d.const_word ∷ k.Mark m.asterisk ∷ k.Name 0 ∷ k.Mark m.semicolon ∷
    k.Word d.static_word ∷ k.Name 3 ∷ k.Mark m.comma ∷ k.Name 1 ∷ k.Mark m.semicolon ∷
    k.Word d.static_word ∷ k.Mark m.left_parenthesis ∷ k.Name 2 ∷ k.Mark m.right_parenthesis ∷ k.Mark m.semicolon ∷ k.End ∷ [])

abbrev pub typedefs_anew_tree : List External
typedefs_anew_tree =
    xd.Declaration (declaration (plain 0 d.typedef_word ∷ plain 1 d.int_word ∷ [])
    (with_initial (named 2 0 []) None ∷ with_initial (named 4 1 []) None ∷ with_initial (named 6 2 []) None ∷ [])) ∷
    xd.Declaration (declaration (plain 8 d.const_word ∷ []) (with_initial (declarator 10 ([] ∷ []) (core.Name 0) []) None ∷ [])) ∷
    xd.Declaration (declaration (plain 12 d.static_word ∷ [])
    (with_initial (named 13 3 []) None ∷ with_initial (named 15 1 []) None ∷ [])) ∷
    xd.Declaration (declaration (plain 17 d.static_word ∷ [])
    (with_initial (declarator 19 [] (core.Nested (named 19 2 [])) []) None ∷ [])) ∷
    []

-- A list without a type word whose first name is a typedef name: the name is the type word, so `[` is the first bad token.
-- typedef int T; static T[3];
abbrev pub typedef_name_before : List Lexeme
typedef_name_before = in_a_row 0 (k.Word d.typedef_word ∷ k.Word d.int_word ∷ k.Name 0 ∷ k.Mark m.semicolon ∷ k.Word d.static_word ∷
    k.Name 0 ∷ [])

abbrev pub typedef_name_bad : Lexeme
typedef_name_bad = lexeme 6 (k.Mark m.left_bracket)

abbrev pub typedef_name_behind : List Lexeme
typedef_name_behind = in_a_row 7 (k.Number 3 Int ∷ k.Mark m.right_bracket ∷ k.Mark m.semicolon ∷ k.End ∷ [])

-- int main(void){ return 0
abbrev pub body_before : List Lexeme
body_before = in_a_row 0 (k.Word d.int_word ∷ k.Name 0 ∷ k.Mark m.left_parenthesis ∷ k.Word d.void_word ∷ k.Mark m.right_parenthesis ∷
    k.Mark m.left_brace ∷ k.Word d.return_word ∷ k.Number 0 Int ∷ [])

-- and then 0; }
abbrev pub second_zero : Lexeme
second_zero = lexeme 8 (k.Number 0 Int)

abbrev pub second_zero_behind : List Lexeme
second_zero_behind = in_a_row 9 (k.Mark m.semicolon ∷ k.Mark m.right_brace ∷ k.End ∷ [])

-- or ; and the end of the file
abbrev pub open_body : List Lexeme
open_body = body_before ++ lexeme 8 (k.Mark m.semicolon) ∷ []

abbrev pub early_end : Lexeme
early_end = lexeme 9 k.End
