-- The productions of each nonterminal: their pieces, and their programs. One that takes no token comes last.
use Rattle.std.proofs.Common.{zero, suc, true, false, List, [], ◌∷◌, ◌++◌, Some, None}
use Rattle.c_tree.specs.declared.expression.ExprKind.TheVariants as e
use Rattle.c_tree.specs.declared.initialiser.Designator.TheVariants as dg
use Rattle.c_tree.specs.declared.initialiser.Initialiser.TheVariants as iv
use Rattle.c_tree.specs.declared.specifier.SpecKind.TheVariants as sk
use Rattle.c_tree.specs.declared.statement.BlockItem.TheVariants as bi
use Rattle.c_tree.specs.declared.statement.ForFirst.TheVariants as ff
use Rattle.c_tree.specs.declared.statement.StatementKind.TheVariants as st
use Rattle.c_tree.specs.declared.tree.Item.TheVariants as xd
use Rattle.c_grammar.specs.Items.{Mode, Sym, In, Out}
use Rattle.c_grammar.specs.Marks as m
use Rattle.c_grammar.specs.Modes.{name_of_mode, behind_pointer, in_parentheses}
use Rattle.c_grammar.specs.State.{begin, end_specifiers, finish, declare, open_scope, close_scope, open_body, close_parameters, indirect, is_unary, is_no_unary, leave_dangling, begin_operand, end_operand, enter, leave, leave_loop}
use Rattle.c_grammar.specs.Terminals as w
use Rattle.c_grammar.specs.Terminals.{mark, word, operator, closing}
use Rattle.c_grammar.specs.Tokens.{name_of, bytes_of, word_of}
use Rattle.c_grammar.specs.Trees as t
use Rattle.c_grammar.specs.Trees.{expression}
use Rattle.c_grammar.specs.Words as d
use Rattle.c_grammar.proofs.Programs.{Program, Program.give, Program.take, Program.look, Program.turn, Program.call}

abbrev pub productions : (n : Sym) → In n → List (Program (Out n))
productions Sym.Primary left =
    (turn enter (take w.value_name (λ u. turn leave (give (expression u (e.Name (name_of u))))))) ∷
    (turn enter (take w.number (λ u. turn leave (give (expression u (t.constant_in u.kind)))))) ∷
    (turn enter (take w.character (λ u. turn leave (give (expression u (t.constant_in u.kind)))))) ∷
    (turn enter (take w.text (λ u. call Sym.MoreTexts (bytes_of u) (λ bytes. turn leave (give (expression u (e.Text bytes))))))) ∷
    (turn enter (take (mark m.left_parenthesis)
    (λ u. call Sym.Expression tt (λ a. take (closing (mark m.right_parenthesis)) (λ v. turn leave (give a)))))) ∷ []
productions Sym.MoreTexts left =
    (take w.text (λ u. call Sym.MoreTexts (left ++ bytes_of u) (λ bytes. give bytes))) ∷
    (give left) ∷ []
productions Sym.Postfix left =
    (call Sym.Primary tt (λ a. call Sym.AfterPostfix a (λ b. give b))) ∷ []
productions Sym.AfterPostfix left =
    (take (operator (mark m.left_bracket))
    (λ u. turn enter (call Sym.Expression tt
    (λ b. take (closing (mark m.right_bracket))
    (λ v. turn leave (call Sym.AfterPostfix (expression u (e.Index left b)) (λ c. give c))))))) ∷
    (take (operator (mark m.left_parenthesis))
    (λ u. turn enter (call Sym.Arguments tt
    (λ bs. take (closing (mark m.right_parenthesis))
    (λ v. turn leave (call Sym.AfterPostfix (expression u (e.Call left bs)) (λ c. give c))))))) ∷
    (take (operator (mark m.period))
    (λ u. take (closing w.any_name) (λ v. call Sym.AfterPostfix (expression u (e.Member left (name_of v))) (λ c. give c)))) ∷
    (take (operator (mark m.arrow))
    (λ u. take (closing w.any_name) (λ v. call Sym.AfterPostfix (expression u (e.Arrow left (name_of v))) (λ c. give c)))) ∷
    (take (closing (operator w.bump)) (λ u. call Sym.AfterPostfix (expression u (e.Bump (t.goes_up u) false left)) (λ c. give c))) ∷
    (give left) ∷ []
productions Sym.Arguments left =
    (turn begin_operand (call Sym.Assignment tt (λ a. turn end_operand (call Sym.MoreArguments (a ∷ []) (λ bs. give bs))))) ∷
    (give []) ∷ []
productions Sym.MoreArguments left =
    (take (mark m.comma) (λ u. turn begin_operand
    (call Sym.Assignment tt (λ a. turn end_operand (call Sym.MoreArguments (left ++ a ∷ []) (λ cs. give cs)))))) ∷
    (give left) ∷ []
productions Sym.Unary left =
    (call Sym.Postfix tt (λ a. give a)) ∷
    (turn enter (take w.bump (λ u. call Sym.Unary tt (λ a. turn leave (give (expression u (e.Bump (t.goes_up u) true a))))))) ∷
    (turn enter (take w.unary_operator (λ u. call Sym.Cast tt (λ a. turn leave (turn is_unary (give (t.applied u a))))))) ∷
    (turn enter (take (word d.sizeof_word) (λ u. call Sym.Unary tt (λ a. turn leave (give (expression u (e.SizeOf a))))))) ∷
    (turn enter (take (word d.sizeof_word)
    (λ u. call Sym.TypeInParentheses tt (λ n. turn leave (turn is_unary (give (expression u (e.SizeOfName n)))))))) ∷ []
productions Sym.TypeInParentheses left =
    (take (mark m.left_parenthesis) (λ u. call Sym.NameOfType tt (λ n. take (mark m.right_parenthesis) (λ v. give n)))) ∷ []
productions Sym.Cast left =
    (call Sym.Unary tt (λ a. give a)) ∷
    (look (λ u. turn enter (call Sym.TypeInParentheses tt
    (λ n. call Sym.Cast tt (λ a. turn leave (turn is_no_unary (give (expression u (e.Cast n a))))))))) ∷ []
productions (Sym.Level zero) left =
    (call Sym.Cast tt (λ a. give a)) ∷ []
productions (Sym.Level (suc n)) left =
    (call (Sym.Level n) tt (λ a. call (Sym.MoreOperands n) a (λ b. give b))) ∷ []
productions (Sym.MoreOperands n) left =
    (take (w.binary_operator n) (λ u. turn enter
    (call (Sym.Level n) tt (λ b. turn leave (turn is_no_unary (call (Sym.MoreOperands n) (t.joined u left b) (λ c. give c))))))) ∷
    (give left) ∷ []
productions Sym.Conditional left =
    (call (Sym.Level 10) tt (λ a. call Sym.Chosen a (λ b. give b))) ∷ []
productions Sym.Chosen left =
    (take (operator (mark m.question))
    (λ u. turn enter (call Sym.Expression tt
    (λ b. take (mark m.colon) (λ v. turn begin_operand
    (call Sym.Conditional tt (λ c. turn end_operand (turn leave (turn is_no_unary (give (expression u (e.Choose left b c)))))))))))) ∷
    (give left) ∷ []
productions Sym.Constant left =
    (turn begin_operand (call Sym.Conditional tt (λ a. turn end_operand (give a)))) ∷ []
productions Sym.Assignment left =
    (call Sym.Conditional tt (λ a. call Sym.Assigned a (λ b. give b))) ∷ []
productions Sym.Assigned left =
    (take w.assignment_operator (λ u. turn enter (call Sym.Assignment tt (λ b. turn leave (give (t.assigned u left b)))))) ∷
    (give left) ∷ []
productions Sym.Expression left =
    (turn begin_operand (call Sym.Assignment tt (λ a. call Sym.MoreExpressions a (λ b. turn end_operand (give b))))) ∷ []
productions Sym.MoreExpressions left =
    (take (operator (mark m.comma))
    (λ u. turn enter (call Sym.Assignment tt
    (λ b. turn leave (call Sym.MoreExpressions (expression u (e.Comma left b)) (λ c. give c)))))) ∷
    (give left) ∷ []
productions Sym.AnyDeclaration left =
    (turn begin (call Sym.Specifiers tt
    (λ head. call Sym.InitDeclarators tt
    (λ parts. take (mark m.semicolon) (λ u. turn finish (give (record { head = head; parts = parts }))))))) ∷ []
productions Sym.InitDeclarators left =
    (call Sym.DeclaratorWithInitial tt (λ p. call Sym.MoreInitDeclarators (p ∷ []) (λ ps. give ps))) ∷
    (give []) ∷ []
productions Sym.MoreInitDeclarators left =
    (take (mark m.comma) (λ u. turn end_specifiers
    (call Sym.DeclaratorWithInitial tt (λ p. call Sym.MoreInitDeclarators (left ++ p ∷ []) (λ qs. give qs))))) ∷
    (give left) ∷ []
productions Sym.DeclaratorWithInitial left =
    (call (Sym.DeclaratorOf Mode.concrete) tt
    (λ p. turn declare (call Sym.Initial tt (λ value. give (record { declarator = p.tree; initial = value }))))) ∷ []
productions Sym.Initial left =
    (take (mark m.equal) (λ u. call Sym.InitialValue tt (λ value. give (Some value)))) ∷
    (give None) ∷ []
productions Sym.Specifiers left =
    (call Sym.Specifier tt (λ s. call Sym.MoreSpecifiers (s ∷ []) (λ ss. give ss))) ∷ []
productions Sym.MoreSpecifiers left =
    (call Sym.Specifier tt (λ s. call Sym.MoreSpecifiers (left ++ s ∷ []) (λ rs. give rs))) ∷
    (give left) ∷ []
productions Sym.Specifier left =
    (look (λ u. call Sym.SpecifierForm tt (λ kind. give (t.spec_word u kind)))) ∷ []
productions Sym.SpecifierForm left =
    (take w.typedef (λ u. give (sk.Plain (word_of u)))) ∷
    (take w.plain_specifier (λ u. give (sk.Plain (word_of u)))) ∷
    (take w.type_word (λ u. give (sk.Plain (word_of u)))) ∷
    (take w.typedef_name (λ u. give (sk.Typedef (name_of u)))) ∷
    (take w.record_word (λ u. call Sym.Tag tt
    (λ tag. turn enter (take (mark m.left_brace)
    (λ v. call Sym.Members tt (λ members. take (mark m.right_brace)
    (λ x. turn leave (give (sk.Record (t.record_kind u) tag (Some members)))))))))) ∷
    (take w.record_word (λ u. take w.any_name (λ v. give (sk.Record (t.record_kind u) (Some (name_of v)) None)))) ∷
    (take w.enumeration_word (λ u. call Sym.Tag tt
    (λ tag. turn enter (take (mark m.left_brace)
    (λ v. call Sym.Enumerators tt (λ items. take (mark m.right_brace) (λ x. turn leave (give (sk.Enum tag (Some items)))))))))) ∷
    (take w.enumeration_word (λ u. take w.any_name (λ v. give (sk.Enum (Some (name_of v)) None)))) ∷ []
productions Sym.Tag left =
    (take w.any_name (λ u. give (Some (name_of u)))) ∷
    (give None) ∷ []
productions Sym.Members left =
    (call Sym.Member tt (λ p. call Sym.MoreMembers (p ∷ []) (λ ps. give ps))) ∷ []
productions Sym.MoreMembers left =
    (call Sym.Member tt (λ p. call Sym.MoreMembers (left ++ p ∷ []) (λ qs. give qs))) ∷
    (give left) ∷ []
productions Sym.Member left =
    (turn begin (call Sym.Specifiers tt
    (λ head. call (Sym.DeclaratorOf Mode.concrete) tt
    (λ p. call Sym.MoreDeclarators (p.tree ∷ [])
    (λ ps. take (mark m.semicolon) (λ u. turn finish (give (t.member_declaration head ps)))))))) ∷ []
productions Sym.MoreDeclarators left =
    (take (mark m.comma) (λ u. turn end_specifiers (call (Sym.DeclaratorOf Mode.concrete) tt
    (λ p. call Sym.MoreDeclarators (left ++ p.tree ∷ []) (λ qs. give qs))))) ∷
    (give left) ∷ []
productions Sym.Enumerators left =
    (call Sym.Enumerator tt (λ i. call Sym.MoreEnumerators (i ∷ []) (λ is. give is))) ∷ []
productions Sym.MoreEnumerators left =
    (take (mark m.comma) (λ u. give left)) ∷
    (take (mark m.comma) (λ u. call Sym.Enumerator tt (λ i. call Sym.MoreEnumerators (left ++ i ∷ []) (λ js. give js)))) ∷
    (give left) ∷ []
productions Sym.Enumerator left =
    (turn begin (take w.enumerator_name
    (λ u. call Sym.EnumeratorValue tt (λ value. turn declare (turn finish (give (t.enumerator u value))))))) ∷ []
productions Sym.EnumeratorValue left =
    (take (mark m.equal) (λ u. call Sym.Constant tt (λ a. give (Some a)))) ∷
    (give None) ∷ []
productions (Sym.DeclaratorOf k) left =
    (look (λ u. turn enter (call (Sym.DirectOf k) tt (λ p. turn leave (give (t.declarator u [] p)))))) ∷
    (turn enter (take (mark m.asterisk)
    (λ u. turn end_specifiers (call Sym.Qualifiers [] (λ qs. call Sym.Pointers (qs ∷ [])
    (λ ps. call (Sym.DirectOf (behind_pointer k)) tt (λ p. turn indirect (turn leave (give (t.declarator u ps p)))))))))) ∷
    (turn enter (take (mark m.asterisk)
    (λ u. turn end_specifiers (call Sym.Qualifiers [] (λ qs. call Sym.Pointers (qs ∷ [])
    (λ ps. turn leave (give (t.declarator u ps (t.direct_absent []))))))))) ∷ []
productions Sym.Pointers left =
    (take (mark m.asterisk) (λ u. turn end_specifiers
    (call Sym.Qualifiers [] (λ qs. call Sym.Pointers (left ++ qs ∷ []) (λ rs. give rs))))) ∷
    (give left) ∷ []
productions Sym.Qualifiers left =
    (take w.qualifier (λ u. call Sym.Qualifiers (left ++ word_of u ∷ []) (λ rs. give rs))) ∷
    (give left) ∷ []
productions (Sym.DirectOf k) left =
    (take (name_of_mode k) (λ u. call Sym.Parts [] (λ ps. give (t.direct_name u ps)))) ∷
    (take (mark m.left_parenthesis)
    (λ u. turn end_specifiers (call (Sym.DeclaratorOf (in_parentheses k)) tt
    (λ p. take (mark m.right_parenthesis) (λ v. call Sym.Parts [] (λ ps. give (t.direct_nested p ps))))))) ∷
    (call Sym.Part tt (λ p. call Sym.Parts (p ∷ []) (λ ps. give (t.direct_absent ps)))) ∷ []
productions Sym.Parts left =
    (call Sym.Part tt (λ p. call Sym.Parts (left ++ p ∷ []) (λ qs. give qs))) ∷
    (give left) ∷ []
productions Sym.Part left =
    (take (mark m.left_bracket) (λ u. turn indirect
    (call Sym.Size tt (λ size. take (mark m.right_bracket) (λ v. give (t.array_part u size)))))) ∷
    (take (mark m.left_parenthesis)
    (λ u. turn open_scope (call Sym.Parameters tt
    (λ inside. take (mark m.right_parenthesis) (λ v. turn close_parameters (give (t.parameters_part u inside))))))) ∷ []
productions Sym.Size left =
    (call Sym.Constant tt (λ a. give (Some a))) ∷
    (give None) ∷ []
productions Sym.Parameters left =
    (take (word d.void_word) (λ u. give ([], None))) ∷
    (call Sym.Parameter tt (λ p. call Sym.MoreParameters (p ∷ []) (λ inside. give inside))) ∷
    (give ([], None)) ∷ []
productions Sym.MoreParameters left =
    (take (mark m.comma) (λ u. take (mark m.ellipsis) (λ v. give (left, Some (t.dots v))))) ∷
    (take (mark m.comma) (λ u. call Sym.Parameter tt (λ p. call Sym.MoreParameters (left ++ p ∷ []) (λ inside. give inside)))) ∷
    (give (left, None)) ∷ []
productions Sym.Parameter left =
    (turn begin (call Sym.Specifiers tt
    (λ head. call (Sym.MaybeDeclarator Mode.parameter) tt (λ p. turn declare (turn finish (give (t.parameter head p))))))) ∷ []
productions (Sym.MaybeDeclarator k) left =
    (call (Sym.DeclaratorOf k) tt (λ p. give (Some p))) ∷
    (give None) ∷ []
productions Sym.NameOfType left =
    (turn begin (call Sym.Specifiers tt
    (λ head. call (Sym.MaybeDeclarator Mode.abstract) tt (λ p. turn finish (give (t.type_name head p)))))) ∷ []
productions Sym.InitialValue left =
    (turn enter (call Sym.Assignment tt (λ a. turn leave (give (iv.One a))))) ∷
    (turn enter (take (mark m.left_brace)
    (λ u. call Sym.Entry tt (λ i. call Sym.MoreEntries (i ∷ [])
    (λ is. take (mark m.right_brace) (λ v. turn leave (give (t.braced u is)))))))) ∷ []
productions Sym.MoreEntries left =
    (take (mark m.comma) (λ u. give left)) ∷
    (take (mark m.comma) (λ u. call Sym.Entry tt (λ i. call Sym.MoreEntries (left ++ i ∷ []) (λ js. give js)))) ∷
    (give left) ∷ []
productions Sym.Entry left =
    (call Sym.InitialValue tt (λ value. give (t.entry [] value))) ∷
    (call Sym.Designation tt (λ g. call Sym.MoreDesignators (g ∷ [])
    (λ gs. take (mark m.equal) (λ u. call Sym.InitialValue tt (λ value. give (t.entry gs value)))))) ∷ []
productions Sym.MoreDesignators left =
    (call Sym.Designation tt (λ g. call Sym.MoreDesignators (left ++ g ∷ []) (λ hs. give hs))) ∷
    (give left) ∷ []
productions Sym.Designation left =
    (take (mark m.left_bracket) (λ u. call Sym.Constant tt (λ a. take (mark m.right_bracket) (λ v. give (dg.Index a))))) ∷
    (take (mark m.period) (λ u. take w.any_name (λ v. give (t.member_designator v)))) ∷ []
productions Sym.AnyStatement left =
    (look (λ u. turn enter (call Sym.StatementForm tt (λ kind. turn leave (give (t.statement u kind)))))) ∷ []
productions Sym.StatementForm left =
    (turn open_scope (call Sym.Block tt (λ items. turn close_scope (give (st.Compound items))))) ∷
    (call Sym.MaybeExpression tt (λ a. take (mark m.semicolon) (λ u. give (st.Plain a)))) ∷
    (take (word d.if_word) (λ u. turn open_scope
    (call Sym.Condition tt (λ a. call Sym.Substatement tt (λ p. call Sym.Else tt (λ q. turn close_scope (give (st.If a p q)))))))) ∷
    (take (word d.switch_word) (λ u. turn open_scope
    (call Sym.Condition tt (λ a. turn open_scope
    (call Sym.Compound tt (λ p. turn close_scope (turn close_scope (give (st.Switch a p))))))))) ∷
    (take (word d.case_word) (λ u. call Sym.Constant tt
    (λ a. take (mark m.colon) (λ v. call Sym.AnyStatement tt (λ p. give (st.Case a p)))))) ∷
    (take (word d.default_word) (λ u. take (mark m.colon) (λ v. call Sym.AnyStatement tt (λ p. give (st.Default p))))) ∷
    (take (w.loop_word d.while_word)
    (λ u. turn open_scope (call Sym.Condition tt
    (λ a. call Sym.Substatement tt (λ p. turn close_scope (turn leave_loop (give (st.While a p)))))))) ∷
    (take (w.loop_word d.do_word) (λ u. turn open_scope
    (call Sym.Substatement tt (λ p. turn leave_loop
    (take (word d.while_word) (λ v. call Sym.Condition tt
    (λ a. take (mark m.semicolon) (λ x. turn close_scope (give (st.Do p a)))))))))) ∷
    (take (w.loop_word d.for_word) (λ u. turn open_scope
    (take (mark m.left_parenthesis)
    (λ v. call Sym.First tt (λ head. call Sym.MaybeExpression tt
    (λ test. take (mark m.semicolon)
    (λ x. call Sym.MaybeExpression tt
    (λ last. take (mark m.right_parenthesis)
    (λ y. call Sym.Substatement tt (λ p. turn close_scope (turn leave_loop (give (st.For head test last p))))))))))))) ∷
    (take (word d.continue_word) (λ u. take (mark m.semicolon) (λ v. give st.Continue))) ∷
    (take (word d.break_word) (λ u. take (mark m.semicolon) (λ v. give st.Break))) ∷
    (take (word d.return_word) (λ u. call Sym.MaybeExpression tt (λ a. take (mark m.semicolon) (λ v. give (st.Return a))))) ∷ []
productions Sym.Block left =
    (take (mark m.left_brace) (λ u. call Sym.BlockItems [] (λ items. take (mark m.right_brace) (λ v. give items)))) ∷ []
productions Sym.BlockItems left =
    (call Sym.AnyDeclaration tt (λ p. call Sym.BlockItems (left ++ bi.Declaration p ∷ []) (λ items. give items))) ∷
    (call Sym.AnyStatement tt (λ p. call Sym.BlockItems (left ++ bi.Statement p ∷ []) (λ items. give items))) ∷
    (give left) ∷ []
productions Sym.MaybeExpression left =
    (call Sym.Expression tt (λ a. give (Some a))) ∷
    (give None) ∷ []
productions Sym.Else left =
    (take w.else (λ u. call Sym.Substatement tt (λ p. give (Some p)))) ∷
    (turn leave_dangling (give None)) ∷ []
productions Sym.Compound left =
    (look (λ u. turn enter (turn open_scope
    (call Sym.Block tt (λ items. turn close_scope (turn leave (give (t.statement u (st.Compound items))))))))) ∷ []
productions Sym.Condition left =
    (take (mark m.left_parenthesis) (λ u. call Sym.Expression tt (λ a. take (mark m.right_parenthesis) (λ v. give a)))) ∷ []
productions Sym.Substatement left =
    (turn open_scope (call Sym.AnyStatement tt (λ p. turn close_scope (give p)))) ∷ []
productions Sym.First left =
    (take (mark m.semicolon) (λ u. give ff.Nothing)) ∷
    (call Sym.Expression tt (λ a. take (mark m.semicolon) (λ u. give (ff.One a)))) ∷
    (call Sym.AnyDeclaration tt (λ p. give (ff.Declaration p))) ∷ []
productions Sym.File left =
    (call Sym.Externals [] (λ items. take w.end (λ u. give items))) ∷ []
productions Sym.Externals left =
    (call Sym.ExternalDeclaration tt (λ p. call Sym.Externals (left ++ p ∷ []) (λ items. give items))) ∷
    (take (mark m.semicolon) (λ u. call Sym.Externals left (λ items. give items))) ∷
    (give left) ∷ []
productions Sym.ExternalDeclaration left =
    (call Sym.AnyDeclaration tt (λ p. give (xd.Declaration p))) ∷
    (turn begin (call Sym.Specifiers tt
    (λ head. call (Sym.DeclaratorOf Mode.concrete) tt
    (λ p. turn declare (turn open_body
    (look (λ u. turn enter (call Sym.Block tt
    (λ items. turn leave (turn close_scope (turn finish (give (xd.Function head p.tree (t.statement u (st.Compound items)))))))))))))))
    ∷ []
