-- A search that computes: whether a list of shapes certainly does not begin with tokens. What the productions of a symbol have on the right
-- is listed by a script, and `covers` shows that nothing is left out.
use Rattle.std.proofs.Common.{◌≡◌, ℕ, zero, suc, Bool, true, false, ◌&&◌, if◌then◌else◌, List, [], ◌∷◌, ◌++◌}
use Rattle.std.specs.List.{list_all}
use Rattle.std.proofs.lemmas.Bool.{and_parts}
use Rattle.c_tree.specs.declared.lexeme.Lexeme.{Lexeme}
use Rattle.c_grammar.specs.Derives.{Begins, Reaches}
use Rattle.c_grammar.specs.Items.{Mode, Sym, In, Out, Item, Shape, some, next, change, sym as symbol, shapes}
use Rattle.c_grammar.specs.Marks as m
use Rattle.c_grammar.specs.Modes.{may_have_name, name_of_mode, may_lack_name, behind_pointer, in_parentheses}
use Rattle.c_grammar.specs.Productions.{Rule}
use Rattle.c_grammar.specs.State.{State, begin, end_specifiers, finish, declare, open_scope, close_scope, open_body, close_parameters, indirect, is_unary, is_no_unary, leave_dangling, begin_operand, end_operand, enter, leave, leave_loop}
use Rattle.c_grammar.specs.Terminals as w
use Rattle.c_grammar.specs.Terminals.{Terminal, mark, word, operator, closing}
use Rattle.c_grammar.specs.Words as d

abbrev pub alternatives : Sym → List (List Shape)
alternatives Sym.Primary = (change enter ∷ some w.value_name ∷ change leave ∷ []) ∷ (change enter ∷ some w.number ∷ change leave ∷ []) ∷ (change enter ∷ some w.character ∷ change leave ∷ []) ∷ (change enter ∷ some w.text ∷ symbol Sym.MoreTexts ∷ change leave ∷ []) ∷ (change enter ∷ some (mark m.left_parenthesis) ∷ symbol Sym.Expression ∷ some (closing (mark m.right_parenthesis)) ∷ change leave ∷ []) ∷ []
alternatives Sym.MoreTexts = ([]) ∷ (some w.text ∷ symbol Sym.MoreTexts ∷ []) ∷ []
alternatives Sym.Postfix = (symbol Sym.Primary ∷ symbol Sym.AfterPostfix ∷ []) ∷ []
alternatives Sym.AfterPostfix = ([]) ∷ (some (operator (mark m.left_bracket)) ∷ change enter ∷ symbol Sym.Expression ∷ some (closing (mark m.right_bracket)) ∷ change leave ∷ symbol Sym.AfterPostfix ∷ []) ∷ (some (operator (mark m.left_parenthesis)) ∷ change enter ∷ symbol Sym.Arguments ∷ some (closing (mark m.right_parenthesis)) ∷ change leave ∷ symbol Sym.AfterPostfix ∷ []) ∷ (some (operator (mark m.period)) ∷ some (closing w.any_name) ∷ symbol Sym.AfterPostfix ∷ []) ∷ (some (operator (mark m.arrow)) ∷ some (closing w.any_name) ∷ symbol Sym.AfterPostfix ∷ []) ∷ (some (closing (operator w.bump)) ∷ symbol Sym.AfterPostfix ∷ []) ∷ []
alternatives Sym.Arguments = ([]) ∷ (change begin_operand ∷ symbol Sym.Assignment ∷ change end_operand ∷ symbol Sym.MoreArguments ∷ []) ∷ []
alternatives Sym.MoreArguments = ([]) ∷ (some (mark m.comma) ∷ change begin_operand ∷ symbol Sym.Assignment ∷ change end_operand ∷ symbol Sym.MoreArguments ∷ []) ∷ []
alternatives Sym.Unary = (symbol Sym.Postfix ∷ []) ∷ (change enter ∷ some w.bump ∷ symbol Sym.Unary ∷ change leave ∷ []) ∷ (change enter ∷ some w.unary_operator ∷ symbol Sym.Cast ∷ change leave ∷ change is_unary ∷ []) ∷ (change enter ∷ some (word d.sizeof_word) ∷ symbol Sym.Unary ∷ change leave ∷ []) ∷ (change enter ∷ some (word d.sizeof_word) ∷ symbol Sym.TypeInParentheses ∷ change leave ∷ change is_unary ∷ []) ∷ []
alternatives Sym.TypeInParentheses = (some (mark m.left_parenthesis) ∷ symbol Sym.NameOfType ∷ some (mark m.right_parenthesis) ∷ []) ∷ []
alternatives Sym.Cast = (symbol Sym.Unary ∷ []) ∷ (next ∷ change enter ∷ symbol Sym.TypeInParentheses ∷ symbol Sym.Cast ∷ change leave ∷ change is_no_unary ∷ []) ∷ []
alternatives (Sym.Level zero) = (symbol Sym.Cast ∷ []) ∷ []
alternatives (Sym.Level (suc n)) = (symbol (Sym.Level n) ∷ symbol (Sym.MoreOperands n) ∷ []) ∷ []
alternatives (Sym.MoreOperands n) = ([]) ∷ (some (w.binary_operator n) ∷ change enter ∷ symbol (Sym.Level n) ∷ change leave ∷ change is_no_unary ∷ symbol (Sym.MoreOperands n) ∷ []) ∷ []
alternatives Sym.Conditional = (symbol (Sym.Level 10) ∷ symbol Sym.Chosen ∷ []) ∷ []
alternatives Sym.Chosen = ([]) ∷ (some (operator (mark m.question)) ∷ change enter ∷ symbol Sym.Expression ∷ some (mark m.colon) ∷ change begin_operand ∷ symbol Sym.Conditional ∷ change end_operand ∷ change leave ∷ change is_no_unary ∷ []) ∷ []
alternatives Sym.Constant = (change begin_operand ∷ symbol Sym.Conditional ∷ change end_operand ∷ []) ∷ []
alternatives Sym.Assignment = (symbol Sym.Conditional ∷ symbol Sym.Assigned ∷ []) ∷ []
alternatives Sym.Assigned = ([]) ∷ (some w.assignment_operator ∷ change enter ∷ symbol Sym.Assignment ∷ change leave ∷ []) ∷ []
alternatives Sym.Expression = (change begin_operand ∷ symbol Sym.Assignment ∷ symbol Sym.MoreExpressions ∷ change end_operand ∷ []) ∷ []
alternatives Sym.MoreExpressions = ([]) ∷ (some (operator (mark m.comma)) ∷ change enter ∷ symbol Sym.Assignment ∷ change leave ∷ symbol Sym.MoreExpressions ∷ []) ∷ []
alternatives Sym.AnyDeclaration = (change begin ∷ symbol Sym.Specifiers ∷ symbol Sym.InitDeclarators ∷ some (mark m.semicolon) ∷ change finish ∷ []) ∷ []
alternatives Sym.InitDeclarators = ([]) ∷ (symbol Sym.DeclaratorWithInitial ∷ symbol Sym.MoreInitDeclarators ∷ []) ∷ []
alternatives Sym.MoreInitDeclarators = ([]) ∷ (some (mark m.comma) ∷ change end_specifiers ∷ symbol Sym.DeclaratorWithInitial ∷ symbol Sym.MoreInitDeclarators ∷ []) ∷ []
alternatives Sym.DeclaratorWithInitial = (symbol (Sym.DeclaratorOf Mode.concrete) ∷ change declare ∷ symbol Sym.Initial ∷ []) ∷ []
alternatives Sym.Initial = ([]) ∷ (some (mark m.equal) ∷ symbol Sym.InitialValue ∷ []) ∷ []
alternatives Sym.Specifiers = (symbol Sym.Specifier ∷ symbol Sym.MoreSpecifiers ∷ []) ∷ []
alternatives Sym.MoreSpecifiers = ([]) ∷ (symbol Sym.Specifier ∷ symbol Sym.MoreSpecifiers ∷ []) ∷ []
alternatives Sym.Specifier = (next ∷ symbol Sym.SpecifierForm ∷ []) ∷ []
alternatives Sym.SpecifierForm = (some w.typedef ∷ []) ∷ (some w.plain_specifier ∷ []) ∷ (some w.type_word ∷ []) ∷ (some w.typedef_name ∷ []) ∷ (some w.record_word ∷ symbol Sym.Tag ∷ change enter ∷ some (mark m.left_brace) ∷ symbol Sym.Members ∷ some (mark m.right_brace) ∷ change leave ∷ []) ∷ (some w.record_word ∷ some w.any_name ∷ []) ∷ (some w.enumeration_word ∷ symbol Sym.Tag ∷ change enter ∷ some (mark m.left_brace) ∷ symbol Sym.Enumerators ∷ some (mark m.right_brace) ∷ change leave ∷ []) ∷ (some w.enumeration_word ∷ some w.any_name ∷ []) ∷ []
alternatives Sym.Tag = ([]) ∷ (some w.any_name ∷ []) ∷ []
alternatives Sym.Members = (symbol Sym.Member ∷ symbol Sym.MoreMembers ∷ []) ∷ []
alternatives Sym.MoreMembers = ([]) ∷ (symbol Sym.Member ∷ symbol Sym.MoreMembers ∷ []) ∷ []
alternatives Sym.Member = (change begin ∷ symbol Sym.Specifiers ∷ symbol (Sym.DeclaratorOf Mode.concrete) ∷ symbol Sym.MoreDeclarators ∷ some (mark m.semicolon) ∷ change finish ∷ []) ∷ []
alternatives Sym.MoreDeclarators = ([]) ∷ (some (mark m.comma) ∷ change end_specifiers ∷ symbol (Sym.DeclaratorOf Mode.concrete) ∷ symbol Sym.MoreDeclarators ∷ []) ∷ []
alternatives Sym.Enumerators = (symbol Sym.Enumerator ∷ symbol Sym.MoreEnumerators ∷ []) ∷ []
alternatives Sym.MoreEnumerators = ([]) ∷ (some (mark m.comma) ∷ []) ∷ (some (mark m.comma) ∷ symbol Sym.Enumerator ∷ symbol Sym.MoreEnumerators ∷ []) ∷ []
alternatives Sym.Enumerator = (change begin ∷ some w.enumerator_name ∷ symbol Sym.EnumeratorValue ∷ change declare ∷ change finish ∷ []) ∷ []
alternatives Sym.EnumeratorValue = ([]) ∷ (some (mark m.equal) ∷ symbol Sym.Constant ∷ []) ∷ []
alternatives (Sym.DeclaratorOf k) = ((next ∷ change enter ∷ symbol (Sym.DirectOf k) ∷ change leave ∷ []) ∷ (change enter ∷ some (mark m.asterisk) ∷ change end_specifiers ∷ symbol Sym.Qualifiers ∷ symbol Sym.Pointers ∷ symbol (Sym.DirectOf (behind_pointer k)) ∷ change indirect ∷ change leave ∷ []) ∷ []) ++ (if may_lack_name k then (change enter ∷ some (mark m.asterisk) ∷ change end_specifiers ∷ symbol Sym.Qualifiers ∷ symbol Sym.Pointers ∷ change leave ∷ []) ∷ [] else [])
alternatives Sym.Pointers = ([]) ∷ (some (mark m.asterisk) ∷ change end_specifiers ∷ symbol Sym.Qualifiers ∷ symbol Sym.Pointers ∷ []) ∷ []
alternatives Sym.Qualifiers = ([]) ∷ (some w.qualifier ∷ symbol Sym.Qualifiers ∷ []) ∷ []
alternatives (Sym.DirectOf k) = ((some (mark m.left_parenthesis) ∷ change end_specifiers ∷ symbol (Sym.DeclaratorOf (in_parentheses k)) ∷ some (mark m.right_parenthesis) ∷ symbol Sym.Parts ∷ []) ∷ []) ++ (if may_have_name k then (some (name_of_mode k) ∷ symbol Sym.Parts ∷ []) ∷ [] else []) ++ (if may_lack_name k then (symbol Sym.Part ∷ symbol Sym.Parts ∷ []) ∷ [] else [])
alternatives Sym.Parts = ([]) ∷ (symbol Sym.Part ∷ symbol Sym.Parts ∷ []) ∷ []
alternatives Sym.Part = (some (mark m.left_bracket) ∷ change indirect ∷ symbol Sym.Size ∷ some (mark m.right_bracket) ∷ []) ∷ (some (mark m.left_parenthesis) ∷ change open_scope ∷ symbol Sym.Parameters ∷ some (mark m.right_parenthesis) ∷ change close_parameters ∷ []) ∷ []
alternatives Sym.Size = ([]) ∷ (symbol Sym.Constant ∷ []) ∷ []
alternatives Sym.Parameters = ([]) ∷ (some (word d.void_word) ∷ []) ∷ (symbol Sym.Parameter ∷ symbol Sym.MoreParameters ∷ []) ∷ []
alternatives Sym.MoreParameters = ([]) ∷ (some (mark m.comma) ∷ some (mark m.ellipsis) ∷ []) ∷ (some (mark m.comma) ∷ symbol Sym.Parameter ∷ symbol Sym.MoreParameters ∷ []) ∷ []
alternatives Sym.Parameter = (change begin ∷ symbol Sym.Specifiers ∷ symbol (Sym.MaybeDeclarator Mode.parameter) ∷ change declare ∷ change finish ∷ []) ∷ []
alternatives (Sym.MaybeDeclarator k) = ([]) ∷ (symbol (Sym.DeclaratorOf k) ∷ []) ∷ []
alternatives Sym.NameOfType = (change begin ∷ symbol Sym.Specifiers ∷ symbol (Sym.MaybeDeclarator Mode.abstract) ∷ change finish ∷ []) ∷ []
alternatives Sym.InitialValue = (change enter ∷ symbol Sym.Assignment ∷ change leave ∷ []) ∷ (change enter ∷ some (mark m.left_brace) ∷ symbol Sym.Entry ∷ symbol Sym.MoreEntries ∷ some (mark m.right_brace) ∷ change leave ∷ []) ∷ []
alternatives Sym.MoreEntries = ([]) ∷ (some (mark m.comma) ∷ []) ∷ (some (mark m.comma) ∷ symbol Sym.Entry ∷ symbol Sym.MoreEntries ∷ []) ∷ []
alternatives Sym.Entry = (symbol Sym.InitialValue ∷ []) ∷ (symbol Sym.Designation ∷ symbol Sym.MoreDesignators ∷ some (mark m.equal) ∷ symbol Sym.InitialValue ∷ []) ∷ []
alternatives Sym.MoreDesignators = ([]) ∷ (symbol Sym.Designation ∷ symbol Sym.MoreDesignators ∷ []) ∷ []
alternatives Sym.Designation = (some (mark m.left_bracket) ∷ symbol Sym.Constant ∷ some (mark m.right_bracket) ∷ []) ∷ (some (mark m.period) ∷ some w.any_name ∷ []) ∷ []
alternatives Sym.AnyStatement = (next ∷ change enter ∷ symbol Sym.StatementForm ∷ change leave ∷ []) ∷ []
alternatives Sym.StatementForm = (change open_scope ∷ symbol Sym.Block ∷ change close_scope ∷ []) ∷ (symbol Sym.MaybeExpression ∷ some (mark m.semicolon) ∷ []) ∷ (some (word d.if_word) ∷ change open_scope ∷ symbol Sym.Condition ∷ symbol Sym.Substatement ∷ symbol Sym.Else ∷ change close_scope ∷ []) ∷ (some (word d.switch_word) ∷ change open_scope ∷ symbol Sym.Condition ∷ change open_scope ∷ symbol Sym.Compound ∷ change close_scope ∷ change close_scope ∷ []) ∷ (some (word d.case_word) ∷ symbol Sym.Constant ∷ some (mark m.colon) ∷ symbol Sym.AnyStatement ∷ []) ∷ (some (word d.default_word) ∷ some (mark m.colon) ∷ symbol Sym.AnyStatement ∷ []) ∷ (some (w.loop_word d.while_word) ∷ change open_scope ∷ symbol Sym.Condition ∷ symbol Sym.Substatement ∷ change close_scope ∷ change leave_loop ∷ []) ∷ (some (w.loop_word d.do_word) ∷ change open_scope ∷ symbol Sym.Substatement ∷ change leave_loop ∷ some (word d.while_word) ∷ symbol Sym.Condition ∷ some (mark m.semicolon) ∷ change close_scope ∷ []) ∷ (some (w.loop_word d.for_word) ∷ change open_scope ∷ some (mark m.left_parenthesis) ∷ symbol Sym.First ∷ symbol Sym.MaybeExpression ∷ some (mark m.semicolon) ∷ symbol Sym.MaybeExpression ∷ some (mark m.right_parenthesis) ∷ symbol Sym.Substatement ∷ change close_scope ∷ change leave_loop ∷ []) ∷ (some (word d.continue_word) ∷ some (mark m.semicolon) ∷ []) ∷ (some (word d.break_word) ∷ some (mark m.semicolon) ∷ []) ∷ (some (word d.return_word) ∷ symbol Sym.MaybeExpression ∷ some (mark m.semicolon) ∷ []) ∷ []
alternatives Sym.Block = (some (mark m.left_brace) ∷ symbol Sym.BlockItems ∷ some (mark m.right_brace) ∷ []) ∷ []
alternatives Sym.BlockItems = ([]) ∷ (symbol Sym.AnyDeclaration ∷ symbol Sym.BlockItems ∷ []) ∷ (symbol Sym.AnyStatement ∷ symbol Sym.BlockItems ∷ []) ∷ []
alternatives Sym.MaybeExpression = ([]) ∷ (symbol Sym.Expression ∷ []) ∷ []
alternatives Sym.Else = (change leave_dangling ∷ []) ∷ (some w.else ∷ symbol Sym.Substatement ∷ []) ∷ []
alternatives Sym.Compound = (next ∷ change enter ∷ change open_scope ∷ symbol Sym.Block ∷ change close_scope ∷ change leave ∷ []) ∷ []
alternatives Sym.Condition = (some (mark m.left_parenthesis) ∷ symbol Sym.Expression ∷ some (mark m.right_parenthesis) ∷ []) ∷ []
alternatives Sym.Substatement = (change open_scope ∷ symbol Sym.AnyStatement ∷ change close_scope ∷ []) ∷ []
alternatives Sym.First = (some (mark m.semicolon) ∷ []) ∷ (symbol Sym.Expression ∷ some (mark m.semicolon) ∷ []) ∷ (symbol Sym.AnyDeclaration ∷ []) ∷ []
alternatives Sym.File = (symbol Sym.Externals ∷ some w.end ∷ []) ∷ []
alternatives Sym.Externals = ([]) ∷ (symbol Sym.ExternalDeclaration ∷ symbol Sym.Externals ∷ []) ∷ (some (mark m.semicolon) ∷ symbol Sym.Externals ∷ []) ∷ []
alternatives Sym.ExternalDeclaration = (symbol Sym.AnyDeclaration ∷ []) ∷ (change begin ∷ symbol Sym.Specifiers ∷ symbol (Sym.DeclaratorOf Mode.concrete) ∷ change declare ∷ change open_body ∷ next ∷ change enter ∷ symbol Sym.Block ∷ change leave ∷ change close_scope ∷ change finish ∷ []) ∷ []

pub data Among (items : List Shape) : List (List Shape) → Type 0 where
  here : {others : List (List Shape)} → Among items (items ∷ others)
  there : {other : List Shape} {others : List (List Shape)} → Among items others → Among items (other ∷ others)

behind : {items : List Shape} (front others : List (List Shape)) → Among items others → Among items (front ++ others)
behind [] others a = a
behind (x ∷ front) others a = Among.there (behind front others a)

before : {items : List Shape} (front others : List (List Shape)) → Among items front → Among items (front ++ others)
before [] others a = elim a [ ]
before (x ∷ front) others Among.here = Among.here
before (x ∷ front) others (Among.there a) = Among.there (before front others a)

if_so : {items : List Shape} (b : Bool) → b ≡ true → Among items (if b then items ∷ [] else [])
if_so true h = Among.here
if_so false h = absurd cc

pub covers : {n : Sym} {a : In n} {b : Out n} {items : List Item} → Rule n a b items → Among (shapes items) (alternatives n)
covers (Rule.name _) = Among.here
covers (Rule.number _) = (Among.there Among.here)
covers (Rule.character _) = (Among.there (Among.there Among.here))
covers (Rule.text _ _) = (Among.there (Among.there (Among.there Among.here)))
covers (Rule.parenthesised _ _ _) = (Among.there (Among.there (Among.there (Among.there Among.here))))
covers (Rule.last_text _) = Among.here
covers (Rule.more_texts _ _ _) = (Among.there Among.here)
covers (Rule.postfix _ _) = Among.here
covers (Rule.no_postfix _) = Among.here
covers (Rule.subscript _ _ _ _ _) = (Among.there Among.here)
covers (Rule.call _ _ _ _ _) = (Among.there (Among.there Among.here))
covers (Rule.member _ _ _ _) = (Among.there (Among.there (Among.there Among.here)))
covers (Rule.arrow _ _ _ _) = (Among.there (Among.there (Among.there (Among.there Among.here))))
covers (Rule.bump_behind _ _ _) = (Among.there (Among.there (Among.there (Among.there (Among.there Among.here)))))
covers Rule.no_arguments = Among.here
covers (Rule.arguments _ _) = (Among.there Among.here)
covers (Rule.last_argument _) = Among.here
covers (Rule.more_arguments _ _ _ _) = (Among.there Among.here)
covers (Rule.postfix_alone _) = Among.here
covers (Rule.bump_before _ _) = (Among.there Among.here)
covers (Rule.unary _ _) = (Among.there (Among.there Among.here))
covers (Rule.size_of _ _) = (Among.there (Among.there (Among.there Among.here)))
covers (Rule.size_of_type _ _) = (Among.there (Among.there (Among.there (Among.there Among.here))))
covers (Rule.type_in_parentheses _ _ _) = Among.here
covers (Rule.unary_alone _) = Among.here
covers (Rule.cast _ _ _) = (Among.there Among.here)
covers (Rule.cast_alone _) = Among.here
covers (Rule.level _ _ _) = Among.here
covers (Rule.last_operand _ _) = Among.here
covers (Rule.more_operands _ _ _ _ _) = (Among.there Among.here)
covers (Rule.conditional _ _) = Among.here
covers (Rule.no_choice _) = Among.here
covers (Rule.choice _ _ _ _ _) = (Among.there Among.here)
covers (Rule.constant _) = Among.here
covers (Rule.assignment _ _) = Among.here
covers (Rule.not_assigned _) = Among.here
covers (Rule.assigned _ _ _) = (Among.there Among.here)
covers (Rule.expressions _ _) = Among.here
covers (Rule.last_expression _) = Among.here
covers (Rule.more_expressions _ _ _ _) = (Among.there Among.here)
covers (Rule.declaration _ _ _) = Among.here
covers Rule.no_declarators = Among.here
covers (Rule.init_declarators _ _) = (Among.there Among.here)
covers (Rule.last_init_declarator _) = Among.here
covers (Rule.more_init_declarators _ _ _ _) = (Among.there Among.here)
covers (Rule.init_declarator _ _) = Among.here
covers Rule.no_initial = Among.here
covers (Rule.initialised _ _) = (Among.there Among.here)
covers (Rule.specifiers _ _) = Among.here
covers (Rule.last_specifier _) = Among.here
covers (Rule.more_specifiers _ _ _) = (Among.there Among.here)
covers (Rule.specifier _ _) = Among.here
covers (Rule.typedef _) = Among.here
covers (Rule.plain_specifier _) = (Among.there Among.here)
covers (Rule.type_word _) = (Among.there (Among.there Among.here))
covers (Rule.typedef_name _) = (Among.there (Among.there (Among.there Among.here)))
covers (Rule.record_content _ _ _ _ _) = (Among.there (Among.there (Among.there (Among.there Among.here))))
covers (Rule.record_tag _ _) = (Among.there (Among.there (Among.there (Among.there (Among.there Among.here)))))
covers (Rule.enumeration_content _ _ _ _ _) = (Among.there (Among.there (Among.there (Among.there (Among.there (Among.there Among.here))))))
covers (Rule.enumeration_tag _ _) = (Among.there (Among.there (Among.there (Among.there (Among.there (Among.there (Among.there Among.here)))))))
covers Rule.no_tag = Among.here
covers (Rule.tag _) = (Among.there Among.here)
covers (Rule.members _ _) = Among.here
covers (Rule.last_member _) = Among.here
covers (Rule.more_members _ _ _) = (Among.there Among.here)
covers (Rule.member_declaration _ _ _ _) = Among.here
covers (Rule.last_declarator _) = Among.here
covers (Rule.more_declarators _ _ _ _) = (Among.there Among.here)
covers (Rule.enumerators _ _) = Among.here
covers (Rule.last_enumerator _) = Among.here
covers (Rule.last_enumerator_comma _ _) = (Among.there Among.here)
covers (Rule.more_enumerators _ _ _ _) = (Among.there (Among.there Among.here))
covers (Rule.enumerator _ _) = Among.here
covers Rule.no_value = Among.here
covers (Rule.value _ _) = (Among.there Among.here)
covers (Rule.plain_declarator _ _ _) = Among.here
covers (Rule.pointed_declarator _ _ _ _ _) = (Among.there Among.here)
covers (Rule.pointers_alone k _ _ _ h) = behind (_ ∷ _ ∷ []) _ (if_so (may_lack_name k) h)
covers (Rule.last_pointer _) = Among.here
covers (Rule.more_pointers _ _ _ _) = (Among.there Among.here)
covers (Rule.last_qualifier _) = Among.here
covers (Rule.more_qualifiers _ _ _) = (Among.there Among.here)
covers (Rule.nested _ _ _ _ _) = Among.here
covers (Rule.named k _ _ h) = behind (_ ∷ []) _ (before _ _ (if_so (may_have_name k) h))
covers (Rule.nameless k _ _ h) = behind (_ ∷ []) _ (behind (if may_have_name k then _ else []) _ (if_so (may_lack_name k) h))
covers (Rule.last_part _) = Among.here
covers (Rule.more_parts _ _ _) = (Among.there Among.here)
covers (Rule.array _ _ _) = Among.here
covers (Rule.parameters _ _ _) = (Among.there Among.here)
covers Rule.no_size = Among.here
covers (Rule.size _) = (Among.there Among.here)
covers Rule.no_parameters = Among.here
covers (Rule.void_alone _) = (Among.there Among.here)
covers (Rule.parameter_list _ _ _) = (Among.there (Among.there Among.here))
covers (Rule.last_parameter _) = Among.here
covers (Rule.variable_arguments _ _ _) = (Among.there Among.here)
covers (Rule.more_parameters _ _ _ _) = (Among.there (Among.there Among.here))
covers (Rule.parameter _ _) = Among.here
covers (Rule.no_declarator _) = Among.here
covers (Rule.some_declarator _ _) = (Among.there Among.here)
covers (Rule.type_name _ _) = Among.here
covers (Rule.one_value _) = Among.here
covers (Rule.braced _ _ _ _) = (Among.there Among.here)
covers (Rule.last_entry _) = Among.here
covers (Rule.last_entry_comma _ _) = (Among.there Among.here)
covers (Rule.more_entries _ _ _ _) = (Among.there (Among.there Among.here))
covers (Rule.plain_entry _) = Among.here
covers (Rule.designated_entry _ _ _ _) = (Among.there Among.here)
covers (Rule.last_designator _) = Among.here
covers (Rule.more_designators _ _ _) = (Among.there Among.here)
covers (Rule.designated_element _ _ _) = Among.here
covers (Rule.designated_member _ _) = (Among.there Among.here)
covers (Rule.statement _ _) = Among.here
covers (Rule.compound _) = Among.here
covers (Rule.plain_statement _ _) = (Among.there Among.here)
covers (Rule.if _ _ _ _) = (Among.there (Among.there Among.here))
covers (Rule.switch _ _ _) = (Among.there (Among.there (Among.there Among.here)))
covers (Rule.case _ _ _ _) = (Among.there (Among.there (Among.there (Among.there Among.here))))
covers (Rule.default _ _ _) = (Among.there (Among.there (Among.there (Among.there (Among.there Among.here)))))
covers (Rule.while _ _ _) = (Among.there (Among.there (Among.there (Among.there (Among.there (Among.there Among.here))))))
covers (Rule.do_while _ _ _ _ _) = (Among.there (Among.there (Among.there (Among.there (Among.there (Among.there (Among.there Among.here)))))))
covers (Rule.for _ _ _ _ _ _ _ _) = (Among.there (Among.there (Among.there (Among.there (Among.there (Among.there (Among.there (Among.there Among.here))))))))
covers (Rule.continue _ _) = (Among.there (Among.there (Among.there (Among.there (Among.there (Among.there (Among.there (Among.there (Among.there Among.here)))))))))
covers (Rule.break _ _) = (Among.there (Among.there (Among.there (Among.there (Among.there (Among.there (Among.there (Among.there (Among.there (Among.there Among.here))))))))))
covers (Rule.return _ _ _) = (Among.there (Among.there (Among.there (Among.there (Among.there (Among.there (Among.there (Among.there (Among.there (Among.there (Among.there Among.here)))))))))))
covers (Rule.block _ _ _) = Among.here
covers (Rule.last_block_item _) = Among.here
covers (Rule.block_declaration _ _ _) = (Among.there Among.here)
covers (Rule.block_statement _ _ _) = (Among.there (Among.there Among.here))
covers Rule.no_expression = Among.here
covers (Rule.some_expression _) = (Among.there Among.here)
covers Rule.no_else = Among.here
covers (Rule.else _ _) = (Among.there Among.here)
covers (Rule.switch_body _ _) = Among.here
covers (Rule.condition _ _ _) = Among.here
covers (Rule.substatement _) = Among.here
covers (Rule.for_nothing _) = Among.here
covers (Rule.for_expression _ _) = (Among.there Among.here)
covers (Rule.for_declaration _) = (Among.there (Among.there Among.here))
covers (Rule.file _ _) = Among.here
covers (Rule.last_external _) = Among.here
covers (Rule.more_externals _ _ _) = (Among.there Among.here)
covers (Rule.lone_semicolon _ _ _) = (Among.there (Among.there Among.here))
covers (Rule.external_declaration _) = Among.here
covers (Rule.function _ _ _ _) = (Among.there Among.here)

-- in so many steps the search finds that nothing begins with the tokens
unfoldable pub no : ℕ → List Lexeme → List Shape → State → Bool
no zero ts stack s = false
no (suc n) [] stack s = false
no (suc n) (t ∷ ts) [] s = true
no (suc n) (t ∷ ts) (some w ∷ more) s = if w.fits s t then no n ts more (w.after s t) else true
no (suc n) (t ∷ ts) (next ∷ more) s = no n (t ∷ ts) more s
no (suc n) (t ∷ ts) (change f ∷ more) s = no n (t ∷ ts) more (f s)
no (suc n) (t ∷ ts) (symbol x ∷ more) s = list_all (λ items. no n (t ∷ ts) (items ++ more) s) (alternatives x)

then_so : (b c : Bool) → b ≡ true → (if b then c else true) ≡ true → c ≡ true
then_so true c h e = e
then_so false c h e = absurd cc

all_among : (p : List Shape → Bool) {items : List Shape} {others : List (List Shape)} → list_all p others ≡ true → Among items others → p items ≡ true
all_among p {items} e (Among.here {others}) = (and_parts (p items) (list_all p others) e).0
all_among p e (Among.there {other} {others} a) = all_among p (and_parts (p other) (list_all p others) e).1 a

pub refuted : (n : ℕ) {ts : List Lexeme} {stack : List Shape} {s : State} → no n ts stack s ≡ true → Begins stack s ts → ⊥
unfolding no
refuted zero h b = absurd cc
refuted (suc n) h Begins.stop = absurd cc
refuted (suc n) h (Begins.token {w} {more} {s} {t} {ts} fits b) = refuted n (then_so (w.fits s t) (no n ts more (w.after s t)) fits h) b
refuted (suc n) {ts = []} h (Begins.seen b) = absurd cc
refuted (suc n) {ts = t ∷ ts} h (Begins.seen b) = refuted n h b
refuted (suc n) {ts = []} h (Begins.acted b) = absurd cc
refuted (suc n) {ts = t ∷ ts} h (Begins.acted b) = refuted n h b
refuted (suc n) {ts = []} h (Begins.by r b) = absurd cc
refuted (suc n) {ts = t ∷ ts} {s = s} h (Begins.by {items} {more} r b) =
    refuted n (all_among (λ items. no n (t ∷ ts) (items ++ more) s) h (covers r)) b

-- ---- every run
-- in so many steps the search finds that each run over the tokens leaves what is wanted
unfoldable pub every : ℕ → (List Shape → State → Bool) → List Lexeme → List Shape → State → Bool
every zero q ts stack s = false
every (suc n) q [] [] s = q [] s
every (suc n) q [] (some w ∷ more) s = q (some w ∷ more) s
every (suc n) q [] (next ∷ more) s = q (next ∷ more) s && every n q [] more s
every (suc n) q [] (change f ∷ more) s = q (change f ∷ more) s && every n q [] more (f s)
every (suc n) q [] (symbol x ∷ more) s = q (symbol x ∷ more) s && list_all (λ items. every n q [] (items ++ more) s) (alternatives x)
every (suc n) q (t ∷ ts) [] s = true
every (suc n) q (t ∷ ts) (some w ∷ more) s = if w.fits s t then every n q ts more (w.after s t) else true
every (suc n) q (t ∷ ts) (next ∷ more) s = every n q (t ∷ ts) more s
every (suc n) q (t ∷ ts) (change f ∷ more) s = every n q (t ∷ ts) more (f s)
every (suc n) q (t ∷ ts) (symbol x ∷ more) s = list_all (λ items. every n q (t ∷ ts) (items ++ more) s) (alternatives x)

here_too : (n : ℕ) (q : List Shape → State → Bool) (stack : List Shape) (s : State) → every n q [] stack s ≡ true → q stack s ≡ true
unfolding every
here_too zero q stack s h = absurd cc
here_too (suc n) q [] s h = h
here_too (suc n) q (some w ∷ more) s h = h
here_too (suc n) q (next ∷ more) s h = (and_parts (q (next ∷ more) s) (every n q [] more s) h).0
here_too (suc n) q (change f ∷ more) s h = (and_parts (q (change f ∷ more) s) (every n q [] more (f s)) h).0
here_too (suc n) q (symbol x ∷ more) s h =
    (and_parts (q (symbol x ∷ more) s) (list_all (λ items. every n q [] (items ++ more) s) (alternatives x)) h).0

pub holds_at : (n : ℕ) (q : List Shape → State → Bool) {ts : List Lexeme} {stack left : List Shape} {s end : State} → every n q ts stack s ≡ true
    → Reaches stack s ts left end → q left end ≡ true
unfolding every
holds_at zero q h r = absurd cc
holds_at (suc n) q {stack = stack} {s = s} h Reaches.here = here_too (suc n) q stack s h
holds_at (suc n) q h (Reaches.token {w} {more} {left} {s} {end} {t} {ts} fits r) =
    holds_at n q (then_so (w.fits s t) (every n q ts more (w.after s t)) fits h) r
holds_at (suc n) q {ts = []} {s = s} h (Reaches.seen {more} r) = holds_at n q (and_parts (q (next ∷ more) s) (every n q [] more s) h).1 r
holds_at (suc n) q {ts = t ∷ ts} h (Reaches.seen r) = holds_at n q h r
holds_at (suc n) q {ts = []} {s = s} h (Reaches.acted {f} {more} r) =
    holds_at n q (and_parts (q (change f ∷ more) s) (every n q [] more (f s)) h).1 r
holds_at (suc n) q {ts = t ∷ ts} h (Reaches.acted r) = holds_at n q h r
holds_at (suc n) q {ts = []} {s = s} h (Reaches.by {n = x} {items = items} {more = more} r b) =
    holds_at n q (all_among (λ items. every n q [] (items ++ more) s)
    (and_parts (q (symbol x ∷ more) s) (list_all (λ items. every n q [] (items ++ more) s) (alternatives x)) h).1 (covers r)) b
holds_at (suc n) q {ts = t ∷ ts} {s = s} h (Reaches.by {items = items} {more = more} r b) =
    holds_at n q (all_among (λ items. every n q (t ∷ ts) (items ++ more) s) h (covers r)) b
