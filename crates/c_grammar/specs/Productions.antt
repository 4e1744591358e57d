-- The grammar: one case for each production, in the order of ISO/IEC 9899:1999, 6.5 to 6.9. A nonterminal takes a value from its left
-- and makes one. docs/GRAMMAR.md reads the productions one by one.
use Rattle.std.specs.Prelude.{◌≡◌, ◌≢◌, ℕ, suc, true, false, List, [], ◌∷◌, ◌++◌, Option, Some, None}
use Rattle.c_tree.specs.declared.declaration.Declaration.{Declaration}
use Rattle.c_tree.specs.declared.declaration.InitDeclarator.{InitDeclarator}
use Rattle.c_tree.specs.declared.declarator.DeclPart.{DeclPart}
use Rattle.c_tree.specs.declared.declarator.Declarator.{Declarator}
use Rattle.c_tree.specs.declared.declarator.Dots.{Dots}
use Rattle.c_tree.specs.declared.declarator.Param.{Param}
use Rattle.c_tree.specs.declared.declarator.TypeName.{TypeName}
use Rattle.c_tree.specs.declared.expression.Expr.{Expr}
use Rattle.c_tree.specs.declared.expression.ExprKind.TheVariants as e
use Rattle.c_tree.specs.declared.initialiser.Designator.{Designator}
use Rattle.c_tree.specs.declared.initialiser.Designator.TheVariants as dg
use Rattle.c_tree.specs.declared.initialiser.InitEntry.{InitEntry}
use Rattle.c_tree.specs.declared.initialiser.Initialiser.{Initialiser}
use Rattle.c_tree.specs.declared.initialiser.Initialiser.TheVariants as iv
use Rattle.c_tree.specs.declared.lexeme.Lexeme.{Lexeme}
use Rattle.c_tree.specs.declared.specifier.EnumItem.{EnumItem}
use Rattle.c_tree.specs.declared.specifier.MemberDecl.{MemberDecl}
use Rattle.c_tree.specs.declared.specifier.SpecKind.{SpecKind}
use Rattle.c_tree.specs.declared.specifier.SpecKind.TheVariants as sk
use Rattle.c_tree.specs.declared.specifier.SpecWord.{SpecWord}
use Rattle.c_tree.specs.declared.statement.BlockItem.{BlockItem}
use Rattle.c_tree.specs.declared.statement.BlockItem.TheVariants as bi
use Rattle.c_tree.specs.declared.statement.ForFirst.{ForFirst}
use Rattle.c_tree.specs.declared.statement.ForFirst.TheVariants as ff
use Rattle.c_tree.specs.declared.statement.Statement.{Statement}
use Rattle.c_tree.specs.declared.statement.StatementKind.{StatementKind}
use Rattle.c_tree.specs.declared.statement.StatementKind.TheVariants as st
use Rattle.c_tree.specs.declared.tree.Item.{Item as External}
use Rattle.c_tree.specs.declared.tree.Item.TheVariants as xd
use Rattle.c_grammar.specs.Items.{Mode, Sym, In, Out, Item, term, ahead, act, nt}
use Rattle.c_grammar.specs.Marks as m
use Rattle.c_grammar.specs.Modes.{may_have_name, name_of_mode, may_lack_name, behind_pointer, in_parentheses}
use Rattle.c_grammar.specs.State.{begin, end_specifiers, finish, declare, open_scope, close_scope, open_body, close_parameters, indirect, is_unary, is_no_unary, leave_dangling, begin_operand, end_operand, enter, leave, leave_loop}
use Rattle.c_grammar.specs.Terminals as w
use Rattle.c_grammar.specs.Terminals.{mark, word, operator, closing}
use Rattle.c_grammar.specs.Tokens.{name_of, bytes_of, word_of}
use Rattle.c_grammar.specs.Trees as t
use Rattle.c_grammar.specs.Trees.{Direct, Declared, expression}
use Rattle.c_grammar.specs.Words as d

pub data Rule : (n : Sym) → In n → Out n → List Item → Type 0 where
  -- ---- primary expressions (6.5.1)
  name : (u : Lexeme) → Rule Sym.Primary tt (expression u (e.Name (name_of u))) (act enter ∷ term w.value_name u ∷ act leave ∷ [])
  number : (u : Lexeme) → Rule Sym.Primary tt (expression u (t.constant_in u.kind)) (act enter ∷ term w.number u ∷ act leave ∷ [])
  character : (u : Lexeme)
      → Rule Sym.Primary tt (expression u (t.constant_in u.kind)) (act enter ∷ term w.character u ∷ act leave ∷ [])
  -- neighbouring texts are one (6.4.5)
  text : (u : Lexeme) (bytes : List ℕ) → Rule Sym.Primary tt (expression u (e.Text bytes))
      (act enter ∷ term w.text u ∷ nt Sym.MoreTexts (bytes_of u) bytes ∷ act leave ∷ [])
  last_text : (bytes : List ℕ) → Rule Sym.MoreTexts bytes bytes []
  more_texts : (before bytes : List ℕ) (u : Lexeme)
      → Rule Sym.MoreTexts before bytes (term w.text u ∷ nt Sym.MoreTexts (before ++ bytes_of u) bytes ∷ [])
  -- parentheses make no node of the tree, and count for the nesting
  parenthesised : (a : Expr) (u v : Lexeme) → Rule Sym.Primary tt a
      (act enter ∷ term (mark m.left_parenthesis) u ∷ nt Sym.Expression tt a ∷ term (closing (mark m.right_parenthesis)) v ∷ act leave ∷ [])
  -- ---- postfix expressions (6.5.2)
  postfix : (a b : Expr) → Rule Sym.Postfix tt b (nt Sym.Primary tt a ∷ nt Sym.AfterPostfix a b ∷ [])
  no_postfix : (a : Expr) → Rule Sym.AfterPostfix a a []
  -- array subscripting (6.5.2.1)
  subscript : (a b c : Expr) (u v : Lexeme) → Rule Sym.AfterPostfix a c
      (term (operator (mark m.left_bracket)) u ∷ act enter ∷ nt Sym.Expression tt b ∷ term (closing (mark m.right_bracket)) v ∷ act leave
      ∷ nt Sym.AfterPostfix (expression u (e.Index a b)) c ∷ [])
  -- function calls (6.5.2.2)
  call : (a c : Expr) (bs : List Expr) (u v : Lexeme) → Rule Sym.AfterPostfix a c
      (term (operator (mark m.left_parenthesis)) u ∷ act enter ∷ nt Sym.Arguments tt bs ∷ term (closing (mark m.right_parenthesis)) v
      ∷ act leave ∷ nt Sym.AfterPostfix (expression u (e.Call a bs)) c ∷ [])
  no_arguments : Rule Sym.Arguments tt [] []
  arguments : (a : Expr) (bs : List Expr) → Rule Sym.Arguments tt bs
      (act begin_operand ∷ nt Sym.Assignment tt a ∷ act end_operand ∷ nt Sym.MoreArguments (a ∷ []) bs ∷ [])
  last_argument : (bs : List Expr) → Rule Sym.MoreArguments bs bs []
  more_arguments : (a : Expr) (bs cs : List Expr) (u : Lexeme) → Rule Sym.MoreArguments bs cs
      (term (mark m.comma) u ∷ act begin_operand ∷ nt Sym.Assignment tt a ∷ act end_operand ∷ nt Sym.MoreArguments (bs ++ a ∷ []) cs ∷ [])
  -- members (6.5.2.3)
  member : (a c : Expr) (u v : Lexeme) → Rule Sym.AfterPostfix a c
      (term (operator (mark m.period)) u ∷ term (closing w.any_name) v
      ∷ nt Sym.AfterPostfix (expression u (e.Member a (name_of v))) c ∷ [])
  arrow : (a c : Expr) (u v : Lexeme) → Rule Sym.AfterPostfix a c
      (term (operator (mark m.arrow)) u ∷ term (closing w.any_name) v
      ∷ nt Sym.AfterPostfix (expression u (e.Arrow a (name_of v))) c ∷ [])
  -- `++` and `--` behind their operand (6.5.2.4)
  bump_behind : (a c : Expr) (u : Lexeme) → Rule Sym.AfterPostfix a c
      (term (closing (operator w.bump)) u ∷ nt Sym.AfterPostfix (expression u (e.Bump (t.goes_up u) false a)) c ∷ [])
  -- ---- unary expressions (6.5.3)
  postfix_alone : (a : Expr) → Rule Sym.Unary tt a (nt Sym.Postfix tt a ∷ [])
  -- `++` and `--` before their operand (6.5.3.1)
  bump_before : (a : Expr) (u : Lexeme) → Rule Sym.Unary tt (expression u (e.Bump (t.goes_up u) true a))
      (act enter ∷ term w.bump u ∷ nt Sym.Unary tt a ∷ act leave ∷ [])
  -- (6.5.3.2, 6.5.3.3)
  unary : (a : Expr) (u : Lexeme) → Rule Sym.Unary tt (t.applied u a)
      (act enter ∷ term w.unary_operator u ∷ nt Sym.Cast tt a ∷ act leave ∷ act is_unary ∷ [])
  -- `sizeof` (6.5.3.4)
  size_of : (a : Expr) (u : Lexeme) → Rule Sym.Unary tt (expression u (e.SizeOf a))
      (act enter ∷ term (word d.sizeof_word) u ∷ nt Sym.Unary tt a ∷ act leave ∷ [])
  size_of_type : (n : TypeName) (u : Lexeme) → Rule Sym.Unary tt (expression u (e.SizeOfName n))
      (act enter ∷ term (word d.sizeof_word) u ∷ nt Sym.TypeInParentheses tt n ∷ act leave ∷ act is_unary ∷ [])
  type_in_parentheses : (n : TypeName) (u v : Lexeme) → Rule Sym.TypeInParentheses tt n
      (term (mark m.left_parenthesis) u ∷ nt Sym.NameOfType tt n ∷ term (mark m.right_parenthesis) v ∷ [])
  -- ---- casts (6.5.4)
  unary_alone : (a : Expr) → Rule Sym.Cast tt a (nt Sym.Unary tt a ∷ [])
  cast : (n : TypeName) (a : Expr) (u : Lexeme) → Rule Sym.Cast tt (expression u (e.Cast n a))
      (ahead u ∷ act enter ∷ nt Sym.TypeInParentheses tt n ∷ nt Sym.Cast tt a ∷ act leave ∷ act is_no_unary ∷ [])
  -- ---- binary operators, from the tightest level to the loosest (6.5.5 to 6.5.14)
  cast_alone : (a : Expr) → Rule (Sym.Level 0) tt a (nt Sym.Cast tt a ∷ [])
  level : (n : ℕ) (a b : Expr) → Rule (Sym.Level (suc n)) tt b (nt (Sym.Level n) tt a ∷ nt (Sym.MoreOperands n) a b ∷ [])
  last_operand : (n : ℕ) (a : Expr) → Rule (Sym.MoreOperands n) a a []
  more_operands : (n : ℕ) (a b c : Expr) (u : Lexeme) → Rule (Sym.MoreOperands n) a c
      (term (w.binary_operator n) u ∷ act enter ∷ nt (Sym.Level n) tt b ∷ act leave ∷ act is_no_unary
      ∷ nt (Sym.MoreOperands n) (t.joined u a b) c ∷ [])
  -- ---- the conditional operator (6.5.15), and constant expressions (6.6)
  conditional : (a b : Expr) → Rule Sym.Conditional tt b (nt (Sym.Level 10) tt a ∷ nt Sym.Chosen a b ∷ [])
  no_choice : (a : Expr) → Rule Sym.Chosen a a []
  choice : (a b c : Expr) (u v : Lexeme) → Rule Sym.Chosen a (expression u (e.Choose a b c))
      (term (operator (mark m.question)) u ∷ act enter ∷ nt Sym.Expression tt b ∷ term (mark m.colon) v
      ∷ act begin_operand ∷ nt Sym.Conditional tt c ∷ act end_operand ∷ act leave ∷ act is_no_unary ∷ [])
  constant : (a : Expr) → Rule Sym.Constant tt a (act begin_operand ∷ nt Sym.Conditional tt a ∷ act end_operand ∷ [])
  -- ---- assignment (6.5.16) and the comma operator (6.5.17)
  assignment : (a b : Expr) → Rule Sym.Assignment tt b (nt Sym.Conditional tt a ∷ nt Sym.Assigned a b ∷ [])
  not_assigned : (a : Expr) → Rule Sym.Assigned a a []
  assigned : (a b : Expr) (u : Lexeme) → Rule Sym.Assigned a (t.assigned u a b)
      (term w.assignment_operator u ∷ act enter ∷ nt Sym.Assignment tt b ∷ act leave ∷ [])
  expressions : (a b : Expr) → Rule Sym.Expression tt b
      (act begin_operand ∷ nt Sym.Assignment tt a ∷ nt Sym.MoreExpressions a b ∷ act end_operand ∷ [])
  last_expression : (a : Expr) → Rule Sym.MoreExpressions a a []
  more_expressions : (a b c : Expr) (u : Lexeme) → Rule Sym.MoreExpressions a c
      (term (operator (mark m.comma)) u ∷ act enter ∷ nt Sym.Assignment tt b ∷ act leave
      ∷ nt Sym.MoreExpressions (expression u (e.Comma a b)) c ∷ [])
  -- ---- declarations (6.7)
  declaration : (head : List SpecWord) (parts : List InitDeclarator) (u : Lexeme)
      → Rule Sym.AnyDeclaration tt (record { head = head; parts = parts })
      (act begin ∷ nt Sym.Specifiers tt head ∷ nt Sym.InitDeclarators tt parts ∷ term (mark m.semicolon) u ∷ act finish ∷ [])
  no_declarators : Rule Sym.InitDeclarators tt [] []
  init_declarators : (p : InitDeclarator) (ps : List InitDeclarator) → Rule Sym.InitDeclarators tt ps
      (nt Sym.DeclaratorWithInitial tt p ∷ nt Sym.MoreInitDeclarators (p ∷ []) ps ∷ [])
  last_init_declarator : (ps : List InitDeclarator) → Rule Sym.MoreInitDeclarators ps ps []
  more_init_declarators : (p : InitDeclarator) (ps qs : List InitDeclarator) (u : Lexeme) → Rule Sym.MoreInitDeclarators ps qs
      (term (mark m.comma) u ∷ act end_specifiers ∷ nt Sym.DeclaratorWithInitial tt p ∷ nt Sym.MoreInitDeclarators (ps ++ p ∷ []) qs ∷ [])
  -- a name is visible from the end of its declarator (6.2.1)
  init_declarator : (p : Declared) (value : Option Initialiser)
      → Rule Sym.DeclaratorWithInitial tt (record { declarator = p.tree; initial = value })
      (nt (Sym.DeclaratorOf Mode.concrete) tt p ∷ act declare ∷ nt Sym.Initial tt value ∷ [])
  no_initial : Rule Sym.Initial tt None []
  initialised : (value : Initialiser) (u : Lexeme)
      → Rule Sym.Initial tt (Some value) (term (mark m.equal) u ∷ nt Sym.InitialValue tt value ∷ [])
  -- ---- specifiers (6.7), each at its first token
  specifiers : (s : SpecWord) (ss : List SpecWord)
      → Rule Sym.Specifiers tt ss (nt Sym.Specifier tt s ∷ nt Sym.MoreSpecifiers (s ∷ []) ss ∷ [])
  last_specifier : (ss : List SpecWord) → Rule Sym.MoreSpecifiers ss ss []
  more_specifiers : (s : SpecWord) (ss rs : List SpecWord)
      → Rule Sym.MoreSpecifiers ss rs (nt Sym.Specifier tt s ∷ nt Sym.MoreSpecifiers (ss ++ s ∷ []) rs ∷ [])
  specifier : (kind : SpecKind) (u : Lexeme)
      → Rule Sym.Specifier tt (t.spec_word u kind) (ahead u ∷ nt Sym.SpecifierForm tt kind ∷ [])
  -- storage classes (6.7.1), qualifiers (6.7.3), `inline` (6.7.4)
  typedef : (u : Lexeme) → Rule Sym.SpecifierForm tt (sk.Plain (word_of u)) (term w.typedef u ∷ [])
  plain_specifier : (u : Lexeme) → Rule Sym.SpecifierForm tt (sk.Plain (word_of u)) (term w.plain_specifier u ∷ [])
  -- type words (6.7.2) and typedef names (6.7.7)
  type_word : (u : Lexeme) → Rule Sym.SpecifierForm tt (sk.Plain (word_of u)) (term w.type_word u ∷ [])
  typedef_name : (u : Lexeme) → Rule Sym.SpecifierForm tt (sk.Typedef (name_of u)) (term w.typedef_name u ∷ [])
  -- structures and unions (6.7.2.1); their content is one node of the nesting
  record_content : (tag : Option ℕ) (members : List MemberDecl) (u v x : Lexeme)
      → Rule Sym.SpecifierForm tt (sk.Record (t.record_kind u) tag (Some members))
      (term w.record_word u ∷ nt Sym.Tag tt tag ∷ act enter ∷ term (mark m.left_brace) v ∷ nt Sym.Members tt members
      ∷ term (mark m.right_brace) x ∷ act leave ∷ [])
  record_tag : (u v : Lexeme) → Rule Sym.SpecifierForm tt (sk.Record (t.record_kind u) (Some (name_of v)) None)
      (term w.record_word u ∷ term w.any_name v ∷ [])
  no_tag : Rule Sym.Tag tt None []
  tag : (u : Lexeme) → Rule Sym.Tag tt (Some (name_of u)) (term w.any_name u ∷ [])
  members : (p : MemberDecl) (ps : List MemberDecl) → Rule Sym.Members tt ps (nt Sym.Member tt p ∷ nt Sym.MoreMembers (p ∷ []) ps ∷ [])
  last_member : (ps : List MemberDecl) → Rule Sym.MoreMembers ps ps []
  more_members : (p : MemberDecl) (ps qs : List MemberDecl)
      → Rule Sym.MoreMembers ps qs (nt Sym.Member tt p ∷ nt Sym.MoreMembers (ps ++ p ∷ []) qs ∷ [])
  member_declaration : (head : List SpecWord) (p : Declared) (ps : List Declarator) (u : Lexeme)
      → Rule Sym.Member tt (t.member_declaration head ps)
      (act begin ∷ nt Sym.Specifiers tt head ∷ nt (Sym.DeclaratorOf Mode.concrete) tt p ∷ nt Sym.MoreDeclarators (p.tree ∷ []) ps
      ∷ term (mark m.semicolon) u ∷ act finish ∷ [])
  last_declarator : (ps : List Declarator) → Rule Sym.MoreDeclarators ps ps []
  more_declarators : (p : Declared) (ps qs : List Declarator) (u : Lexeme) → Rule Sym.MoreDeclarators ps qs
      (term (mark m.comma) u ∷ act end_specifiers ∷ nt (Sym.DeclaratorOf Mode.concrete) tt p ∷ nt Sym.MoreDeclarators (ps ++ p.tree ∷ []) qs ∷ [])
  -- enumerations (6.7.2.2); their content is one node of the nesting
  enumeration_content : (tag : Option ℕ) (items : List EnumItem) (u v x : Lexeme)
      → Rule Sym.SpecifierForm tt (sk.Enum tag (Some items))
      (term w.enumeration_word u ∷ nt Sym.Tag tt tag ∷ act enter ∷ term (mark m.left_brace) v ∷ nt Sym.Enumerators tt items
      ∷ term (mark m.right_brace) x ∷ act leave ∷ [])
  enumeration_tag : (u v : Lexeme) → Rule Sym.SpecifierForm tt (sk.Enum (Some (name_of v)) None)
      (term w.enumeration_word u ∷ term w.any_name v ∷ [])
  enumerators : (i : EnumItem) (is : List EnumItem)
      → Rule Sym.Enumerators tt is (nt Sym.Enumerator tt i ∷ nt Sym.MoreEnumerators (i ∷ []) is ∷ [])
  last_enumerator : (is : List EnumItem) → Rule Sym.MoreEnumerators is is []
  last_enumerator_comma : (is : List EnumItem) (u : Lexeme) → Rule Sym.MoreEnumerators is is (term (mark m.comma) u ∷ [])
  more_enumerators : (i : EnumItem) (is js : List EnumItem) (u : Lexeme) → Rule Sym.MoreEnumerators is js
      (term (mark m.comma) u ∷ nt Sym.Enumerator tt i ∷ nt Sym.MoreEnumerators (is ++ i ∷ []) js ∷ [])
  -- an enumeration constant is visible behind its value (6.2.1)
  enumerator : (value : Option Expr) (u : Lexeme) → Rule Sym.Enumerator tt (t.enumerator u value)
      (act begin ∷ term w.enumerator_name u ∷ nt Sym.EnumeratorValue tt value ∷ act declare ∷ act finish ∷ [])
  no_value : Rule Sym.EnumeratorValue tt None []
  value : (a : Expr) (u : Lexeme)
      → Rule Sym.EnumeratorValue tt (Some a) (term (mark m.equal) u ∷ nt Sym.Constant tt a ∷ [])
  -- ---- declarators (6.7.5, 6.7.6), each a node of the nesting; a `*`, a nesting `(` and a `,` end the list of specifiers
  plain_declarator : (k : Mode) (p : Direct) (u : Lexeme) → Rule (Sym.DeclaratorOf k) tt (t.declarator u [] p)
      (ahead u ∷ act enter ∷ nt (Sym.DirectOf k) tt p ∷ act leave ∷ [])
  -- pointers (6.7.5.1)
  pointed_declarator : (k : Mode) (qs : List ℕ) (ps : List (List ℕ)) (p : Direct) (u : Lexeme)
      → Rule (Sym.DeclaratorOf k) tt (t.declarator u ps p)
      (act enter ∷ term (mark m.asterisk) u ∷ act end_specifiers ∷ nt Sym.Qualifiers [] qs ∷ nt Sym.Pointers (qs ∷ []) ps
      ∷ nt (Sym.DirectOf (behind_pointer k)) tt p ∷ act indirect ∷ act leave ∷ [])
  pointers_alone : (k : Mode) (qs : List ℕ) (ps : List (List ℕ)) (u : Lexeme) → may_lack_name k ≡ true
      → Rule (Sym.DeclaratorOf k) tt (t.declarator u ps (t.direct_absent []))
      (act enter ∷ term (mark m.asterisk) u ∷ act end_specifiers ∷ nt Sym.Qualifiers [] qs ∷ nt Sym.Pointers (qs ∷ []) ps ∷ act leave ∷ [])
  last_pointer : (ps : List (List ℕ)) → Rule Sym.Pointers ps ps []
  more_pointers : (qs : List ℕ) (ps rs : List (List ℕ)) (u : Lexeme) → Rule Sym.Pointers ps rs
      (term (mark m.asterisk) u ∷ act end_specifiers ∷ nt Sym.Qualifiers [] qs ∷ nt Sym.Pointers (ps ++ qs ∷ []) rs ∷ [])
  last_qualifier : (qs : List ℕ) → Rule Sym.Qualifiers qs qs []
  more_qualifiers : (qs rs : List ℕ) (u : Lexeme)
      → Rule Sym.Qualifiers qs rs (term w.qualifier u ∷ nt Sym.Qualifiers (qs ++ word_of u ∷ []) rs ∷ [])
  named : (k : Mode) (ps : List DeclPart) (u : Lexeme) → may_have_name k ≡ true
      → Rule (Sym.DirectOf k) tt (t.direct_name u ps) (term (name_of_mode k) u ∷ nt Sym.Parts [] ps ∷ [])
  nested : (k : Mode) (p : Declared) (ps : List DeclPart) (u v : Lexeme) → Rule (Sym.DirectOf k) tt (t.direct_nested p ps)
      (term (mark m.left_parenthesis) u ∷ act end_specifiers ∷ nt (Sym.DeclaratorOf (in_parentheses k)) tt p ∷ term (mark m.right_parenthesis) v
      ∷ nt Sym.Parts [] ps ∷ [])
  nameless : (k : Mode) (p : DeclPart) (ps : List DeclPart) → may_lack_name k ≡ true
      → Rule (Sym.DirectOf k) tt (t.direct_absent ps) (nt Sym.Part tt p ∷ nt Sym.Parts (p ∷ []) ps ∷ [])
  last_part : (ps : List DeclPart) → Rule Sym.Parts ps ps []
  more_parts : (p : DeclPart) (ps qs : List DeclPart)
      → Rule Sym.Parts ps qs (nt Sym.Part tt p ∷ nt Sym.Parts (ps ++ p ∷ []) qs ∷ [])
  -- arrays (6.7.5.2)
  array : (size : Option Expr) (u v : Lexeme) → Rule Sym.Part tt (t.array_part u size)
      (term (mark m.left_bracket) u ∷ act indirect ∷ nt Sym.Size tt size ∷ term (mark m.right_bracket) v ∷ [])
  no_size : Rule Sym.Size tt None []
  size : (a : Expr) → Rule Sym.Size tt (Some a) (nt Sym.Constant tt a ∷ [])
  -- functions (6.7.5.3); the list has a scope of its own (6.2.1)
  parameters : (inside : List Param × Option Dots) (u v : Lexeme) → Rule Sym.Part tt (t.parameters_part u inside)
      (term (mark m.left_parenthesis) u ∷ act open_scope ∷ nt Sym.Parameters tt inside ∷ term (mark m.right_parenthesis) v
      ∷ act close_parameters ∷ [])
  no_parameters : Rule Sym.Parameters tt ([], None) []
  void_alone : (u : Lexeme) → Rule Sym.Parameters tt ([], None) (term (word d.void_word) u ∷ [])
  parameter_list : (p : Param) (inside : List Param × Option Dots) → ((u : Lexeme) → inside ≢ t.lone_void u)
      → Rule Sym.Parameters tt inside (nt Sym.Parameter tt p ∷ nt Sym.MoreParameters (p ∷ []) inside ∷ [])
  last_parameter : (ps : List Param) → Rule Sym.MoreParameters ps (ps, None) []
  variable_arguments : (ps : List Param) (u v : Lexeme)
      → Rule Sym.MoreParameters ps (ps, Some (t.dots v)) (term (mark m.comma) u ∷ term (mark m.ellipsis) v ∷ [])
  more_parameters : (p : Param) (ps : List Param) (inside : List Param × Option Dots) (u : Lexeme) → Rule Sym.MoreParameters ps inside
      (term (mark m.comma) u ∷ nt Sym.Parameter tt p ∷ nt Sym.MoreParameters (ps ++ p ∷ []) inside ∷ [])
  parameter : (head : List SpecWord) (p : Option Declared) → Rule Sym.Parameter tt (t.parameter head p)
      (act begin ∷ nt Sym.Specifiers tt head ∷ nt (Sym.MaybeDeclarator Mode.parameter) tt p ∷ act declare ∷ act finish ∷ [])
  no_declarator : (k : Mode) → Rule (Sym.MaybeDeclarator k) tt None []
  some_declarator : (k : Mode) (p : Declared) → Rule (Sym.MaybeDeclarator k) tt (Some p) (nt (Sym.DeclaratorOf k) tt p ∷ [])
  -- type names (6.7.6)
  type_name : (head : List SpecWord) (p : Option Declared) → Rule Sym.NameOfType tt (t.type_name head p)
      (act begin ∷ nt Sym.Specifiers tt head ∷ nt (Sym.MaybeDeclarator Mode.abstract) tt p ∷ act finish ∷ [])
  -- ---- initialisers (6.7.8), each a node of the nesting
  one_value : (a : Expr) → Rule Sym.InitialValue tt (iv.One a) (act enter ∷ nt Sym.Assignment tt a ∷ act leave ∷ [])
  braced : (i : InitEntry) (is : List InitEntry) (u v : Lexeme) → Rule Sym.InitialValue tt (t.braced u is)
      (act enter ∷ term (mark m.left_brace) u ∷ nt Sym.Entry tt i ∷ nt Sym.MoreEntries (i ∷ []) is ∷ term (mark m.right_brace) v
      ∷ act leave ∷ [])
  last_entry : (is : List InitEntry) → Rule Sym.MoreEntries is is []
  last_entry_comma : (is : List InitEntry) (u : Lexeme) → Rule Sym.MoreEntries is is (term (mark m.comma) u ∷ [])
  more_entries : (i : InitEntry) (is js : List InitEntry) (u : Lexeme) → Rule Sym.MoreEntries is js
      (term (mark m.comma) u ∷ nt Sym.Entry tt i ∷ nt Sym.MoreEntries (is ++ i ∷ []) js ∷ [])
  plain_entry : (value : Initialiser) → Rule Sym.Entry tt (t.entry [] value) (nt Sym.InitialValue tt value ∷ [])
  designated_entry : (g : Designator) (gs : List Designator) (value : Initialiser) (u : Lexeme) → Rule Sym.Entry tt (t.entry gs value)
      (nt Sym.Designation tt g ∷ nt Sym.MoreDesignators (g ∷ []) gs ∷ term (mark m.equal) u ∷ nt Sym.InitialValue tt value ∷ [])
  last_designator : (gs : List Designator) → Rule Sym.MoreDesignators gs gs []
  more_designators : (g : Designator) (gs hs : List Designator)
      → Rule Sym.MoreDesignators gs hs (nt Sym.Designation tt g ∷ nt Sym.MoreDesignators (gs ++ g ∷ []) hs ∷ [])
  designated_element : (a : Expr) (u v : Lexeme) → Rule Sym.Designation tt (dg.Index a)
      (term (mark m.left_bracket) u ∷ nt Sym.Constant tt a ∷ term (mark m.right_bracket) v ∷ [])
  designated_member : (u v : Lexeme)
      → Rule Sym.Designation tt (t.member_designator v) (term (mark m.period) u ∷ term w.any_name v ∷ [])
  -- ---- statements (6.8), each at its first token and a node of the nesting
  statement : (kind : StatementKind) (u : Lexeme) → Rule Sym.AnyStatement tt (t.statement u kind)
      (ahead u ∷ act enter ∷ nt Sym.StatementForm tt kind ∷ act leave ∷ [])
  -- compound statements, which are blocks (6.8.2)
  compound : (items : List BlockItem)
      → Rule Sym.StatementForm tt (st.Compound items) (act open_scope ∷ nt Sym.Block tt items ∷ act close_scope ∷ [])
  block : (items : List BlockItem) (u v : Lexeme) → Rule Sym.Block tt items
      (term (mark m.left_brace) u ∷ nt Sym.BlockItems [] items ∷ term (mark m.right_brace) v ∷ [])
  last_block_item : (items : List BlockItem) → Rule Sym.BlockItems items items []
  block_declaration : (p : Declaration) (before items : List BlockItem) → Rule Sym.BlockItems before items
      (nt Sym.AnyDeclaration tt p ∷ nt Sym.BlockItems (before ++ bi.Declaration p ∷ []) items ∷ [])
  block_statement : (p : Statement) (before items : List BlockItem) → Rule Sym.BlockItems before items
      (nt Sym.AnyStatement tt p ∷ nt Sym.BlockItems (before ++ bi.Statement p ∷ []) items ∷ [])
  -- expression and null statements (6.8.3)
  plain_statement : (a : Option Expr) (u : Lexeme) → Rule Sym.StatementForm tt (st.Plain a)
      (nt Sym.MaybeExpression tt a ∷ term (mark m.semicolon) u ∷ [])
  no_expression : Rule Sym.MaybeExpression tt None []
  some_expression : (a : Expr) → Rule Sym.MaybeExpression tt (Some a) (nt Sym.Expression tt a ∷ [])
  -- selection statements (6.8.4), which are blocks, and so is what they govern
  if : (a : Expr) (p : Statement) (q : Option Statement) (u : Lexeme) → Rule Sym.StatementForm tt (st.If a p q)
      (term (word d.if_word) u ∷ act open_scope ∷ nt Sym.Condition tt a ∷ nt Sym.Substatement tt p ∷ nt Sym.Else tt q ∷ act close_scope
      ∷ [])
  no_else : Rule Sym.Else tt None (act leave_dangling ∷ [])
  else : (p : Statement) (u : Lexeme) → Rule Sym.Else tt (Some p) (term w.else u ∷ nt Sym.Substatement tt p ∷ [])
  switch : (a : Expr) (p : Statement) (u : Lexeme) → Rule Sym.StatementForm tt (st.Switch a p)
      (term (word d.switch_word) u ∷ act open_scope ∷ nt Sym.Condition tt a ∷ act open_scope ∷ nt Sym.Compound tt p ∷ act close_scope
      ∷ act close_scope ∷ [])
  switch_body : (items : List BlockItem) (u : Lexeme) → Rule Sym.Compound tt (t.statement u (st.Compound items))
      (ahead u ∷ act enter ∷ act open_scope ∷ nt Sym.Block tt items ∷ act close_scope ∷ act leave ∷ [])
  condition : (a : Expr) (u v : Lexeme) → Rule Sym.Condition tt a
      (term (mark m.left_parenthesis) u ∷ nt Sym.Expression tt a ∷ term (mark m.right_parenthesis) v ∷ [])
  substatement : (p : Statement)
      → Rule Sym.Substatement tt p (act open_scope ∷ nt Sym.AnyStatement tt p ∷ act close_scope ∷ [])
  -- the labels of a `switch` (6.8.1)
  case : (a : Expr) (p : Statement) (u v : Lexeme) → Rule Sym.StatementForm tt (st.Case a p)
      (term (word d.case_word) u ∷ nt Sym.Constant tt a ∷ term (mark m.colon) v ∷ nt Sym.AnyStatement tt p ∷ [])
  default : (p : Statement) (u v : Lexeme) → Rule Sym.StatementForm tt (st.Default p)
      (term (word d.default_word) u ∷ term (mark m.colon) v ∷ nt Sym.AnyStatement tt p ∷ [])
  -- iteration statements (6.8.5), which are blocks, and so is what they govern
  while : (a : Expr) (p : Statement) (u : Lexeme) → Rule Sym.StatementForm tt (st.While a p)
      (term (w.loop_word d.while_word) u ∷ act open_scope ∷ nt Sym.Condition tt a ∷ nt Sym.Substatement tt p ∷ act close_scope
      ∷ act leave_loop ∷ [])
  do_while : (a : Expr) (p : Statement) (u v x : Lexeme) → Rule Sym.StatementForm tt (st.Do p a)
      (term (w.loop_word d.do_word) u ∷ act open_scope ∷ nt Sym.Substatement tt p ∷ act leave_loop ∷ term (word d.while_word) v
      ∷ nt Sym.Condition tt a ∷ term (mark m.semicolon) x ∷ act close_scope ∷ [])
  for : (head : ForFirst) (test last : Option Expr) (p : Statement) (u v x y : Lexeme)
      → Rule Sym.StatementForm tt (st.For head test last p)
      (term (w.loop_word d.for_word) u ∷ act open_scope ∷ term (mark m.left_parenthesis) v ∷ nt Sym.First tt head
      ∷ nt Sym.MaybeExpression tt test ∷ term (mark m.semicolon) x ∷ nt Sym.MaybeExpression tt last
      ∷ term (mark m.right_parenthesis) y ∷ nt Sym.Substatement tt p ∷ act close_scope ∷ act leave_loop ∷ [])
  for_nothing : (u : Lexeme) → Rule Sym.First tt ff.Nothing (term (mark m.semicolon) u ∷ [])
  for_expression : (a : Expr) (u : Lexeme)
      → Rule Sym.First tt (ff.One a) (nt Sym.Expression tt a ∷ term (mark m.semicolon) u ∷ [])
  for_declaration : (p : Declaration) → Rule Sym.First tt (ff.Declaration p) (nt Sym.AnyDeclaration tt p ∷ [])
  -- jumps (6.8.6)
  continue : (u v : Lexeme)
      → Rule Sym.StatementForm tt st.Continue (term (word d.continue_word) u ∷ term (mark m.semicolon) v ∷ [])
  break : (u v : Lexeme) → Rule Sym.StatementForm tt st.Break (term (word d.break_word) u ∷ term (mark m.semicolon) v ∷ [])
  return : (a : Option Expr) (u v : Lexeme) → Rule Sym.StatementForm tt (st.Return a)
      (term (word d.return_word) u ∷ nt Sym.MaybeExpression tt a ∷ term (mark m.semicolon) v ∷ [])
  -- ---- files (6.9)
  file : (items : List External) (u : Lexeme) → Rule Sym.File tt items (nt Sym.Externals [] items ∷ term w.end u ∷ [])
  last_external : (items : List External) → Rule Sym.Externals items items []
  more_externals : (p : External) (before items : List External)
      → Rule Sym.Externals before items (nt Sym.ExternalDeclaration tt p ∷ nt Sym.Externals (before ++ p ∷ []) items ∷ [])
  -- a lone `;` declares nothing
  lone_semicolon : (before items : List External) (u : Lexeme)
      → Rule Sym.Externals before items (term (mark m.semicolon) u ∷ nt Sym.Externals before items ∷ [])
  external_declaration : (p : Declaration)
      → Rule Sym.ExternalDeclaration tt (xd.Declaration p) (nt Sym.AnyDeclaration tt p ∷ [])
  -- function definitions (6.9.1); the body goes on with the scope of the parameters
  function : (head : List SpecWord) (p : Declared) (items : List BlockItem) (u : Lexeme)
      → Rule Sym.ExternalDeclaration tt (xd.Function head p.tree (t.statement u (st.Compound items)))
      (act begin ∷ nt Sym.Specifiers tt head ∷ nt (Sym.DeclaratorOf Mode.concrete) tt p ∷ act declare ∷ act open_body ∷ ahead u ∷ act enter
      ∷ nt Sym.Block tt items ∷ act leave ∷ act close_scope ∷ act finish ∷ [])
