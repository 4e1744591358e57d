-- What the right side of a production is made of.
use Rattle.std.specs.Prelude.{ℕ, List, [], ◌∷◌, Option}
use Rattle.c_tree.specs.declared.declaration.Declaration.{Declaration}
use Rattle.c_tree.specs.declared.declaration.InitDeclarator.{InitDeclarator}
use Rattle.c_tree.specs.declared.declarator.DeclPart.{DeclPart}
use Rattle.c_tree.specs.declared.declarator.Declarator.{Declarator}
use Rattle.c_tree.specs.declared.declarator.Dots.{Dots}
use Rattle.c_tree.specs.declared.declarator.Param.{Param}
use Rattle.c_tree.specs.declared.declarator.TypeName.{TypeName}
use Rattle.c_tree.specs.declared.expression.Expr.{Expr}
use Rattle.c_tree.specs.declared.initialiser.Designator.{Designator}
use Rattle.c_tree.specs.declared.initialiser.InitEntry.{InitEntry}
use Rattle.c_tree.specs.declared.initialiser.Initialiser.{Initialiser}
use Rattle.c_tree.specs.declared.lexeme.Lexeme.{Lexeme}
use Rattle.c_tree.specs.declared.specifier.EnumItem.{EnumItem}
use Rattle.c_tree.specs.declared.specifier.MemberDecl.{MemberDecl}
use Rattle.c_tree.specs.declared.specifier.SpecKind.{SpecKind}
use Rattle.c_tree.specs.declared.specifier.SpecWord.{SpecWord}
use Rattle.c_tree.specs.declared.statement.BlockItem.{BlockItem}
use Rattle.c_tree.specs.declared.statement.ForFirst.{ForFirst}
use Rattle.c_tree.specs.declared.statement.Statement.{Statement}
use Rattle.c_tree.specs.declared.statement.StatementKind.{StatementKind}
use Rattle.c_tree.specs.declared.tree.Item.{Item as External}
use Rattle.c_grammar.specs.State.{State}
use Rattle.c_grammar.specs.Terminals.{Terminal}
use Rattle.c_grammar.specs.Trees.{Direct, Declared}

-- where a declarator stands
pub data Mode : Type 0 where
  -- in a declaration or a member, where it has a name (ISO/IEC 9899:1999, 6.7.5)
  concrete : Mode
  -- in a parameter, with or without a name, and there behind a `(` (6.7.5.3)
  parameter : Mode
  grouped : Mode
  -- in a type name, without a name (6.7.6)
  abstract : Mode

-- the nonterminals
pub data Sym : Type 0 where
  -- expressions (6.5): each with what may follow its first operand
  Expression : Sym
  MoreExpressions : Sym
  Assignment : Sym
  Assigned : Sym
  Constant : Sym
  Conditional : Sym
  Chosen : Sym
  Level : ℕ → Sym
  MoreOperands : ℕ → Sym
  Cast : Sym
  TypeInParentheses : Sym
  Unary : Sym
  Postfix : Sym
  AfterPostfix : Sym
  Arguments : Sym
  MoreArguments : Sym
  Primary : Sym
  MoreTexts : Sym
  -- specifiers (6.7)
  Specifiers : Sym
  MoreSpecifiers : Sym
  Specifier : Sym
  SpecifierForm : Sym
  Tag : Sym
  Members : Sym
  MoreMembers : Sym
  Member : Sym
  MoreDeclarators : Sym
  Enumerators : Sym
  MoreEnumerators : Sym
  Enumerator : Sym
  EnumeratorValue : Sym
  -- declarators (6.7.5, 6.7.6)
  DeclaratorOf : Mode → Sym
  MaybeDeclarator : Mode → Sym
  Pointers : Sym
  Qualifiers : Sym
  DirectOf : Mode → Sym
  Parts : Sym
  Part : Sym
  Size : Sym
  Parameters : Sym
  MoreParameters : Sym
  Parameter : Sym
  NameOfType : Sym
  -- declarations and initialisers (6.7, 6.7.8)
  AnyDeclaration : Sym
  InitDeclarators : Sym
  MoreInitDeclarators : Sym
  DeclaratorWithInitial : Sym
  Initial : Sym
  InitialValue : Sym
  MoreEntries : Sym
  Entry : Sym
  Designation : Sym
  MoreDesignators : Sym
  -- statements (6.8)
  AnyStatement : Sym
  StatementForm : Sym
  Compound : Sym
  Block : Sym
  BlockItems : Sym
  Condition : Sym
  Substatement : Sym
  Else : Sym
  First : Sym
  MaybeExpression : Sym
  -- the file (6.9)
  ExternalDeclaration : Sym
  Externals : Sym
  File : Sym

-- what a nonterminal takes from its left: the operand or the list so far
abbrev pub In : Sym → Type 0
In MoreExpressions = Expr
In Assigned = Expr
In Chosen = Expr
In (MoreOperands n) = Expr
In AfterPostfix = Expr
In MoreArguments = List Expr
In MoreTexts = List ℕ
In MoreSpecifiers = List SpecWord
In MoreMembers = List MemberDecl
In MoreDeclarators = List Declarator
In MoreEnumerators = List EnumItem
In Pointers = List (List ℕ)
In Qualifiers = List ℕ
In Parts = List DeclPart
In MoreParameters = List Param
In MoreInitDeclarators = List InitDeclarator
In MoreEntries = List InitEntry
In MoreDesignators = List Designator
In BlockItems = List BlockItem
In Externals = List External
In _ = Unit {0}

-- what it makes
abbrev pub Out : Sym → Type 0
Out Expression = Expr
Out MoreExpressions = Expr
Out Assignment = Expr
Out Assigned = Expr
Out Constant = Expr
Out Conditional = Expr
Out Chosen = Expr
Out (Level n) = Expr
Out (MoreOperands n) = Expr
Out Cast = Expr
Out TypeInParentheses = TypeName
Out Unary = Expr
Out Postfix = Expr
Out AfterPostfix = Expr
Out Arguments = List Expr
Out MoreArguments = List Expr
Out Primary = Expr
Out MoreTexts = List ℕ
Out Specifiers = List SpecWord
Out MoreSpecifiers = List SpecWord
Out Specifier = SpecWord
Out SpecifierForm = SpecKind
Out Tag = Option ℕ
Out Members = List MemberDecl
Out MoreMembers = List MemberDecl
Out Member = MemberDecl
Out MoreDeclarators = List Declarator
Out Enumerators = List EnumItem
Out MoreEnumerators = List EnumItem
Out Enumerator = EnumItem
Out EnumeratorValue = Option Expr
Out (DeclaratorOf m) = Declared
Out (MaybeDeclarator m) = Option Declared
Out Pointers = List (List ℕ)
Out Qualifiers = List ℕ
Out (DirectOf m) = Direct
Out Parts = List DeclPart
Out Part = DeclPart
Out Size = Option Expr
Out Parameters = List Param × Option Dots
Out MoreParameters = List Param × Option Dots
Out Parameter = Param
Out NameOfType = TypeName
Out AnyDeclaration = Declaration
Out InitDeclarators = List InitDeclarator
Out MoreInitDeclarators = List InitDeclarator
Out DeclaratorWithInitial = InitDeclarator
Out Initial = Option Initialiser
Out InitialValue = Initialiser
Out MoreEntries = List InitEntry
Out Entry = InitEntry
Out Designation = Designator
Out MoreDesignators = List Designator
Out AnyStatement = Statement
Out StatementForm = StatementKind
Out Compound = Statement
Out Block = List BlockItem
Out BlockItems = List BlockItem
Out Condition = Expr
Out Substatement = Statement
Out Else = Option Statement
Out First = ForFirst
Out MaybeExpression = Option Expr
Out ExternalDeclaration = External
Out Externals = List External
Out File = List External

pub data Item : Type 0 where
  -- a token, which is read
  term : Terminal → Lexeme → Item
  -- the token that comes next, which is not read
  ahead : Lexeme → Item
  -- a change of the state
  act : (State → State) → Item
  nt : (n : Sym) → In n → Out n → Item

-- an item without its token and its values
pub data Shape : Type 0 where
  some : Terminal → Shape
  next : Shape
  change : (State → State) → Shape
  sym : Sym → Shape

abbrev pub shape : Item → Shape
shape (term w t) = some w
shape (ahead t) = next
shape (act f) = change f
shape (nt n a b) = sym n

abbrev pub shapes : List Item → List Shape
shapes [] = []
shapes (x ∷ xs) = shape x ∷ shapes xs
