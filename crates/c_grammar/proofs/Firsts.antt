-- Of each nonterminal: the categories of tokens that it begins with, and of those that it could go on with where it ends.
use Rattle.std.proofs.Common.{ℕ, zero, suc, Bool, true, false, not, ◌&&◌, ◌||◌, List, [], ◌∷◌, ◌++◌}
use Rattle.c_grammar.specs.Marks as mk
use Rattle.c_grammar.specs.Words as wd
use Rattle.c_grammar.specs.Items.{Mode, Mode.concrete, Mode.parameter, Mode.grouped, Mode.abstract, Sym}
use Rattle.c_grammar.proofs.Categories.{Category.of_mark, Category.of_word, Category.free_else, Category.bound_else, Category.value, Category.type, Category.late_type, Category.number, Category.character, Category.text, Category.end, Set, marks, words, within, apart}
use Rattle.c_grammar.proofs.Changes.{Change, Change.calm, Change.dangling, names, before, after}
use Rattle.c_grammar.proofs.Sorts.{at_level, plain_words, type_words, unary_marks, assignment_marks}

-- the binary operators of the levels below
abbrev pub below : ℕ → List ℕ
below zero = []
below (suc zero) = at_level 0
below (suc (suc zero)) = at_level 0 ++ at_level 1
below (suc (suc (suc zero))) = at_level 0 ++ at_level 1 ++ at_level 2
below (suc (suc (suc (suc zero)))) = at_level 0 ++ at_level 1 ++ at_level 2 ++ at_level 3
below (suc (suc (suc (suc (suc zero))))) = at_level 0 ++ at_level 1 ++ at_level 2 ++ at_level 3 ++ at_level 4
below (suc (suc (suc (suc (suc (suc zero)))))) = at_level 0 ++ at_level 1 ++ at_level 2 ++ at_level 3 ++ at_level 4 ++ at_level 5
below (suc (suc (suc (suc (suc (suc (suc zero))))))) =
    at_level 0 ++ at_level 1 ++ at_level 2 ++ at_level 3 ++ at_level 4 ++ at_level 5 ++ at_level 6
below (suc (suc (suc (suc (suc (suc (suc (suc zero)))))))) =
    at_level 0 ++ at_level 1 ++ at_level 2 ++ at_level 3 ++ at_level 4 ++ at_level 5 ++ at_level 6 ++ at_level 7
below (suc (suc (suc (suc (suc (suc (suc (suc (suc zero))))))))) =
    at_level 0 ++ at_level 1 ++ at_level 2 ++ at_level 3 ++ at_level 4 ++ at_level 5 ++ at_level 6 ++ at_level 7 ++ at_level 8
below _ = at_level 0 ++ at_level 1 ++ at_level 2 ++ at_level 3 ++ at_level 4 ++ at_level 5 ++ at_level 6 ++ at_level 7 ++ at_level 8 ++
    at_level 9

-- ---- what begins
abbrev pub primary : Set
primary = value ∷ number ∷ character ∷ text ∷ of_mark mk.left_parenthesis ∷ []

abbrev pub expression : Set
expression = primary ++ marks (mk.plus_plus ∷ mk.minus_minus ∷ unary_marks) ++ of_word wd.sizeof_word ∷ []

abbrev pub specifier_words : Set
specifier_words = of_word wd.typedef_word ∷ words plain_words ++ words type_words ++ words
    (wd.struct_word ∷ wd.union_word ∷ wd.enum_word ∷ [])

abbrev pub specifier : Set
specifier = type ∷ specifier_words

-- the same where the state may have seen a type word
abbrev pub declaration : Set
declaration = late_type ∷ specifier

abbrev pub direct : Mode → Set
direct concrete = value ∷ late_type ∷ of_mark mk.left_parenthesis ∷ []
direct parameter = value ∷ late_type ∷ marks (mk.left_parenthesis ∷ mk.left_bracket ∷ [])
direct grouped = value ∷ marks (mk.left_parenthesis ∷ mk.left_bracket ∷ [])
direct abstract = marks (mk.left_parenthesis ∷ mk.left_bracket ∷ [])

abbrev pub declarator : Mode → Set
declarator m = of_mark mk.asterisk ∷ direct m

abbrev pub entry : Set
entry = marks (mk.left_bracket ∷ mk.period ∷ mk.left_brace ∷ []) ++ expression

abbrev pub statement_words : Set
statement_words = words (wd.if_word ∷ wd.switch_word ∷ wd.case_word ∷ wd.default_word ∷ wd.while_word ∷ wd.do_word ∷ wd.for_word
    ∷ wd.continue_word ∷ wd.break_word ∷ wd.return_word ∷ [])

abbrev pub statement : Set
statement = marks (mk.left_brace ∷ mk.semicolon ∷ []) ++ statement_words ++ expression

abbrev pub firsts : Sym → Set
firsts Sym.Expression = expression
firsts Sym.MoreExpressions = of_mark mk.comma ∷ []
firsts Sym.Assignment = expression
firsts Sym.Assigned = marks assignment_marks
firsts Sym.Constant = expression
firsts Sym.Conditional = expression
firsts Sym.Chosen = of_mark mk.question ∷ []
firsts (Sym.Level n) = expression
firsts (Sym.MoreOperands n) = marks (at_level n)
firsts Sym.Cast = expression
firsts Sym.TypeInParentheses = of_mark mk.left_parenthesis ∷ []
firsts Sym.Unary = expression
firsts Sym.Postfix = primary
firsts Sym.AfterPostfix = marks (mk.left_bracket ∷ mk.left_parenthesis ∷ mk.period ∷ mk.arrow ∷ mk.plus_plus ∷ mk.minus_minus ∷ [])
firsts Sym.Arguments = expression
firsts Sym.MoreArguments = of_mark mk.comma ∷ []
firsts Sym.Primary = primary
firsts Sym.MoreTexts = text ∷ []
firsts Sym.Specifiers = specifier
firsts Sym.MoreSpecifiers = specifier
firsts Sym.Specifier = specifier
firsts Sym.SpecifierForm = specifier
firsts Sym.Tag = names
firsts Sym.Members = declaration
firsts Sym.MoreMembers = declaration
firsts Sym.Member = declaration
firsts Sym.MoreDeclarators = of_mark mk.comma ∷ []
firsts Sym.Enumerators = names
firsts Sym.MoreEnumerators = of_mark mk.comma ∷ []
firsts Sym.Enumerator = names
firsts Sym.EnumeratorValue = of_mark mk.equal ∷ []
firsts (Sym.DeclaratorOf m) = declarator m
firsts (Sym.MaybeDeclarator m) = declarator m
firsts Sym.Pointers = of_mark mk.asterisk ∷ []
firsts Sym.Qualifiers = words (wd.const_word ∷ wd.volatile_word ∷ wd.restrict_word ∷ [])
firsts (Sym.DirectOf m) = direct m
firsts Sym.Parts = marks (mk.left_bracket ∷ mk.left_parenthesis ∷ [])
firsts Sym.Part = marks (mk.left_bracket ∷ mk.left_parenthesis ∷ [])
firsts Sym.Size = expression
firsts Sym.Parameters = declaration
firsts Sym.MoreParameters = of_mark mk.comma ∷ []
firsts Sym.Parameter = declaration
firsts Sym.NameOfType = declaration
firsts Sym.AnyDeclaration = declaration
firsts Sym.InitDeclarators = declarator concrete
firsts Sym.MoreInitDeclarators = of_mark mk.comma ∷ []
firsts Sym.DeclaratorWithInitial = declarator concrete
firsts Sym.Initial = of_mark mk.equal ∷ []
firsts Sym.InitialValue = of_mark mk.left_brace ∷ expression
firsts Sym.MoreEntries = of_mark mk.comma ∷ []
firsts Sym.Entry = entry
firsts Sym.Designation = marks (mk.left_bracket ∷ mk.period ∷ [])
firsts Sym.MoreDesignators = marks (mk.left_bracket ∷ mk.period ∷ [])
firsts Sym.AnyStatement = statement
firsts Sym.StatementForm = statement
firsts Sym.Compound = of_mark mk.left_brace ∷ []
firsts Sym.Block = of_mark mk.left_brace ∷ []
firsts Sym.BlockItems = declaration ++ statement
firsts Sym.Condition = of_mark mk.left_parenthesis ∷ []
firsts Sym.Substatement = statement
firsts Sym.Else = free_else ∷ []
firsts Sym.First = of_mark mk.semicolon ∷ expression ++ declaration
firsts Sym.MaybeExpression = expression
firsts Sym.ExternalDeclaration = declaration
firsts Sym.Externals = of_mark mk.semicolon ∷ declaration
firsts Sym.File = of_mark mk.semicolon ∷ end ∷ declaration

-- ---- what could go on
abbrev pub postfix : Set
postfix = text ∷ marks (mk.left_bracket ∷ mk.left_parenthesis ∷ mk.period ∷ mk.arrow ∷ mk.plus_plus ∷ mk.minus_minus ∷ [])

abbrev pub operands : ℕ → Set
operands n = postfix ++ marks (below n)

abbrev pub conditional : Set
conditional = of_mark mk.question ∷ operands 10

abbrev pub assignment : Set
assignment = marks assignment_marks ++ conditional

abbrev pub comma : Set
comma = of_mark mk.comma ∷ []

abbrev pub qualifiers : Set
qualifiers = words (wd.const_word ∷ wd.volatile_word ∷ wd.restrict_word ∷ [])

abbrev pub declarators : Set
declarators = marks (mk.left_bracket ∷ mk.left_parenthesis ∷ mk.asterisk ∷ []) ++ names ++ qualifiers

abbrev pub specifiers : Set
specifiers = of_mark mk.left_brace ∷ specifier

abbrev pub type_names : Set
type_names = of_mark mk.left_brace ∷ declarators ++ specifier

abbrev pub initialised : Set
initialised = of_mark mk.equal ∷ declarators ++ assignment

abbrev pub conts : Sym → Set
conts Sym.Expression = comma ++ assignment
conts Sym.MoreExpressions = comma ++ assignment
conts Sym.Assignment = assignment
conts Sym.Assigned = assignment
conts Sym.Constant = conditional
conts Sym.Conditional = conditional
conts Sym.Chosen = conditional
conts (Sym.Level n) = operands n
conts (Sym.MoreOperands n) = operands (suc n)
conts Sym.Cast = postfix
conts Sym.Unary = postfix
conts Sym.Postfix = postfix
conts Sym.AfterPostfix = postfix
conts Sym.Arguments = comma ++ assignment ++ expression
conts Sym.MoreArguments = comma ++ assignment
conts Sym.Primary = text ∷ []
conts Sym.MoreTexts = text ∷ []
conts Sym.Specifiers = specifiers
conts Sym.MoreSpecifiers = specifiers
conts Sym.Specifier = of_mark mk.left_brace ∷ []
conts Sym.SpecifierForm = of_mark mk.left_brace ∷ []
conts Sym.Tag = names
conts Sym.Members = declaration
conts Sym.MoreMembers = declaration
conts Sym.MoreDeclarators = comma ++ declarators
conts Sym.Enumerators = comma ++ names ++ of_mark mk.equal ∷ conditional
conts Sym.MoreEnumerators = comma ++ names ++ of_mark mk.equal ∷ conditional
conts Sym.Enumerator = of_mark mk.equal ∷ conditional
conts Sym.EnumeratorValue = of_mark mk.equal ∷ conditional
conts (Sym.DeclaratorOf m) = declarators
conts (Sym.MaybeDeclarator m) = declarators
conts Sym.Pointers = of_mark mk.asterisk ∷ qualifiers
conts Sym.Qualifiers = qualifiers
conts (Sym.DirectOf m) = marks (mk.left_bracket ∷ mk.left_parenthesis ∷ [])
conts Sym.Parts = marks (mk.left_bracket ∷ mk.left_parenthesis ∷ [])
conts Sym.Size = conditional ++ expression
conts Sym.Parameters = comma ++ type_names
conts Sym.MoreParameters = comma ++ type_names
conts Sym.Parameter = type_names
conts Sym.NameOfType = type_names
conts Sym.InitDeclarators = comma ++ initialised
conts Sym.MoreInitDeclarators = comma ++ initialised
conts Sym.DeclaratorWithInitial = initialised
conts Sym.Initial = of_mark mk.equal ∷ assignment
conts Sym.InitialValue = assignment
conts Sym.MoreEntries = comma ++ assignment ++ entry
conts Sym.Entry = assignment
conts Sym.MoreDesignators = marks (mk.left_bracket ∷ mk.period ∷ [])
conts Sym.AnyStatement = bound_else ∷ []
conts Sym.StatementForm = bound_else ∷ []
conts Sym.BlockItems = bound_else ∷ declaration ++ statement
conts Sym.Substatement = bound_else ∷ []
conts Sym.Else = bound_else ∷ []
conts Sym.MaybeExpression = comma ++ assignment ++ expression
conts Sym.Externals = of_mark mk.semicolon ∷ declaration
conts _ = []

-- ---- what may take no token
abbrev pub nullable : Sym → Bool
nullable Sym.MoreExpressions = true
nullable Sym.Assigned = true
nullable Sym.Chosen = true
nullable (Sym.MoreOperands n) = true
nullable Sym.AfterPostfix = true
nullable Sym.Arguments = true
nullable Sym.MoreArguments = true
nullable Sym.MoreTexts = true
nullable Sym.MoreSpecifiers = true
nullable Sym.Tag = true
nullable Sym.MoreMembers = true
nullable Sym.MoreDeclarators = true
nullable Sym.MoreEnumerators = true
nullable Sym.EnumeratorValue = true
nullable (Sym.MaybeDeclarator m) = true
nullable Sym.Pointers = true
nullable Sym.Qualifiers = true
nullable Sym.Parts = true
nullable Sym.Size = true
nullable Sym.Parameters = true
nullable Sym.MoreParameters = true
nullable Sym.InitDeclarators = true
nullable Sym.MoreInitDeclarators = true
nullable Sym.Initial = true
nullable Sym.MoreEntries = true
nullable Sym.MoreDesignators = true
nullable Sym.BlockItems = true
nullable Sym.Else = true
nullable Sym.MaybeExpression = true
nullable Sym.Externals = true
nullable _ = false

-- and what that does to the state
abbrev pub nulls : Sym → Change
nulls Sym.Else = dangling
nulls _ = calm

-- ---- the right side of a production, without values
pub data Piece : Type 0 where
  token : Set → Piece
  next : Piece
  change : Change → Piece
  symbol : Sym → Piece

abbrev pub only_if : Bool → Set → Set
only_if true A = A
only_if false A = []

abbrev pub begin : List Piece → Set
begin [] = []
begin (token A ∷ ps) = A
begin (next ∷ ps) = begin ps
begin (change c ∷ ps) = before c (begin ps)
begin (symbol n ∷ ps) = firsts n ++ only_if (nullable n) (before (nulls n) (begin ps))

abbrev pub empty : List Piece → Bool
empty [] = true
empty (token A ∷ ps) = false
empty (next ∷ ps) = empty ps
empty (change c ∷ ps) = empty ps
empty (symbol n ∷ ps) = nullable n && empty ps

-- what the tokens behind may be, where none is taken
abbrev pub through : List Piece → Set → Set
through [] A = A
through (token B ∷ ps) A = []
through (next ∷ ps) A = through ps A
through (change c ∷ ps) A = through ps (after c A)
through (symbol n ∷ ps) A = through ps (after (nulls n) A)

-- what they may have been
abbrev pub before_all : List Piece → Set → Set
before_all [] A = A
before_all (token B ∷ ps) A = []
before_all (next ∷ ps) A = before_all ps A
before_all (change c ∷ ps) A = before c (before_all ps A)
before_all (symbol n ∷ ps) A = before (nulls n) (before_all ps A)

-- what follows a nonterminal is nothing that it could go on with
abbrev pub follows : Sym → List Piece → Bool
follows n [] = true
follows n (token A ∷ ps) = follows n ps
follows n (next ∷ ps) = follows n ps
follows n (change c ∷ ps) = follows n ps
follows n (symbol m ∷ ps) = apart (conts m) (begin ps) && (not (empty ps) || within (through ps (conts m)) (conts n)) && follows n ps

abbrev pub begins : Sym → List Piece → Bool
begins n ps = within (begin ps) (firsts n) && (not (empty ps) || nullable n)
