-- The pieces of the productions of each nonterminal, in the order of their programs, and what is tested of them.
use Rattle.std.proofs.Common.{ℕ, zero, suc, Bool, true, false, not, ◌&&◌, ◌||◌, ◌==◌, List, [], ◌∷◌}
use Rattle.c_grammar.specs.Items.{Mode, Mode.grouped, Sym}
use Rattle.c_grammar.specs.Marks as m
use Rattle.c_grammar.specs.Modes.{behind_pointer, in_parentheses}
use Rattle.c_grammar.specs.Words as d
use Rattle.c_grammar.proofs.Categories.{Category.of_mark, Category.of_word, Category.free_else, Category.value, Category.type, Category.late_type, Category.number, Category.character, Category.text, Category.end, Set, marks, words, within, apart}
use Rattle.c_grammar.proofs.Changes.{Change.calm, Change.naming, Change.fresh, Change.typed, Change.dangling, names}
use Rattle.c_grammar.proofs.Firsts.{Piece, Piece.token, Piece.next, Piece.change, Piece.symbol, qualifiers, begin, empty, through, follows, begins, conts}
use Rattle.c_grammar.proofs.Programs.{item_at}
use Rattle.c_grammar.proofs.Sorts.{at_level, plain_words, type_words, unary_marks, assignment_marks}

abbrev pub name_set : Mode → Set
name_set grouped = value ∷ []
name_set _ = value ∷ late_type ∷ []

abbrev pub rows : Sym → List (List Piece)
rows Sym.Primary =
    (change calm ∷ token (value ∷ []) ∷ change calm ∷ []) ∷
    (change calm ∷ token (number ∷ []) ∷ change calm ∷ []) ∷
    (change calm ∷ token (character ∷ []) ∷ change calm ∷ []) ∷
    (change calm ∷ token (text ∷ []) ∷ symbol Sym.MoreTexts ∷ change calm ∷ []) ∷
    (change calm ∷ token (of_mark m.left_parenthesis ∷ []) ∷ symbol Sym.Expression ∷ token (of_mark m.right_parenthesis ∷ []) ∷ change calm
    ∷ []) ∷ []
rows Sym.MoreTexts =
    (token (text ∷ []) ∷ symbol Sym.MoreTexts ∷ []) ∷
    [] ∷ []
rows Sym.Postfix =
    (symbol Sym.Primary ∷ symbol Sym.AfterPostfix ∷ []) ∷ []
rows Sym.AfterPostfix =
    (token (of_mark m.left_bracket ∷ []) ∷ change calm ∷ symbol Sym.Expression ∷ token (of_mark m.right_bracket ∷ []) ∷ change calm
    ∷ symbol Sym.AfterPostfix ∷ []) ∷
    (token (of_mark m.left_parenthesis ∷ []) ∷ change calm ∷ symbol Sym.Arguments ∷ token (of_mark m.right_parenthesis ∷ []) ∷ change calm
    ∷ symbol Sym.AfterPostfix ∷ []) ∷
    (token (of_mark m.period ∷ []) ∷ token names ∷ symbol Sym.AfterPostfix ∷ []) ∷
    (token (of_mark m.arrow ∷ []) ∷ token names ∷ symbol Sym.AfterPostfix ∷ []) ∷
    (token (marks (m.plus_plus ∷ m.minus_minus ∷ [])) ∷ symbol Sym.AfterPostfix ∷ []) ∷
    [] ∷ []
rows Sym.Arguments =
    (change calm ∷ symbol Sym.Assignment ∷ change calm ∷ symbol Sym.MoreArguments ∷ []) ∷
    [] ∷ []
rows Sym.MoreArguments =
    (token (of_mark m.comma ∷ []) ∷ change calm ∷ symbol Sym.Assignment ∷ change calm ∷ symbol Sym.MoreArguments ∷ []) ∷
    [] ∷ []
rows Sym.Unary =
    (symbol Sym.Postfix ∷ []) ∷
    (change calm ∷ token (marks (m.plus_plus ∷ m.minus_minus ∷ [])) ∷ symbol Sym.Unary ∷ change calm ∷ []) ∷
    (change calm ∷ token (marks unary_marks) ∷ symbol Sym.Cast ∷ change calm ∷ change calm ∷ []) ∷
    (change calm ∷ token (of_word d.sizeof_word ∷ []) ∷ symbol Sym.Unary ∷ change calm ∷ []) ∷
    (change calm ∷ token (of_word d.sizeof_word ∷ []) ∷ symbol Sym.TypeInParentheses ∷ change calm ∷ change calm ∷ []) ∷ []
rows Sym.TypeInParentheses =
    (token (of_mark m.left_parenthesis ∷ []) ∷ symbol Sym.NameOfType ∷ token (of_mark m.right_parenthesis ∷ []) ∷ []) ∷ []
rows Sym.Cast =
    (symbol Sym.Unary ∷ []) ∷
    (next ∷ change calm ∷ symbol Sym.TypeInParentheses ∷ symbol Sym.Cast ∷ change calm ∷ change calm ∷ []) ∷ []
rows (Sym.Level zero) =
    (symbol Sym.Cast ∷ []) ∷ []
rows (Sym.Level (suc n)) =
    (symbol (Sym.Level n) ∷ symbol (Sym.MoreOperands n) ∷ []) ∷ []
rows (Sym.MoreOperands n) =
    (token (marks (at_level n)) ∷ change calm ∷ symbol (Sym.Level n) ∷ change calm ∷ change calm ∷ symbol (Sym.MoreOperands n) ∷ []) ∷
    [] ∷ []
rows Sym.Conditional =
    (symbol (Sym.Level 10) ∷ symbol Sym.Chosen ∷ []) ∷ []
rows Sym.Chosen =
    (token (of_mark m.question ∷ []) ∷ change calm ∷ symbol Sym.Expression ∷ token (of_mark m.colon ∷ []) ∷ change calm
    ∷ symbol Sym.Conditional ∷ change calm ∷ change calm ∷ change calm ∷ []) ∷
    [] ∷ []
rows Sym.Constant =
    (change calm ∷ symbol Sym.Conditional ∷ change calm ∷ []) ∷ []
rows Sym.Assignment =
    (symbol Sym.Conditional ∷ symbol Sym.Assigned ∷ []) ∷ []
rows Sym.Assigned =
    (token (marks assignment_marks) ∷ change calm ∷ symbol Sym.Assignment ∷ change calm ∷ []) ∷
    [] ∷ []
rows Sym.Expression =
    (change calm ∷ symbol Sym.Assignment ∷ symbol Sym.MoreExpressions ∷ change calm ∷ []) ∷ []
rows Sym.MoreExpressions =
    (token (of_mark m.comma ∷ []) ∷ change calm ∷ symbol Sym.Assignment ∷ change calm ∷ symbol Sym.MoreExpressions ∷ []) ∷
    [] ∷ []
rows Sym.AnyDeclaration =
    (change fresh ∷ symbol Sym.Specifiers ∷ symbol Sym.InitDeclarators ∷ token (of_mark m.semicolon ∷ []) ∷ change naming ∷ []) ∷ []
rows Sym.InitDeclarators =
    (symbol Sym.DeclaratorWithInitial ∷ symbol Sym.MoreInitDeclarators ∷ []) ∷
    [] ∷ []
rows Sym.MoreInitDeclarators =
    (token (of_mark m.comma ∷ []) ∷ change typed ∷ symbol Sym.DeclaratorWithInitial ∷ symbol Sym.MoreInitDeclarators ∷ []) ∷
    [] ∷ []
rows Sym.DeclaratorWithInitial =
    (symbol (Sym.DeclaratorOf Mode.concrete) ∷ change naming ∷ symbol Sym.Initial ∷ []) ∷ []
rows Sym.Initial =
    (token (of_mark m.equal ∷ []) ∷ symbol Sym.InitialValue ∷ []) ∷
    [] ∷ []
rows Sym.Specifiers =
    (symbol Sym.Specifier ∷ symbol Sym.MoreSpecifiers ∷ []) ∷ []
rows Sym.MoreSpecifiers =
    (symbol Sym.Specifier ∷ symbol Sym.MoreSpecifiers ∷ []) ∷
    [] ∷ []
rows Sym.Specifier =
    (next ∷ symbol Sym.SpecifierForm ∷ []) ∷ []
rows Sym.SpecifierForm =
    (token (of_word d.typedef_word ∷ []) ∷ []) ∷
    (token (words plain_words) ∷ []) ∷
    (token (words type_words) ∷ []) ∷
    (token (type ∷ []) ∷ []) ∷
    (token (words (d.struct_word ∷ d.union_word ∷ [])) ∷ symbol Sym.Tag ∷ change calm ∷ token (of_mark m.left_brace ∷ [])
    ∷ symbol Sym.Members ∷ token (of_mark m.right_brace ∷ []) ∷ change calm ∷ []) ∷
    (token (words (d.struct_word ∷ d.union_word ∷ [])) ∷ token names ∷ []) ∷
    (token (of_word d.enum_word ∷ []) ∷ symbol Sym.Tag ∷ change calm ∷ token (of_mark m.left_brace ∷ []) ∷ symbol Sym.Enumerators ∷ token
    (of_mark m.right_brace ∷ []) ∷ change calm ∷ []) ∷
    (token (of_word d.enum_word ∷ []) ∷ token names ∷ []) ∷ []
rows Sym.Tag =
    (token names ∷ []) ∷
    [] ∷ []
rows Sym.Members =
    (symbol Sym.Member ∷ symbol Sym.MoreMembers ∷ []) ∷ []
rows Sym.MoreMembers =
    (symbol Sym.Member ∷ symbol Sym.MoreMembers ∷ []) ∷
    [] ∷ []
rows Sym.Member =
    (change fresh ∷ symbol Sym.Specifiers ∷ symbol (Sym.DeclaratorOf Mode.concrete) ∷ symbol Sym.MoreDeclarators ∷ token
    (of_mark m.semicolon ∷ []) ∷ change naming ∷ []) ∷ []
rows Sym.MoreDeclarators =
    (token (of_mark m.comma ∷ []) ∷ change typed ∷ symbol (Sym.DeclaratorOf Mode.concrete) ∷ symbol Sym.MoreDeclarators ∷ []) ∷
    [] ∷ []
rows Sym.Enumerators =
    (symbol Sym.Enumerator ∷ symbol Sym.MoreEnumerators ∷ []) ∷ []
rows Sym.MoreEnumerators =
    (token (of_mark m.comma ∷ []) ∷ []) ∷
    (token (of_mark m.comma ∷ []) ∷ symbol Sym.Enumerator ∷ symbol Sym.MoreEnumerators ∷ []) ∷
    [] ∷ []
rows Sym.Enumerator =
    (change fresh ∷ token names ∷ symbol Sym.EnumeratorValue ∷ change naming ∷ change naming ∷ []) ∷ []
rows Sym.EnumeratorValue =
    (token (of_mark m.equal ∷ []) ∷ symbol Sym.Constant ∷ []) ∷
    [] ∷ []
rows (Sym.DeclaratorOf k) =
    (next ∷ change calm ∷ symbol (Sym.DirectOf k) ∷ change calm ∷ []) ∷
    (change calm ∷ token (of_mark m.asterisk ∷ []) ∷ change typed ∷ symbol Sym.Qualifiers ∷ symbol Sym.Pointers ∷ symbol (Sym.DirectOf (behind_pointer k))
    ∷ change calm ∷ change calm ∷ []) ∷
    (change calm ∷ token (of_mark m.asterisk ∷ []) ∷ change typed ∷ symbol Sym.Qualifiers ∷ symbol Sym.Pointers ∷ change calm ∷ []) ∷ []
rows Sym.Pointers =
    (token (of_mark m.asterisk ∷ []) ∷ change typed ∷ symbol Sym.Qualifiers ∷ symbol Sym.Pointers ∷ []) ∷
    [] ∷ []
rows Sym.Qualifiers =
    (token qualifiers ∷ symbol Sym.Qualifiers ∷ []) ∷
    [] ∷ []
rows (Sym.DirectOf k) =
    (token (name_set k) ∷ symbol Sym.Parts ∷ []) ∷
    (token (of_mark m.left_parenthesis ∷ []) ∷ change typed ∷ symbol (Sym.DeclaratorOf (in_parentheses k)) ∷ token (of_mark m.right_parenthesis ∷ [])
    ∷ symbol Sym.Parts ∷ []) ∷
    (symbol Sym.Part ∷ symbol Sym.Parts ∷ []) ∷ []
rows Sym.Parts =
    (symbol Sym.Part ∷ symbol Sym.Parts ∷ []) ∷
    [] ∷ []
rows Sym.Part =
    (token (of_mark m.left_bracket ∷ []) ∷ change calm ∷ symbol Sym.Size ∷ token (of_mark m.right_bracket ∷ []) ∷ []) ∷
    (token (of_mark m.left_parenthesis ∷ []) ∷ change calm ∷ symbol Sym.Parameters ∷ token (of_mark m.right_parenthesis ∷ [])
    ∷ change naming ∷ []) ∷ []
rows Sym.Size =
    (symbol Sym.Constant ∷ []) ∷
    [] ∷ []
rows Sym.Parameters =
    (token (of_word d.void_word ∷ []) ∷ []) ∷
    (symbol Sym.Parameter ∷ symbol Sym.MoreParameters ∷ []) ∷
    [] ∷ []
rows Sym.MoreParameters =
    (token (of_mark m.comma ∷ []) ∷ token (of_mark m.ellipsis ∷ []) ∷ []) ∷
    (token (of_mark m.comma ∷ []) ∷ symbol Sym.Parameter ∷ symbol Sym.MoreParameters ∷ []) ∷
    [] ∷ []
rows Sym.Parameter =
    (change fresh ∷ symbol Sym.Specifiers ∷ symbol (Sym.MaybeDeclarator Mode.parameter) ∷ change naming ∷ change naming ∷ []) ∷ []
rows (Sym.MaybeDeclarator k) =
    (symbol (Sym.DeclaratorOf k) ∷ []) ∷
    [] ∷ []
rows Sym.NameOfType =
    (change fresh ∷ symbol Sym.Specifiers ∷ symbol (Sym.MaybeDeclarator Mode.abstract) ∷ change naming ∷ []) ∷ []
rows Sym.InitialValue =
    (change calm ∷ symbol Sym.Assignment ∷ change calm ∷ []) ∷
    (change calm ∷ token (of_mark m.left_brace ∷ []) ∷ symbol Sym.Entry ∷ symbol Sym.MoreEntries ∷ token (of_mark m.right_brace ∷ [])
    ∷ change calm ∷ []) ∷ []
rows Sym.MoreEntries =
    (token (of_mark m.comma ∷ []) ∷ []) ∷
    (token (of_mark m.comma ∷ []) ∷ symbol Sym.Entry ∷ symbol Sym.MoreEntries ∷ []) ∷
    [] ∷ []
rows Sym.Entry =
    (symbol Sym.InitialValue ∷ []) ∷
    (symbol Sym.Designation ∷ symbol Sym.MoreDesignators ∷ token (of_mark m.equal ∷ []) ∷ symbol Sym.InitialValue ∷ []) ∷ []
rows Sym.MoreDesignators =
    (symbol Sym.Designation ∷ symbol Sym.MoreDesignators ∷ []) ∷
    [] ∷ []
rows Sym.Designation =
    (token (of_mark m.left_bracket ∷ []) ∷ symbol Sym.Constant ∷ token (of_mark m.right_bracket ∷ []) ∷ []) ∷
    (token (of_mark m.period ∷ []) ∷ token names ∷ []) ∷ []
rows Sym.AnyStatement =
    (next ∷ change calm ∷ symbol Sym.StatementForm ∷ change calm ∷ []) ∷ []
rows Sym.StatementForm =
    (change calm ∷ symbol Sym.Block ∷ change naming ∷ []) ∷
    (symbol Sym.MaybeExpression ∷ token (of_mark m.semicolon ∷ []) ∷ []) ∷
    (token (of_word d.if_word ∷ []) ∷ change calm ∷ symbol Sym.Condition ∷ symbol Sym.Substatement ∷ symbol Sym.Else ∷ change naming ∷ []) ∷
    (token (of_word d.switch_word ∷ []) ∷ change calm ∷ symbol Sym.Condition ∷ change calm ∷ symbol Sym.Compound ∷ change naming
    ∷ change naming ∷ []) ∷
    (token (of_word d.case_word ∷ []) ∷ symbol Sym.Constant ∷ token (of_mark m.colon ∷ []) ∷ symbol Sym.AnyStatement ∷ []) ∷
    (token (of_word d.default_word ∷ []) ∷ token (of_mark m.colon ∷ []) ∷ symbol Sym.AnyStatement ∷ []) ∷
    (token (of_word d.while_word ∷ []) ∷ change calm ∷ symbol Sym.Condition ∷ symbol Sym.Substatement ∷ change naming ∷ change calm ∷ []) ∷
    (token (of_word d.do_word ∷ []) ∷ change calm ∷ symbol Sym.Substatement ∷ change calm ∷ token (of_word d.while_word ∷ [])
    ∷ symbol Sym.Condition ∷ token (of_mark m.semicolon ∷ []) ∷ change naming ∷ []) ∷
    (token (of_word d.for_word ∷ []) ∷ change calm ∷ token (of_mark m.left_parenthesis ∷ []) ∷ symbol Sym.First ∷ symbol Sym.MaybeExpression
    ∷ token (of_mark m.semicolon ∷ []) ∷ symbol Sym.MaybeExpression ∷ token (of_mark m.right_parenthesis ∷ []) ∷ symbol Sym.Substatement
    ∷ change naming ∷ change calm ∷ []) ∷
    (token (of_word d.continue_word ∷ []) ∷ token (of_mark m.semicolon ∷ []) ∷ []) ∷
    (token (of_word d.break_word ∷ []) ∷ token (of_mark m.semicolon ∷ []) ∷ []) ∷
    (token (of_word d.return_word ∷ []) ∷ symbol Sym.MaybeExpression ∷ token (of_mark m.semicolon ∷ []) ∷ []) ∷ []
rows Sym.Block =
    (token (of_mark m.left_brace ∷ []) ∷ symbol Sym.BlockItems ∷ token (of_mark m.right_brace ∷ []) ∷ []) ∷ []
rows Sym.BlockItems =
    (symbol Sym.AnyDeclaration ∷ symbol Sym.BlockItems ∷ []) ∷
    (symbol Sym.AnyStatement ∷ symbol Sym.BlockItems ∷ []) ∷
    [] ∷ []
rows Sym.MaybeExpression =
    (symbol Sym.Expression ∷ []) ∷
    [] ∷ []
rows Sym.Else =
    (token (free_else ∷ []) ∷ symbol Sym.Substatement ∷ []) ∷
    (change dangling ∷ []) ∷ []
rows Sym.Compound =
    (next ∷ change calm ∷ change calm ∷ symbol Sym.Block ∷ change naming ∷ change calm ∷ []) ∷ []
rows Sym.Condition =
    (token (of_mark m.left_parenthesis ∷ []) ∷ symbol Sym.Expression ∷ token (of_mark m.right_parenthesis ∷ []) ∷ []) ∷ []
rows Sym.Substatement =
    (change calm ∷ symbol Sym.AnyStatement ∷ change naming ∷ []) ∷ []
rows Sym.First =
    (token (of_mark m.semicolon ∷ []) ∷ []) ∷
    (symbol Sym.Expression ∷ token (of_mark m.semicolon ∷ []) ∷ []) ∷
    (symbol Sym.AnyDeclaration ∷ []) ∷ []
rows Sym.File =
    (symbol Sym.Externals ∷ token (end ∷ []) ∷ []) ∷ []
rows Sym.Externals =
    (symbol Sym.ExternalDeclaration ∷ symbol Sym.Externals ∷ []) ∷
    (token (of_mark m.semicolon ∷ []) ∷ symbol Sym.Externals ∷ []) ∷
    [] ∷ []
rows Sym.ExternalDeclaration =
    (symbol Sym.AnyDeclaration ∷ []) ∷
    (change fresh ∷ symbol Sym.Specifiers ∷ symbol (Sym.DeclaratorOf Mode.concrete) ∷ change naming ∷ change naming ∷ next ∷ change calm
    ∷ symbol Sym.Block ∷ change calm ∷ change naming ∷ change naming ∷ []) ∷ []

abbrev pub row : Sym → ℕ → List Piece
row n i = item_at [] (rows n) i

-- ---- the choice by the first token
-- what each begins with, but for one that takes no token
abbrev pub with_guard : Bool → Set → List Set → List Set
with_guard true A gs = gs
with_guard false A gs = A ∷ gs

abbrev pub guards_of : List (List Piece) → List Set
guards_of [] = []
guards_of (ps ∷ others) = with_guard (empty ps) (begin ps) (guards_of others)

abbrev pub guards : Sym → List Set
guards n = guards_of (rows n)

-- the guard of this place has all of these, and those before it none
abbrev pub stands_out : List Set → ℕ → Set → Bool
stands_out [] i A = false
stands_out (g ∷ gs) zero A = within A g
stands_out (g ∷ gs) (suc i) A = apart A g && stands_out gs i A

abbrev pub all_within : List Set → List Piece → Set → Bool
all_within [] ps B = true
all_within (g ∷ gs) ps B = within (through ps g) B && all_within gs ps B

abbrev pub count : List Set → ℕ
count [] = zero
count (g ∷ gs) = suc (count gs)

abbrev pub stands : Sym → ℕ → List Piece → Bool → Bool
stands n i ps true = within (begin ps) [] && i == count (guards n) && all_within (guards n) ps (conts n)
stands n i ps false = stands_out (guards n) i (begin ps)

-- the nonterminals whose productions are told apart by their first tokens
abbrev pub plain : Sym → Bool
plain Sym.Cast = false
plain Sym.Unary = false
plain Sym.SpecifierForm = false
plain (Sym.DirectOf k) = false
plain (Sym.DeclaratorOf k) = false
plain Sym.MoreEnumerators = false
plain Sym.MoreEntries = false
plain Sym.MoreParameters = false
plain Sym.Parameters = false
plain Sym.ExternalDeclaration = false
plain _ = true

abbrev pub sound : Sym → ℕ → Bool
sound n i = begins n (row n i) && follows n (row n i) && (not (plain n) || stands n i (row n i) (empty (row n i)))
