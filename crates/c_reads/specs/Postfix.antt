-- Primary and postfix expressions as parsers over those of the expressions that they hold (ISO/IEC 9899:1999, 6.5.1, 6.5.2).
use Rattle.std.specs.Prelude.{◌≡◌, ℕ, zero, suc, Bool, true, false, ◌||◌, List, [], ◌∷◌, ◌++◌, Err}
use Rattle.c_tree.specs.declared.expression.Expr.{Expr}
use Rattle.c_tree.specs.declared.expression.ExprKind.TheVariants as e
use Rattle.c_tree.specs.declared.lexeme.Lexeme.{Lexeme}
use Rattle.c_grammar.specs.Derives.{Begins}
use Rattle.c_grammar.specs.Items.{Sym, sym as symbol}
use Rattle.c_grammar.specs.Marks as m
use Rattle.c_grammar.specs.State.{State, enter, leave, begin_operand, end_operand}
use Rattle.c_grammar.specs.Terminals.{Terminal}
use Rattle.c_grammar.specs.Terminals as w
use Rattle.c_grammar.specs.Tokens.{is_mark, is_mark_of, is_text, name_of, bytes_of}
use Rattle.c_grammar.specs.Trees.{expression, constant_in, goes_up}
use Rattle.c_cursor.specs.declared.error.ReadError.TheVariants as errors
use Rattle.c_kinds.specs.PostfixMarks.{begins_operator}
use Rattle.c_cursor.specs.Parsers.{Input, Parser, ◌>>=◌, ◌>>◌, pure, take, change, on, within_limits, turns}
use Rattle.c_reads.specs.Exact.{Stack, Stops, Parses}

-- ---- primary expressions
unfoldable pub name : Parser Expr
name = do
  change enter
  t ← take w.value_name
  change leave
  pure (expression t (e.Name (name_of t)))

unfoldable pub constant : Terminal → Parser Expr
constant terminal = do
  change enter
  t ← take terminal
  change leave
  pure (expression t (constant_in t.kind))

unfoldable pub texts_from : ℕ → List ℕ → Parser (List ℕ)
texts_from zero before = λ i. Err errors.Spent
texts_from (suc n) before = on w.text (take w.text >>= λ t. texts_from n (before ++ bytes_of t)) (pure before)

unfoldable pub texts : List ℕ → Parser (List ℕ)
texts before = λ i. texts_from (turns i) before i

unfoldable pub text : Parser Expr
text = do
  change enter
  t ← take w.text
  bytes ← texts (bytes_of t)
  change leave
  pure (expression t (e.Text bytes))

-- ---- what postfix operators enclose
-- what stands between brackets or parentheses, up to the mark that closes them
unfoldable pub enclosed : {A : Type 0} → Parser A → ℕ → Parser A
enclosed p mark = do
  change enter
  a ← p
  take (w.closing (w.mark mark))
  change leave
  pure a

module _ (inside : Parser Expr) (argument : Parser Expr) where
  unfoldable pub parenthesised : Parser Expr
  parenthesised = do
    change enter
    take (w.mark m.left_parenthesis)
    a ← inside
    take (w.closing (w.mark m.right_parenthesis))
    change leave
    pure a

  unfoldable pub primary : Parser Expr
  primary = on w.value_name name (on w.number (constant w.number) (on w.character (constant w.character) (on w.text text parenthesised)))

  -- ---- postfix operators behind an operand
  unfoldable pub subscript : Expr → Parser Expr
  subscript a = do
    t ← take (w.operator (w.mark m.left_bracket))
    b ← enclosed inside m.right_bracket
    pure (expression t (e.Index a b))

  unfoldable pub one_argument : Parser Expr
  one_argument = do
    change begin_operand
    a ← argument
    change end_operand
    pure a

  unfoldable pub arguments_from : ℕ → List Expr → Parser (List Expr)
  arguments_from zero found = λ i. Err errors.Spent
  arguments_from (suc n) found = on (w.mark m.comma) (take (w.mark m.comma) >>= λ _. one_argument >>= λ a. arguments_from n (found ++ a ∷ [])) (pure found)

  unfoldable pub some_arguments : Parser (List Expr)
  some_arguments = one_argument >>= λ a i. arguments_from (turns i) (a ∷ []) i

  unfoldable pub arguments : Parser (List Expr)
  arguments = on (w.mark m.right_parenthesis) (pure []) some_arguments

  unfoldable pub call : Expr → Parser Expr
  call a = do
    t ← take (w.operator (w.mark m.left_parenthesis))
    found ← enclosed arguments m.right_parenthesis
    pure (expression t (e.Call a found))

  unfoldable pub member : Expr → Parser Expr
  member a = do
    t ← take (w.operator (w.mark m.period))
    u ← take (w.closing w.any_name)
    pure (expression t (e.Member a (name_of u)))

  unfoldable pub arrow : Expr → Parser Expr
  arrow a = do
    t ← take (w.operator (w.mark m.arrow))
    u ← take (w.closing w.any_name)
    pure (expression t (e.Arrow a (name_of u)))

  unfoldable pub bump : Expr → Parser Expr
  bump a = do
    t ← take (w.closing (w.operator w.bump))
    pure (expression t (e.Bump (goes_up t) false a))

  unfoldable pub some_operator : Expr → Parser Expr
  some_operator a = on (w.mark m.left_bracket) (subscript a) (on (w.mark m.left_parenthesis) (call a) (on (w.mark m.period) (member a)
      (on (w.mark m.arrow) (arrow a) (bump a))))

  -- an operator where no limit is passed
  unfoldable pub operator : Expr → Parser Expr
  operator a = within_limits >> some_operator a

  unfoldable pub operators_from : ℕ → Expr → Parser Expr
  operators_from zero a = λ i. Err errors.Spent
  operators_from (suc n) a = on begins_operator (operator a >>= operators_from n) (pure a)

  unfoldable pub operators : Expr → Parser Expr
  operators a = λ i. operators_from (turns i) a i

  unfoldable pub postfix : Parser Expr
  postfix = primary >>= operators

-- ---- what is wanted of the parsers of what stands inside
pub record Inside (inside argument : Parser Expr) : Type 0 where
  -- the tokens that may go on with an expression
  pub goes_on : State → Lexeme → Bool
  pub reads : (i : Input) → Parses (Stops goes_on) Sym.Expression tt inside i
  pub ends : (s : State) (t : Lexeme) → is_mark_of (m.right_bracket ∷ m.right_parenthesis ∷ []) t.kind ≡ true → goes_on s t ≡ false
  -- and with an argument
  pub argument_goes_on : State → Lexeme → Bool
  pub argument_reads : (i : Input) → Parses (Stops argument_goes_on) Sym.Assignment tt argument i
  pub argument_calm : (s : State) (t : Lexeme) → argument_goes_on (end_operand s) t ≡ argument_goes_on s t
  pub argument_ends : (s : State) (t : Lexeme) → is_mark_of (m.right_parenthesis ∷ m.comma ∷ []) t.kind ≡ true → argument_goes_on s t ≡ false
  pub argument_begins : (behind : Stack) (s : State) (t : Lexeme) (ts : List Lexeme)
      → Begins (symbol Sym.Assignment ∷ behind) s (t ∷ ts) → is_mark m.right_parenthesis t.kind ≡ true → ⊥

-- the tokens that may go on with a postfix expression
abbrev pub postfix_goes_on : State → Lexeme → Bool
postfix_goes_on s t = is_text t.kind || begins_operator.fits s t
