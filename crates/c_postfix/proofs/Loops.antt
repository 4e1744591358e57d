-- One turn of each loop.
use Rattle.std.proofs.Common.{◌≡◌, ℕ, zero, suc, true, false, List, [], ◌∷◌, ◌++◌, Ok, Err, refl}
use Rattle.c_tree.specs.declared.expression.Expr.{Expr}
use Rattle.c_tree.specs.declared.lexeme.Lexeme.{Lexeme}
use Rattle.c_grammar.specs.Marks as m
use Rattle.c_grammar.specs.Terminals as w
use Rattle.c_grammar.specs.Tokens.{bytes_of}
use Rattle.c_cursor.specs.declared.error.ReadError.{ReadError}
use Rattle.c_cursor.specs.declared.error.ReadError.TheVariants as errors
use Rattle.c_kinds.specs.PostfixMarks.{begins_operator}
use Rattle.c_cursor.specs.Parsers.{Input, Parser, take, on, sees, turns}
use Rattle.c_reads.specs.Postfix.{texts_from, one_argument, some_arguments, arguments_from, operator, operators_from}

-- ---- neighbouring texts
pub texts_stop : (n : ℕ) (before : List ℕ) (i : Input) → sees w.text i ≡ false → texts_from (suc n) before i ≡ Ok (before, i)
unfolding texts_from on
texts_stop n before i unseen = rw unseen refl

pub texts_fail : (n : ℕ) (before : List ℕ) (i : Input) (e : ReadError) → sees w.text i ≡ true → take w.text i ≡ Err e → texts_from (suc n) before i ≡ Err e
unfolding texts_from on
texts_fail n before i e seen took = rw seen (rw took refl)

pub texts_go : (n : ℕ) (before : List ℕ) (i j : Input) (t : Lexeme) → sees w.text i ≡ true → take w.text i ≡ Ok (t, j)
    → texts_from (suc n) before i ≡ texts_from n (before ++ bytes_of t) j
unfolding texts_from on
texts_go n before i j t seen took = rw seen (rw took refl)

pub texts_spent : (before : List ℕ) (i : Input) → texts_from zero before i ≡ Err errors.Spent
unfolding texts_from
texts_spent before i = refl

module _ (inside argument : Parser Expr) where
  -- ---- arguments
  pub some_fail : (i : Input) (e : ReadError) → one_argument inside argument i ≡ Err e → some_arguments inside argument i ≡ Err e
  unfolding some_arguments
  some_fail i e read = rw read refl

  pub some_begin : (i j : Input) (a : Expr) → one_argument inside argument i ≡ Ok (a, j) → some_arguments inside argument i ≡ arguments_from inside argument (turns j) (a ∷ []) j
  unfolding some_arguments
  some_begin i j a read = rw read refl

  pub arguments_stop : (n : ℕ) (found : List Expr) (i : Input) → sees (w.mark m.comma) i ≡ false → arguments_from inside argument (suc n) found i ≡ Ok (found, i)
  unfolding arguments_from on
  arguments_stop n found i unseen = rw unseen refl

  pub arguments_fail : (n : ℕ) (found : List Expr) (i : Input) (e : ReadError) → sees (w.mark m.comma) i ≡ true → take (w.mark m.comma) i ≡ Err e
      → arguments_from inside argument (suc n) found i ≡ Err e
  unfolding arguments_from on
  arguments_fail n found i e seen took = rw seen (rw took refl)

  pub argument_fails : (n : ℕ) (found : List Expr) (i j : Input) (t : Lexeme) (e : ReadError) → sees (w.mark m.comma) i ≡ true → take (w.mark m.comma) i ≡ Ok (t, j)
      → one_argument inside argument j ≡ Err e → arguments_from inside argument (suc n) found i ≡ Err e
  unfolding arguments_from on
  argument_fails n found i j t e seen took fails = rw seen (rw took (rw fails refl))

  pub arguments_go : (n : ℕ) (found : List Expr) (i j k : Input) (t : Lexeme) (a : Expr) → sees (w.mark m.comma) i ≡ true → take (w.mark m.comma) i ≡ Ok (t, j)
      → one_argument inside argument j ≡ Ok (a, k) → arguments_from inside argument (suc n) found i ≡ arguments_from inside argument n (found ++ a ∷ []) k
  unfolding arguments_from on
  arguments_go n found i j k t a seen took read = rw seen (rw took (rw read refl))

  pub arguments_spent : (found : List Expr) (i : Input) → arguments_from inside argument zero found i ≡ Err errors.Spent
  unfolding arguments_from
  arguments_spent found i = refl

  -- ---- operators
  pub operators_stop : (n : ℕ) (a : Expr) (i : Input) → sees begins_operator i ≡ false → operators_from inside argument (suc n) a i ≡ Ok (a, i)
  unfolding operators_from on
  operators_stop n a i unseen = rw unseen refl

  pub operators_fail : (n : ℕ) (a : Expr) (i : Input) (e : ReadError) → sees begins_operator i ≡ true → operator inside argument a i ≡ Err e
      → operators_from inside argument (suc n) a i ≡ Err e
  unfolding operators_from on
  operators_fail n a i e seen read = rw seen (rw read refl)

  pub operators_go : (n : ℕ) (a b : Expr) (i j : Input) → sees begins_operator i ≡ true → operator inside argument a i ≡ Ok (b, j)
      → operators_from inside argument (suc n) a i ≡ operators_from inside argument n b j
  unfolding operators_from on
  operators_go n a b i j seen read = rw seen (rw read refl)

  pub operators_spent : (a : Expr) (i : Input) → operators_from inside argument zero a i ≡ Err errors.Spent
  unfolding operators_from
  operators_spent a i = refl
