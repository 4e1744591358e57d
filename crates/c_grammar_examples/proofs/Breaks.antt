-- That no file begins so: the search finds it.
use Rattle.std.proofs.Common.{◌≡◌, ℕ, true, List, [], ◌∷◌, ◌++◌, refl}
use Rattle.c_tree.specs.declared.lexeme.Lexeme.{Lexeme}
use Rattle.c_grammar.specs.Files.{BeginsFile}
use Rattle.c_grammar.specs.Items.{Sym, sym as symbol}
use Rattle.c_grammar.specs.State.{start}
use Rattle.c_grammar_examples.proofs.Search.{no, refuted}
use Rattle.c_grammar_examples.specs.Examples as x

none : (n : ℕ) (tokens : List Lexeme) → no n tokens (symbol Sym.File ∷ []) start ≡ true → BeginsFile tokens → ⊥
none n tokens h b = refuted n h b

search_typedef_name : no 500 (x.typedef_name_before ++ x.typedef_name_bad ∷ []) (symbol Sym.File ∷ []) start ≡ true
unfolding no
search_typedef_name = refl

search_second_value : no 500 (x.body_before ++ x.second_zero ∷ []) (symbol Sym.File ∷ []) start ≡ true
unfolding no
search_second_value = refl

search_early_end : no 500 (x.open_body ++ x.early_end ∷ []) (symbol Sym.File ∷ []) start ≡ true
unfolding no
search_early_end = refl

pub typedef_name : BeginsFile (x.typedef_name_before ++ x.typedef_name_bad ∷ []) → ⊥
typedef_name = none 500 _ search_typedef_name

pub second_value : BeginsFile (x.body_before ++ x.second_zero ∷ []) → ⊥
second_value = none 500 _ search_second_value

pub early_end : BeginsFile (x.open_body ++ x.early_end ∷ []) → ⊥
early_end = none 500 _ search_early_end
