-- Where a limit of three nodes is passed by files with a `sizeof` at that depth.
use Rattle.std.proofs.Common.{◌≡◌, true, not, ◌||◌, List, [], ◌∷◌, ◌++◌, refl, subst}
use Rattle.c_tree.specs.declared.lexeme.Lexeme.{Lexeme}
use Rattle.c_grammar.specs.Items.{Sym, sym as symbol}
use Rattle.c_grammar.specs.Limits.{Passes}
use Rattle.c_grammar.specs.State.{start}
use Rattle.c_grammar_examples.proofs.Passing.{calm, past_behind, not_yet, not_at, passed_by}
use Rattle.c_grammar_examples.proofs.Search.{no, every, holds_at}
use Rattle.c_grammar_examples.proofs.SizeOfName as name_file
use Rattle.c_grammar_examples.proofs.SizeOfName.{derived as name_derived}
use Rattle.c_grammar_examples.proofs.SizeOfType as type_file
use Rattle.c_grammar_examples.proofs.SizeOfType.{derived as type_derived}
use Rattle.c_grammar_examples.proofs.SizeOfTypeAndOne as sum_file
use Rattle.c_grammar_examples.proofs.SizeOfTypeAndOne.{derived as sum_derived}
use Rattle.c_grammar_examples.specs.Depths as x
use Rattle.c_grammar_examples.specs.Depths.{nests_past}

-- ---- a name: the limit is passed at the parenthesis
calm_before_name : calm (nests_past 3) x.up_to_sizeof name_derived ≡ true
unfolding calm name_derived
calm_before_name = refl

past_at_name : every 500 (λ stack s. no 500 (name_file.u9 ∷ []) stack s || nests_past 3 s) (x.up_to_sizeof ++ x.opening ∷ [])
    (symbol Sym.File ∷ []) start ≡ true
unfolding every no
past_at_name = refl

past_by_name : past_behind (nests_past 3) (x.up_to_sizeof ++ x.opening ∷ []) name_derived ≡ true
unfolding past_behind name_derived
past_by_name = refl

pub at_name : Passes (nests_past 3) x.up_to_sizeof x.opening x.name_behind
at_name = record {
  here = passed_by (nests_past 3) name_derived x.up_to_sizeof x.opening x.name_behind 500 name_file.u9
      (name_file.u10 ∷ name_file.u11 ∷ name_file.u12 ∷ name_file.u13 ∷ []) refl refl past_by_name past_at_name;
  not_before = λ front u between e i. not_yet (nests_past 3) name_derived x.up_to_sizeof x.opening x.name_behind refl calm_before_name
      front u between e i;
}

-- ---- a type name and an operator: at the operator
calm_before_plus : calm (nests_past 3) x.up_to_sum sum_derived ≡ true
unfolding calm sum_derived
calm_before_plus = refl

past_at_plus : every 500 (λ stack s. no 500 (sum_file.u12 ∷ []) stack s || nests_past 3 s) (x.up_to_sum ++ x.plus ∷ [])
    (symbol Sym.File ∷ []) start ≡ true
unfolding every no
past_at_plus = refl

past_by_plus : past_behind (nests_past 3) (x.up_to_sum ++ x.plus ∷ []) sum_derived ≡ true
unfolding past_behind sum_derived
past_by_plus = refl

pub at_plus : Passes (nests_past 3) x.up_to_sum x.plus x.one_behind
at_plus = record {
  here = passed_by (nests_past 3) sum_derived x.up_to_sum x.plus x.one_behind 500 sum_file.u12
      (sum_file.u13 ∷ sum_file.u14 ∷ sum_file.u15 ∷ []) refl refl past_by_plus past_at_plus;
  not_before = λ front u between e i. not_yet (nests_past 3) sum_derived x.up_to_sum x.plus x.one_behind refl calm_before_plus front u
      between e i;
}

-- ---- a type name alone: nowhere
calm_type : calm (nests_past 3) type_file.tokens type_derived ≡ true
unfolding calm type_derived
calm_type = refl

all_within : every 500 (λ stack s. not (nests_past 3 s)) type_file.tokens (symbol Sym.File ∷ []) start ≡ true
unfolding every
all_within = refl

pub nowhere : (before : List Lexeme) (t : Lexeme) (behind : List Lexeme) → x.up_to_sizeof ++ x.opening ∷ x.type_behind ≡ before ++ t ∷ behind
    → Passes (nests_past 3) before t behind → ⊥
nowhere before t (v ∷ rest) e q = not_at (nests_past 3) type_derived before t v rest e calm_type q.here
nowhere before t [] e q =
    let whole = subst (λ (ts : List Lexeme). every 500 (λ stack s. not (nests_past 3 s)) ts (symbol Sym.File ∷ []) start ≡ true) e all_within in
    let within = holds_at 500 (λ stack s. not (nests_past 3 s)) whole q.here.run in
    let past = q.here.here in
    cc
