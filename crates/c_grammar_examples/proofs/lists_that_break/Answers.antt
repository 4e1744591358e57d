use Rattle.std.proofs.Common.{[], ◌∷◌, refl}
use Rattle.c_grammar.proofs.Fronts.{front_begins}
use Rattle.c_grammar_examples.proofs.Breaks as breaks
use Rattle.c_grammar_examples.proofs.Returned as returned
use Rattle.c_grammar_examples.proofs.TypedefAlone as typedef_alone
use Rattle.c_grammar_examples.proofs.lists_that_break.Goals as goal
use Rattle.c_grammar_examples.specs.Examples as x

pub returns-clause-typedef_name : goal.returns-clause-typedef_name
returns-clause-typedef_name c = record {
  cut = refl;
  begins = front_begins typedef_alone.derived x.typedef_name_before (typedef_alone.u6 ∷ typedef_alone.u7 ∷ []) refl;
  ends = breaks.typedef_name;
}

pub returns-clause-second_value : goal.returns-clause-second_value
returns-clause-second_value c = record {
  cut = refl;
  begins = front_begins returned.derived x.body_before (returned.u8 ∷ returned.u9 ∷ returned.u10 ∷ []) refl;
  ends = breaks.second_value;
}

pub returns-clause-early_end : goal.returns-clause-early_end
returns-clause-early_end c = record {
  cut = refl;
  begins = front_begins returned.derived x.open_body (returned.u9 ∷ returned.u10 ∷ []) refl;
  ends = breaks.early_end;
}
