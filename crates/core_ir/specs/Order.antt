-- The steps of a body in the order of its text.
use Rattle.std.specs.Prelude.{List, [], ◌∷◌, ◌++◌}
use Rattle.core_ir.specs.declared.steps.Step as s
use Rattle.core_ir.specs.declared.steps.Step.{Step}

abbrev mutual
  -- the steps inside a step
  pub steps_in : Step → List Step
  steps_in (s.If' cond n first m second) = row_order first ++ row_order second
  steps_in (s.Block' n body) = row_order body
  steps_in (s.Loop' n body) = row_order body
  steps_in _ = []

  pub row_order : {n : _} → s.Row_of-Step n → List Step
  row_order s.end_of-Step = []
  row_order (s.more_of-Step x rest) = x ∷ steps_in x ++ row_order rest

-- each step before those inside it
abbrev pub text_order : List Step → List Step
text_order [] = []
text_order (x ∷ rest) = x ∷ steps_in x ++ text_order rest
