-- The order of the text is one for steps and for their plain values.
use Rattle.std.proofs.Common.{◌≡◌, List, [], ◌∷◌, ◌++◌, map, refl, sym, ap, ◌∙◌}
use Rattle.std.proofs.lemmas.List.{map-append}
use Rattle.core_ir.specs.declared.steps.Step as s
use Rattle.core_ir.specs.declared.steps.Step.{Step}
use Rattle.core_ir.specs.Order.{steps_in, row_order, text_order}
use Rattle.core_ir.specs.Steps.{PlainStep, step_of, row_steps, steps_of, in_step, in_order}

-- two parts
parts : (inside rest : List PlainStep) (steps more : List Step) → inside ≡ map step_of steps → rest ≡ map step_of more → inside ++ rest ≡ map step_of (steps ++ more)
parts inside rest steps more e f = ap (λ z. z ++ rest) e ∙ ap (λ z. map step_of steps ++ z) f ∙ sym (map-append step_of steps more)

mutual
  step_order : (x : Step) → in_step (step_of x) ≡ map step_of (steps_in x)
  step_order (s.If' condition n first m second) = parts (in_order (row_steps first)) (in_order (row_steps second)) (row_order first) (row_order second) (rows_order first) (rows_order second)
  step_order (s.Block' n body) = rows_order body
  step_order (s.Loop' n body) = rows_order body
  step_order _ = refl

  rows_order : {n : _} (row : s.Row_of-Step n) → in_order (row_steps row) ≡ map step_of (row_order row)
  rows_order s.end_of-Step = refl
  rows_order (s.more_of-Step x rest) = ap (λ z. step_of x ∷ z) (parts (in_step (step_of x)) (in_order (row_steps rest)) (steps_in x) (row_order rest) (step_order x) (rows_order rest))

pub plain_order : (steps : List Step) → in_order (steps_of steps) ≡ map step_of (text_order steps)
plain_order [] = refl
plain_order (x ∷ rest) = ap (λ z. step_of x ∷ z) (parts (in_step (step_of x)) (in_order (steps_of rest)) (steps_in x) (text_order rest) (step_order x) (plain_order rest))
