-- The steps that a walk over a body has left.
use Rattle.std.specs.Prelude.{◌≡◌, List, [], ◌∷◌, ◌++◌, Option, Some, None}
use Rattle.std.specs.Borrow.{Bor}
use Rattle.core_ir.specs.declared.steps.Step.{Step}

-- the last list comes first
abbrev pub pending : List (Bor (List Step)) → List Step
pending [] = []
pending (steps ∷ rest) = pending rest ++ steps.now

abbrev pub IsNext : List Step → Option (Bor Step) → List Step → Type 0
IsNext before None after = before ≡ []
IsNext before (Some x) after = before ≡ x.now ∷ after
