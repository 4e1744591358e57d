-- Sites that are numbered one after another.
use Rattle.std.proofs.Common.{◌≡◌, ℕ, ◌+◌, List, [], ◌∷◌, length, map, refl, ap}
use Rattle.std.specs.List.{range_with_len}
use Rattle.sv_base.specs.declared.colour.Colour.{Colour}
use Rattle.round_tasks.specs.Rounds.{numbered}

pub numbers : (k : ℕ) (colours : List Colour) → map (λ x. x.0.0) (numbered k colours) ≡ range_with_len k (length colours)
numbers k [] = refl
numbers k (colour ∷ rest) = ap (λ ks. k ∷ ks) (numbers (k + 1) rest)
