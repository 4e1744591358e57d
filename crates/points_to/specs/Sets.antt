-- Sets of numbers as ascending lists.
use Rattle.std.specs.Prelude.{ℕ, ◌+◌, ◌^◌, ◌<◌, ◌≤◌, List, [], ◌∷◌}
pub use Rattle.core_ir.specs.Lists.{has}

-- each number is at least `low`
abbrev pub AllFrom : ℕ → List ℕ → Type 0
AllFrom low [] = Unit {0}
AllFrom low (x ∷ xs) = (low ≤ x) × AllFrom low xs

-- each number is below `high`
abbrev pub AllBelow : ℕ → List ℕ → Type 0
AllBelow high [] = Unit {0}
AllBelow high (x ∷ xs) = (x < high) × AllBelow high xs

-- each number is above all before it
abbrev pub IsAscending : List ℕ → Type 0
IsAscending [] = Unit {0}
IsAscending (x ∷ xs) = AllFrom (x + 1) xs × IsAscending xs

-- a set of `u32` as the list of its members
pub record IsSet (numbers : List ℕ) : Type 0 where
  pub ascending : IsAscending numbers
  pub within : AllBelow (2 ^ 32) numbers
