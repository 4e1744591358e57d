-- Lists of numbers.
use Rattle.std.specs.Prelude.{ℕ, suc, ◌<◌, ◌==◌, ⊤, Bool, List, [], ◌∷◌}
use Rattle.std.specs.List.{AllByRecursion, list_any}

-- whether a number is among these
abbrev pub has : List ℕ → ℕ → Bool
has numbers n = list_any (λ k. k == n) numbers

-- each number is above all before it
abbrev pub IsAscending : List ℕ → Type 0
IsAscending [] = ⊤
IsAscending (x ∷ xs) = AllByRecursion (λ y. x < y) xs × IsAscending xs

-- P holds of each item, with its place; the first has place i
abbrev pub AllFrom : {A : Type 0} → (ℕ → A → Type 0) → ℕ → List A → Type 0
AllFrom P i [] = ⊤
AllFrom P i (x ∷ xs) = P i x × AllFrom P (suc i) xs
