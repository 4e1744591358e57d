-- Families of sets: one set for each node. A test tells whether the set of a node has a member.
use Rattle.std.specs.Prelude.{◌≡◌, ℕ, Bool, true, List, [], slice_index_or}
use Rattle.points_to.specs.Sets.{has}

abbrev pub Relation : Type 1
Relation = ℕ → ℕ → Type 0

abbrev pub Family : Type 0
Family = ℕ → ℕ → Bool

abbrev pub Has : Family → ℕ → ℕ → Type 0
Has family node member = family node member ≡ true

-- all that the set of one node has, the set of another has
abbrev pub Flows : Family → ℕ → ℕ → Type 0
Flows family from to = (member : ℕ) → Has family from member → Has family to member

-- sets as lists, by node; a node without a list has the empty set
abbrev pub family_of : List (List ℕ) → Family
family_of sets node member = has (slice_index_or sets node []) member
