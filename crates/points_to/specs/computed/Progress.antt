-- What a solver has found of the least family, and what a step of it adds.
use Rattle.std.specs.Prelude.{◌≡◌, ℕ, ◌+◌, ◌-◌, ◌^◌, ◌<◌, ◌==◌, ◌&&◌, ◌||◌, true, false, Option, Some, None, List, [], ◌∷◌, length, slice_index_or}
use Rattle.points_to.specs.declared.progress.Progress.{Progress}
use Rattle.points_to.specs.Sets.{has}
use Rattle.points_to.specs.Families.{Family, Relation, Has, Flows, family_of}

-- the members that were handed on, those that are still to be handed on, and both
abbrev pub done_of : Progress → Family
done_of p = family_of p.done.items

abbrev pub todo_of : Progress → Family
todo_of p = family_of p.todo.items

abbrev pub known_of : Progress → Family
known_of p node member = done_of p node member || todo_of p node member

-- by node the nodes that take over its members
abbrev pub edges_of : Progress → Family
edges_of p = family_of p.edges.items

-- no number is there twice
abbrev pub IsOnce : List ℕ → Type 0
IsOnce [] = Unit {0}
IsOnce (x ∷ xs) = (has xs x ≡ false) × IsOnce xs

-- there is one set for each node, nodes are u32, edges lead to nodes, no member is both handed on and still to be, and the queue has each node with
-- members that are still to be handed on, once, and no other
pub record Stands (p : Progress) : Type 0 where
  pub small : length p.done.items < 2 ^ 32
  pub todo_size : length p.todo.items ≡ length p.done.items
  pub edges_size : length p.edges.items ≡ length p.done.items
  pub edges_within : (from to : ℕ) → Has (edges_of p) from to → to < length p.done.items
  pub fresh : (node member : ℕ) → Has (todo_of p) node member → done_of p node member ≡ false
  pub queued : (node member : ℕ) → Has (todo_of p) node member → has p.queue.items node ≡ true
  pub waiting : (node : ℕ) → has p.queue.items node ≡ true → (member : ℕ) × Has (todo_of p) node member
  pub once : IsOnce p.queue.items

-- along each edge the members of a family are known
abbrev pub Flowed : Family → Progress → Type 0
Flowed base p = (from to member : ℕ) → Has (edges_of p) from to → Has base from member → Has (known_of p) to member

-- all that is found is in a family
pub record IsWithin (family : Family) (p : Progress) : Type 0 where
  pub members : (node member : ℕ) → Has (known_of p) node member → Has family node member
  pub edges : (from to : ℕ) → Has (edges_of p) from to → Flows family from to

-- what stays where members and edges are added
pub record Kept (old new : Progress) : Type 0 where
  pub stands : Stands new
  pub done : new.done.items ≡ old.done.items
  pub edges : (from to : ℕ) → Has (edges_of old) from to → Has (edges_of new) from to
  pub known : (node member : ℕ) → Has (known_of old) node member → Has (known_of new) node member
  pub flowed : (base : Family) → ((node member : ℕ) → Has base node member → Has (done_of old) node member) → Flowed base old → Flowed base new

-- what is asked, of edges and of members, was added, and nothing that is not asked
pub record IsMet (asked : Relation → Relation → Type 0) (old new : Progress) : Type 0 where
  pub kept : Kept old new
  pub met : asked (Has (edges_of new)) (Has (known_of new))
  pub within : (family : Family) → IsWithin family old → asked (Flows family) (Has family) → IsWithin family new

-- how many members may still be handed on
abbrev pub room : List (List ℕ) → ℕ
room [] = 0
room (set ∷ sets) = (2 ^ 32 - length set) + room sets

-- the members of one node that were still to be handed on count as handed on
pub record IsTaken (node : ℕ) (delta : List ℕ) (old new : Progress) : Type 0 where
  pub stands : Stands new
  pub within : node < length old.done.items
  pub size : length new.done.items ≡ length old.done.items
  pub edges : new.edges.items ≡ old.edges.items
  pub members : (member : ℕ) → has delta member ≡ true → Has (known_of old) node member
  pub done : (n member : ℕ) → done_of new n member ≡ (done_of old n member || ((n == node) && has delta member))
  pub known : (n member : ℕ) → known_of new n member ≡ known_of old n member
  pub less : room new.done.items < room old.done.items

-- nothing is still to be handed on
pub record IsIdle (old new : Progress) : Type 0 where
  pub same_done : new.done.items ≡ old.done.items
  pub same_edges : new.edges.items ≡ old.edges.items
  pub known : (node member : ℕ) → Has (known_of old) node member → Has (done_of new) node member

abbrev pub IsNext : Option (ℕ × List ℕ) → Progress → Progress → Type 0
IsNext None old new = IsIdle old new
IsNext (Some (node, delta)) old new = IsTaken node delta old new

-- as many lists, all empty
pub record AreEmpty {A : Type 0} (count : ℕ) (lists : List (List A)) : Type 0 where
  pub size : length lists ≡ count
  pub empty : (k : ℕ) → slice_index_or lists k [] ≡ []

-- nothing is found
pub record IsStart (nodes : ℕ) (p : Progress) : Type 0 where
  pub small : nodes < 2 ^ 32
  pub done : AreEmpty nodes p.done.items
  pub todo : AreEmpty nodes p.todo.items
  pub edges : AreEmpty nodes p.edges.items
  pub queue : p.queue.items ≡ []
