-- What the demands of a constraint look at, rule by rule: `flows a b` says that the set of b has all that the set of a has, and
-- `gets n m` that the set of n has m.
use Rattle.std.specs.Prelude.{◌≡◌, ℕ, Option, Some, List, slice_get}
use Rattle.core_ir.specs.declared.classes.ClassTable.{ClassTable}
use Rattle.core_ir.specs.declared.classes.LayoutPart.{LayoutPart}
use Rattle.points_to.specs.Families.{Relation}
use Rattle.points_to.specs.Rules.{leaves_in, parts_in, layouts_in, pointer_node, entry_node, result_node}

-- each element of a list
abbrev pub Each : {A : Type 0} → List A → (A → Type 0) → Type 0
Each {A} xs P = (k : ℕ) (x : A) → slice_get xs k ≡ Some x → P x

-- the node that was found, if one was
abbrev pub Then : Option ℕ → (ℕ → Type 0) → Type 0
Then found P = (node : ℕ) → found ≡ Some node → P node

-- the set of a node has all that each pointer in a region class has, or each pointer has all that the set has
unfoldable pub TakesLeaves : ClassTable → Relation → ℕ → ℕ → Type 0
TakesLeaves classes flows member to = Each (leaves_in classes member) (λ leaf. Then (pointer_node classes leaf) (λ node. flows node to))

unfoldable pub GivesLeaves : ClassTable → Relation → ℕ → ℕ → Type 0
GivesLeaves classes flows from member = Each (leaves_in classes member) (λ leaf. Then (pointer_node classes leaf) (λ node. flows from node))

-- the set of a node has each sub-object of this number in a region class
unfoldable pub TakesParts : ClassTable → Relation → ℕ → ℕ → ℕ → Type 0
TakesParts classes gets number member to = Each (parts_in classes member) (λ part. part.part ≡ number → gets to part.«class»)

-- one leaf class, if it is a pointer, has all that another one has
unfoldable pub TakesLeaf : ClassTable → Relation → ℕ → ℕ → Type 0
TakesLeaf classes flows target source = Then (pointer_node classes target) (λ to. Then (pointer_node classes source) (λ from. flows from to))

-- so for the leaf classes at the same places of two lists, and for each sub-object of a type in two region classes
unfoldable pub TakesLike : ClassTable → Relation → List ℕ → List ℕ → Type 0
TakesLike classes flows targets sources = (k target source : ℕ) → slice_get targets k ≡ Some target → slice_get sources k ≡ Some source → TakesLeaf classes flows target source

unfoldable pub TakesLayouts : ClassTable → Relation → ℕ → List LayoutPart → List ℕ → Type 0
TakesLayouts classes flows layout targets sources = Each targets (λ target. target.layout ≡ layout → TakesLike classes flows target.leaves.items sources)

unfoldable pub TakesObject : ClassTable → Relation → ℕ → ℕ → ℕ → Type 0
TakesObject classes flows layout x y = Each (layouts_in classes y) (λ source. source.layout ≡ layout → TakesLayouts classes flows layout (layouts_in classes x) source.leaves.items)

unfoldable pub TakesObjects : ClassTable → Relation → ℕ → ℕ → List ℕ → Type 0
TakesObjects classes flows layout x sources = Each sources (λ y. TakesObject classes flows layout x y)

-- the entry register of a function has all that the set of a node has, and the set of a node all that the result has
unfoldable pub GivesEntry : ClassTable → Relation → ℕ → ℕ → ℕ → Type 0
GivesEntry classes flows index from member = Then (entry_node classes member index) (λ node. flows from node)

unfoldable pub TakesResult : ClassTable → Relation → ℕ → ℕ → Type 0
TakesResult classes flows member to = Then (result_node classes member) (λ node. flows node to)
