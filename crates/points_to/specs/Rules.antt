-- The rules of inclusion-based points-to analysis: what each constraint demands of a family of sets.
-- Lars Ole Andersen, "Program Analysis and Specialization for the C Programming Language", 1994, chapter 4.
use Rattle.std.specs.Prelude.{◌≡◌, ℕ, ◌+◌, ◌-◌, ◌^◌, ◌==◌, nat_lt, if◌then◌else◌, Option, Some, None, option_and_then, List, [], slice_get}
use Rattle.core_ir.specs.declared.steps.Leaf.{Leaf}
use Rattle.core_ir.specs.declared.steps.Leaf.TheVariants.{Int, Pointer}
use Rattle.core_ir.specs.declared.classes.ClassTable.{ClassTable}
use Rattle.core_ir.specs.declared.classes.RegionClass.{RegionClass}
use Rattle.core_ir.specs.declared.classes.PartClass.{PartClass}
use Rattle.core_ir.specs.declared.classes.LayoutPart.{LayoutPart}
use Rattle.core_ir.specs.declared.classes.FunctionNodes.{FunctionNodes}
use Rattle.core_ir.specs.declared.artifacts.Constraint.{Constraint}
use Rattle.points_to.specs.declared.rule.Rule.{Rule}
use Rattle.points_to.specs.declared.rule.Rule.TheVariants as rules
use Rattle.points_to.specs.Families.{Family, Relation, Has, Flows}

-- ---- what a class table says of a member. Members below 2 ^ 31 are region classes, the others functions

abbrev pub region_of : ClassTable → ℕ → Option RegionClass
region_of classes member = if nat_lt member (2 ^ 31) then slice_get classes.regions.items member else None

abbrev pub leaves_of : Option RegionClass → List ℕ
leaves_of None = []
leaves_of (Some region) = region.leaves.items

abbrev pub parts_of : Option RegionClass → List PartClass
parts_of None = []
parts_of (Some region) = region.parts.items

abbrev pub layouts_of : Option RegionClass → List LayoutPart
layouts_of None = []
layouts_of (Some region) = region.layouts.items

-- the leaf classes, sub-objects and sub-objects of copied types in a region class
abbrev pub leaves_in : ClassTable → ℕ → List ℕ
leaves_in classes member = leaves_of (region_of classes member)

abbrev pub parts_in : ClassTable → ℕ → List PartClass
parts_in classes member = parts_of (region_of classes member)

abbrev pub layouts_in : ClassTable → ℕ → List LayoutPart
layouts_in classes member = layouts_of (region_of classes member)

-- the node of a leaf class, if it holds a pointer
abbrev pub node_if_pointer : ℕ → Option Leaf → Option ℕ
node_if_pointer node None = None
node_if_pointer node (Some (Int type)) = None
node_if_pointer node (Some Pointer) = Some node

abbrev pub pointer_node : ClassTable → ℕ → Option ℕ
pointer_node classes leaf = node_if_pointer (classes.registers + leaf) (slice_get classes.leaves.items leaf)

abbrev pub function_of : ClassTable → ℕ → Option FunctionNodes
function_of classes member = if nat_lt member (2 ^ 31) then None else slice_get classes.nodes.items (member - 2 ^ 31)

-- the nodes of a function's entry register and of its result
abbrev pub entry_node : ClassTable → ℕ → ℕ → Option ℕ
entry_node classes member index = option_and_then (λ (f : FunctionNodes). slice_get f.entries.items index) (function_of classes member)

abbrev pub result_node : ClassTable → ℕ → Option ℕ
result_node classes member = option_and_then (λ (f : FunctionNodes). f.result) (function_of classes member)

-- `to` is a pointer in a sub-object of a type in region class x, and `from` the like one in such a sub-object in region class y.
-- Both are given by their nodes.
pub record IsCopied (classes : ClassTable) (type x y to from : ℕ) : Type 0 where
  pub to_place : ℕ
  pub to_part : LayoutPart
  pub to_found : slice_get (layouts_in classes x) to_place ≡ Some to_part
  pub to_type : to_part.layout ≡ type
  pub from_place : ℕ
  pub from_part : LayoutPart
  pub from_found : slice_get (layouts_in classes y) from_place ≡ Some from_part
  pub from_type : from_part.layout ≡ type
  pub leaf_place : ℕ
  pub to_leaf : ℕ
  pub to_leaf_found : slice_get to_part.leaves.items leaf_place ≡ Some to_leaf
  pub to_node : pointer_node classes to_leaf ≡ Some to
  pub from_leaf : ℕ
  pub from_leaf_found : slice_get from_part.leaves.items leaf_place ≡ Some from_leaf
  pub from_node : pointer_node classes from_leaf ≡ Some from

-- ---- the eight rules

-- What a constraint demands, where T and S tell the members of its target's and its source's set, `flows a b` that the set of b
-- has all that the set of a has, and `gets n m` that the set of n has m.
abbrev pub Demands : ClassTable → Rule → Constraint → (ℕ → Type 0) → (ℕ → Type 0) → Relation → Relation → Type 0
-- the target's set has the source, a region class or a function
Demands classes rules.Address c T S flows gets = gets c.target c.source
-- the target's set has all that the source's has
Demands classes rules.Copy c T S flows gets = flows c.source c.target
-- a load: the target's set has all that the pointers in what the source points to have
Demands classes rules.Load c T S flows gets =
    (x k leaf node : ℕ) → S x → slice_get (leaves_in classes x) k ≡ Some leaf → pointer_node classes leaf ≡ Some node → flows node c.target
-- a store: the pointers in what the target points to have all that the source's set has
Demands classes rules.Store c T S flows gets =
    (x k leaf node : ℕ) → T x → slice_get (leaves_in classes x) k ≡ Some leaf → pointer_node classes leaf ≡ Some node → flows c.source node
-- the target's set has each sub-object of this number in what the source points to
Demands classes rules.SubObject c T S flows gets =
    (x k : ℕ) (part : PartClass) → S x → slice_get (parts_in classes x) k ≡ Some part → part.part ≡ c.third → gets c.target part.«class»
-- a copy of objects: the pointers in sub-objects of this type in what the target points to have all that the like ones in what the
-- source points to have
Demands classes rules.ObjectCopy c T S flows gets =
    (x y to from : ℕ) → T x → S y → IsCopied classes c.third x y to from → flows from to
-- a call: the entry register of this index of each function to which the target points has all that the source's set has
Demands classes rules.Argument c T S flows gets =
    (g node : ℕ) → T g → entry_node classes g c.third ≡ Some node → flows c.source node
-- its result: the target's set has all that the result of each function to which the source points has
Demands classes rules.Result c T S flows gets =
    (g node : ℕ) → S g → result_node classes g ≡ Some node → flows node c.target
-- no rule has this number
Demands classes rules.Unknown c T S flows gets = Unit {0}

-- the rules by their numbers
abbrev pub rule_of : ℕ → Rule
rule_of number =
    if number == 1 then rules.Address else (if number == 2 then rules.Copy else (if number == 3 then rules.Load
    else (if number == 4 then rules.Store else (if number == 5 then rules.SubObject else (if number == 6 then rules.ObjectCopy
    else (if number == 7 then rules.Argument else (if number == 8 then rules.Result else rules.Unknown)))))))

-- a family is closed under a constraint, and under each of a list
abbrev pub Meets : ClassTable → Family → Constraint → Type 0
Meets classes family c = Demands classes (rule_of c.rule) c (Has family c.target) (Has family c.source) (Flows family) (Has family)

unfoldable pub IsClosed : ClassTable → List Constraint → Family → Type 0
IsClosed classes all family = (k : ℕ) (c : Constraint) → slice_get all k ≡ Some c → Meets classes family c
