-- The class table that the objects, sub-objects and functions of a program give. A class is a region or a leaf with its indices erased.
use Rattle.std.specs.Prelude.{ℕ, ◌+◌, ◌-◌, ◌*◌, ◌/◌, max, Bool, true, false, ◌&&◌, ◌||◌, ◌==◌, cond, if◌then◌else◌, List, [], ◌∷◌, ◌++◌, length, map, sum, filter, filter_map, flat_map, option_map, option_and_then, Option, Some, None}
use Rattle.std.specs.List.{list_any, range_with_len}
use Rattle.c_values.specs.Types.{width}
use Rattle.core_ir.specs.declared.classes.PartClass.{PartClass}
use Rattle.core_ir.specs.declared.shapes.Part.{Part}
use Rattle.core_ir.specs.declared.steps.Leaf.{Leaf}
use Rattle.core_ir.specs.declared.steps.Leaf.TheVariants.{Int, Pointer}
use Rattle.core_ir.specs.Lists.{has}
use Rattle.core_ir.specs.Programs.{PlainClasses, PlainFunction, PlainLayout, PlainNodes, PlainProgram, PlainRegion}
use Rattle.core_ir.specs.Shapes.{PlainShape, PlainMembers, Scalar, Array, Members, ended, member, region_of, shape_at_member}
use Rattle.core_ir.specs.Steps.{PlainStep, CopyObject, in_order}

-- ---- sizes in bytes (ISO/IEC 9899:1999, 6.2.6.1 and 6.7.2.1): each scalar is aligned to its size

abbrev pub leaf_size : Leaf → ℕ
leaf_size (Int t) = (width t + 7) / 8
leaf_size Pointer = 4

abbrev mutual
  pub alignment : PlainShape → ℕ
  alignment (Scalar layout region leaf class) = leaf_size leaf
  alignment (Array layout region count stride of) = alignment of
  alignment (Members layout region rival list) = greatest_alignment list

  pub greatest_alignment : PlainMembers → ℕ
  greatest_alignment ended = 1
  greatest_alignment (member offset shape rest) = max (alignment shape) (greatest_alignment rest)

-- the least multiple of n that is not below size, for n from 1
abbrev pub rounded : ℕ → ℕ → ℕ
rounded n size = ((size + (n - 1)) / n) * n

abbrev mutual
  pub size_of : PlainShape → ℕ
  size_of (Scalar layout region leaf class) = leaf_size leaf
  size_of (Array layout region count stride of) = count * stride
  size_of (Members layout region rival list) = rounded (greatest_alignment list) (last_end list)

  -- where the last member ends
  pub last_end : PlainMembers → ℕ
  last_end ended = 0
  last_end (member offset shape rest) = max (offset + size_of shape) (last_end rest)

-- ---- what is in an object, depth first

abbrev mutual
  -- a shape, and then those in it
  pub shapes_in : PlainShape → List PlainShape
  shapes_in (Scalar layout region leaf class) = Scalar layout region leaf class ∷ []
  shapes_in (Array layout region count stride of) = Array layout region count stride of ∷ shapes_in of
  shapes_in (Members layout region rival list) = Members layout region rival list ∷ shapes_in_members list

  pub shapes_in_members : PlainMembers → List PlainShape
  shapes_in_members ended = []
  shapes_in_members (member offset shape rest) = shapes_in shape ++ shapes_in_members rest

abbrev pub all_shapes : PlainProgram → List PlainShape
all_shapes p = flat_map shapes_in p.objects

abbrev pub scalar_of : PlainShape → Option (ℕ × Leaf)
scalar_of (Scalar layout region leaf class) = Some (class, leaf)
scalar_of shape = None

-- the leaf classes in a shape with what they hold
abbrev pub scalars_in : PlainShape → List (ℕ × Leaf)
scalars_in shape = filter_map scalar_of (shapes_in shape)

abbrev pub leaves_in : PlainShape → List ℕ
leaves_in shape = map (λ x. x.0) (scalars_in shape)

abbrev pub layout_number : PlainShape → ℕ
layout_number (Scalar layout region leaf class) = layout
layout_number (Array layout region count stride of) = layout
layout_number (Members layout region rival list) = layout

-- ---- numbers: region classes, and leaf classes apart from them, from 0 by object and depth first

abbrev pub regions_of : PlainProgram → List ℕ
regions_of p = filter_map region_of (all_shapes p)

abbrev pub leaf_classes_of : PlainProgram → List ℕ
leaf_classes_of p = flat_map leaves_in p.objects

-- each object, each member and each array is a region, an element that is no array is none
abbrev mutual
  pub marks_regions : Bool → PlainShape → Bool
  marks_regions element (Scalar layout (Some region) leaf class) = cond element false true
  marks_regions element (Scalar layout None leaf class) = element
  marks_regions element (Array layout (Some region) count stride of) = marks_regions true of
  marks_regions element (Array layout None count stride of) = false
  marks_regions element (Members layout (Some region) rival list) = cond element false (marks_members list)
  marks_regions element (Members layout None rival list) = element && marks_members list

  pub marks_members : PlainMembers → Bool
  marks_members ended = true
  marks_members (member offset shape rest) = marks_regions false shape && marks_members rest

-- ---- sub-objects that steps select, and those of types that steps copy

abbrev pub member_of : PlainShape → ℕ → Option PlainShape
member_of (Members layout region rival list) k = shape_at_member list k []
member_of shape k = None

-- a shape itself, or a member of it
abbrev pub chosen : PlainShape → Option ℕ → Option PlainShape
chosen shape None = Some shape
chosen shape (Some k) = member_of shape k

-- the region that a sub-object of this number is in a shape of its type
abbrev pub part_in : Part → PlainShape → Option ℕ
part_in part shape = if layout_number shape == part.layout then option_and_then region_of (chosen shape part.member) else None

abbrev pub parts_from : PlainShape → ℕ → List Part → List PartClass
parts_from shape k [] = []
parts_from shape k (part ∷ rest) = map (λ class. record { part = k; class = class }) (filter_map (part_in part) (shapes_in shape)) ++ parts_from shape (k + 1) rest

abbrev pub copied_by : PlainStep → Option ℕ
copied_by (CopyObject to from layout) = Some layout
copied_by step = None

abbrev pub copied_in : PlainFunction → List ℕ
copied_in f = filter_map copied_by (in_order f.body)

-- the types that steps copy
abbrev pub copied_layouts : PlainProgram → List ℕ
copied_layouts p = flat_map copied_in p.functions

abbrev pub layout_if : List ℕ → PlainShape → Option PlainLayout
layout_if copied shape = if has copied (layout_number shape) then Some (record { layout = layout_number shape; leaves = leaves_in shape }) else None

-- ---- rivals: leaf classes of one object whose paths first part at a union

abbrev mutual
  pub has_leaf : ℕ → PlainShape → Bool
  has_leaf x (Scalar layout region leaf class) = class == x
  has_leaf x (Array layout region count stride of) = has_leaf x of
  has_leaf x (Members layout region rival list) = a_member_has x list

  pub a_member_has : ℕ → PlainMembers → Bool
  a_member_has x ended = false
  a_member_has x (member offset shape rest) = has_leaf x shape || a_member_has x rest

-- they stand in different members
abbrev pub apart : ℕ → ℕ → PlainMembers → Bool
apart x y ended = false
apart x y (member offset shape rest) = (has_leaf x shape && a_member_has y rest) || (has_leaf y shape && a_member_has x rest) || apart x y rest

abbrev mutual
  pub are_rivals : ℕ → ℕ → PlainShape → Bool
  are_rivals x y (Scalar layout region leaf class) = false
  are_rivals x y (Array layout region count stride of) = are_rivals x y of
  are_rivals x y (Members layout region rival list) = (rival && apart x y list) || are_rivals_in x y list

  pub are_rivals_in : ℕ → ℕ → PlainMembers → Bool
  are_rivals_in x y ended = false
  are_rivals_in x y (member offset shape rest) = are_rivals x y shape || are_rivals_in x y rest

abbrev pub rivals_of : PlainProgram → ℕ → List ℕ
rivals_of p x = filter (λ y. list_any (are_rivals x y) p.objects) (leaf_classes_of p)

-- ---- nodes: those of a function's registers come after those of the functions before it

abbrev pub nodes_from : ℕ → List PlainFunction → List PlainNodes
nodes_from base [] = []
nodes_from base (f ∷ rest) =
    record { entries = range_with_len base f.parameters; result = option_map (λ r. base + r) f.result } ∷ nodes_from (base + length f.registers) rest

abbrev pub register_count : PlainProgram → ℕ
register_count p = sum (map (λ f. length f.registers) p.functions)

-- ---- the table

abbrev pub region_with : PlainProgram → PlainShape → PlainRegion
region_with p shape = record {
  length = size_of shape;
  leaves = leaves_in shape;
  parts = parts_from shape 0 p.parts;
  layouts = filter_map (layout_if (copied_layouts p)) (shapes_in shape);
}

abbrev pub region_if : PlainProgram → PlainShape → Option PlainRegion
region_if p shape = option_map (λ region. region_with p shape) (region_of shape)

abbrev pub classes_given : PlainProgram → PlainClasses
classes_given p = record {
  registers = register_count p;
  regions = filter_map (region_if p) (all_shapes p);
  leaves = map (λ x. x.1) (flat_map scalars_in p.objects);
  rivals = map (rivals_of p) (leaf_classes_of p);
  nodes = nodes_from 0 p.functions;
}
