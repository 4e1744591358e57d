-- What the analysis asks of a program. What the front end makes of an accepted source is such a program.
use Rattle.std.specs.Prelude.{◌≡◌, ℕ, ◌+◌, ◌<◌, ◌≤◌, ◌^◌, ⊤, true, false, List, [], ◌∷◌, length, filter_map, option_and_then, Option, Some, None}
use Rattle.std.specs.List.{AllByRecursion, list_any, range_with_len}
use Rattle.core_ir.specs.declared.steps.Leaf.{Leaf}
use Rattle.core_ir.specs.declared.steps.Leaf.TheVariants as leaves
use Rattle.core_ir.specs.declared.steps.Value.TheVariants.{Address}
use Rattle.core_ir.specs.Classes.{all_shapes, classes_given, layout_number, regions_of, leaf_classes_of, marks_regions, register_count}
use Rattle.core_ir.specs.Layouts.{erased, is_laid_out, tree_of}
use Rattle.core_ir.specs.Lists.{has, IsAscending, AllFrom}
use Rattle.core_ir.specs.Programs.{PlainFunction, PlainProgram}
use Rattle.core_ir.specs.Ranges.{leaf_range, Includes}
use Rattle.core_ir.specs.Shapes.{PlainShape, Scalar, Members, region_of, shape_at}
use Rattle.core_ir.specs.Starts.{begun_in, static_at, targets_for, IsLeafStart}
use Rattle.core_ir.specs.Statics.{PlainStatic, PlainUnion, PlainValue, Int, Place, Function}
use Rattle.core_ir.specs.Steps.{PlainStep, Set, Begin, in_order}
use Rattle.core_ir.specs.StepsFit.{FunctionFits, function_count}

-- ---- objects of functions

abbrev pub named_by : PlainStep → Option ℕ
named_by (Set to (Address object)) = Some object
named_by (Begin object initialised) = Some object
named_by step = None

-- the objects that the steps of a function name
abbrev pub named_in : PlainFunction → List ℕ
named_in f = filter_map named_by (in_order f.body)

-- neither names an object that the other begins
pub record KeepApart (f g : PlainFunction) : Type 0 where
  pub first : list_any (has (named_in g)) (begun_in f) ≡ false
  pub second : list_any (has (named_in f)) (begun_in g) ≡ false

-- An object that a function begins is named by no other, so that its class speaks of the calls of this function alone.
abbrev pub OwnObjects : List PlainFunction → Type 0
OwnObjects [] = ⊤
OwnObjects (f ∷ rest) = AllByRecursion (KeepApart f) rest × OwnObjects rest

-- ---- static objects

-- where a path in a static object leads
abbrev pub static_shape : PlainProgram → ℕ → List ℕ → Option PlainShape
static_shape p object path = option_and_then (λ root. shape_at root path) (static_at p object)

-- a pointer of a static object leads to a region of a static one, since only those live all the time
abbrev pub LeadsToRegion : Option ℕ → Type 0
LeadsToRegion None = ⊥
LeadsToRegion (Some region) = ⊤

-- a value lies in the range of its leaf; an integer on a pointer leaf is a pointer to nowhere
abbrev pub ValueFits : PlainProgram → Leaf → PlainValue → Type 0
ValueFits p leaf (Int number) = Includes (leaf_range leaf) (number, number)
ValueFits p leaves.Pointer (Place object path offset) = LeadsToRegion (option_and_then region_of (static_shape p object path)) × Includes (leaf_range leaves.Pointer) (offset, offset)
ValueFits p leaves.Pointer (Function g) = g < function_count p
ValueFits p leaf value = ⊥

abbrev pub ValueFitsAt : PlainProgram → Option PlainShape → PlainValue → Type 0
ValueFitsAt p (Some (Scalar layout region leaf class)) value = ValueFits p leaf value
ValueFitsAt p shape value = ⊥

abbrev pub StaticFits : PlainProgram → PlainStatic → Type 0
StaticFits p s = ValueFitsAt p (static_shape p s.object s.path) s.value

-- a member of a union
abbrev pub MemberFits : Option PlainShape → ℕ → Type 0
MemberFits (Some (Members layout region true list)) k = LeadsToRegion (option_and_then region_of (shape_at (Members layout region true list) (k ∷ [])))
MemberFits shape k = ⊥

abbrev pub UnionFits : PlainProgram → PlainUnion → Type 0
UnionFits p u = MemberFits (static_shape p u.object u.path) u.member

-- an ascending list of the region classes and functions that initialisers give
pub record IsPointerStart (p : PlainProgram) (class : ℕ) (targets : List ℕ) : Type 0 where
  pub ascending : IsAscending targets
  pub members : (target : ℕ) → has targets target ≡ has (targets_for p class) target

-- ---- the program

pub record ProgramFits (p : PlainProgram) : Type 0 where
  -- classes are numbered from 0 by object and depth first, so that tables by class need no search
  pub region_numbers : regions_of p ≡ range_with_len 0 (length (regions_of p))
  pub leaf_numbers : leaf_classes_of p ≡ range_with_len 0 (length (leaf_classes_of p))
  pub regions_marked : AllByRecursion (λ object. marks_regions false object ≡ true) p.objects
  -- objects lie as C has it, and sub-objects of one type have one tree, so that a copy takes each leaf to one of its own kind
  pub laid_out : AllByRecursion (λ object. is_laid_out object ≡ true) p.objects
  pub one_tree : AllByRecursion (λ shape. tree_of p (layout_number shape) ≡ Some (erased shape)) (all_shapes p)
  -- numbers of regions, functions and nodes have room in 32 bits, where functions come from 2 ^ 31 on; the external ones, which come
  -- last, have the room that the greatest number of defined ones leaves
  pub region_room : length (regions_of p) ≤ 2 ^ 31
  pub function_room : length p.functions ≤ 20000
  pub external_room : 20000 + length p.externals ≤ 2 ^ 31
  pub node_room : register_count p + length (leaf_classes_of p) < 2 ^ 32
  -- the table says what the objects, sub-objects and functions are
  pub classes : p.classes ≡ classes_given p
  pub functions : AllFrom (FunctionFits p) 0 p.functions
  pub entries : AllByRecursion (λ f. f < length p.functions) p.entries
  pub sites : AllByRecursion (λ s. s.function.0 < length p.functions) p.sites
  pub own_objects : OwnObjects p.functions
  pub statics : AllByRecursion (StaticFits p) p.statics
  pub unions : AllByRecursion (UnionFits p) p.unions
  -- by leaf class, what initialisers give
  pub leaf_count : length p.leaf_starts ≡ length (leaf_classes_of p)
  pub leaf_starts : AllFrom (IsLeafStart p) 0 p.leaf_starts
  pub pointer_count : length p.pointer_starts ≡ length (leaf_classes_of p)
  pub pointer_starts : AllFrom (IsPointerStart p) 0 p.pointer_starts
