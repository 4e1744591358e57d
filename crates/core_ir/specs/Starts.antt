-- With what the leaves of static objects begin, by leaf class.
use Rattle.std.specs.Prelude.{◌≡◌, ℕ, zero, suc, ◌+◌, ◌^◌, Bool, true, false, not, ◌&&◌, ◌||◌, ◌==◌, if◌then◌else◌, ℤ, pos, List, [], ◌∷◌, ◌++◌, find, filter_map, flat_map, option_map, option_and_then, option_to_list, unwrap_or, Option, Some, None, bytes_eq}
use Rattle.core_ir.specs.declared.steps.Leaf.{Leaf}
use Rattle.core_ir.specs.declared.steps.Leaf.TheVariants as leaves
use Rattle.core_ir.specs.Lists.{has}
use Rattle.core_ir.specs.Programs.{PlainFunction, PlainProgram}
use Rattle.core_ir.specs.Ranges.{Range, type_range, Includes}
use Rattle.core_ir.specs.Shapes.{PlainShape, PlainMembers, Scalar, Array, Members, ended, member, region_of, shape_at, is_whole_region}
use Rattle.core_ir.specs.Statics.{PlainStatic, PlainValue, Int, Place, Function}
use Rattle.core_ir.specs.Steps.{PlainStep, Begin, in_order}

-- ---- static objects: no function begins them

abbrev pub begun_by : PlainStep → Option ℕ
begun_by (Begin object initialised) = Some object
begun_by step = None

-- the objects that a function begins, which are its own
abbrev pub begun_in : PlainFunction → List ℕ
begun_in f = filter_map begun_by (in_order f.body)

abbrev pub all_begun : PlainProgram → List ℕ
all_begun p = flat_map begun_in p.functions

-- an object by the class of its whole region
abbrev pub object_at : PlainProgram → ℕ → Option PlainShape
object_at p class = find (is_whole_region class) p.objects

-- a static one
abbrev pub static_at : PlainProgram → ℕ → Option PlainShape
static_at p class = if has (all_begun p) class then None else object_at p class

-- ---- paths

-- whether each union on a path begins with the member that the path takes; `choice` tells the member by the union's own path
module _ (choice : List ℕ → ℕ) where
  abbrev mutual
    pub is_begun : List ℕ → PlainShape → List ℕ → Bool
    is_begun before shape [] = true
    is_begun before (Scalar layout region leaf class) (k ∷ path) = true
    is_begun before (Array layout region count stride of) (k ∷ path) = is_begun (before ++ k ∷ []) of path
    is_begun before (Members layout region rival list) (k ∷ path) = (not rival || (choice before == k)) && is_begun_member (before ++ k ∷ []) list k path

    pub is_begun_member : List ℕ → PlainMembers → ℕ → List ℕ → Bool
    is_begun_member before ended k path = true
    is_begun_member before (member offset shape rest) zero path = is_begun before shape path
    is_begun_member before (member offset shape rest) (suc k) path = is_begun_member before rest k path

-- a union begins with the member that is given, or with the first one
abbrev pub choice_in : PlainProgram → ℕ → List ℕ → ℕ
choice_in p object path = unwrap_or (option_map (λ u. u.member) (find (λ u. (u.object == object) && bytes_eq u.path path) p.unions)) 0

-- the value that is given for the leaf at a path of an object
abbrev pub given_at : PlainProgram → ℕ → List ℕ → Option PlainValue
given_at p object path = option_map (λ s. s.value) (find (λ s. (s.object == object) && bytes_eq s.path path) p.statics)

-- ---- numbers: of a pointer its offset, which is 0 of functions, of null and of an integer that became a pointer

abbrev pub number_in : Leaf → PlainValue → ℤ
number_in (leaves.Int t) (Int number) = number
number_in leaf (Place object path offset) = offset
number_in leaf value = pos 0

-- no value is given: zero or null
abbrev pub given_number : Leaf → Option PlainValue → ℤ
given_number leaf None = pos 0
given_number leaf (Some value) = number_in leaf value

-- what an indeterminate leaf counts as
abbrev pub any_number : Leaf → Range
any_number (leaves.Int t) = type_range t
any_number leaves.Pointer = (pos 0, pos 0)

abbrev pub start_range : Bool → Leaf → Option PlainValue → Range
start_range true leaf value = (given_number leaf value, given_number leaf value)
start_range false leaf value = any_number leaf

-- a leaf of a static object begins with these numbers
pub record IsStart (p : PlainProgram) (class : ℕ) (range : Range) : Type 0 where
  pub object : ℕ
  pub path : List ℕ
  pub root : PlainShape
  pub static : static_at p object ≡ Some root
  pub layout : ℕ
  pub region : Option ℕ
  pub leaf : Leaf
  pub found : shape_at root path ≡ Some (Scalar layout region leaf class)
  pub begins : range ≡ start_range (is_begun (choice_in p object) [] root path) leaf (given_at p object path)

-- the least interval that has the numbers with which all leaves of a class begin
pub record IsStartInterval (p : PlainProgram) (class : ℕ) (interval : Range) : Type 0 where
  pub all : (range : Range) → IsStart p class range → Includes interval range
  pub low : (high : ℤ) × IsStart p class (interval.0, high)
  pub high : (low : ℤ) × IsStart p class (low, interval.1)

-- none where no static object has a leaf of the class
abbrev pub IsLeafStart : PlainProgram → ℕ → Option Range → Type 0
IsLeafStart p class None = (range : Range) → IsStart p class range → ⊥
IsLeafStart p class (Some interval) = IsStartInterval p class interval

-- ---- what pointers point to in the beginning

abbrev pub class_of : PlainShape → Option ℕ
class_of (Scalar layout region leaf class) = Some class
class_of shape = None

-- the leaf class of a value that is given
abbrev pub class_given : PlainProgram → PlainStatic → Option ℕ
class_given p s = option_and_then class_of (option_and_then (λ root. shape_at root s.path) (static_at p s.object))

-- a region class or a function
abbrev pub target_of : PlainProgram → PlainValue → Option ℕ
target_of p (Int number) = None
target_of p (Place object path offset) = option_and_then region_of (option_and_then (λ root. shape_at root path) (static_at p object))
target_of p (Function number) = Some (2 ^ 31 + number)

abbrev pub target_for : PlainProgram → ℕ → PlainStatic → Option ℕ
target_for p class s = if has (option_to_list (class_given p s)) class then target_of p s.value else None

-- the targets that initialisers give the leaves of a class
abbrev pub targets_for : PlainProgram → ℕ → List ℕ
targets_for p class = filter_map (target_for p class) p.statics
