-- The trees of objects as plain values, and what is in them.
use Rattle.std.specs.Prelude.{ℕ, zero, suc, Bool, nat_lt, if◌then◌else◌, List, [], ◌∷◌, Option, Some, None, option_to_list}
use Rattle.core_ir.specs.declared.steps.Leaf.{Leaf}
use Rattle.core_ir.specs.declared.shapes.ShapeForm as f
use Rattle.core_ir.specs.declared.shapes.ShapeForm.{ShapeForm}
use Rattle.core_ir.specs.Lists.{has}

mutual
  pub data PlainShape : Type 0 where
    Scalar : (layout : ℕ) (region : Option ℕ) (leaf : Leaf) (class : ℕ) → PlainShape
    Array : (layout : ℕ) (region : Option ℕ) (count stride : ℕ) (of : PlainShape) → PlainShape
    Members : (layout : ℕ) (region : Option ℕ) (rival : Bool) (list : PlainMembers) → PlainShape

  pub data PlainMembers : Type 0 where
    ended : PlainMembers
    member : (offset : ℕ) (shape : PlainShape) (rest : PlainMembers) → PlainMembers

abbrev mutual
  pub shape_of : ℕ → Option ℕ → ShapeForm → PlainShape
  shape_of layout region (f.Scalar leaf class) = Scalar layout region leaf class
  shape_of layout region (f.Array' count stride p l r form) = Array layout region count stride (shape_of l r form)
  shape_of layout region (f.Members' rival n row) = Members layout region rival (members_of row)

  pub members_of : {n : _} → f.Row_of-ShapeForm-Members-1-2 n → PlainMembers
  members_of f.end_of-ShapeForm-Members-1-2 = ended
  members_of (f.more_of-ShapeForm-Members-1-2 offset l r form rest) = member offset (shape_of l r form) (members_of rest)

-- the class of a region; an element that is no array is no region
abbrev pub region_of : PlainShape → Option ℕ
region_of (Scalar layout region leaf class) = region
region_of (Array layout region count stride of) = region
region_of (Members layout region rival list) = region

abbrev pub is_whole_region : ℕ → PlainShape → Bool
is_whole_region class shape = has (option_to_list (region_of shape)) class

-- ---- paths: the positions of members and the indices of elements

abbrev mutual
  pub shape_at : PlainShape → List ℕ → Option PlainShape
  shape_at shape [] = Some shape
  shape_at (Scalar layout region leaf class) (k ∷ path) = None
  shape_at (Array layout region count stride of) (k ∷ path) = if nat_lt k count then shape_at of path else None
  shape_at (Members layout region rival list) (k ∷ path) = shape_at_member list k path

  pub shape_at_member : PlainMembers → ℕ → List ℕ → Option PlainShape
  shape_at_member ended k path = None
  shape_at_member (member offset shape rest) zero path = shape_at shape path
  shape_at_member (member offset shape rest) (suc k) path = shape_at_member rest k path
