-- How objects are laid out (ISO/IEC 9899:1999, 6.2.5 and 6.7.2.1), and what a type's number says of a tree.
use Rattle.std.specs.Prelude.{ℕ, ◌+◌, Bool, true, false, ◌&&◌, ◌==◌, nat_lt, cond, find, option_map, Option, None}
use Rattle.core_ir.specs.Classes.{alignment, all_shapes, layout_number, rounded, size_of}
use Rattle.core_ir.specs.Programs.{PlainProgram}
use Rattle.core_ir.specs.Shapes.{PlainShape, PlainMembers, Scalar, Array, Members, ended, member}

abbrev pub has_member : PlainMembers → Bool
has_member ended = false
has_member (member offset shape rest) = true

-- Elements, of which there is one at least, lie one behind another. Members of a union lie at its start; a member of a struct has the
-- least offset behind the member before it that its alignment allows. So no byte of a scalar lies outside of its object.
abbrev mutual
  pub is_laid_out : PlainShape → Bool
  is_laid_out (Scalar layout region leaf class) = true
  is_laid_out (Array layout region count stride of) = nat_lt 0 count && (stride == size_of of) && is_laid_out of
  is_laid_out (Members layout region rival list) = has_member list && members_laid_out rival 0 list

  -- members of which the first is behind so many bytes
  pub members_laid_out : Bool → ℕ → PlainMembers → Bool
  members_laid_out rival before ended = true
  members_laid_out rival before (member offset shape rest) = (offset == cond rival 0 (rounded (alignment shape) before)) && is_laid_out shape && members_laid_out rival (offset + size_of shape) rest

-- ---- trees with their classes erased

abbrev mutual
  pub erased : PlainShape → PlainShape
  erased (Scalar layout region leaf class) = Scalar layout None leaf 0
  erased (Array layout region count stride of) = Array layout None count stride (erased of)
  erased (Members layout region rival list) = Members layout None rival (erased_members list)

  pub erased_members : PlainMembers → PlainMembers
  erased_members ended = ended
  erased_members (member offset shape rest) = member offset (erased shape) (erased_members rest)

-- the tree of a type by its number: that of the first sub-object of the type
abbrev pub tree_of : PlainProgram → ℕ → Option PlainShape
tree_of p layout = option_map erased (find (λ shape. layout_number shape == layout) (all_shapes p))
