-- The nodes of points-to analysis by number: the registers of all functions in order, and then the leaf classes. Constraints are made
-- for those that hold pointers alone.
use Rattle.std.specs.Prelude.{ℕ, ◌+◌, ◌^◌, nat_lt, if◌then◌else◌, List, [], ◌∷◌, length, take, slice_get, Option, Some, None}
use Rattle.core_ir.specs.declared.program.CoreProgram.{CoreProgram}
use Rattle.core_ir.specs.declared.program.Function.{Function}
use Rattle.core_ir.specs.declared.program.Register.{Register}
use Rattle.core_ir.specs.declared.steps.Leaf.{Leaf}
use Rattle.core_ir.specs.declared.steps.Leaf.TheVariants.{Pointer}
use Rattle.core_ir.specs.declared.steps.Operand.{Operand}
use Rattle.core_ir.specs.declared.steps.Operand.TheVariants.{Reg, Const}

-- how many registers a function has, and several
abbrev pub register_count : Function → ℕ
register_count f = length f.registers.items

abbrev pub registers_of : List Function → ℕ
registers_of [] = 0
registers_of (f ∷ rest) = register_count f + registers_of rest

-- how many registers stand before those of function i: the node of its first one
abbrev pub base_of : List Function → ℕ → ℕ
base_of functions i = registers_of (take i functions)

-- a node, if what it stands for holds a pointer
abbrev pub node_if_pointer : ℕ → Option Leaf → Option ℕ
node_if_pointer node (Some Pointer) = Some node
node_if_pointer node _ = None

abbrev pub leaf_in : Option Register → Option Leaf
leaf_in None = None
leaf_in (Some register) = Some register.leaf

-- the node of a register of the function whose first register has the node `base`
abbrev pub node_of : ℕ → Function → ℕ → Option ℕ
node_of base f r = node_if_pointer (base + r) (leaf_in (slice_get f.registers.items r))

-- the node of an operand; a constant is no pointer
abbrev pub operand_node : ℕ → Function → Operand → Option ℕ
operand_node base f (Reg r) = node_of base f r
operand_node base f (Const c) = None

-- the node of a register that may be missing, as a result
abbrev pub node_of_some : ℕ → Function → Option ℕ → Option ℕ
node_of_some base f None = None
node_of_some base f (Some r) = node_of base f r

-- the external functions have the numbers after those of the defined ones
abbrev pub function_count : CoreProgram → ℕ
function_count p = length p.functions.items + length p.externals.items

-- a function of so many as a member of points-to sets
abbrev pub member_of : ℕ → ℕ → Option ℕ
member_of count g = if nat_lt g count then Some (2 ^ 31 + g) else None
