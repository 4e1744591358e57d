-- Places that hold the same.
use Rattle.std.specs.Prelude.{◌≡◌, ⊤, Option, Some, None}
use Rattle.core_ir.specs.declared.steps.Leaf.{Leaf}
use Rattle.core_ir.specs.declared.steps.Leaf.TheVariants.{Int, Pointer}
use Rattle.core_ir.specs.Ranges.{type_range}

-- both pointers, or integers of one range, or nothing
abbrev pub IsSamePlace : Option Leaf → Option Leaf → Type 0
IsSamePlace (Some (Int t)) (Some (Int other)) = type_range t ≡ type_range other
IsSamePlace (Some Pointer) (Some Pointer) = ⊤
IsSamePlace None None = ⊤
IsSamePlace _ _ = ⊥
