-- The faults that have a text.
use Rattle.std.specs.Prelude.{ℕ, ◌≤◌}
use Rattle.sv_base.specs.declared.fault.FaultKind.{FaultKind}
use Rattle.sv_base.specs.declared.fault.FaultKind.TheVariants as kinds

-- the code of the kind stands in the table of faults
abbrev pub IsListed : FaultKind → Type 0
IsListed kinds.Lex = Unit {0}
IsListed kinds.Syntax = Unit {0}
IsListed (kinds.Unsupported code) = code ≤ 15
IsListed (kinds.Typing code) = (1 ≤ code) × (code ≤ 13)
IsListed (kinds.Link code) = (1 ≤ code) × (code ≤ 4)
IsListed (kinds.Limit code) = (1 ≤ code) × (code ≤ 13)
