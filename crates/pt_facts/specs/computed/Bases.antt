-- What the code keeps of the nodes of functions.
use Rattle.std.specs.Prelude.{◌≡◌, ℕ, ◌+◌, ◌<◌, ◌≤◌, ◌^◌, List, [], ◌∷◌}
use Rattle.core_ir.specs.declared.program.Function.{Function}
use Rattle.pt_facts.specs.Nodes.{register_count, registers_of}
use Rattle.pt_facts.specs.declared.caller.Caller.{Caller}

-- by function the node of its first register, that of the first function being `base`
abbrev pub bases_from : ℕ → List Function → List ℕ
bases_from base [] = []
bases_from base (f ∷ rest) = base ∷ bases_from (base + register_count f) rest

-- nodes and functions have room in 32 bits
pub record IsCaller (x : Caller) : Type 0 where
  pub nodes : registers_of x.functions.now < 2 ^ 32
  pub own_nodes : x.base + register_count x.f.now < 2 ^ 32
  pub count : x.count ≤ 2 ^ 31
  pub bases : x.bases.now ≡ bases_from 0 x.functions.now
