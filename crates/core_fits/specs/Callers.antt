-- Whether functions that are named are there.
use Rattle.std.specs.Prelude.{ℕ, Bool, true, ◌&&◌, nat_lt, List, [], ◌∷◌}
use Rattle.sv_base.specs.declared.ids.FuncId.{FuncId}
use Rattle.core_ir.specs.declared.program.CoreSite.{CoreSite}

-- the functions have numbers below this one
abbrev pub are_below : ℕ → List FuncId → Bool
are_below n [] = true
are_below n (f ∷ rest) = nat_lt f.0 n && are_below n rest

-- the sites are in functions that have numbers below this one
abbrev pub sites_below : ℕ → List CoreSite → Bool
sites_below n [] = true
sites_below n (s ∷ rest) = nat_lt s.function.0 n && sites_below n rest
