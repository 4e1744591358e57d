-- Artifacts as plain values: each Vec is the list of its items.
use Rattle.std.specs.Prelude.{ℕ, ℤ, Bool, List, map, Option, Some, None}
use Rattle.std.specs.Global.{Vec}
use Rattle.sv_base.specs.declared.colour.Colour.{Colour}
use Rattle.sv_base.specs.declared.ids.SiteId.{SiteId}
use Rattle.core_ir.specs.declared.artifacts.Artifact.{Artifact}
use Rattle.core_ir.specs.declared.artifacts.Bounds.{Bounds}
use Rattle.core_ir.specs.declared.artifacts.CallPart.{CallPart}
use Rattle.core_ir.specs.declared.artifacts.Constraint.{Constraint}
use Rattle.core_ir.specs.declared.artifacts.Stored.{Stored}
use Rattle.core_ir.specs.declared.artifacts.Stored.TheVariants as stored
use Rattle.core_ir.specs.declared.artifacts.WritePart.{WritePart}

-- the lists in a list of Vecs
abbrev pub lists_of : List (Vec ℕ) → List (List ℕ)
lists_of vecs = map (λ v. v.items) vecs

pub record PlainBounds : Type 0 where
  pub size : ℕ
  pub entries : List (Option ℤ)

abbrev pub bounds_of : Bounds → PlainBounds
bounds_of b = record { size = b.size; entries = b.entries.items }

abbrev pub all_bounds : List Bounds → List PlainBounds
all_bounds bs = map bounds_of bs

-- a context or a result
abbrev pub some_bounds : Option (Vec Bounds) → Option (List PlainBounds)
some_bounds None = None
some_bounds (Some v) = Some (all_bounds v.items)

pub record PlainCall : Type 0 where
  pub callee : ℕ
  pub entry : List PlainBounds

abbrev pub call_of : CallPart → PlainCall
call_of c = record { callee = c.callee; entry = all_bounds c.entry.items }

pub record PlainArtifact : Type 0 where
  pub changed : Bool
  pub context : Option (List PlainBounds)
  pub result : Option (List PlainBounds)
  pub calls : List PlainCall
  pub writes : List WritePart

abbrev pub artifact_of : Artifact → PlainArtifact
artifact_of a = record { changed = a.changed; context = some_bounds a.context; result = some_bounds a.result; calls = map call_of a.calls.items; writes = a.writes.items }

pub data PlainStored : Type 0 where
  Constraints : (list : List Constraint) → PlainStored
  Solved : (sets : List (List ℕ)) → PlainStored
  Clusters : (clusters : List (List ℕ)) → PlainStored
  Summary : (artifact : PlainArtifact) → PlainStored
  Colours : (list : List (SiteId × Colour)) → PlainStored

abbrev pub stored_of : Stored → PlainStored
stored_of (stored.Constraints v) = Constraints v.items
stored_of (stored.Solved s) = Solved (lists_of s.sets.items)
stored_of (stored.Clusters v) = Clusters (lists_of v.items)
stored_of (stored.Summary a) = Summary (artifact_of a)
stored_of (stored.Colours v) = Colours v.items
