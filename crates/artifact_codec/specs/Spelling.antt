-- The one spelling of each artifact, as bytes.
use Rattle.std.specs.Prelude.{ℕ, ℤ, Bool, true, false, List, [], ◌∷◌, ◌++◌, length, Option, Some, None}
use Rattle.std.specs.List.{flat_map}
use Rattle.std.specs.Int.{w32, w128, to_be_bytes, cast_unsigned}
use Rattle.sv_base.specs.declared.colour.Colour.{Colour}
use Rattle.sv_base.specs.declared.colour.Colour.TheVariants as colours
use Rattle.sv_base.specs.declared.ids.SiteId.{SiteId}
use Rattle.core_ir.specs.declared.artifacts.Constraint.{Constraint}
use Rattle.core_ir.specs.declared.artifacts.WritePart.{WritePart}
use Rattle.core_ir.specs.Plain.{PlainBounds, PlainCall, PlainArtifact, PlainStored, Constraints, Solved, Clusters, Summary, Colours}

-- four bytes, the highest first
unfoldable pub number : ℕ → List ℕ
number n = to_be_bytes w32 n

-- sixteen bytes of two's complement, the highest first
unfoldable pub signed : ℤ → List ℕ
signed z = to_be_bytes w128 (cast_unsigned w128 z)

abbrev pub flag : Bool → List ℕ
flag false = 0 ∷ []
flag true = 1 ∷ []

-- a flag, and behind a 1 the value
abbrev pub optional : {A : Type 0} → (A → List ℕ) → Option A → List ℕ
optional item None = 0 ∷ []
optional item (Some x) = 1 ∷ item x

-- how many there are, and each of them
abbrev pub counted : {A : Type 0} → (A → List ℕ) → List A → List ℕ
counted item xs = number (length xs) ++ flat_map item xs

abbrev pub numbers : List ℕ → List ℕ
numbers ns = counted number ns

abbrev pub constraint : Constraint → List ℕ
constraint c = c.rule ∷ number c.target ++ number c.source ++ number c.third

-- the number of variables, and each bound
abbrev pub bounds : PlainBounds → List ℕ
bounds b = b.size ∷ flat_map (optional signed) b.entries

abbrev pub matrices : List PlainBounds → List ℕ
matrices bs = counted bounds bs

abbrev pub call : PlainCall → List ℕ
call c = number c.callee ++ matrices c.entry

abbrev pub write : WritePart → List ℕ
write w = number w.class ++ signed w.low ++ signed w.high

abbrev pub summary : PlainArtifact → List ℕ
summary a = flag a.changed ++ optional matrices a.context ++ optional matrices a.result ++ counted call a.calls ++ counted write a.writes

abbrev pub colour_code : Colour → ℕ
colour_code colours.Unreachable = 0
colour_code colours.Green = 1
colour_code colours.Orange = 2
colour_code colours.Red = 3

abbrev pub site_colour : SiteId × Colour → List ℕ
site_colour p = number p.0.0 ++ colour_code p.1 ∷ []

-- the first byte of a spelling
abbrev pub kind_of : PlainStored → ℕ
kind_of (Constraints cs) = 1
kind_of (Solved sets) = 2
kind_of (Clusters cs) = 3
kind_of (Summary a) = 4
kind_of (Colours cs) = 5

abbrev pub content : PlainStored → List ℕ
content (Constraints cs) = counted constraint cs
content (Solved sets) = counted numbers sets
content (Clusters cs) = counted numbers cs
content (Summary a) = summary a
content (Colours cs) = counted site_colour cs

abbrev pub spelling : PlainStored → List ℕ
spelling v = kind_of v ∷ content v
