-- Colours that are true of every run of a program.
use Rattle.std.specs.Prelude.{◌≡◌, ◌≢◌, ℕ, List, [], ◌∷◌, slice_get, Option, Some, None, ℤ}
use Rattle.std.specs.Option.{option_map}
use Rattle.std.specs.List.{AllByRecursion}
use Rattle.sv_base.specs.declared.colour.Colour.{Colour}
use Rattle.sv_base.specs.declared.colour.Colour.TheVariants as colours
use Rattle.first_form.specs.declared.program.Program.{Program}
use Rattle.first_form.specs.Runs.{Visit, IsInside, End, Finished, Spent, Outside, Undefined, BadPointer, NoLeaf, Run, run}
use Rattle.report.specs.declared.line.Line.{Line}

-- the colour that the lines give a site; they are in the order of the sites
abbrev pub colour_at : List Line → ℕ → Option Colour
colour_at lines site = option_map (λ (l : Line). l.colour) (slice_get lines site)

-- a visit of a green site lies inside its region
abbrev pub GreenIsInside : (ℕ → Option Colour) → Visit → Type 0
GreenIsInside colour v = colour v.site ≡ Some colours.Green → IsInside v

-- a run that visits a red site visits nothing after it, and ends there
abbrev pub RedEnds : (ℕ → Option Colour) → End → List Visit → Type 0
RedEnds colour end [] = Unit {0}
RedEnds colour end (v ∷ visits) = (colour v.site ≡ Some colours.Red → (visits ≡ []) × (end ≡ Outside v.site)) × RedEnds colour end visits

-- A run that ends because what is used as a pointer at a site is none has reached that site, without a visit.
abbrev pub EndsAwayFrom : (ℕ → Option Colour) → Colour → End → Type 0
EndsAwayFrom colour c (Undefined BadPointer (Some site)) = colour site ≢ Some c
EndsAwayFrom colour c (Undefined BadPointer None) = Unit {0}
EndsAwayFrom colour c (Undefined NoLeaf site) = Unit {0}
EndsAwayFrom colour c (Outside site) = Unit {0}
EndsAwayFrom colour c Finished = Unit {0}
EndsAwayFrom colour c Spent = Unit {0}

-- what the colours say of a run
pub record IsTrueOf (colour : ℕ → Option Colour) (r : Run) : Type 0 where
  pub green : AllByRecursion (GreenIsInside colour) r.visits
  pub red : RedEnds colour r.end r.visits
  pub unreachable : AllByRecursion (λ v. colour v.site ≢ Some colours.Unreachable) r.visits
  pub unreached : EndsAwayFrom colour colours.Unreachable r.end

-- The colours are true of every run: however often `main` is called, with any bound and any words.
abbrev pub IsSound : Program → List Line → Type 0
IsSound p lines = (count bound : ℕ) (words : List ℤ) → IsTrueOf (colour_at lines) (run p count bound words)
