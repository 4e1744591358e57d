-- The colour of a site from its visits.
use Rattle.std.specs.Prelude.{◌≡◌, ℕ, ◌==◌, nat_eq, List, cond, fold, unwrap_or}
use Rattle.std.specs.HashMap.{HashMap, get}
use Rattle.std.specs.declared.hash.BuildHasherDefault.{BuildHasherDefault}
use Rattle.std.specs.declared.hash.FoldHasher.{FoldHasher}
use Rattle.sv_base.specs.declared.colour.Colour.{Colour}
use Rattle.sv_base.specs.declared.colour.Colour.TheVariants.{Unreachable, Green, Orange, Red}
use Rattle.sv_base.specs.declared.ids.SiteId.{SiteId}

-- a site and what a visit of it saw
abbrev pub Visit : Type 0
Visit = SiteId × Colour

-- the common colour of two, unreachable ones aside, or else orange
abbrev pub common : Colour → Colour → Colour
common Unreachable b = b
common Green Unreachable = Green
common Green Green = Green
common Green Orange = Orange
common Green Red = Orange
common Orange b = Orange
common Red Unreachable = Red
common Red Green = Orange
common Red Orange = Orange
common Red Red = Red

-- a visit counts for its own site
abbrev pub noted : ℕ → Colour → Visit → Colour
noted site c visit = cond (visit.0.0 == site) (common c visit.1) c

-- what the visits of a site give
abbrev pub verdict : List Visit → ℕ → Colour
verdict visits site = fold (noted site) Unreachable visits

abbrev pub verdict_of : List Visit → SiteId → Visit
verdict_of visits site = (site, verdict visits site.0)

-- the table has for each site what its visits give
abbrev pub IsTally : HashMap ℕ Colour (BuildHasherDefault FoldHasher) → List Visit → Type 0
IsTally found visits = (site : ℕ) → unwrap_or (get nat_eq found site) Unreachable ≡ verdict visits site
