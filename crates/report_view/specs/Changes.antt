-- What changed between two reports.
use Rattle.std.specs.Prelude.{ℕ, Bool, nat_lt, List, [], ◌++◌, codes, decimal, count_by, Option, Some, None, fold, if◌then◌else◌}
use Rattle.std.specs.List.{flat_map}
use Rattle.std.specs.Str.{bytes_eq}
use Rattle.sv_base.specs.declared.colour.Colour.{Colour}
use Rattle.sv_base.specs.declared.colour.Colour.TheVariants as colours
use Rattle.report.specs.Report.{colour_word}
use Rattle.report_view.specs.Letters.{shown}
use Rattle.report_view.specs.Sites.{whole_key}
use Rattle.report_view.specs.Lines.{shown_place, remark_text, remark_of}
use Rattle.report_view.specs.declared.site.Site.{Site}

-- the colour of the site with this key, and none where there is no such site
abbrev pub colour_in : List Site → List ℕ → Option Colour
colour_in sites key = fold (λ found s. if bytes_eq (whole_key s) key then Some s.line.now.colour else found) None sites

-- how much a colour asks for a look
abbrev pub severity : Option Colour → ℕ
severity (Some colours.Red) = 2
severity (Some colours.Orange) = 1
severity (Some colours.Green) = 0
severity (Some colours.Unreachable) = 0
severity None = 0

-- the site asks for a look more than a site of the colour before
abbrev pub rises : Option Colour → Site → Bool
rises before s = nat_lt (severity before) (severity (Some s.line.now.colour))

-- the site asks for a look more than the same site among the others
abbrev pub rises_over : List Site → Site → Bool
rises_over sites s = rises (colour_in sites (whole_key s)) s

abbrev pub before_word : Option Colour → List ℕ
before_word (Some colour) = colour_word colour
before_word None = codes "none"

abbrev pub beside_text : Option Colour → Colour → List ℕ
beside_text before colour = codes " " ++ colour_word colour ++ codes ", beside " ++ before_word before

unfoldable pub tail_text : Site → List ℕ
tail_text s = remark_text (remark_of s) ++ codes ": " ++ shown s.text.now ++ codes "\n"

-- behind the label: FILE:LINE:COL FUNCTION COLOUR, beside COLOUR: TEXT
unfoldable pub change_text : Option Colour → Site → List ℕ
change_text before s =
    shown_place s.line.now ++ codes " " ++ shown s.line.now.function ++ beside_text before s.line.now.colour ++ tail_text s

-- the line of a site that rises, none for another
unfoldable pub rise_line : List ℕ → Option Colour → Site → List ℕ
rise_line label before s = if rises before s then label ++ change_text before s else []

-- the lines of the sites that rise over the others
abbrev pub rise_lines : List ℕ → List Site → List Site → List ℕ
rise_lines label from to = flat_map (λ s. rise_line label (colour_in from (whole_key s)) s) to

unfoldable pub changes_text : List Site → List Site → List ℕ
changes_text old new =
    rise_lines (codes "worse: ") old new ++ rise_lines (codes "settled: ") new old
    ++ codes "worse " ++ decimal (count_by (rises_over old) new)
    ++ codes " settled " ++ decimal (count_by (rises_over new) old) ++ codes "\n"
