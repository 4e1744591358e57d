-- The lines that editors and problem matchers read.
use Rattle.std.specs.Prelude.{ℕ, List, [], ◌++◌, codes, decimal, Option, Some, None, option_map, if◌then◌else◌}
use Rattle.sv_base.specs.declared.colour.Colour.{Colour}
use Rattle.sv_base.specs.declared.colour.Colour.TheVariants as colours
use Rattle.report.specs.declared.line.Line.{Line}
use Rattle.report.specs.Report.{is_alarm}
use Rattle.report_view.specs.Letters.{shown}
use Rattle.report_view.specs.declared.site.Site.{Site}

-- FILE:LINE:COL
unfoldable pub shown_place : Line → List ℕ
shown_place l = shown l.file ++ codes ":" ++ decimal l.line ++ codes ":" ++ decimal l.col

abbrev pub severity_word : Colour → List ℕ
severity_word colours.Red = codes "error"
severity_word c = codes "warning"

abbrev pub promise : Colour → List ℕ
promise colours.Red = codes "red: no run goes on past this access"
promise c = codes "orange: this access may leave its array"

abbrev pub remark_text : Option (List ℕ) → List ℕ
remark_text None = []
remark_text (Some remark) = codes ", " ++ shown remark

abbrev pub remark_of : Site → Option (List ℕ)
remark_of s = option_map (λ r. r.now) s.remark

-- what is said of a site behind its place
unfoldable pub finding_text : Site → List ℕ
finding_text s =
    codes ": " ++ severity_word s.line.now.colour ++ codes ": " ++ promise s.line.now.colour ++ codes " in "
    ++ shown s.line.now.function ++ remark_text (remark_of s) ++ codes "\n"

-- a line for a site that is orange or red, none for another
unfoldable pub review_line : Site → List ℕ
review_line s = if is_alarm s.line.now.colour then shown_place s.line.now ++ finding_text s else []
