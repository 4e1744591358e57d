-- The text of the report, and the status that goes with it.
use Rattle.std.specs.Prelude.{ℕ, Bool, true, false, List, ◌++◌, codes, decimal, count_by, length, if◌then◌else◌}
use Rattle.std.specs.List.{flat_map, list_any}
use Rattle.sv_base.specs.declared.colour.Colour.{Colour}
use Rattle.sv_base.specs.declared.colour.Colour.TheVariants as colours
use Rattle.report.specs.declared.line.Line.{Line}

abbrev pub colour_word : Colour → List ℕ
colour_word colours.Unreachable = codes "unreachable"
colour_word colours.Green = codes "green"
colour_word colours.Orange = codes "orange"
colour_word colours.Red = codes "red"

-- FILE:LINE:COL
unfoldable pub place_text : List ℕ → ℕ → ℕ → List ℕ
place_text file line col = file ++ codes ":" ++ decimal line ++ codes ":" ++ decimal col

-- FILE:LINE:COL FUNCTION COLOUR
unfoldable pub line_text : Line → List ℕ
line_text l = place_text l.file l.line l.col ++ codes " " ++ l.function ++ codes " " ++ colour_word l.colour ++ codes "\n"

-- assumed NAME
unfoldable pub assumed_text : List ℕ → List ℕ
assumed_text name = codes "assumed " ++ name ++ codes "\n"

abbrev pub is_colour : Colour → Colour → Bool
is_colour colours.Unreachable colours.Unreachable = true
is_colour colours.Green colours.Green = true
is_colour colours.Orange colours.Orange = true
is_colour colours.Red colours.Red = true
is_colour a b = false

abbrev pub has_colour : Colour → Line → Bool
has_colour colour l = is_colour colour l.colour

-- how many of the lines have the colour
abbrev pub count_of : Colour → List Line → ℕ
count_of colour lines = count_by (has_colour colour) lines

unfoldable pub count_text : List ℕ → ℕ → List ℕ
count_text label number = label ++ decimal number

-- sites N green G orange O red R unreachable U
unfoldable pub totals_text : List Line → List ℕ
totals_text lines = count_text (codes "sites ") (length lines)
    ++ count_text (codes " green ") (count_of colours.Green lines)
    ++ count_text (codes " orange ") (count_of colours.Orange lines)
    ++ count_text (codes " red ") (count_of colours.Red lines)
    ++ count_text (codes " unreachable ") (count_of colours.Unreachable lines) ++ codes "\n"

-- the lines in their order, the assumed names in theirs, and the totals
unfoldable pub report_text : List Line → List (List ℕ) → List ℕ
report_text lines assumed = flat_map line_text lines ++ flat_map assumed_text assumed ++ totals_text lines

-- whether a colour asks for a look at the site
abbrev pub is_alarm : Colour → Bool
is_alarm colours.Orange = true
is_alarm colours.Red = true
is_alarm colours.Green = false
is_alarm colours.Unreachable = false

-- 1 where a site is orange or red, else 0
abbrev pub report_status : List Line → ℕ
report_status lines = if list_any (λ l. is_alarm l.colour) lines then 1 else 0
