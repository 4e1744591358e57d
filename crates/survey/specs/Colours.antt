-- The colours of a program: the stores before the first that leaves its array are green, that one is red, and no run
-- comes to the later ones.
use Rattle.std.specs.Prelude.{ℕ, slice_get, Bool, nat_lt, if◌then◌else◌, List, [], ◌∷◌, map, codes}
use Rattle.std.specs.Option.{option_map_or}
use Rattle.sv_base.specs.declared.colour.Colour.{Colour}
use Rattle.sv_base.specs.declared.colour.Colour.TheVariants as colours
use Rattle.first_form.specs.declared.program.Array.{Array}
use Rattle.first_form.specs.declared.program.Store.{Store}
use Rattle.first_form.specs.declared.program.Program.{Program}
use Rattle.report.specs.declared.line.Line.{Line}
use Rattle.report.specs.Report.{report_text, report_status}

-- how many elements the array of that number has
abbrev pub size_at : List Array → ℕ → ℕ
size_at arrays n = option_map_or (λ (a : Array). a.size) (slice_get arrays n) 0

abbrev pub is_inside : List Array → Store → Bool
is_inside arrays s = nat_lt s.subscript (size_at arrays s.array)

-- the line of a store in a file of that name
abbrev pub line_of : List ℕ → Store → Colour → Line
line_of name s colour = record { file = name; line = s.line; col = s.col; function = codes "main"; colour = colour }

abbrev pub lines_from : List ℕ → List Array → List Store → List Line
lines_from name arrays [] = []
lines_from name arrays (s ∷ stores) =
    if is_inside arrays s then line_of name s colours.Green ∷ lines_from name arrays stores
    else line_of name s colours.Red ∷ map (λ t. line_of name t colours.Unreachable) stores

abbrev pub lines_of : List ℕ → Program → List Line
lines_of name p = lines_from name p.arrays p.stores

-- the report of a program in a file of that name, and its status
abbrev pub report : List ℕ → Program → List ℕ
report name p = report_text (lines_of name p) []

abbrev pub status : List ℕ → Program → ℕ
status name p = report_status (lines_of name p)
