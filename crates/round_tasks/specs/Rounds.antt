-- An analysis and the rounds that are done, without the fields that hold them.
use Rattle.std.specs.Prelude.{ℕ, ◌+◌, ◌-◌, ◌==◌, if◌then◌else◌, min, List, [], ◌∷◌, length, Option, Some, None, slice_get}
use Rattle.std.specs.Global.{Vec}
use Rattle.core_ir.specs.declared.program.CoreProgram.{CoreProgram}
use Rattle.sv_base.specs.declared.colour.Colour.{Colour}
use Rattle.sv_base.specs.declared.ids.SiteId.{SiteId}
use Rattle.round_tasks.specs.declared.alone.Alone.{Alone}
use Rattle.round_tasks.specs.declared.analysed.Analysis.{Analysis}

-- the program that is analysed
abbrev pub program_of : Analysis → CoreProgram
program_of a = a.core

-- how many rounds of summaries rise at most
abbrev pub limit_of : Analysis → ℕ
limit_of a = a.rounds

-- how many functions it has that can have a task
abbrev pub functions_of : Analysis → ℕ
functions_of a = min (length (program_of a).functions.items) 4294967295

-- the second round solves the constraints of all functions in one task, and each other one has a task for each function
abbrev pub tasks_in : Analysis → ℕ → ℕ
tasks_in a round = if round == 1 then 1 else functions_of a

-- how many rounds are done
abbrev pub rounds_of : Alone → ℕ
rounds_of alone = min (length alone.rounds.items) 4294967295

abbrev pub row_tasks : Option (Vec (Vec ℕ)) → ℕ
row_tasks None = 0
row_tasks (Some row) = min (length row.items) 4294967295

-- how many tasks the last one had
abbrev pub last_tasks : Alone → ℕ
last_tasks alone = row_tasks (slice_get alone.rounds.items (length alone.rounds.items - 1))

-- the sites from number k on, one for each colour
abbrev pub numbered : ℕ → List Colour → List (SiteId × Colour)
numbered k [] = []
numbered k (colour ∷ rest) = (record { 0 = k }, colour) ∷ numbered (k + 1) rest
