-- What the top call promises: the report of what was loaded, and the cause of every other answer. Here `told` is what
-- the sources tell of their content, `asked` what the words ask for, and `before` and `now` what a sink tells that it has
-- taken.
use Rattle.std.specs.Prelude.{◌≡◌, ◌⊎◌, ℕ, zero, suc, ◌+◌, ◌<◌, ◌≤◌, List, [], ◌∷◌, ◌++◌, codes, length, take, slice_get, Option, Some, None, IsSome}
use Rattle.sv_base.specs.declared.fault.SourceFault.{SourceFault}
use Rattle.sv_base.specs.declared.limits.TheConstants.{FILE_BYTES}
use Rattle.sv_base.specs.Faults.{IsListed}
use Rattle.sv_outside.specs.Outside.{Files, Rose, counted, with_more}
use Rattle.first_form.specs.declared.program.Program.{Program}
use Rattle.first_form.specs.Form.{IsForm}
use Rattle.report.specs.declared.line.Line.{Line}
use Rattle.report.specs.Report.{report_text, report_status}
use Rattle.report.specs.Faults.{fault_text}
use Rattle.survey.specs.Words.{Asked, only_file}
use Rattle.survey.specs.Colours.{report, status}
use Rattle.survey.specs.Sound.{IsSound}

-- the text of a report: a line for each site, one for each assumed function, and the totals; and its status
pub record IsReport (text : List ℕ) (answer : ℕ) : Type 0 where
  pub lines : List Line
  pub assumed : List (List ℕ)
  pub is : text ≡ report_text lines assumed
  pub answers : answer ≡ report_status lines

-- the line of a fault that stands in the table of faults, in a file that has a name
pub record IsFaultLine (text : List ℕ) : Type 0 where
  pub fault : SourceFault
  pub names : List (List ℕ)
  pub listed : IsListed fault.kind
  pub named : fault.place.file.0 < length names
  pub is : text ≡ fault_text fault names

-- the sources tell that the words ask for one file from `main` alone, and that it is this program of the first form
pub record IsFirstForm (told : Option Files) (asked : Option Asked) (name : List ℕ) (program : Program) : Type 0 where
  pub files : Files
  pub is_told : told ≡ Some files
  pub what : Asked
  pub asks : asked ≡ Some what
  pub named : only_file what ≡ Some name
  pub bytes : List ℕ
  pub found : files name ≡ Some bytes
  pub short : length bytes ≤ FILE_BYTES
  pub form : IsForm bytes program

-- the sink gained a report with this status
pub record Reports (before now : Option (List ℕ)) (answer : ℕ) : Type 0 where
  pub text : List ℕ
  pub report : IsReport text answer
  pub gained : now ≡ with_more before text

-- the sink gained the text of lines whose colours are true of every run of the program
pub record ReportsSound (program : Program) (before now : Option (List ℕ)) : Type 0 where
  pub lines : List Line
  pub gained : now ≡ with_more before (report_text lines [])
  pub sound : IsSound program lines

-- the sink gained the first bytes of a report
pub record CutsOff (before now : Option (List ℕ)) : Type 0 where
  pub text : List ℕ
  pub answer : ℕ
  pub report : IsReport text answer
  pub count : ℕ
  pub within : count ≤ length text
  pub gained : now ≡ with_more before (take count text)

-- the sink gained the first bytes of this text
abbrev pub GainsFront : Option (List ℕ) → Option (List ℕ) → List ℕ → Type 0
GainsFront before now text = (count : ℕ) × (count ≤ length text) × (now ≡ with_more before (take count text))

-- the report of this program of the first form, and its status
pub record Gives (name : List ℕ) (program : Program) (before now : Option (List ℕ)) (answer : ℕ) : Type 0 where
  pub answers : answer ≡ status name program
  pub gained : now ≡ with_more before (report name program)

-- the sources tell that a file that the words ask for has more bytes than a file may have
pub record IsTooLarge (told : Option Files) (asked : Option Asked) : Type 0 where
  pub files : Files
  pub is_told : told ≡ Some files
  pub what : Asked
  pub asks : asked ≡ Some what
  pub place : ℕ
  pub name : List ℕ
  pub named : slice_get what.files place ≡ Some name
  pub bytes : List ℕ
  pub found : files name ≡ Some bytes
  pub long : FILE_BYTES < length bytes

-- the count of loads after so many more
abbrev pub loads_after : ℕ → ℕ → ℕ
loads_after zero before = before
loads_after (suc n) before = counted (loads_after n before)

-- so many of the files were loaded, all of them before a report is made
pub record LoadsSome (a : Asked) (answer before now : ℕ) : Type 0 where
  pub count : ℕ
  pub within : count ≤ length a.files
  pub is : now ≡ loads_after count before
  pub whole : (answer ≡ 0) ⊎ ((answer ≡ 1) ⊎ (answer ≡ 7)) → count ≡ length a.files

-- the loads that a call counts
abbrev pub Loads : Option Asked → ℕ → ℕ → ℕ → Type 0
Loads None answer before now = now ≡ before
Loads (Some a) answer before now = LoadsSome a answer before now

-- the last load that was counted is that of the file of this name
pub record LoadedLast (asked : Option Asked) (name : List ℕ) (before now : ℕ) : Type 0 where
  pub what : Asked
  pub asks : asked ≡ Some what
  pub count : ℕ
  pub named : slice_get what.files count ≡ Some name
  pub is : now ≡ counted (loads_after count before)

-- a call answers one of these
abbrev pub IsStatus : ℕ → Type 0
IsStatus answer = (answer ≡ 0) ⊎ ((answer ≡ 1) ⊎ ((answer ≡ 2) ⊎ ((answer ≡ 3) ⊎ ((answer ≡ 4) ⊎ ((answer ≡ 7) ⊎ (answer ≡ 8))))))

-- the report was printed
abbrev pub IsReported : ℕ → Type 0
IsReported answer = (answer ≡ 0) ⊎ (answer ≡ 1)

-- the texts on the sink of errors

abbrev pub usage_text : List ℕ
usage_text = codes "usage: surveyor check|alone|trial\n"

unfoldable pub cannot_read_text : List ℕ → List ℕ
cannot_read_text name = codes "surveyor: cannot read " ++ name ++ codes "\n"

abbrev pub not_written_text : List ℕ
not_written_text = codes "surveyor: cannot write the report\n"

abbrev pub no_memory_text : List ℕ
no_memory_text = codes "surveyor: no memory\n"

-- a sink gained the first bytes of the text, and all of it where none of its counts rose
pub record Tells (before now : Option (List ℕ)) (faults_before faults_now refusals_before refusals_now : ℕ) (text : List ℕ) : Type 0 where
  pub count : ℕ
  pub within : count ≤ length text
  pub gained : now ≡ with_more before (take count text)
  pub whole : ¬ (Rose faults_before faults_now) → ¬ (Rose refusals_before refusals_now) → count ≡ length text

-- the text of each status was told
pub record Complains (asked : Option Asked) (loads_before loads_now : ℕ) (answer : ℕ) (Told : List ℕ → Type 0) : Type 0 where
  pub nothing : IsReported answer → Told []
  pub usage : answer ≡ 2 → Told usage_text
  pub refusal : answer ≡ 3 → (text : List ℕ) × (line : IsFaultLine text) × Told text
  pub unread : answer ≡ 4 → (name : List ℕ) × (last : LoadedLast asked name loads_before loads_now) × Told (cannot_read_text name)
  pub unwritten : answer ≡ 7 → Told not_written_text
  pub memory : answer ≡ 8 → Told no_memory_text
