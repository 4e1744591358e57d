-- How a call ends inside, before its status is told.
use Rattle.std.specs.Prelude.{◌≡◌, ◌⊎◌, if◌then◌else◌, codes, ℕ, ◌≤◌, ◌<◌, List, [], ◌∷◌, length, map, take, slice_get, Option, Some, None, IfSome, string_bytes}
use Rattle.std.specs.Str.{bytes_eq}
use Rattle.sv_base.specs.declared.limits.TheConstants.{FILE_BYTES}
use Rattle.sv_outside.specs.Outside.{Files, Rose, with_more}
use Rattle.first_form.specs.declared.program.Program.{Program}
use Rattle.first_form.specs.Form.{IsForm}
use Rattle.c_front.specs.declared.files.SourceFile.{SourceFile}
use Rattle.survey.specs.Colours.{report, status}
use Rattle.survey.specs.Words.{Asked}
use Rattle.survey.specs.Sources.{Source, IsFirst, Answered}
use Rattle.survey.specs.Outcome.{IsReport, IsFaultLine, IsFirstForm, IsTooLarge, Reports, CutsOff, GainsFront, Gives, LoadsSome, LoadedLast, loads_after, usage_text, cannot_read_text, not_written_text, no_memory_text}
use Rattle.survey.specs.declared.answer.Answer.{Answer}
use Rattle.survey.specs.declared.answer.Answer.TheVariants as answers
use Rattle.survey.specs.declared.ending.Ending.{Ending}
use Rattle.survey.specs.declared.ending.Ending.TheVariants as endings

-- these bytes stand under the name, where the sources tell what they hold, and they are no more than a file may have
pub record Stands (told : Option Files) (s : Source) : Type 0 where
  pub found : IfSome told (λ files. files s.name ≡ Some s.bytes)
  pub short : length s.bytes ≤ FILE_BYTES

-- the sources under the names, in order
abbrev pub AllStand : Option Files → List (List ℕ) → List Source → Type 0
AllStand told [] [] = Unit {0}
AllStand told (name ∷ names) (s ∷ more) = (s.name ≡ name) × Stands told s × AllStand told names more
AllStand told [] (s ∷ more) = ⊥
AllStand told (name ∷ names) [] = ⊥

-- what is answered on files of any form
abbrev pub AnswersAny : Answer → Type 0
AnswersAny (answers.Report text answer) = IsReport text.items answer
AnswersAny (answers.Refused line) = IsFaultLine line.items
AnswersAny answers.NoMemory = Unit {0}

-- what is answered on one file of the first form; nothing where it is of another
abbrev pub AnswersFile : Option Answer → List ℕ → List ℕ → Type 0
AnswersFile None name bytes = (program : Program) → ¬ IsForm bytes program
AnswersFile (Some (answers.Report text answer)) name bytes = (program : Program) × IsForm bytes program × (text.items ≡ report name program) × (answer ≡ status name program)
AnswersFile (Some (answers.Refused line)) name bytes = ⊥
AnswersFile (Some answers.NoMemory) name bytes = Unit {0}

-- what is answered on these sources where they are one file of the first form; nothing where they are none
abbrev pub AnswersFirst : Option Answer → Asked → List Source → Type 0
AnswersFirst (Some answer) a sources = Answered answer a sources
AnswersFirst None a sources = (name : List ℕ) (program : Program) → ¬ IsFirst a sources name program

-- what was counted of loads and puts, before a call and now
pub record Counts : Type 0 where
  pub loads_before : ℕ
  pub loads_now : ℕ
  pub unread_before : ℕ
  pub unread_now : ℕ
  pub puts_before : ℕ
  pub puts_now : ℕ

-- a report was put
abbrev pub Reported : Option Files → Option Asked → Option (List ℕ) → Option (List ℕ) → ℕ → Type 0
Reported told asked before now answer =
    Reports before now answer × ((name : List ℕ) (program : Program) → IsFirstForm told asked name program → Gives name program before now answer)

-- a report was put in part
abbrev pub Cut : Option Files → Option Asked → Option (List ℕ) → Option (List ℕ) → Type 0
Cut told asked before now =
    CutsOff before now × ((name : List ℕ) (program : Program) → IsFirstForm told asked name program → GainsFront before now (report name program))

-- so many of the files that are asked for were loaded
pub record Loaded (asked : Option Asked) (answer before now : ℕ) : Type 0 where
  pub what : Asked
  pub asks : asked ≡ Some what
  pub some : LoadsSome what answer before now

-- how a whole call ends
abbrev pub EndsAs : Ending → Option Files → Option Asked → Option (List ℕ) → Option (List ℕ) → Counts → Type 0
EndsAs (endings.Reported answer) told asked before now c =
    Reported told asked before now answer × ¬ IsTooLarge told asked × Loaded asked answer c.loads_before c.loads_now × (c.unread_now ≡ c.unread_before) × (c.puts_now ≡ c.puts_before)
EndsAs endings.NotWritten told asked before now c =
    Cut told asked before now × ¬ IsTooLarge told asked × Loaded asked 7 c.loads_before c.loads_now × (c.unread_now ≡ c.unread_before) × Rose c.puts_before c.puts_now
EndsAs (endings.Refused line) told asked before now c =
    IsFaultLine line.items × ((name : List ℕ) (program : Program) → ¬ IsFirstForm told asked name program) × Loaded asked 3 c.loads_before c.loads_now × (c.unread_now ≡ c.unread_before) × (c.puts_now ≡ c.puts_before) × (now ≡ before)
EndsAs (endings.CannotRead text) told asked before now c =
    ((name : List ℕ) × (last : LoadedLast asked name c.loads_before c.loads_now) × (text.items ≡ cannot_read_text name)) × Rose c.unread_before c.unread_now × (c.puts_now ≡ c.puts_before) × (now ≡ before)
EndsAs endings.NoMemory told asked before now c =
    ((what : Asked) → asked ≡ Some what → LoadsSome what 8 c.loads_before c.loads_now) × (asked ≡ None → c.loads_now ≡ c.loads_before) × (c.puts_now ≡ c.puts_before) × (now ≡ before)
EndsAs endings.Usage told asked before now c =
    (asked ≡ None) × (c.loads_now ≡ c.loads_before) × (c.unread_now ≡ c.unread_before) × (c.puts_now ≡ c.puts_before) × (now ≡ before)

-- the same as a record, from which its parts are found
pub record Ended (e : Ending) (told : Option Files) (asked : Option Asked) (before now : Option (List ℕ)) (c : Counts) : Type 0 where
  pub ends : EndsAs e told asked before now c

-- how a load of the files ends where it does not go through: without a report
abbrev pub StopsAs : Ending → Option Files → Asked → Counts → Type 0
StopsAs (endings.Refused line) told a c =
    IsFaultLine line.items × ((name : List ℕ) (program : Program) → ¬ IsFirstForm told (Some a) name program) × LoadsSome a 3 c.loads_before c.loads_now × (c.unread_now ≡ c.unread_before)
StopsAs (endings.CannotRead text) told a c =
    ((name : List ℕ) × (last : LoadedLast (Some a) name c.loads_before c.loads_now) × (text.items ≡ cannot_read_text name)) × Rose c.unread_before c.unread_now
StopsAs endings.NoMemory told a c = LoadsSome a 8 c.loads_before c.loads_now
StopsAs (endings.Reported answer) told a c = ⊥
StopsAs endings.NotWritten told a c = ⊥
StopsAs endings.Usage told a c = ⊥

-- the same as a record
pub record Stopped (e : Ending) (told : Option Files) (a : Asked) (c : Counts) : Type 0 where
  pub stops : StopsAs e told a c

-- the text of an ending
abbrev pub complaint_text : Ending → List ℕ
complaint_text (endings.Reported answer) = []
complaint_text endings.Usage = usage_text
complaint_text (endings.Refused line) = line.items
complaint_text (endings.CannotRead text) = text.items
complaint_text endings.NotWritten = not_written_text
complaint_text endings.NoMemory = no_memory_text

abbrev pub status_number : Ending → ℕ
status_number (endings.Reported answer) = answer
status_number endings.Usage = 2
status_number (endings.Refused line) = 3
status_number (endings.CannotRead text) = 4
status_number endings.NotWritten = 7
status_number endings.NoMemory = 8

-- how a refused file as a whole is told
abbrev pub IsRefusal : Ending → Type 0
IsRefusal (endings.Refused line) = IsFaultLine line.items
IsRefusal endings.NoMemory = Unit {0}
IsRefusal (endings.Reported answer) = ⊥
IsRefusal (endings.CannotRead text) = ⊥
IsRefusal endings.NotWritten = ⊥
IsRefusal endings.Usage = ⊥

-- how a load that failed is told
abbrev pub IsUnread : Ending → List ℕ → Type 0
IsUnread (endings.CannotRead text) name = text.items ≡ cannot_read_text name
IsUnread endings.NoMemory name = Unit {0}
IsUnread (endings.Refused line) name = ⊥
IsUnread (endings.Reported answer) name = ⊥
IsUnread endings.NotWritten name = ⊥
IsUnread endings.Usage name = ⊥

-- what stands under the name has more bytes than a file may have
abbrev pub IsLong : Option Files → List ℕ → Type 0
IsLong told name = IfSome told (λ files. (bytes : List ℕ) × (files name ≡ Some bytes) × (FILE_BYTES < length bytes))

-- how a load of one file ends where it does not go through, with so much room for the bytes of the files that are left
abbrev pub StopsOne : Ending → Option Files → List ℕ → ℕ → ℕ → ℕ → Type 0
StopsOne (endings.Refused line) told name room before now = IsFaultLine line.items × (IsLong told name ⊎ (room < FILE_BYTES)) × (now ≡ before)
StopsOne (endings.CannotRead text) told name room before now = (text.items ≡ cannot_read_text name) × Rose before now
StopsOne endings.NoMemory told name room before now = Unit {0}
StopsOne (endings.Reported answer) told name room before now = ⊥
StopsOne endings.NotWritten told name room before now = ⊥
StopsOne endings.Usage told name room before now = ⊥

-- the one file that is asked for from `main` alone, where these are its sources
abbrev pub only_source : Asked → List Source → Option Source
only_source a (s ∷ []) = if bytes_eq a.entry (codes "main") then Some s else None
only_source a [] = None
only_source a (s ∷ t ∷ more) = None

-- how an answer was put
abbrev pub PutAs : Ending → Answer → Option (List ℕ) → Option (List ℕ) → ℕ → ℕ → Type 0
PutAs (endings.Reported status) (answers.Report text answer) before now faults_before faults_now = (status ≡ answer) × (now ≡ with_more before text.items) × (faults_now ≡ faults_before)
PutAs endings.NotWritten (answers.Report text answer) before now faults_before faults_now = GainsFront before now text.items × Rose faults_before faults_now
PutAs endings.NoMemory answer before now faults_before faults_now = (now ≡ before) × (faults_now ≡ faults_before)
PutAs (endings.Refused line) (answers.Refused said) before now faults_before faults_now = (line ≡ said) × (now ≡ before) × (faults_now ≡ faults_before)
PutAs e answer before now faults_before faults_now = ⊥
