-- How a call ends inside, before its status is told.
use Rattle.std.specs.Prelude.{◌≡◌, ◌⊎◌, ℕ, ◌≤◌, List, Option, Some, None, string_bytes}
use Rattle.sv_outside.specs.Outside.{Rose, counted, with_more}
use Rattle.survey.specs.Outcome.{IsReport, IsFaultLine, GainsFront}
use Rattle.survey.specs.computed.Asking.{asking}
use Rattle.survey.specs.computed.Endings.{complaint_text as plain_text, status_number as plain_number}
use Rattle.survey.specs.declared.ending.Ending.TheVariants as plain
use Rattle.survey_check.specs.Words.{Wanted, Made}
use Rattle.survey_check.specs.Texts.{disk_failed_text, IsRefusalLine, IsFullLine}
use Rattle.survey_check.specs.Outcome.{IsTrial, Puts, PutsFront}
use Rattle.survey_check.specs.declared.ending.Ending.{Ending}
use Rattle.survey_check.specs.declared.ending.Ending.TheVariants as endings
use Rattle.survey_check.specs.declared.request.Request.{Request}
use Rattle.survey_check.specs.declared.request.Trial.{Trial}

abbrev pub wanting : Request → Wanted
wanting r = record { asked = asking r.asked; path = string_bytes r.path; workers = r.workers }

abbrev pub making : Trial → Made
making t = record { number = t.number; functions = t.functions }

-- the texts that are put: a report, or the totals of a trial
abbrev pub Text : Option Trial → List ℕ → ℕ → Type 0
Text None = IsReport
Text (Some trial) = IsTrial trial.number trial.functions

-- the text of an ending
abbrev pub told_text : Ending → List ℕ
told_text (endings.Plain e) = plain_text e
told_text endings.DiskFailed = disk_failed_text
told_text (endings.Refused line) = line.items
told_text (endings.Full line) = line.items

abbrev pub status_number : Ending → ℕ
status_number (endings.Plain e) = plain_number e
status_number endings.DiskFailed = 5
status_number (endings.Refused line) = 6
status_number (endings.Full line) = 9

-- what was counted of loads, puts and opened disks, before a call and now
pub record Counts : Type 0 where
  pub unread_before : ℕ
  pub unread_now : ℕ
  pub puts_before : ℕ
  pub puts_now : ℕ
  pub opens_before : ℕ
  pub opens_now : ℕ
  pub unopened_before : ℕ
  pub unopened_now : ℕ

-- the words are accepted
pub record Accepted {A : Type 0} (asked : Option A) : Type 0 where
  pub what : A
  pub asks : asked ≡ Some what

-- every load and put went through
pub record Clean (c : Counts) : Type 0 where
  pub read : c.unread_now ≡ c.unread_before
  pub put : c.puts_now ≡ c.puts_before

-- the sink of reports gained nothing
pub record Quiet (before now : Option (List ℕ)) (c : Counts) : Type 0 where
  pub put : c.puts_now ≡ c.puts_before
  pub same : now ≡ before

pub record Unopened (c : Counts) : Type 0 where
  pub opens : c.opens_now ≡ c.opens_before
  pub opened : c.unopened_now ≡ c.unopened_before

pub record Opened (c : Counts) : Type 0 where
  pub opens : c.opens_now ≡ counted c.opens_before
  pub opened : c.unopened_now ≡ c.unopened_before

-- how a whole call ends
abbrev pub EndsAs : {A : Type 0} → Ending → (List ℕ → ℕ → Type 0) → (List ℕ → Type 0) → Option A → Option (List ℕ) → Option (List ℕ) → Counts → Type 0
EndsAs (endings.Plain (plain.Reported answer)) Texts Unread asked before now c = Puts Texts before now answer × (answer ≤ 1) × Accepted asked × Clean c × Opened c
EndsAs (endings.Plain plain.NotWritten) Texts Unread asked before now c = PutsFront Texts before now × Accepted asked × (c.unread_now ≡ c.unread_before) × Rose c.puts_before c.puts_now × Opened c
EndsAs (endings.Plain (plain.Refused line)) Texts Unread asked before now c = IsFaultLine line.items × Accepted asked × (c.unread_now ≡ c.unread_before) × Quiet before now c × Unopened c
EndsAs (endings.Plain (plain.CannotRead text)) Texts Unread asked before now c = Unread text.items × Accepted asked × Rose c.unread_before c.unread_now × Quiet before now c × Unopened c
EndsAs (endings.Plain plain.NoMemory) Texts Unread asked before now c = Quiet before now c × (Unopened c ⊎ Opened c)
EndsAs (endings.Plain plain.Usage) Texts Unread asked before now c = (asked ≡ None) × (c.unread_now ≡ c.unread_before) × Quiet before now c × Unopened c
EndsAs endings.DiskFailed Texts Unread asked before now c = Accepted asked × (c.unread_now ≡ c.unread_before) × Quiet before now c × (c.opens_now ≡ counted c.opens_before)
EndsAs (endings.Refused line) Texts Unread asked before now c = IsRefusalLine line.items × Accepted asked × (c.unread_now ≡ c.unread_before) × Quiet before now c × Opened c
EndsAs (endings.Full line) Texts Unread asked before now c = IsFullLine line.items × Accepted asked × (c.unread_now ≡ c.unread_before) × Quiet before now c × Opened c

-- the same as a record, from which its parts are found
pub record Ends {A : Type 0} (e : Ending) (Texts : List ℕ → ℕ → Type 0) (Unread : List ℕ → Type 0) (asked : Option A) (before now : Option (List ℕ)) (c : Counts) : Type 0 where
  pub ends : EndsAs e Texts Unread asked before now c

-- how a database that is not opened is told
abbrev pub IsUnopened : Ending → Type 0
IsUnopened (endings.Refused line) = IsRefusalLine line.items
IsUnopened (endings.Plain plain.NoMemory) = Unit {0}
IsUnopened (endings.Plain other) = ⊥
IsUnopened endings.DiskFailed = Unit {0}
IsUnopened (endings.Full line) = ⊥

-- why the rounds are not all computed
abbrev pub IsStopped : Ending → Type 0
IsStopped (endings.Full line) = IsFullLine line.items
IsStopped (endings.Plain plain.NoMemory) = Unit {0}
IsStopped (endings.Plain other) = ⊥
IsStopped endings.DiskFailed = Unit {0}
IsStopped (endings.Refused line) = ⊥

-- how a text was put, with this status
abbrev pub PutAs : Ending → List ℕ → ℕ → Option (List ℕ) → Option (List ℕ) → ℕ → ℕ → Type 0
PutAs (endings.Plain (plain.Reported status)) text answer before now puts_before puts_now = (status ≡ answer) × (now ≡ with_more before text) × (puts_now ≡ puts_before)
PutAs (endings.Plain plain.NotWritten) text answer before now puts_before puts_now = GainsFront before now text × Rose puts_before puts_now
PutAs (endings.Plain plain.NoMemory) text answer before now puts_before puts_now = (now ≡ before) × (puts_now ≡ puts_before)
PutAs (endings.Plain other) text answer before now puts_before puts_now = ⊥
PutAs endings.DiskFailed text answer before now puts_before puts_now = ⊥
PutAs (endings.Refused line) text answer before now puts_before puts_now = ⊥
PutAs (endings.Full line) text answer before now puts_before puts_now = ⊥

-- how a call ends whose database was opened
abbrev pub ConcludesAs : Ending → (List ℕ → ℕ → Type 0) → Option (List ℕ) → Option (List ℕ) → ℕ → ℕ → Type 0
ConcludesAs (endings.Plain (plain.Reported answer)) Texts before now puts_before puts_now = Puts Texts before now answer × (answer ≤ 1) × (puts_now ≡ puts_before)
ConcludesAs (endings.Plain plain.NotWritten) Texts before now puts_before puts_now = PutsFront Texts before now × Rose puts_before puts_now
ConcludesAs (endings.Plain plain.NoMemory) Texts before now puts_before puts_now = (now ≡ before) × (puts_now ≡ puts_before)
ConcludesAs (endings.Plain other) Texts before now puts_before puts_now = ⊥
ConcludesAs endings.DiskFailed Texts before now puts_before puts_now = (now ≡ before) × (puts_now ≡ puts_before)
ConcludesAs (endings.Full line) Texts before now puts_before puts_now = IsFullLine line.items × (now ≡ before) × (puts_now ≡ puts_before)
ConcludesAs (endings.Refused line) Texts before now puts_before puts_now = ⊥

-- the same as a record
pub record Concludes (e : Ending) (Texts : List ℕ → ℕ → Type 0) (before now : Option (List ℕ)) (puts_before puts_now : ℕ) : Type 0 where
  pub ends : ConcludesAs e Texts before now puts_before puts_now
