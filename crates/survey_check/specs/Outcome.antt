-- What the top calls over a database promise. Here `asked` is what the words ask for, `before` and `now` what a sink tells that it
-- has taken, and `Text` which texts are put with which status.
use Rattle.std.specs.Prelude.{◌≡◌, ◌⊎◌, ℕ, ◌≤◌, List, [], ◌++◌, length, take, Option, Some, None}
use Rattle.sv_outside.specs.Outside.{Rose, counted, with_more}
use Rattle.report.specs.declared.line.Line.{Line}
use Rattle.report.specs.Report.{totals_text, report_status}
use Rattle.survey.specs.Words.{Asked}
use Rattle.survey.specs.Outcome.{IsFaultLine, IsReported, LoadedLast, cannot_read_text, usage_text, not_written_text, no_memory_text}
use Rattle.survey_check.specs.Words.{Made}
use Rattle.survey_check.specs.Texts.{disk_failed_text, IsRefusalLine, IsFullLine, trial_words}

-- the totals of a trial, and its status
pub record IsTrial (number functions : ℕ) (text : List ℕ) (answer : ℕ) : Type 0 where
  pub lines : List Line
  pub is : text ≡ trial_words number functions ++ totals_text lines
  pub answers : answer ≡ report_status lines

-- the same, by what is asked for
abbrev pub Totals : Option Made → List ℕ → ℕ → Type 0
Totals (Some made) = IsTrial made.number made.functions
Totals None = λ text answer. ⊥

-- the sink gained a text with this status
pub record Puts (Text : List ℕ → ℕ → Type 0) (before now : Option (List ℕ)) (answer : ℕ) : Type 0 where
  pub text : List ℕ
  pub is : Text text answer
  pub gained : now ≡ with_more before text

-- the sink gained the first bytes of a text
pub record PutsFront (Text : List ℕ → ℕ → Type 0) (before now : Option (List ℕ)) : Type 0 where
  pub text : List ℕ
  pub answer : ℕ
  pub is : Text text answer
  pub count : ℕ
  pub within : count ≤ length text
  pub gained : now ≡ with_more before (take count text)

-- no disk is opened for a call that ends without one, one for each other, and maybe one where memory runs out
pub record Opens (answer before now : ℕ) : Type 0 where
  pub none : (answer ≡ 2) ⊎ ((answer ≡ 3) ⊎ (answer ≡ 4)) → now ≡ before
  pub one : (answer ≡ 0) ⊎ ((answer ≡ 1) ⊎ ((answer ≡ 5) ⊎ ((answer ≡ 6) ⊎ ((answer ≡ 7) ⊎ (answer ≡ 9))))) → now ≡ counted before
  pub most : (now ≡ before) ⊎ (now ≡ counted before)

-- a disk was opened, and has counted a fault since, by its count as it was opened
abbrev pub HasFault : {D : Type 0} → (D → ℕ) → ℕ → Option D → Type 0
HasFault faults opened None = ⊥
HasFault faults opened (Some disk) = Rose opened (faults disk)

-- the texts that tell of the last load, which failed
abbrev pub UnreadAs : Option Asked → ℕ → ℕ → List ℕ → Type 0
UnreadAs asked before now text = (name : List ℕ) × LoadedLast asked name before now × (text ≡ cannot_read_text name)

-- a trial loads nothing
abbrev pub NothingUnread : List ℕ → Type 0
NothingUnread text = ⊥

-- the text of each status was told; `Unread` are the texts that tell of a load that failed
pub record Complains (Unread : List ℕ → Type 0) (answer : ℕ) (Told : List ℕ → Type 0) : Type 0 where
  pub nothing : IsReported answer → Told []
  pub usage : answer ≡ 2 → Told usage_text
  pub refusal : answer ≡ 3 → (text : List ℕ) × IsFaultLine text × Told text
  pub unread : answer ≡ 4 → (text : List ℕ) × Unread text × Told text
  pub failed : answer ≡ 5 → Told disk_failed_text
  pub refused : answer ≡ 6 → (text : List ℕ) × IsRefusalLine text × Told text
  pub unwritten : answer ≡ 7 → Told not_written_text
  pub memory : answer ≡ 8 → Told no_memory_text
  pub full : answer ≡ 9 → (text : List ℕ) × IsFullLine text × Told text
