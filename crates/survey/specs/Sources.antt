-- What is answered on files by their bytes.
use Rattle.std.specs.Prelude.{◌≡◌, ℕ, ◌≤◌, List, [], ◌∷◌, length, map, Some, string_bytes}
use Rattle.sv_base.specs.declared.limits.TheConstants.{FILE_BYTES}
use Rattle.first_form.specs.declared.program.Program.{Program}
use Rattle.first_form.specs.Form.{IsForm}
use Rattle.report.specs.declared.line.Line.{Line}
use Rattle.report.specs.Report.{report_text}
use Rattle.c_front.specs.declared.files.SourceFile.{SourceFile}
use Rattle.survey.specs.Colours.{report, status}
use Rattle.survey.specs.Sound.{IsSound}
use Rattle.survey.specs.Words.{Asked, only_file}
use Rattle.survey.specs.Outcome.{IsReport, IsFaultLine}
use Rattle.survey.specs.declared.answer.Answer.{Answer}
use Rattle.survey.specs.declared.answer.Answer.TheVariants as answers

-- the bytes of a text, and those that stand under the name
pub record Source : Type 0 where
  pub name : List ℕ
  pub bytes : List ℕ

abbrev pub source_of : SourceFile → Source
source_of f = record { name = string_bytes f.name; bytes = f.bytes.items }

abbrev pub sources_of : List SourceFile → List Source
sources_of files = map source_of files

-- each has no more bytes than a file may have
abbrev pub AllShort : List Source → Type 0
AllShort [] = Unit {0}
AllShort (s ∷ more) = (length s.bytes ≤ FILE_BYTES) × AllShort more

-- these sources are one file, asked for from `main` alone, of the first form
pub record IsFirst (a : Asked) (sources : List Source) (name : List ℕ) (program : Program) : Type 0 where
  pub named : only_file a ≡ Some name
  pub bytes : List ℕ
  pub only : sources ≡ record { name = name; bytes = bytes } ∷ []
  pub form : IsForm bytes program

-- what is answered on these sources
abbrev pub Answers : Answer → Asked → List Source → Type 0
Answers (answers.Report text answer) a sources =
    IsReport text.items answer × ((name : List ℕ) (program : Program) → IsFirst a sources name program → (text.items ≡ report name program) × (answer ≡ status name program))
Answers (answers.Refused line) a sources = IsFaultLine line.items × ((name : List ℕ) (program : Program) → ¬ IsFirst a sources name program)
Answers answers.NoMemory a sources = Unit {0}

-- the same as a record, from which its parts are found
pub record Answered (answer : Answer) (a : Asked) (sources : List Source) : Type 0 where
  pub is : Answers answer a sources

-- of a program of the first form the colours are true of every run
abbrev pub IsSoundOf : Program → Answer → Type 0
IsSoundOf program (answers.Report text answer) = (lines : List Line) × (text.items ≡ report_text lines []) × IsSound program lines
IsSoundOf program (answers.Refused line) = ⊥
IsSoundOf program answers.NoMemory = Unit {0}
