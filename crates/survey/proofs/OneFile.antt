-- What is answered on one file of the first form.
use Rattle.std.proofs.Common.{◌≡◌, ℕ, Bool, true, false, cond, List, [], ◌∷◌, Option, Some, None, refl, sym, ap, ◌∙◌, subst}
use Rattle.std.specs.Prelude.{codes}
use Rattle.std.specs.Str.{bytes_eq}
use Rattle.first_form.specs.declared.program.Program.{Program}
use Rattle.first_form.specs.Form.{IsForm}
use Rattle.first_form.proofs.Both.{one_program}
use Rattle.survey.specs.Words.{Asked, only_one, only_file}
use Rattle.survey.specs.Colours.{lines_of, report, status}
use Rattle.survey.specs.Sources.{Source, IsFirst, AllShort, Answered, IsSoundOf}
use Rattle.survey.proofs.Soundness.{sound}
use Rattle.survey.specs.computed.Endings.{AnswersAny, AnswersFile, AnswersFirst, only_source}
use Rattle.survey.specs.declared.answer.Answer.{Answer}
use Rattle.survey.specs.declared.answer.Answer.TheVariants as answers

some_same : {A : Type 0} (x y : A) → Some x ≡ Some y → x ≡ y
some_same x y e = cc

one_if : (b : Bool) (s t : Source) → cond b (Some s) None ≡ Some t → s ≡ t
one_if true s t e = some_same s t e
one_if false s t e = absurd cc

only_source_is : (a : Asked) (sources : List Source) (s : Source) → only_source a sources ≡ Some s → sources ≡ s ∷ []
only_source_is a [] s e = absurd cc
only_source_is a (t ∷ []) s e = ap (λ (x : Source). x ∷ []) (one_if (bytes_eq a.entry (codes "main")) t s e)
only_source_is a (t ∷ u ∷ more) s e = absurd cc

is_main : (b : Bool) (files : List (List ℕ)) (n : List ℕ) → cond b (only_one files) None ≡ Some n → b ≡ true
is_main true files n e = refl
is_main false files n e = absurd cc

-- where the sources are a file of the first form, they are the one source
main_source : (b : Bool) (s : Source) → b ≡ true → cond b (Some s) None ≡ Some s
main_source true s e = refl
main_source false s e = absurd cc

first_source : (a : Asked) (sources : List Source) (name : List ℕ) (program : Program) (f : IsFirst a sources name program) → only_source a sources ≡ Some (record { name = name; bytes = f.bytes })
first_source a sources name program f =
    let main = is_main (bytes_eq a.entry (codes "main")) a.files name f.named in
    let s : Source = record { name = name; bytes = f.bytes } in
    ap (only_source a) f.only ∙ main_source (bytes_eq a.entry (codes "main")) s main

first_is : (a : Asked) (sources : List Source) (s : Source) (name : List ℕ) (program : Program) → only_source a sources ≡ Some s → (f : IsFirst a sources name program) → s ≡ record { name = name; bytes = f.bytes }
first_is a sources s name program e f = some_same s _ (sym e ∙ first_source a sources name program f)

pub short_one : (a : Asked) (sources : List Source) (s : Source) → only_source a sources ≡ Some s → AllShort sources → AllShort (s ∷ [])
short_one a sources s e h = subst (λ (l : List Source). AllShort l) (only_source_is a sources s e) h

-- what is answered on the one source
pub answered : (o : Option Answer) (a : Asked) (sources : List Source) (s : Source) → only_source a sources ≡ Some s → AnswersFile o s.name s.bytes → AnswersFirst o a sources
answered None a sources s e h = λ name program f.
    (let same = first_is a sources s name program e f in
    h program (subst (λ (b : List ℕ). IsForm b program) (sym (ap (λ (x : Source). x.bytes) same)) f.form))
answered (Some (answers.Report text answer)) a sources s e h = record {
  is = (
    record { lines = lines_of s.name h.0; assumed = []; is = h.2; answers = h.3 },
    λ name program f.
        (let same = first_is a sources s name program e f in
        let form : IsForm s.bytes program = subst (λ (b : List ℕ). IsForm b program) (sym (ap (λ (x : Source). x.bytes) same)) f.form in
        let programs : h.0 ≡ program = one_program s.bytes h.0 program h.1 form in
        let names : s.name ≡ name = ap (λ (x : Source). x.name) same in (
          subst (λ (n : List ℕ). text.items ≡ report n program) names (subst (λ (p : Program). text.items ≡ report s.name p) programs h.2),
          subst (λ (n : List ℕ). answer ≡ status n program) names (subst (λ (p : Program). answer ≡ status s.name p) programs h.3),
        )),
  );
}
answered (Some (answers.Refused line)) a sources s e h = absurd h
answered (Some answers.NoMemory) a sources s e h = record { is = tt }

none_first : (o : Option Source) (s : Source) → o ≡ None → o ≡ Some s → ⊥
none_first o s none some = cc

-- no file is of the first form where there is not one source
pub none_answered : (a : Asked) (sources : List Source) → only_source a sources ≡ None → AnswersFirst None a sources
none_answered a sources e = λ name program f. none_first (only_source a sources) _ e (first_source a sources name program f)

-- what is answered on files of another form
pub any_answered : (answer : Answer) (a : Asked) (sources : List Source) → AnswersAny answer → AnswersFirst None a sources → Answered answer a sources
any_answered (answers.Report text answer) a sources h none = record { is = (h, λ name program f. absurd (none name program f)) }
any_answered (answers.Refused line) a sources h none = record { is = (h, none) }
any_answered answers.NoMemory a sources h none = record { is = tt }

-- where the sources are a file of the first form, the report has its lines
pub sound_answer : (answer : Answer) (a : Asked) (sources : List Source) → Answered answer a sources → (name : List ℕ) (program : Program) → IsFirst a sources name program → IsSoundOf program answer
sound_answer (answers.Report text answer) a sources h name program first = (lines_of name program, (h.is.1 name program first).0, sound name program)
sound_answer (answers.Refused line) a sources h name program first = absurd (h.is.1 name program first)
sound_answer answers.NoMemory a sources h name program first = tt
