-- Each status has its cause, by how the call ended.
use Rattle.std.proofs.Common.{◌≡◌, ◌≢◌, ◌⊎◌, ℕ, zero, suc, ◌<◌, ◌≤◌, Bool, true, false, cond, List, [], ◌∷◌, length, take, Option, Some, None, refl, sym, ap, ◌∙◌, subst, inl, inr, arith}
use Rattle.std.specs.Prelude.{IfSome, IsSome, slice_get}
use Rattle.std.proofs.Common.{Vec, Global}
use Rattle.std.proofs.lemmas.Option.{slice_get_within}
use Rattle.std.specs.List.{list_any}
use Rattle.sv_outside.specs.Outside.{Files, Rose, with_more}
use Rattle.first_form.specs.declared.program.Program.{Program}
use Rattle.report.specs.declared.line.Line.{Line}
use Rattle.report.specs.Report.{is_alarm, report_status}
use Rattle.survey.specs.Words.{Asked}
use Rattle.survey.specs.Colours.{lines_of, report, status}
use Rattle.survey.specs.Outcome.{IsReport, IsFaultLine, IsFirstForm, IsTooLarge, Reports, ReportsSound, CutsOff, GainsFront, Gives, Loads, LoadsSome, LoadedLast, IsStatus, IsReported, Complains, loads_after}
use Rattle.survey.specs.Sources.{Source, IsFirst, Answers, Answered}
use Rattle.survey.specs.computed.Endings.{AllStand, PutAs, Counts, Loaded, Reported, Cut, Ended, Stopped, complaint_text, status_number}
use Rattle.survey.specs.declared.answer.Answer.{Answer}
use Rattle.survey.specs.declared.answer.Answer.TheVariants as answers
use Rattle.survey.specs.declared.ending.Ending.{Ending}
use Rattle.survey.specs.declared.ending.Ending.TheVariants as endings
use Rattle.survey.proofs.Loads.{none_long, is_first}
use Rattle.survey.proofs.Soundness.{sound}

one_or_none : (b : Bool) (n : ℕ) → n ≡ cond b 1 0 → (n ≡ 0) ⊎ (n ≡ 1)
one_or_none true n e = inr e
one_or_none false n e = inl e

some_same : {A : Type 0} (x y : A) → Some x ≡ Some y → x ≡ y
some_same x y e = cc

none_asked : (asked : Option Asked) (a : Asked) → asked ≡ Some a → asked ≡ None → ⊥
none_asked asked a is none = cc

-- a report has status 0 or 1
small : {text : List ℕ} {answer : ℕ} → IsReport text answer → (answer ≡ 0) ⊎ (answer ≡ 1)
small {text} {answer} r = one_or_none (list_any (λ l. is_alarm l.colour) r.lines) answer r.answers

reported_small : {before now : Option (List ℕ)} {answer : ℕ} → Reports before now answer → (answer ≡ 0) ⊎ (answer ≡ 1)
reported_small r = small r.report

not_reported : {before now : Option (List ℕ)} (answer n : ℕ) → Reports before now answer → 1 < n → answer ≢ n
not_reported answer n h lt e = elim (reported_small h) [ inl z ↦ omega arith | inr z ↦ omega arith ]

only : (n : ℕ) → 1 < n → IsReported n → ⊥
only n lt (inl e) = omega arith
only n lt (inr e) = omega arith

-- ---- after the files were loaded

module _ (told : Option Files) (a : Asked) (sources : List Source) (stand : AllStand told a.files sources) where
  not_large : IsTooLarge told (Some a) → ⊥
  not_large t =
      let same : a ≡ t.what = some_same a t.what t.asks in
      let here = subst (λ (x : Option Files). AllStand x a.files sources) t.is_told stand in
      none_long t.files a.files sources t.place t.name t.bytes here (subst (λ (x : Asked). slice_get x.files t.place ≡ Some t.name) (sym same) t.named) t.found t.long

  loads_all : (answer before now : ℕ) → now ≡ loads_after (length a.files) before → LoadsSome a answer before now
  loads_all answer before now is = record { count = length a.files; within = omega arith; is = is; whole = λ z. refl }

  loaded_all : (answer before now : ℕ) → now ≡ loads_after (length a.files) before → Loaded (Some a) answer before now
  loaded_all answer before now is = record { what = a; asks = refl; some = loads_all answer before now is }

  -- how a call ends that loaded all the files, by what was answered on them and how that was put
  pub ends : (e : Ending) (answer : Answer) (before now : Option (List ℕ)) (c : Counts) → Answered answer a sources → PutAs e answer before now c.puts_before c.puts_now → c.unread_now ≡ c.unread_before → c.loads_now ≡ loads_after (length a.files) c.loads_before → Ended e told (Some a) before now c
  ends (endings.Reported status) (answers.Report text answer) before now c h p read loads =
      record {
        ends = subst (λ (n : ℕ). Reported told (Some a) before now n × ¬ IsTooLarge told (Some a) × Loaded (Some a) n c.loads_before c.loads_now × (c.unread_now ≡ c.unread_before) × (c.puts_now ≡ c.puts_before)) (sym p.0) (
          (
            record { text = text.items; report = h.is.0; gained = p.1 },
            λ name program f. (let is = h.is.1 name program (is_first told a sources name program stand f) in
                record { answers = is.1; gained = p.1 ∙ ap (with_more before) is.0 }),
          ),
          not_large,
          loaded_all answer c.loads_before c.loads_now loads,
          read,
          p.2,
        );
      }
  ends endings.NotWritten (answers.Report text answer) before now c h p read loads =
      record {
        ends = (
          (
            record { text = text.items; answer = answer; report = h.is.0; count = p.0.0; within = p.0.1; gained = p.0.2 },
            λ name program f. (let is = h.is.1 name program (is_first told a sources name program stand f) in
                subst (λ (t : List ℕ). GainsFront before now t) is.0 p.0),
          ),
          not_large,
          loaded_all 7 c.loads_before c.loads_now loads,
          read,
          p.1,
        );
      }
  ends endings.NoMemory answer before now c h p read loads =
      record { ends = ((λ what is. subst (λ (x : Asked). LoadsSome x 8 c.loads_before c.loads_now) (some_same a what is) (loads_all 8 c.loads_before c.loads_now loads)), (λ none. absurd (none_asked (Some a) a refl none)), p.1, p.0) }
  ends (endings.Refused line) (answers.Refused said) before now c h p read loads =
      record { ends = (subst (λ (t : Vec ℕ Global). IsFaultLine t.items) (sym p.0) h.is.0, (λ name program f. h.is.1 name program (is_first told a sources name program stand f)), loaded_all 3 c.loads_before c.loads_now loads, read, p.2, p.1) }
  ends (endings.Reported status) (answers.Refused said) before now c h p read loads = absurd p
  ends (endings.Reported status) answers.NoMemory before now c h p read loads = absurd p
  ends endings.NotWritten (answers.Refused said) before now c h p read loads = absurd p
  ends endings.NotWritten answers.NoMemory before now c h p read loads = absurd p
  ends (endings.Refused line) (answers.Report text answer) before now c h p read loads = absurd p
  ends (endings.Refused line) answers.NoMemory before now c h p read loads = absurd p
  ends (endings.CannotRead text) answer before now c h p read loads = absurd p
  ends endings.Usage answer before now c h p read loads = absurd p

-- how a call ends whose loads stopped
pub ends_early : (told : Option Files) (a : Asked) (e : Ending) (before : Option (List ℕ)) (loads_before loads_now unread_before unread_now puts : ℕ) → Stopped e told a (record { loads_before = loads_before; loads_now = loads_now; unread_before = unread_before; unread_now = unread_now; puts_before = 0; puts_now = 0 }) → Ended e told (Some a) before before (record { loads_before = loads_before; loads_now = loads_now; unread_before = unread_before; unread_now = unread_now; puts_before = puts; puts_now = puts })
ends_early told a (endings.Refused line) before l0 l1 u0 u1 puts h = record { ends = (h.stops.0, h.stops.1, record { what = a; asks = refl; some = h.stops.2 }, h.stops.3, refl, refl) }
ends_early told a (endings.CannotRead text) before l0 l1 u0 u1 puts h = record { ends = (h.stops.0, h.stops.1, refl, refl) }
ends_early told a endings.NoMemory before l0 l1 u0 u1 puts h = record { ends = ((λ what is. subst (λ (x : Asked). LoadsSome x 8 l0 l1) (some_same a what is) h.stops), (λ none. absurd (none_asked (Some a) a refl none)), refl, refl) }
ends_early told a (endings.Reported answer) before l0 l1 u0 u1 puts h = absurd h.stops
ends_early told a endings.NotWritten before l0 l1 u0 u1 puts h = absurd h.stops
ends_early told a endings.Usage before l0 l1 u0 u1 puts h = absurd h.stops

loads_of : (asked : Option Asked) (answer l0 l1 : ℕ) → Loaded asked answer l0 l1 → Loads asked answer l0 l1
loads_of asked answer l0 l1 l = subst (λ (o : Option Asked). Loads o answer l0 l1) (sym l.asks) l.some

loads_last : (asked : Option Asked) (name : List ℕ) (l0 l1 : ℕ) → LoadedLast asked name l0 l1 → Loads asked 4 l0 l1
loads_last asked name l0 l1 l =
    subst (λ (o : Option Asked). Loads o 4 l0 l1) (sym l.asks)
    (record { count = suc l.count; within = slice_get_within l.what.files l.count name l.named; is = l.is; whole = λ z. elim z [ inl e ↦ omega arith | inr y ↦ elim y [ inl e ↦ omega arith | inr e ↦ omega arith ] ] })

loads_none : (o : Option Asked) (l0 l1 : ℕ) → ((what : Asked) → o ≡ Some what → LoadsSome what 8 l0 l1) → (o ≡ None → l1 ≡ l0) → Loads o 8 l0 l1
loads_none None l0 l1 some none = none refl
loads_none (Some a) l0 l1 some none = some a refl

-- ---- the clauses of the top call

module _ {told : Option Files} {asked : Option Asked} {before now : Option (List ℕ)} {c : Counts} where
  pub statuses : (e : Ending) → Ended e told asked before now c → IsStatus (status_number e)
  statuses (endings.Reported answer) h = elim (reported_small h.ends.0.0) [ inl z ↦ inl z | inr z ↦ inr (inl z) ]
  statuses endings.Usage h = inr (inr (inl refl))
  statuses (endings.Refused line) h = inr (inr (inr (inl refl)))
  statuses (endings.CannotRead text) h = inr (inr (inr (inr (inl refl))))
  statuses endings.NotWritten h = inr (inr (inr (inr (inr (inl refl)))))
  statuses endings.NoMemory h = inr (inr (inr (inr (inr (inr refl)))))

  pub reports : (e : Ending) → Ended e told asked before now c → IsReported (status_number e) → Reports before now (status_number e)
  reports (endings.Reported answer) h z = h.ends.0.0
  reports endings.Usage h z = absurd (only 2 (omega arith) z)
  reports (endings.Refused line) h z = absurd (only 3 (omega arith) z)
  reports (endings.CannotRead text) h z = absurd (only 4 (omega arith) z)
  reports endings.NotWritten h z = absurd (only 7 (omega arith) z)
  reports endings.NoMemory h z = absurd (only 8 (omega arith) z)

  pub exact : (e : Ending) → Ended e told asked before now c → (name : List ℕ) (program : Program) → IsFirstForm told asked name program → IsReported (status_number e) → Gives name program before now (status_number e)
  exact (endings.Reported answer) h name program f z = h.ends.0.1 name program f
  exact endings.Usage h name program f z = absurd (only 2 (omega arith) z)
  exact (endings.Refused line) h name program f z = absurd (only 3 (omega arith) z)
  exact (endings.CannotRead text) h name program f z = absurd (only 4 (omega arith) z)
  exact endings.NotWritten h name program f z = absurd (only 7 (omega arith) z)
  exact endings.NoMemory h name program f z = absurd (only 8 (omega arith) z)

  pub reports_sound : (e : Ending) → Ended e told asked before now c → (name : List ℕ) (program : Program) → IsFirstForm told asked name program → IsReported (status_number e) → ReportsSound program before now
  reports_sound e h name program f z =
      let g = exact e h name program f z in
      record { lines = lines_of name program; gained = g.gained; sound = sound name program }

  pub usage : (e : Ending) → Ended e told asked before now c → status_number e ≡ 2 → asked ≡ None
  usage (endings.Reported answer) h e = absurd (not_reported answer 2 h.ends.0.0 (omega arith) e)
  usage endings.Usage h e = h.ends.0
  usage (endings.Refused line) h e = absurd (omega arith)
  usage (endings.CannotRead text) h e = absurd (omega arith)
  usage endings.NotWritten h e = absurd (omega arith)
  usage endings.NoMemory h e = absurd (omega arith)

  pub other_words : (e : Ending) → Ended e told asked before now c → asked ≡ None → (status_number e ≡ 2) ⊎ (status_number e ≡ 8)
  other_words (endings.Reported answer) h e = absurd (none_asked asked h.ends.2.what h.ends.2.asks e)
  other_words endings.Usage h e = inl refl
  other_words (endings.Refused line) h e = absurd (none_asked asked h.ends.2.what h.ends.2.asks e)
  other_words (endings.CannotRead text) h e = absurd (none_asked asked h.ends.0.1.what h.ends.0.1.asks e)
  other_words endings.NotWritten h e = absurd (none_asked asked h.ends.2.what h.ends.2.asks e)
  other_words endings.NoMemory h e = inr refl

  pub refused : (e : Ending) → Ended e told asked before now c → status_number e ≡ 3 → (name : List ℕ) (program : Program) → IsFirstForm told asked name program → ⊥
  refused (endings.Reported answer) h e name program f = absurd (not_reported answer 3 h.ends.0.0 (omega arith) e)
  refused endings.Usage h e name program f = absurd (omega arith)
  refused (endings.Refused line) h e name program f = h.ends.1 name program f
  refused (endings.CannotRead text) h e name program f = absurd (omega arith)
  refused endings.NotWritten h e name program f = absurd (omega arith)
  refused endings.NoMemory h e name program f = absurd (omega arith)

  pub refuses : (e : Ending) → Ended e told asked before now c → IsTooLarge told asked → (status_number e ≡ 3) ⊎ ((status_number e ≡ 4) ⊎ (status_number e ≡ 8))
  refuses (endings.Reported answer) h m = absurd (h.ends.1 m)
  refuses endings.Usage h m = absurd (none_asked asked m.what m.asks h.ends.0)
  refuses (endings.Refused line) h m = inl refl
  refuses (endings.CannotRead text) h m = inr (inl refl)
  refuses endings.NotWritten h m = absurd (h.ends.1 m)
  refuses endings.NoMemory h m = inr (inr refl)

  pub unread : (e : Ending) → Ended e told asked before now c → status_number e ≡ 4 → Rose c.unread_before c.unread_now
  unread (endings.Reported answer) h e = absurd (not_reported answer 4 h.ends.0.0 (omega arith) e)
  unread endings.Usage h e = absurd (omega arith)
  unread (endings.Refused line) h e = absurd (omega arith)
  unread (endings.CannotRead text) h e = h.ends.1
  unread endings.NotWritten h e = absurd (omega arith)
  unread endings.NoMemory h e = absurd (omega arith)

  pub unwritten : (e : Ending) → Ended e told asked before now c → status_number e ≡ 7 → Cut told asked before now × Rose c.puts_before c.puts_now
  unwritten (endings.Reported answer) h e = absurd (not_reported answer 7 h.ends.0.0 (omega arith) e)
  unwritten endings.Usage h e = absurd (omega arith)
  unwritten (endings.Refused line) h e = absurd (omega arith)
  unwritten (endings.CannotRead text) h e = absurd (omega arith)
  unwritten endings.NotWritten h e = (h.ends.0, h.ends.4)
  unwritten endings.NoMemory h e = absurd (omega arith)

  pub all_read : (e : Ending) → Ended e told asked before now c → status_number e ≢ 4 → status_number e ≢ 8 → c.unread_now ≡ c.unread_before
  all_read (endings.Reported answer) h four eight = h.ends.3
  all_read endings.Usage h four eight = h.ends.2
  all_read (endings.Refused line) h four eight = h.ends.3
  all_read (endings.CannotRead text) h four eight = absurd (four refl)
  all_read endings.NotWritten h four eight = h.ends.3
  all_read endings.NoMemory h four eight = absurd (eight refl)

  pub all_written : (e : Ending) → Ended e told asked before now c → status_number e ≢ 7 → c.puts_now ≡ c.puts_before
  all_written (endings.Reported answer) h seven = h.ends.4
  all_written endings.Usage h seven = h.ends.3
  all_written (endings.Refused line) h seven = h.ends.4
  all_written (endings.CannotRead text) h seven = h.ends.2
  all_written endings.NotWritten h seven = absurd (seven refl)
  all_written endings.NoMemory h seven = h.ends.2

  pub untouched : (e : Ending) → Ended e told asked before now c → status_number e ≢ 0 → status_number e ≢ 1 → status_number e ≢ 7 → now ≡ before
  untouched (endings.Reported answer) h none first seven = absurd (elim (reported_small h.ends.0.0) [ inl z ↦ none z | inr z ↦ first z ])
  untouched endings.Usage h none first seven = h.ends.4
  untouched (endings.Refused line) h none first seven = h.ends.5
  untouched (endings.CannotRead text) h none first seven = h.ends.3
  untouched endings.NotWritten h none first seven = absurd (seven refl)
  untouched endings.NoMemory h none first seven = h.ends.3

  pub loads : (e : Ending) → Ended e told asked before now c → Loads asked (status_number e) c.loads_before c.loads_now
  loads (endings.Reported answer) h = loads_of asked answer _ _ h.ends.2
  loads endings.Usage h = subst (λ (o : Option Asked). Loads o 2 c.loads_before c.loads_now) (sym h.ends.0) h.ends.1
  loads (endings.Refused line) h = loads_of asked 3 _ _ h.ends.2
  loads (endings.CannotRead text) h = loads_last asked h.ends.0.0 _ _ h.ends.0.1
  loads endings.NotWritten h = loads_of asked 7 _ _ h.ends.2
  loads endings.NoMemory h = loads_none asked _ _ h.ends.0 h.ends.1

  pub complete : (e : Ending) → Ended e told asked before now c → (name : List ℕ) (program : Program) → IsFirstForm told asked name program → ¬ (Rose c.unread_before c.unread_now) → ¬ (Rose c.puts_before c.puts_now) → Gives name program before now (status_number e) ⊎ (status_number e ≡ 8)
  complete (endings.Reported answer) h name program f loads puts = inl (h.ends.0.1 name program f)
  complete endings.Usage h name program f loads puts = absurd (none_asked asked f.what f.asks h.ends.0)
  complete (endings.Refused line) h name program f loads puts = absurd (h.ends.1 name program f)
  complete (endings.CannotRead text) h name program f loads puts = absurd (loads h.ends.1)
  complete endings.NotWritten h name program f loads puts = absurd (puts h.ends.4)
  complete endings.NoMemory h name program f loads puts = inr refl

  -- ---- what was told

  pub complains : (Told : List ℕ → Type 0) (e : Ending) → Ended e told asked before now c → Told (complaint_text e) → Complains asked c.loads_before c.loads_now (status_number e) Told
  complains Told (endings.Reported answer) h t = record {
    nothing = λ z. t;
    usage = λ z. absurd (not_reported answer 2 h.ends.0.0 (omega arith) z);
    refusal = λ z. absurd (not_reported answer 3 h.ends.0.0 (omega arith) z);
    unread = λ z. absurd (not_reported answer 4 h.ends.0.0 (omega arith) z);
    unwritten = λ z. absurd (not_reported answer 7 h.ends.0.0 (omega arith) z);
    memory = λ z. absurd (not_reported answer 8 h.ends.0.0 (omega arith) z);
  }
  complains Told endings.Usage h t = record {
    nothing = λ z. absurd (only 2 (omega arith) z);
    usage = λ z. t;
    refusal = λ z. absurd (omega arith);
    unread = λ z. absurd (omega arith);
    unwritten = λ z. absurd (omega arith);
    memory = λ z. absurd (omega arith);
  }
  complains Told (endings.Refused line) h t = record {
    nothing = λ z. absurd (only 3 (omega arith) z);
    usage = λ z. absurd (omega arith);
    refusal = λ z. (line.items, h.ends.0, t);
    unread = λ z. absurd (omega arith);
    unwritten = λ z. absurd (omega arith);
    memory = λ z. absurd (omega arith);
  }
  complains Told (endings.CannotRead text) h t = record {
    nothing = λ z. absurd (only 4 (omega arith) z);
    usage = λ z. absurd (omega arith);
    refusal = λ z. absurd (omega arith);
    unread = λ z. (h.ends.0.0, h.ends.0.1, subst Told h.ends.0.2 t);
    unwritten = λ z. absurd (omega arith);
    memory = λ z. absurd (omega arith);
  }
  complains Told endings.NotWritten h t = record {
    nothing = λ z. absurd (only 7 (omega arith) z);
    usage = λ z. absurd (omega arith);
    refusal = λ z. absurd (omega arith);
    unread = λ z. absurd (omega arith);
    unwritten = λ z. t;
    memory = λ z. absurd (omega arith);
  }
  complains Told endings.NoMemory h t = record {
    nothing = λ z. absurd (only 8 (omega arith) z);
    usage = λ z. absurd (omega arith);
    refusal = λ z. absurd (omega arith);
    unread = λ z. absurd (omega arith);
    unwritten = λ z. absurd (omega arith);
    memory = λ z. t;
  }
