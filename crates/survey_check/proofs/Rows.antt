-- Each status has its cause, by how the call ended.
use Rattle.std.proofs.Common.{◌≡◌, ◌≢◌, ◌⊎◌, ℕ, zero, suc, ◌<◌, ◌≤◌, Bool, true, false, cond, List, Option, Some, None, refl, sym, subst, inl, inr, arith}
use Rattle.std.specs.List.{list_any}
use Rattle.sv_outside.specs.Outside.{Files, Rose, counted}
use Rattle.report.specs.declared.line.Line.{Line}
use Rattle.report.specs.Report.{is_alarm, report_status}
use Rattle.survey.specs.Words.{Asked}
use Rattle.survey.specs.Outcome.{IsReported}
use Rattle.survey.specs.computed.Endings.{Stopped, IsRefusal}
use Rattle.survey.specs.declared.ending.Ending.{Ending as PlainEnding}
use Rattle.survey.specs.declared.ending.Ending.TheVariants as plain
use Rattle.survey_check.specs.Words.{Wanted, Made, files_of}
use Rattle.survey_check.specs.Outcome.{IsTrial, Totals, Puts, PutsFront, Opens, UnreadAs, NothingUnread, Complains}
use Rattle.survey_check.specs.computed.Endings.{Counts, Accepted, Ends, IsUnopened, IsStopped, PutAs, Concludes, status_number, told_text}
use Rattle.survey_check.specs.declared.ending.Ending.{Ending}
use Rattle.survey_check.specs.declared.ending.Ending.TheVariants as endings

none_asked : {A : Type 0} {asked : Option A} → Accepted asked → asked ≡ None → ⊥
none_asked {A} {asked} a none = let is = a.asks in cc

only : (n : ℕ) → 1 < n → IsReported n → ⊥
only n lt (inl e) = omega arith
only n lt (inr e) = omega arith

small : (b : Bool) → cond b 1 0 ≤ 1
small true = omega arith
small false = omega arith

zero_or_one : (n : ℕ) → n ≤ 1 → (n ≡ 0) ⊎ (n ≡ 1)
zero_or_one zero le = inl refl
zero_or_one (suc zero) le = inr refl
zero_or_one (suc (suc n)) le = absurd (omega arith)

-- 8 is none of the statuses with a disk
no_one : (n : ℕ) → n ≡ 8 → (n ≡ 0) ⊎ ((n ≡ 1) ⊎ ((n ≡ 5) ⊎ ((n ≡ 6) ⊎ ((n ≡ 7) ⊎ (n ≡ 9))))) → ⊥
no_one n is (inl e) = omega arith
no_one n is (inr (inl e)) = omega arith
no_one n is (inr (inr (inl e))) = omega arith
no_one n is (inr (inr (inr (inl e)))) = omega arith
no_one n is (inr (inr (inr (inr (inl e))))) = omega arith
no_one n is (inr (inr (inr (inr (inr e))))) = omega arith

with_none : (n : ℕ) → (n < 2) ⊎ (4 < n) → (n ≡ 2) ⊎ ((n ≡ 3) ⊎ (n ≡ 4)) → ⊥
with_none n (inl lt) (inl e) = omega arith
with_none n (inl lt) (inr (inl e)) = omega arith
with_none n (inl lt) (inr (inr e)) = omega arith
with_none n (inr lt) (inl e) = omega arith
with_none n (inr lt) (inr (inl e)) = omega arith
with_none n (inr lt) (inr (inr e)) = omega arith

with_one : (n : ℕ) → 2 ≤ n → n ≤ 4 → (n ≡ 0) ⊎ ((n ≡ 1) ⊎ ((n ≡ 5) ⊎ ((n ≡ 6) ⊎ ((n ≡ 7) ⊎ (n ≡ 9))))) → ⊥
with_one n low high (inl e) = omega arith
with_one n low high (inr (inl e)) = omega arith
with_one n low high (inr (inr (inl e))) = omega arith
with_one n low high (inr (inr (inr (inl e)))) = omega arith
with_one n low high (inr (inr (inr (inr (inl e))))) = omega arith
with_one n low high (inr (inr (inr (inr (inr e))))) = omega arith

opens_one : (n : ℕ) {before now : ℕ} → now ≡ counted before → (n < 2) ⊎ (4 < n) → Opens n before now
opens_one n is far = record { none = λ z. absurd (with_none n far z); one = λ z. is; most = inr is }

opens_none : (n : ℕ) {before now : ℕ} → now ≡ before → 2 ≤ n → n ≤ 4 → Opens n before now
opens_none n is low high = record { none = λ z. is; one = λ z. absurd (with_one n low high z); most = inl is }

-- ---- how a call ends, by its last step

module _ {A : Type 0} {Texts : List ℕ → ℕ → Type 0} {Unread : List ℕ → Type 0} (asked : Option A) (accepted : Accepted asked) where
  -- the sources are refused
  pub ends_refused : (e : PlainEnding) (before : Option (List ℕ)) (unread puts opens unopened : ℕ) → IsRefusal e →
      Ends (endings.Plain e) Texts Unread asked before before (record { unread_before = unread; unread_now = unread; puts_before = puts; puts_now = puts; opens_before = opens; opens_now = opens; unopened_before = unopened; unopened_now = unopened })
  ends_refused (plain.Refused line) before unread puts opens unopened h = record { ends = (h, accepted, refl, record { put = refl; same = refl }, record { opens = refl; opened = refl }) }
  ends_refused plain.NoMemory before unread puts opens unopened h = record { ends = (record { put = refl; same = refl }, inl (record { opens = refl; opened = refl })) }
  ends_refused (plain.Reported answer) before unread puts opens unopened h = absurd h
  ends_refused (plain.CannotRead text) before unread puts opens unopened h = absurd h
  ends_refused plain.NotWritten before unread puts opens unopened h = absurd h
  ends_refused plain.Usage before unread puts opens unopened h = absurd h

  -- the database is not opened
  pub ends_unopened : (e : Ending) (before : Option (List ℕ)) (unread puts o0 o1 f0 f1 : ℕ) → IsUnopened e → (status_number e ≢ 5 → f1 ≡ f0) → o1 ≡ counted o0 →
      Ends e Texts Unread asked before before (record { unread_before = unread; unread_now = unread; puts_before = puts; puts_now = puts; opens_before = o0; opens_now = o1; unopened_before = f0; unopened_now = f1 })
  ends_unopened (endings.Refused line) before unread puts o0 o1 f0 f1 h f o = record { ends = (h, accepted, refl, record { put = refl; same = refl }, record { opens = o; opened = f (λ e. omega arith) }) }
  ends_unopened (endings.Plain plain.NoMemory) before unread puts o0 o1 f0 f1 h f o = record { ends = (record { put = refl; same = refl }, inr (record { opens = o; opened = f (λ e. omega arith) })) }
  ends_unopened endings.DiskFailed before unread puts o0 o1 f0 f1 h f o = record { ends = (accepted, refl, record { put = refl; same = refl }, o) }
  ends_unopened (endings.Plain (plain.Reported answer)) before unread puts o0 o1 f0 f1 h f o = absurd h
  ends_unopened (endings.Plain (plain.Refused line)) before unread puts o0 o1 f0 f1 h f o = absurd h
  ends_unopened (endings.Plain (plain.CannotRead text)) before unread puts o0 o1 f0 f1 h f o = absurd h
  ends_unopened (endings.Plain plain.NotWritten) before unread puts o0 o1 f0 f1 h f o = absurd h
  ends_unopened (endings.Plain plain.Usage) before unread puts o0 o1 f0 f1 h f o = absurd h
  ends_unopened (endings.Full line) before unread puts o0 o1 f0 f1 h f o = absurd h

  -- the database was opened
  pub ends_concluded : (e : Ending) (before now : Option (List ℕ)) (unread p0 p1 o0 o1 f0 f1 : ℕ) → Concludes e Texts before now p0 p1 → o1 ≡ counted o0 → f1 ≡ f0 →
      Ends e Texts Unread asked before now (record { unread_before = unread; unread_now = unread; puts_before = p0; puts_now = p1; opens_before = o0; opens_now = o1; unopened_before = f0; unopened_now = f1 })
  ends_concluded (endings.Plain (plain.Reported answer)) before now unread p0 p1 o0 o1 f0 f1 h o f = record { ends = (h.ends.0, h.ends.1, accepted, record { read = refl; put = h.ends.2 }, record { opens = o; opened = f }) }
  ends_concluded (endings.Plain plain.NotWritten) before now unread p0 p1 o0 o1 f0 f1 h o f = record { ends = (h.ends.0, accepted, refl, h.ends.1, record { opens = o; opened = f }) }
  ends_concluded (endings.Plain plain.NoMemory) before now unread p0 p1 o0 o1 f0 f1 h o f = record { ends = (record { put = h.ends.1; same = h.ends.0 }, inr (record { opens = o; opened = f })) }
  ends_concluded endings.DiskFailed before now unread p0 p1 o0 o1 f0 f1 h o f = record { ends = (accepted, refl, record { put = h.ends.1; same = h.ends.0 }, o) }
  ends_concluded (endings.Full line) before now unread p0 p1 o0 o1 f0 f1 h o f = record { ends = (h.ends.0, accepted, refl, record { put = h.ends.2; same = h.ends.1 }, record { opens = o; opened = f }) }
  ends_concluded (endings.Plain (plain.Refused line)) before now unread p0 p1 o0 o1 f0 f1 h o f = absurd h.ends
  ends_concluded (endings.Plain (plain.CannotRead text)) before now unread p0 p1 o0 o1 f0 f1 h o f = absurd h.ends
  ends_concluded (endings.Plain plain.Usage) before now unread p0 p1 o0 o1 f0 f1 h o f = absurd h.ends
  ends_concluded (endings.Refused line) before now unread p0 p1 o0 o1 f0 f1 h o f = absurd h.ends

-- the loads stopped
pub ends_early : {A : Type 0} {Texts : List ℕ → ℕ → Type 0} (asked : Option A) (accepted : Accepted asked) (told : Option Files) (a : Asked) (e : PlainEnding) (before : Option (List ℕ)) (l0 l1 u0 u1 puts opens unopened : ℕ) →
    Stopped e told a (record { loads_before = l0; loads_now = l1; unread_before = u0; unread_now = u1; puts_before = 0; puts_now = 0 }) →
    Ends (endings.Plain e) Texts (UnreadAs (Some a) l0 l1) asked before before (record { unread_before = u0; unread_now = u1; puts_before = puts; puts_now = puts; opens_before = opens; opens_now = opens; unopened_before = unopened; unopened_now = unopened })
ends_early asked accepted told a (plain.Refused line) before l0 l1 u0 u1 puts opens unopened h = record { ends = (h.stops.0, accepted, h.stops.3, record { put = refl; same = refl }, record { opens = refl; opened = refl }) }
ends_early asked accepted told a (plain.CannotRead text) before l0 l1 u0 u1 puts opens unopened h = record { ends = (h.stops.0, accepted, h.stops.1, record { put = refl; same = refl }, record { opens = refl; opened = refl }) }
ends_early asked accepted told a plain.NoMemory before l0 l1 u0 u1 puts opens unopened h = record { ends = (record { put = refl; same = refl }, inl (record { opens = refl; opened = refl })) }
ends_early asked accepted told a (plain.Reported answer) before l0 l1 u0 u1 puts opens unopened h = absurd h.stops
ends_early asked accepted told a plain.NotWritten before l0 l1 u0 u1 puts opens unopened h = absurd h.stops
ends_early asked accepted told a plain.Usage before l0 l1 u0 u1 puts opens unopened h = absurd h.stops

-- ---- how the last steps end

-- a text was put
pub concludes_put : {Texts : List ℕ → ℕ → Type 0} (e : Ending) (text : List ℕ) (answer : ℕ) (before now : Option (List ℕ)) (p0 p1 : ℕ) → Texts text answer → answer ≤ 1 → PutAs e text answer before now p0 p1 → Concludes e Texts before now p0 p1
concludes_put {Texts} (endings.Plain (plain.Reported status)) text answer before now p0 p1 t small h =
    record { ends = subst (λ (n : ℕ). Puts Texts before now n × (n ≤ 1) × (p1 ≡ p0)) (sym h.0) (record { text = text; is = t; gained = h.1 }, small, h.2) }
concludes_put (endings.Plain plain.NotWritten) text answer before now p0 p1 t small h = record { ends = (record { text = text; answer = answer; is = t; count = h.0.0; within = h.0.1; gained = h.0.2 }, h.1) }
concludes_put (endings.Plain plain.NoMemory) text answer before now p0 p1 t small h = record { ends = h }
concludes_put (endings.Plain (plain.Refused line)) text answer before now p0 p1 t small h = absurd h
concludes_put (endings.Plain (plain.CannotRead said)) text answer before now p0 p1 t small h = absurd h
concludes_put (endings.Plain plain.Usage) text answer before now p0 p1 t small h = absurd h
concludes_put endings.DiskFailed text answer before now p0 p1 t small h = absurd h
concludes_put (endings.Refused line) text answer before now p0 p1 t small h = absurd h
concludes_put (endings.Full line) text answer before now p0 p1 t small h = absurd h

-- the rounds are not all computed
pub concludes_stopped : {Texts : List ℕ → ℕ → Type 0} (e : Ending) (before : Option (List ℕ)) (puts : ℕ) → IsStopped e → Concludes e Texts before before puts puts
concludes_stopped (endings.Full line) before puts h = record { ends = (h, refl, refl) }
concludes_stopped (endings.Plain plain.NoMemory) before puts h = record { ends = (refl, refl) }
concludes_stopped endings.DiskFailed before puts h = record { ends = (refl, refl) }
concludes_stopped (endings.Refused line) before puts h = absurd h
concludes_stopped (endings.Plain (plain.Reported answer)) before puts h = absurd h
concludes_stopped (endings.Plain (plain.Refused line)) before puts h = absurd h
concludes_stopped (endings.Plain (plain.CannotRead text)) before puts h = absurd h
concludes_stopped (endings.Plain plain.NotWritten) before puts h = absurd h
concludes_stopped (endings.Plain plain.Usage) before puts h = absurd h

pub concludes_short : {Texts : List ℕ → ℕ → Type 0} (before : Option (List ℕ)) (puts : ℕ) → Concludes (endings.Plain plain.NoMemory) Texts before before puts puts
concludes_short before puts = record { ends = (refl, refl) }

-- a status of a report is 0 or 1
pub small_status : (lines : List Line) → report_status lines ≤ 1
small_status lines = small (list_any (λ l. is_alarm l.colour) lines)

-- ---- the words

-- the words are accepted, and ask for this
pub ends_accepted : {Texts : List ℕ → ℕ → Type 0} (o : Option Wanted) (w : Wanted) (e : Ending) (before now : Option (List ℕ)) (l0 l1 : ℕ) (c : Counts) → o ≡ Some w →
    Ends e Texts (UnreadAs (Some w.asked) l0 l1) (Some w) before now c → Ends e Texts (UnreadAs (files_of o) l0 l1) o before now c
ends_accepted {Texts} o w e before now l0 l1 c is h = subst (λ (x : Option Wanted). Ends e Texts (UnreadAs (files_of x) l0 l1) x before now c) (sym is) h

pub trial_accepted : (o : Option Made) (m : Made) (e : Ending) (before now : Option (List ℕ)) (c : Counts) → o ≡ Some m →
    Ends e (IsTrial m.number m.functions) NothingUnread (Some m) before now c → Ends e (Totals o) NothingUnread o before now c
trial_accepted o m e before now c is h = subst (λ (x : Option Made). Ends e (Totals x) NothingUnread x before now c) (sym is) h

module _ {A : Type 0} {Texts : List ℕ → ℕ → Type 0} {Unread : List ℕ → Type 0} {asked : Option A} (before : Option (List ℕ)) (unread puts opens unopened : ℕ) where
  -- they are not accepted
  pub ends_misread : asked ≡ None →
      Ends (endings.Plain plain.Usage) Texts Unread asked before before (record { unread_before = unread; unread_now = unread; puts_before = puts; puts_now = puts; opens_before = opens; opens_now = opens; unopened_before = unopened; unopened_now = unopened })
  ends_misread none = record { ends = (none, refl, record { put = refl; same = refl }, record { opens = refl; opened = refl }) }

  pub ends_short : Ends (endings.Plain plain.NoMemory) Texts Unread asked before before (record { unread_before = unread; unread_now = unread; puts_before = puts; puts_now = puts; opens_before = opens; opens_now = opens; unopened_before = unopened; unopened_now = unopened })
  ends_short = record { ends = (record { put = refl; same = refl }, inl (record { opens = refl; opened = refl })) }

some_none : {A : Type 0} {x : A} → Some x ≡ None → ⊥
some_none e = cc

-- a call on files that were loaded, or that need none
module _ {A : Type 0} {Texts : List ℕ → ℕ → Type 0} {Unread : List ℕ → Type 0} (asked : Option A) (accepted : Accepted asked) (before now : Option (List ℕ)) (u0 u1 p0 p1 o0 o1 f0 f1 : ℕ) (u : u1 ≡ u0) where
  pub ends_loaded : (e : Ending) →
      Ends e Texts NothingUnread (Some (tt {0})) before now (record { unread_before = 0; unread_now = 0; puts_before = p0; puts_now = p1; opens_before = o0; opens_now = o1; unopened_before = f0; unopened_now = f1 }) →
      Ends e Texts Unread asked before now (record { unread_before = u0; unread_now = u1; puts_before = p0; puts_now = p1; opens_before = o0; opens_now = o1; unopened_before = f0; unopened_now = f1 })
  ends_loaded (endings.Plain (plain.Reported answer)) h = record { ends = (h.ends.0, h.ends.1, accepted, record { read = u; put = h.ends.3.put }, record { opens = h.ends.4.opens; opened = h.ends.4.opened }) }
  ends_loaded (endings.Plain plain.NotWritten) h = record { ends = (h.ends.0, accepted, u, h.ends.3, record { opens = h.ends.4.opens; opened = h.ends.4.opened }) }
  ends_loaded (endings.Plain (plain.Refused line)) h = record { ends = (h.ends.0, accepted, u, record { put = h.ends.3.put; same = h.ends.3.same }, record { opens = h.ends.4.opens; opened = h.ends.4.opened }) }
  ends_loaded (endings.Plain (plain.CannotRead text)) h = absurd h.ends.0
  ends_loaded (endings.Plain plain.NoMemory) h = record { ends = (record { put = h.ends.0.put; same = h.ends.0.same }, elim h.ends.1 [ inl x ↦ inl (record { opens = x.opens; opened = x.opened }) | inr x ↦ inr (record { opens = x.opens; opened = x.opened }) ]) }
  ends_loaded (endings.Plain plain.Usage) h = absurd (some_none h.ends.0)
  ends_loaded endings.DiskFailed h = record { ends = (accepted, u, record { put = h.ends.2.put; same = h.ends.2.same }, h.ends.3) }
  ends_loaded (endings.Refused line) h = record { ends = (h.ends.0, accepted, u, record { put = h.ends.3.put; same = h.ends.3.same }, record { opens = h.ends.4.opens; opened = h.ends.4.opened }) }
  ends_loaded (endings.Full line) h = record { ends = (h.ends.0, accepted, u, record { put = h.ends.3.put; same = h.ends.3.same }, record { opens = h.ends.4.opens; opened = h.ends.4.opened }) }

-- ---- the clauses of the top calls

module _ {A : Type 0} {Texts : List ℕ → ℕ → Type 0} {Unread : List ℕ → Type 0} {asked : Option A} {before now : Option (List ℕ)} {c : Counts} where
  pub statuses : (e : Ending) → Ends e Texts Unread asked before now c → status_number e ≤ 9
  statuses (endings.Plain (plain.Reported answer)) h = let small = h.ends.1 in omega arith
  statuses (endings.Plain plain.NotWritten) h = omega arith
  statuses (endings.Plain (plain.Refused line)) h = omega arith
  statuses (endings.Plain (plain.CannotRead text)) h = omega arith
  statuses (endings.Plain plain.NoMemory) h = omega arith
  statuses (endings.Plain plain.Usage) h = omega arith
  statuses endings.DiskFailed h = omega arith
  statuses (endings.Refused line) h = omega arith
  statuses (endings.Full line) h = omega arith

  pub reports : (e : Ending) → Ends e Texts Unread asked before now c → IsReported (status_number e) → Puts Texts before now (status_number e)
  reports (endings.Plain (plain.Reported answer)) h z = h.ends.0
  reports (endings.Plain plain.NotWritten) h z = absurd (only 7 (omega arith) z)
  reports (endings.Plain (plain.Refused line)) h z = absurd (only 3 (omega arith) z)
  reports (endings.Plain (plain.CannotRead text)) h z = absurd (only 4 (omega arith) z)
  reports (endings.Plain plain.NoMemory) h z = absurd (only 8 (omega arith) z)
  reports (endings.Plain plain.Usage) h z = absurd (only 2 (omega arith) z)
  reports endings.DiskFailed h z = absurd (only 5 (omega arith) z)
  reports (endings.Refused line) h z = absurd (only 6 (omega arith) z)
  reports (endings.Full line) h z = absurd (only 9 (omega arith) z)

  pub cut_off : (e : Ending) → Ends e Texts Unread asked before now c → status_number e ≡ 7 → PutsFront Texts before now
  cut_off (endings.Plain (plain.Reported answer)) h z = let small = h.ends.1 in absurd (omega arith)
  cut_off (endings.Plain plain.NotWritten) h z = h.ends.0
  cut_off (endings.Plain (plain.Refused line)) h z = absurd (omega arith)
  cut_off (endings.Plain (plain.CannotRead text)) h z = absurd (omega arith)
  cut_off (endings.Plain plain.NoMemory) h z = absurd (omega arith)
  cut_off (endings.Plain plain.Usage) h z = absurd (omega arith)
  cut_off endings.DiskFailed h z = absurd (omega arith)
  cut_off (endings.Refused line) h z = absurd (omega arith)
  cut_off (endings.Full line) h z = absurd (omega arith)

  pub unwritten : (e : Ending) → Ends e Texts Unread asked before now c → status_number e ≡ 7 → Rose c.puts_before c.puts_now
  unwritten (endings.Plain (plain.Reported answer)) h z = let small = h.ends.1 in absurd (omega arith)
  unwritten (endings.Plain plain.NotWritten) h z = h.ends.3
  unwritten (endings.Plain (plain.Refused line)) h z = absurd (omega arith)
  unwritten (endings.Plain (plain.CannotRead text)) h z = absurd (omega arith)
  unwritten (endings.Plain plain.NoMemory) h z = absurd (omega arith)
  unwritten (endings.Plain plain.Usage) h z = absurd (omega arith)
  unwritten endings.DiskFailed h z = absurd (omega arith)
  unwritten (endings.Refused line) h z = absurd (omega arith)
  unwritten (endings.Full line) h z = absurd (omega arith)

  pub unread : (e : Ending) → Ends e Texts Unread asked before now c → status_number e ≡ 4 → Rose c.unread_before c.unread_now
  unread (endings.Plain (plain.Reported answer)) h z = let small = h.ends.1 in absurd (omega arith)
  unread (endings.Plain plain.NotWritten) h z = absurd (omega arith)
  unread (endings.Plain (plain.Refused line)) h z = absurd (omega arith)
  unread (endings.Plain (plain.CannotRead text)) h z = h.ends.2
  unread (endings.Plain plain.NoMemory) h z = absurd (omega arith)
  unread (endings.Plain plain.Usage) h z = absurd (omega arith)
  unread endings.DiskFailed h z = absurd (omega arith)
  unread (endings.Refused line) h z = absurd (omega arith)
  unread (endings.Full line) h z = absurd (omega arith)

  pub unread_text : (e : Ending) → Ends e Texts Unread asked before now c → status_number e ≡ 4 → (text : List ℕ) × Unread text
  unread_text (endings.Plain (plain.Reported answer)) h z = let small = h.ends.1 in absurd (omega arith)
  unread_text (endings.Plain plain.NotWritten) h z = absurd (omega arith)
  unread_text (endings.Plain (plain.Refused line)) h z = absurd (omega arith)
  unread_text (endings.Plain (plain.CannotRead text)) h z = (text.items, h.ends.0)
  unread_text (endings.Plain plain.NoMemory) h z = absurd (omega arith)
  unread_text (endings.Plain plain.Usage) h z = absurd (omega arith)
  unread_text endings.DiskFailed h z = absurd (omega arith)
  unread_text (endings.Refused line) h z = absurd (omega arith)
  unread_text (endings.Full line) h z = absurd (omega arith)

  pub usage : (e : Ending) → Ends e Texts Unread asked before now c → status_number e ≡ 2 → asked ≡ None
  usage (endings.Plain (plain.Reported answer)) h z = let small = h.ends.1 in absurd (omega arith)
  usage (endings.Plain plain.NotWritten) h z = absurd (omega arith)
  usage (endings.Plain (plain.Refused line)) h z = absurd (omega arith)
  usage (endings.Plain (plain.CannotRead text)) h z = absurd (omega arith)
  usage (endings.Plain plain.NoMemory) h z = absurd (omega arith)
  usage (endings.Plain plain.Usage) h z = h.ends.0
  usage endings.DiskFailed h z = absurd (omega arith)
  usage (endings.Refused line) h z = absurd (omega arith)
  usage (endings.Full line) h z = absurd (omega arith)

  pub other_words : (e : Ending) → Ends e Texts Unread asked before now c → asked ≡ None → (status_number e ≡ 2) ⊎ (status_number e ≡ 8)
  other_words (endings.Plain (plain.Reported answer)) h z = absurd (none_asked h.ends.2 z)
  other_words (endings.Plain plain.NotWritten) h z = absurd (none_asked h.ends.1 z)
  other_words (endings.Plain (plain.Refused line)) h z = absurd (none_asked h.ends.1 z)
  other_words (endings.Plain (plain.CannotRead text)) h z = absurd (none_asked h.ends.1 z)
  other_words (endings.Plain plain.NoMemory) h z = inr refl
  other_words (endings.Plain plain.Usage) h z = inl refl
  other_words endings.DiskFailed h z = absurd (none_asked h.ends.0 z)
  other_words (endings.Refused line) h z = absurd (none_asked h.ends.1 z)
  other_words (endings.Full line) h z = absurd (none_asked h.ends.1 z)

  pub untouched : (e : Ending) → Ends e Texts Unread asked before now c → status_number e ≢ 0 → status_number e ≢ 1 → status_number e ≢ 7 → now ≡ before
  untouched (endings.Plain (plain.Reported answer)) h none first seven = absurd (elim (zero_or_one answer h.ends.1) [ inl z ↦ none z | inr z ↦ first z ])
  untouched (endings.Plain plain.NotWritten) h none first seven = absurd (seven refl)
  untouched (endings.Plain (plain.Refused line)) h none first seven = h.ends.3.same
  untouched (endings.Plain (plain.CannotRead text)) h none first seven = h.ends.3.same
  untouched (endings.Plain plain.NoMemory) h none first seven = h.ends.0.same
  untouched (endings.Plain plain.Usage) h none first seven = h.ends.2.same
  untouched endings.DiskFailed h none first seven = h.ends.2.same
  untouched (endings.Refused line) h none first seven = h.ends.3.same
  untouched (endings.Full line) h none first seven = h.ends.3.same

  pub all_read : (e : Ending) → Ends e Texts Unread asked before now c → status_number e ≢ 4 → status_number e ≢ 8 → c.unread_now ≡ c.unread_before
  all_read (endings.Plain (plain.Reported answer)) h four eight = h.ends.3.read
  all_read (endings.Plain plain.NotWritten) h four eight = h.ends.2
  all_read (endings.Plain (plain.Refused line)) h four eight = h.ends.2
  all_read (endings.Plain (plain.CannotRead text)) h four eight = absurd (four refl)
  all_read (endings.Plain plain.NoMemory) h four eight = absurd (eight refl)
  all_read (endings.Plain plain.Usage) h four eight = h.ends.1
  all_read endings.DiskFailed h four eight = h.ends.1
  all_read (endings.Refused line) h four eight = h.ends.2
  all_read (endings.Full line) h four eight = h.ends.2

  pub all_written : (e : Ending) → Ends e Texts Unread asked before now c → status_number e ≢ 7 → c.puts_now ≡ c.puts_before
  all_written (endings.Plain (plain.Reported answer)) h seven = h.ends.3.put
  all_written (endings.Plain plain.NotWritten) h seven = absurd (seven refl)
  all_written (endings.Plain (plain.Refused line)) h seven = h.ends.3.put
  all_written (endings.Plain (plain.CannotRead text)) h seven = h.ends.3.put
  all_written (endings.Plain plain.NoMemory) h seven = h.ends.0.put
  all_written (endings.Plain plain.Usage) h seven = h.ends.2.put
  all_written endings.DiskFailed h seven = h.ends.2.put
  all_written (endings.Refused line) h seven = h.ends.3.put
  all_written (endings.Full line) h seven = h.ends.3.put

  pub all_opened : (e : Ending) → Ends e Texts Unread asked before now c → status_number e ≢ 5 → c.unopened_now ≡ c.unopened_before
  all_opened (endings.Plain (plain.Reported answer)) h five = h.ends.4.opened
  all_opened (endings.Plain plain.NotWritten) h five = h.ends.4.opened
  all_opened (endings.Plain (plain.Refused line)) h five = h.ends.4.opened
  all_opened (endings.Plain (plain.CannotRead text)) h five = h.ends.4.opened
  all_opened (endings.Plain plain.NoMemory) h five = elim h.ends.1 [ inl u ↦ u.opened | inr o ↦ o.opened ]
  all_opened (endings.Plain plain.Usage) h five = h.ends.3.opened
  all_opened endings.DiskFailed h five = absurd (five refl)
  all_opened (endings.Refused line) h five = h.ends.4.opened
  all_opened (endings.Full line) h five = h.ends.4.opened

  -- status 5 is that of a disk alone
  pub disk_failed : (e : Ending) → Ends e Texts Unread asked before now c → status_number e ≡ 5 → e ≡ endings.DiskFailed
  disk_failed (endings.Plain (plain.Reported answer)) h five = let small = h.ends.1 in absurd (omega arith)
  disk_failed (endings.Plain plain.NotWritten) h five = absurd (omega arith)
  disk_failed (endings.Plain (plain.Refused line)) h five = absurd (omega arith)
  disk_failed (endings.Plain (plain.CannotRead text)) h five = absurd (omega arith)
  disk_failed (endings.Plain plain.NoMemory) h five = absurd (omega arith)
  disk_failed (endings.Plain plain.Usage) h five = absurd (omega arith)
  disk_failed endings.DiskFailed h five = refl
  disk_failed (endings.Refused line) h five = absurd (omega arith)
  disk_failed (endings.Full line) h five = absurd (omega arith)

  pub opens : (e : Ending) → Ends e Texts Unread asked before now c → Opens (status_number e) c.opens_before c.opens_now
  opens (endings.Plain (plain.Reported answer)) h = opens_one answer h.ends.4.opens (let small = h.ends.1 in inl (omega arith))
  opens (endings.Plain plain.NotWritten) h = opens_one 7 h.ends.4.opens (inr (omega arith))
  opens (endings.Plain (plain.Refused line)) h = opens_none 3 h.ends.4.opens (omega arith) (omega arith)
  opens (endings.Plain (plain.CannotRead text)) h = opens_none 4 h.ends.4.opens (omega arith) (omega arith)
  opens (endings.Plain plain.NoMemory) h = record { none = λ z. absurd (with_none 8 (inr (omega arith)) z); one = λ z. absurd (no_one 8 refl z); most = elim h.ends.1 [ inl u ↦ inl u.opens | inr o ↦ inr o.opens ] }
  opens (endings.Plain plain.Usage) h = opens_none 2 h.ends.3.opens (omega arith) (omega arith)
  opens endings.DiskFailed h = opens_one 5 h.ends.3 (inr (omega arith))
  opens (endings.Refused line) h = opens_one 6 h.ends.4.opens (inr (omega arith))
  opens (endings.Full line) h = opens_one 9 h.ends.4.opens (inr (omega arith))

  pub complains : (Told : List ℕ → Type 0) (e : Ending) → Ends e Texts Unread asked before now c → Told (told_text e) → Complains Unread (status_number e) Told
  complains Told (endings.Plain (plain.Reported answer)) h t = record {
    nothing = λ z. t;
    usage = λ z. (let small = h.ends.1 in absurd (omega arith));
    refusal = λ z. (let small = h.ends.1 in absurd (omega arith));
    unread = λ z. (let small = h.ends.1 in absurd (omega arith));
    failed = λ z. (let small = h.ends.1 in absurd (omega arith));
    refused = λ z. (let small = h.ends.1 in absurd (omega arith));
    unwritten = λ z. (let small = h.ends.1 in absurd (omega arith));
    memory = λ z. (let small = h.ends.1 in absurd (omega arith));
    full = λ z. (let small = h.ends.1 in absurd (omega arith));
  }
  complains Told (endings.Plain plain.NotWritten) h t = record {
    nothing = λ z. absurd (only 7 (omega arith) z);
    usage = λ z. absurd (omega arith);
    refusal = λ z. absurd (omega arith);
    unread = λ z. absurd (omega arith);
    failed = λ z. absurd (omega arith);
    refused = λ z. absurd (omega arith);
    unwritten = λ z. t;
    memory = λ z. absurd (omega arith);
    full = λ z. absurd (omega arith);
  }
  complains Told (endings.Plain (plain.Refused line)) h t = record {
    nothing = λ z. absurd (only 3 (omega arith) z);
    usage = λ z. absurd (omega arith);
    refusal = λ z. (line.items, h.ends.0, t);
    unread = λ z. absurd (omega arith);
    failed = λ z. absurd (omega arith);
    refused = λ z. absurd (omega arith);
    unwritten = λ z. absurd (omega arith);
    memory = λ z. absurd (omega arith);
    full = λ z. absurd (omega arith);
  }
  complains Told (endings.Plain (plain.CannotRead text)) h t = record {
    nothing = λ z. absurd (only 4 (omega arith) z);
    usage = λ z. absurd (omega arith);
    refusal = λ z. absurd (omega arith);
    unread = λ z. (text.items, h.ends.0, t);
    failed = λ z. absurd (omega arith);
    refused = λ z. absurd (omega arith);
    unwritten = λ z. absurd (omega arith);
    memory = λ z. absurd (omega arith);
    full = λ z. absurd (omega arith);
  }
  complains Told (endings.Plain plain.NoMemory) h t = record {
    nothing = λ z. absurd (only 8 (omega arith) z);
    usage = λ z. absurd (omega arith);
    refusal = λ z. absurd (omega arith);
    unread = λ z. absurd (omega arith);
    failed = λ z. absurd (omega arith);
    refused = λ z. absurd (omega arith);
    unwritten = λ z. absurd (omega arith);
    memory = λ z. t;
    full = λ z. absurd (omega arith);
  }
  complains Told (endings.Plain plain.Usage) h t = record {
    nothing = λ z. absurd (only 2 (omega arith) z);
    usage = λ z. t;
    refusal = λ z. absurd (omega arith);
    unread = λ z. absurd (omega arith);
    failed = λ z. absurd (omega arith);
    refused = λ z. absurd (omega arith);
    unwritten = λ z. absurd (omega arith);
    memory = λ z. absurd (omega arith);
    full = λ z. absurd (omega arith);
  }
  complains Told endings.DiskFailed h t = record {
    nothing = λ z. absurd (only 5 (omega arith) z);
    usage = λ z. absurd (omega arith);
    refusal = λ z. absurd (omega arith);
    unread = λ z. absurd (omega arith);
    failed = λ z. t;
    refused = λ z. absurd (omega arith);
    unwritten = λ z. absurd (omega arith);
    memory = λ z. absurd (omega arith);
    full = λ z. absurd (omega arith);
  }
  complains Told (endings.Refused line) h t = record {
    nothing = λ z. absurd (only 6 (omega arith) z);
    usage = λ z. absurd (omega arith);
    refusal = λ z. absurd (omega arith);
    unread = λ z. absurd (omega arith);
    failed = λ z. absurd (omega arith);
    refused = λ z. (line.items, h.ends.0, t);
    unwritten = λ z. absurd (omega arith);
    memory = λ z. absurd (omega arith);
    full = λ z. absurd (omega arith);
  }
  complains Told (endings.Full line) h t = record {
    nothing = λ z. absurd (only 9 (omega arith) z);
    usage = λ z. absurd (omega arith);
    refusal = λ z. absurd (omega arith);
    unread = λ z. absurd (omega arith);
    failed = λ z. absurd (omega arith);
    refused = λ z. absurd (omega arith);
    unwritten = λ z. absurd (omega arith);
    memory = λ z. absurd (omega arith);
    full = λ z. (line.items, h.ends.0, t);
  }
