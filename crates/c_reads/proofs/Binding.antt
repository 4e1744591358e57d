-- One parser after another.
use Rattle.std.proofs.Common.{◌≡◌, ℕ, List, [], ◌∷◌, ◌++◌, Ok, Err, refl, sym, ap, ◌∙◌, subst, append_assoc}
use Rattle.c_tree.specs.declared.lexeme.Lexeme.{Lexeme}
use Rattle.c_grammar.specs.Derives.{Begins, Reaches}
use Rattle.c_grammar.specs.Items.{Shape, shapes}
use Rattle.c_grammar.specs.State.{State}
use Rattle.c_grammar.proofs.Fronts.{joined}
use Rattle.c_cursor.specs.declared.error.ReadError.TheVariants as errors
use Rattle.c_reads.specs.Exact.{Stack, Read, Refused, Past, Ends, Does}
use Rattle.c_cursor.specs.Parsers.{Input, Outcome, Parser, and_then, ◌>>=◌, pure}

-- ---- runs
-- a run leaves alone what stands behind
over : {xs left : Stack} {s end : State} {ts : List Lexeme} (ys : Stack) → Reaches xs s ts left end → Reaches (xs ++ ys) s ts (left ++ ys) end
over ys Reaches.here = Reaches.here
over ys (Reaches.token h r) = Reaches.token h (over ys r)
over ys (Reaches.seen r) = Reaches.seen (over ys r)
over ys (Reaches.acted r) = Reaches.acted (over ys r)
over ys (Reaches.by {items = items} {more = more} {left = left} {s = s} {end = end} {ts = ts} q r) =
    Reaches.by q (subst (λ (ss : Stack). Reaches ss s ts (left ++ ys) end) (append_assoc (shapes items) more ys) (over ys r))

-- what holds of the stack behind also holds of it with these in front
pub record Follows (H1 H2 : Stack → Type 0) (ys : Stack) : Type 0 where
  pub step : (behind : Stack) → H2 behind → H1 (ys ++ behind)

-- ---- one after another
module _ {H1 H2 : Stack → Type 0} {ys : Stack} (follows : Follows H1 H2 ys) where
  past : {xs : Stack} {start mid : Input} → (read : Read H1 xs start mid) → (used front back : List Lexeme) → mid.rest ≡ (used ++ front) ++ back
      → (behind : Stack) → H2 behind → Begins ((xs ++ ys) ++ behind) start.state ((read.used ++ used) ++ front) → Begins (ys ++ behind) mid.state (used ++ front)
  past {xs} {start} read used front back cut behind h began =
      let flat = subst (λ ss. Begins ss start.state ((read.used ++ used) ++ front)) (append_assoc xs ys behind) began in
      let flatter = subst (λ us. Begins (xs ++ (ys ++ behind)) start.state us) (append_assoc read.used used front) flat in
      read.only (ys ++ behind) (used ++ front) back cut (follows.step behind h) flatter

  then_read : {xs : Stack} {start mid end : Input} → Read H1 xs start mid → Read H2 ys mid end → Read H2 (xs ++ ys) start end
  then_read {xs} {start} p q = record {
    used = p.used ++ q.used;
    cut = p.cut ∙ ap (λ r. p.used ++ r) q.cut ∙ sym (append_assoc p.used q.used _);
    run = joined (over ys p.run) q.run;
    goes = λ behind more h. subst (λ ss. Begins ss start.state ((p.used ++ q.used) ++ more)) (sym (append_assoc xs ys behind))
        (subst (λ us. Begins (xs ++ (ys ++ behind)) start.state us) (sym (append_assoc p.used q.used more)) (p.goes (ys ++ behind) (q.used ++ more) (q.goes behind more h)));
    only = λ behind front back e h began. q.only behind front back e h (past p q.used front back (q.cut ∙ ap (λ r. q.used ++ r) e ∙ sym (append_assoc q.used front back)) behind h began);
  }

  then_refused : {xs : Stack} {start mid : Input} {left : ℕ} → Read H1 xs start mid → Refused H2 ys mid left → Refused H2 (xs ++ ys) start left
  then_refused {xs} {start} p q = record {
    rest = q.rest;
    left_is = q.left_is;
    used = p.used ++ q.used;
    cut = p.cut ∙ ap (λ r. p.used ++ r) q.cut ∙ sym (append_assoc p.used q.used _);
    goes = λ behind. subst (λ ss. Begins ss start.state (p.used ++ q.used)) (sym (append_assoc xs ys behind)) (p.goes (ys ++ behind) q.used (q.goes behind));
    none = λ behind t ts e h began. q.none behind t ts e h (past p q.used (t ∷ []) ts (q.cut ∙ ap (λ r. q.used ++ r) e ∙ sym (append_assoc q.used (t ∷ []) ts)) behind h began);
  }

  refused_then : {xs : Stack} {start : Input} {left : ℕ} → Refused H1 xs start left → Refused H2 (xs ++ ys) start left
  refused_then {xs} {start} p = record {
    rest = p.rest;
    left_is = p.left_is;
    used = p.used;
    cut = p.cut;
    goes = λ behind. subst (λ ss. Begins ss start.state p.used) (sym (append_assoc xs ys behind)) (p.goes (ys ++ behind));
    none = λ behind t ts e h began. p.none (ys ++ behind) t ts e (follows.step behind h) (subst (λ ss. Begins ss start.state (p.used ++ t ∷ [])) (append_assoc xs ys behind) began);
  }

  then_past : {xs : Stack} {start mid : Input} → Read H1 xs start mid → Past ys mid → Past (xs ++ ys) start
  then_past p q = record {
    used = p.used ++ q.used;
    rest = q.rest;
    cut = p.cut ∙ ap (λ r. p.used ++ r) q.cut ∙ sym (append_assoc p.used q.used _);
    left = q.left;
    end = q.end;
    run = joined (over ys p.run) q.run;
    passed = q.passed;
  }

  past_then : {xs : Stack} {start : Input} → Past xs start → Past (xs ++ ys) start
  past_then p = record { used = p.used; rest = p.rest; cut = p.cut; left = p.left ++ ys; end = p.end; run = over ys p.run; passed = p.passed }

  after_read : (B : Type 0) (Q : B → Input → Type 0) {xs : Stack} {start mid : Input} → Read H1 xs start mid → (o : Outcome B) → Ends H2 ys Q mid o → Ends H2 (xs ++ ys) Q start o
  after_read B Q read (Ok p) q = (then_read read q.0, q.1)
  after_read B Q read (Err (errors.Wrong left)) q = then_refused read q
  after_read B Q read (Err errors.TooDeep) q = then_past read q
  after_read B Q read (Err errors.Spent) q = absurd q
  after_read B Q read (Err errors.NoMemory) q = absurd q

  bound : {A B : Type 0} (P : A → Input → Type 0) (Q : B → Input → Type 0) (xs : Stack) (start : Input) (o : Outcome A) → Ends H1 xs P start o
      → (f : A → Parser B) → ((a : A) (mid : Input) → P a mid → Does H2 ys Q (f a) mid) → Ends H2 (xs ++ ys) Q start (and_then o f)
  bound {A} {B} P Q xs start (Ok p) e f q = after_read B Q e.0 (f p.0 p.1) (q p.0 p.1 e.1).ends
  bound P Q xs start (Err (errors.Wrong left)) e f q = refused_then e
  bound P Q xs start (Err errors.TooDeep) e f q = past_then e
  bound P Q xs start (Err errors.Spent) e f q = absurd e
  bound P Q xs start (Err errors.NoMemory) e f q = absurd e

  pub bind : {A B : Type 0} {P : A → Input → Type 0} {Q : B → Input → Type 0} {xs : Stack} {p : Parser A} {f : A → Parser B} {start : Input}
      → Does H1 xs P p start → ((a : A) (mid : Input) → P a mid → Does H2 ys Q (f a) mid) → Does H2 (xs ++ ys) Q (p >>= f) start
  bind {P = P} {Q = Q} {xs = xs} {p = p} {f = f} {start = start} first second = record { ends = bound P Q xs start (p start) first.ends f second }

-- anything may stand behind
abbrev pub Any : Stack → Type 0
Any behind = Unit {0}

pub any_follows : (H : Stack → Type 0) (ys : Stack) → Follows Any H ys
any_follows H ys = record { step = λ behind h. tt }

pub give : {A : Type 0} {H : Stack → Type 0} {P : A → Input → Type 0} (a : A) (start : Input) → P a start → Does H [] P (pure a) start
give a start h = record {
  ends = (record { used = []; cut = refl; run = Reaches.here; goes = λ behind more b. b; only = λ behind front back e h b. b }, h);
}

pub weaken : {A : Type 0} {H : Stack → Type 0} {xs : Stack} {P Q : A → Input → Type 0} {p : Parser A} {start : Input}
    → ((a : A) (end : Input) → P a end → Q a end) → Does H xs P p start → Does H xs Q p start
weaken {A} {H} {xs} {P} {Q} {p} {start} f d = record { ends = go (p start) d.ends }
  where
    go : (o : Outcome A) → Ends H xs P start o → Ends H xs Q start o
    go (Ok q) e = (e.0, f q.0 q.1 e.1)
    go (Err (errors.Wrong left)) e = e
    go (Err errors.TooDeep) e = e
    go (Err errors.Spent) e = absurd e
    go (Err errors.NoMemory) e = absurd e

-- a parser that looks at its place first
pub here : {A : Type 0} {H : Stack → Type 0} {xs : Stack} {P : A → Input → Type 0} {start : Input} (f : Input → Parser A)
    → Does H xs P (f start) start → Does H xs P (λ j. f j j) start
here f d = record { ends = d.ends }

-- where anything may stand behind, so may some things
pub loosen : {A : Type 0} {H : Stack → Type 0} {xs : Stack} {P : A → Input → Type 0} {p : Parser A} {start : Input} → Does Any xs P p start → Does H xs P p start
loosen {A} {H} {xs} {P} {p} {start} d = record { ends = go (p start) d.ends }
  where
    go : (o : Outcome A) → Ends Any xs P start o → Ends H xs P start o
    go (Ok q) e = (record { used = e.0.used; cut = e.0.cut; run = e.0.run; goes = e.0.goes; only = λ behind front back is h b. e.0.only behind front back is tt b }, e.1)
    go (Err (errors.Wrong left)) e = record {
      rest = e.rest;
      left_is = e.left_is;
      used = e.used;
      cut = e.cut;
      goes = e.goes;
      none = λ behind t ts is h b. e.none behind t ts is tt b;
    }
    go (Err errors.TooDeep) e = e
    go (Err errors.Spent) e = absurd e
    go (Err errors.NoMemory) e = absurd e
