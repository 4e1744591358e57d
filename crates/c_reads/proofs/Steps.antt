-- What the steps of a parser do, and the choice of a rule.
use Rattle.std.proofs.Common.{◌≡◌, ℕ, ◌≤◌, ◌<◌, ◌+◌, Bool, true, false, List, [], ◌∷◌, ◌++◌, length, Ok, Err, refl, sym, ap, ◌∙◌, subst, append_assoc, length-append, arith, cond}
use Rattle.std.proofs.lemmas.Bool.{cond_both}
use Rattle.std.proofs.lemmas.List.{append-nil}
use Rattle.c_tree.specs.declared.lexeme.Lexeme.{Lexeme}
use Rattle.c_grammar.specs.Derives.{Derives, Begins, Reaches}
use Rattle.c_grammar.specs.Items.{Sym, In, Out, Item, term, act, nt, some, change as changed, sym as symbol, shapes}
use Rattle.c_grammar.specs.Productions.{Rule}
use Rattle.c_grammar.specs.State.{State}
use Rattle.c_grammar.specs.Terminals.{Terminal}
use Rattle.c_cursor.specs.declared.error.ReadError.TheVariants as errors
use Rattle.c_reads.specs.Exact.{Stack, Stops, Read, Refused, Past, Makes, Ends, Does}
use Rattle.c_cursor.specs.Parsers.{Input, Outcome, Parser, and_then, ◌>>=◌, ◌>>◌, take, taken, change, sees, sees_in, on, past_limit, within_limits}
use Rattle.c_reads.proofs.Binding.{Follows, bind, Any, any_follows}

infixl 12 ◌then◌
pub ◌then◌ : {xs ys : List Item} {start mid end : Input} → Makes xs start mid → Makes ys mid end → Makes (xs ++ ys) start end
◌then◌ {xs} {ys} {start} p q = record {
  used = p.used ++ q.used;
  cut = p.cut ∙ ap (λ r. p.used ++ r) q.cut ∙ sym (append_assoc p.used q.used _);
  sound = λ behind more last d. subst (λ (is : List Item). Derives is start.state ((p.used ++ q.used) ++ more) last) (sym (append_assoc xs ys behind))
      (subst (λ (ts : List Lexeme). Derives (xs ++ (ys ++ behind)) start.state ts last) (sym (append_assoc p.used q.used more)) (p.sound (ys ++ behind) (q.used ++ more) last (q.sound behind more last d)));
}

pub nothing : (start : Input) → Makes [] start start
nothing start = record { used = []; cut = refl; sound = λ behind more last d. d }

pub by_rule : {n : Sym} {a : In n} {b : Out n} {items : List Item} {start end : Input} → Rule n a b items → Makes items start end → Makes (nt n a b ∷ []) start end
by_rule r m = record { used = m.used; cut = m.cut; sound = λ behind more last d. Derives.by r (m.sound behind more last d) }

pub shrinks : {items : List Item} {start end : Input} → Makes items start end → length end.rest ≤ length start.rest
shrinks {start = start} {end = end} m =
    let whole : length start.rest ≡ length m.used + length end.rest = ap length m.cut ∙ length-append m.used end.rest in
    omega (arith, whole)

-- ---- a token
pub record Took (w : Terminal) (t : Lexeme) (start end : Input) : Type 0 where
  pub rest : start.rest ≡ t ∷ end.rest
  pub fits : w.fits start.state t ≡ true
  pub makes : Makes (term w t ∷ []) start end

pub took_less : {w : Terminal} {t : Lexeme} {start end : Input} → Took w t start end → length end.rest < length start.rest
took_less {t = t} {start = start} {end = end} y =
    let whole : length start.rest ≡ length (t ∷ end.rest) = ap length y.rest in
    omega (arith, whole)

pub tested : (w : Terminal) (behind : Stack) (s : State) (t : Lexeme) (ts : List Lexeme) → Begins (some w ∷ behind) s (t ∷ ts) → (w.fits s t ≡ true) × Begins behind (w.after s t) ts
tested w behind s t ts (Begins.token h b) = (h, b)

abbrev Taking : (H : Stack → Type 0) (w : Terminal) (s : State) (ts : List Lexeme) → Outcome Lexeme → Type 0
Taking H w s ts o = Ends H (some w ∷ []) (λ t end. Took w t (record { state = s; rest = ts }) end) (record { state = s; rest = ts }) o

take_ends : (H : Stack → Type 0) (w : Terminal) (s : State) (ts : List Lexeme) → Taking H w s ts (taken w s ts)
take_ends H w s [] = record { rest = []; left_is = refl; used = []; cut = refl; goes = λ behind. Begins.stop; none = λ behind t ts e h b. cc }
take_ends H w s (t ∷ ts) = cond_both (w.fits s t) _ _ (λ (o : Outcome Lexeme). Taking H w s (t ∷ ts) o)
    (λ e. (
      record { used = t ∷ []; cut = refl; run = Reaches.token e Reaches.here; goes = λ behind more b. Begins.token e b; only = λ behind front back is h b. (tested w behind s t front b).1 },
      record { rest = refl; fits = e; makes = record { used = t ∷ []; cut = refl; sound = λ behind more last d. Derives.token e d } },
    ))
    (λ e. record { rest = t ∷ ts; left_is = refl; used = []; cut = refl; goes = λ behind. Begins.stop; none = λ behind u us is h b. misfit w behind s t u ts us is e b })
  where
    misfit : (w : Terminal) (behind : Stack) (s : State) (t u : Lexeme) (ts us : List Lexeme) → t ∷ ts ≡ u ∷ us → w.fits s t ≡ false → Begins (some w ∷ behind) s (u ∷ []) → ⊥
    misfit w behind s t u ts us is e b =
        let head : t ≡ u = cc in
        let fit = (tested w behind s u [] b).0 in
        let same : w.fits s t ≡ w.fits s u = ap (λ (v : Lexeme). w.fits s v) head in
        cc

-- takes a token and goes on
pub taking : {B : Type 0} {H : Stack → Type 0} {ys : Stack} {Q : B → Input → Type 0} {f : Lexeme → Parser B} {start : Input} (w : Terminal)
    → ((t : Lexeme) (mid : Input) → Took w t start mid → Does H ys Q (f t) mid) → Does H (some w ∷ ys) Q (take w >>= f) start
unfolding take
taking {H = H} {ys = ys} {start = start} w f = bind (any_follows H ys) (record { ends = take_ends Any w start.state start.rest }) f

-- ---- a change of the state
pub undone : (f : State → State) (behind : Stack) (s : State) (front : List Lexeme) → Begins (changed f ∷ behind) s front → Begins behind (f s) front
undone f behind s [] b = Begins.stop
undone f behind s (t ∷ front) (Begins.acted b) = b

change_does : (f : State → State) (start : Input) → Does Any (changed f ∷ []) (λ (u : Unit {0}) mid. Makes (act f ∷ []) start mid) (change f) start
unfolding change
change_does f start = record {
  ends = (
    record { used = []; cut = refl; run = Reaches.acted Reaches.here; goes = λ behind more b. Begins.acted b; only = λ behind front back e h b. undone f behind start.state front b },
    record { used = []; cut = refl; sound = λ behind more last d. Derives.acted d },
  );
}

pub changing : {B : Type 0} {H : Stack → Type 0} {ys : Stack} {Q : B → Input → Type 0} {g : Unit {0} → Parser B} {start : Input} (f : State → State)
    → ((u : Unit {0}) (mid : Input) → Makes (act f ∷ []) start mid → Does H ys Q (g u) mid) → Does H (changed f ∷ ys) Q (change f >>= g) start
changing {H = H} {ys = ys} {start = start} f d = bind (any_follows H ys) (change_does f start) d

-- ---- one thing or the other
chosen : {A : Type 0} (P : Outcome A → Type 0) (b : Bool) (o1 o2 : Outcome A) → (b ≡ true → P o1) → (b ≡ false → P o2) → P (cond b o1 o2)
chosen P true o1 o2 x y = x refl
chosen P false o1 o2 x y = y refl

pub either : {A : Type 0} {H : Stack → Type 0} {xs : Stack} {P : A → Input → Type 0} {p q : Parser A} {i : Input} (w : Terminal)
    → (sees w i ≡ true → Does H xs P p i) → (sees w i ≡ false → Does H xs P q i) → Does H xs P (on w p q) i
unfolding on
either {H = H} {xs = xs} {P = P} {p = p} {q = q} {i = i} w x y =
    record { ends = chosen (λ o. Ends H xs P i o) (sees w i) (p i) (q i) (λ e. (x e).ends) (λ e. (y e).ends) }

pub either_then : {A B : Type 0} {H : Stack → Type 0} {xs : Stack} {Q : B → Input → Type 0} {i : Input} (w : Terminal) (p q : Parser A) (f : A → Parser B)
    → (sees w i ≡ true → Does H xs Q (p >>= f) i) → (sees w i ≡ false → Does H xs Q (q >>= f) i) → Does H xs Q (on w p q >>= f) i
unfolding on
either_then {A} {B} {H = H} {xs = xs} {Q = Q} {i = i} w p q f x y =
    record { ends = chosen (λ (o : Outcome A). Ends H xs Q i (and_then o f)) (sees w i) (p i) (q i) (λ e. (x e).ends) (λ e. (y e).ends) }

-- gives up where a limit was passed, and else goes on
pub stopping_then : {A B : Type 0} {H : Stack → Type 0} {xs : Stack} {Q : B → Input → Type 0} {i : Input} (p : Parser A) (f : A → Parser B)
    → Does H xs Q (p >>= f) i → Does H xs Q ((within_limits >> p) >>= f) i
unfolding within_limits
stopping_then {A} {B} {H = H} {xs = xs} {Q = Q} {i = i} p f d = record {
  ends = chosen (λ (o : Outcome (Unit {0})). Ends H xs Q i (and_then (and_then o (λ _. p)) f)) (past_limit i.state)
      (Err errors.TooDeep) (Ok (tt, i))
      (λ e. record { used = []; rest = i.rest; cut = refl; left = xs; end = i.state; run = Reaches.here; passed = e })
      (λ e. d.ends);
}

-- ---- the choice of a rule
pub record Chooses (H : Stack → Type 0) (n : Sym) (xs : Stack) (i : Input) : Type 0 where
  pub runs : (ts : List Lexeme) (left : Stack) (end : State) → Reaches xs i.state ts left end → Reaches (symbol n ∷ []) i.state ts left end
  pub goes : (behind : Stack) (more : List Lexeme) → Begins (xs ++ behind) i.state more → Begins (symbol n ∷ behind) i.state more
  pub only : (behind : Stack) (front back : List Lexeme) → i.rest ≡ front ++ back → H behind → Begins (symbol n ∷ behind) i.state front → Begins (xs ++ behind) i.state front

module _ {H : Stack → Type 0} {n : Sym} {xs : Stack} {i : Input} (c : Chooses H n xs i) where
  rule_read : {end : Input} → Read H xs i end → Read H (symbol n ∷ []) i end
  rule_read {end} r = record {
    used = r.used;
    cut = r.cut;
    run = c.runs r.used [] end.state r.run;
    goes = λ behind more h. c.goes behind (r.used ++ more) (r.goes behind more h);
    only = λ behind front back e h began.
        r.only behind front back e h (c.only behind (r.used ++ front) back (r.cut ∙ ap (λ u. r.used ++ u) e ∙ sym (append_assoc r.used front back)) h began);
  }

  rule_refused : {left : ℕ} → Refused H xs i left → Refused H (symbol n ∷ []) i left
  rule_refused r = record {
    rest = r.rest;
    left_is = r.left_is;
    used = r.used;
    cut = r.cut;
    goes = λ behind. c.goes behind r.used (r.goes behind);
    none = λ behind t ts e h began.
        r.none behind t ts e h (c.only behind (r.used ++ t ∷ []) ts (r.cut ∙ ap (λ u. r.used ++ u) e ∙ sym (append_assoc r.used (t ∷ []) ts)) h began);
  }

  rule_past : Past xs i → Past (symbol n ∷ []) i
  rule_past p = record {
    used = p.used;
    rest = p.rest;
    cut = p.cut;
    left = p.left;
    end = p.end;
    run = c.runs p.used p.left p.end p.run;
    passed = p.passed;
  }

  rule_ends : (A : Type 0) (P : A → Input → Type 0) (o : Outcome A) → Ends H xs P i o → Ends H (symbol n ∷ []) P i o
  rule_ends A P (Ok p) r = (rule_read r.0, r.1)
  rule_ends A P (Err (errors.Wrong left)) r = rule_refused r
  rule_ends A P (Err errors.TooDeep) r = rule_past r
  rule_ends A P (Err errors.Spent) r = absurd r
  rule_ends A P (Err errors.NoMemory) r = absurd r

  pub rule : {A : Type 0} {P : A → Input → Type 0} {p : Parser A} → Does H xs P p i → Does H (symbol n ∷ []) P p i
  rule {A} {P} {p} d = record { ends = rule_ends A P (p i) d.ends }

-- ---- the choice by the first token
pub stopped : {f : State → Lexeme → Bool} (H : Stack → Type 0) (w : Terminal) (ys : Stack) → ((s : State) (t : Lexeme) → w.fits s t ≡ true → f s t ≡ false) → Follows (Stops f) H (some w ∷ ys)
stopped {f} H w ys apart = record {
  step = λ behind h. record {
    never = λ s t ts on b. (let off = apart s t (tested w (ys ++ behind) s t ts b).0 in cc);
  };
}

-- the first token tells which rule of the symbol it is
pub record Picks (H : Stack → Type 0) (n : Sym) (pick : State → Lexeme → Stack) : Type 0 where
  pub only : (behind : Stack) (s : State) (t : Lexeme) (ts : List Lexeme) → H behind → Begins (symbol n ∷ behind) s (t ∷ ts) → Begins (pick s t ++ behind) s (t ∷ ts)

pub head_of : (w : Terminal) (i : Input) (b : Bool) → sees w i ≡ b → (t : Lexeme) (ts : List Lexeme) → i.rest ≡ t ∷ ts → w.fits i.state t ≡ b
head_of w i b seen t ts is = subst (λ (r : List Lexeme). sees_in w i.state r ≡ b) is seen

pub chooses : {H : Stack → Type 0} {n : Sym} {pick : State → Lexeme → Stack} {a : In n} {b : Out n} {items : List Item} (i : Input) → Picks H n pick → Rule n a b items
    → ((t : Lexeme) (ts : List Lexeme) → i.rest ≡ t ∷ ts → pick i.state t ≡ shapes items) → Chooses H n (shapes items) i
chooses {H} {n} {pick} {a} {b} {items} i picks r picked = record { runs = through; goes = λ behind more began. Begins.by r began; only = go }
  where
    through : (ts : List Lexeme) (left : Stack) (end : State) → Reaches (shapes items) i.state ts left end → Reaches (symbol n ∷ []) i.state ts left end
    through ts left end q = Reaches.by r (subst (λ (ss : Stack). Reaches ss i.state ts left end) (sym (append-nil (shapes items))) q)

    go : (behind : Stack) (front back : List Lexeme) → i.rest ≡ front ++ back → H behind → Begins (symbol n ∷ behind) i.state front → Begins (shapes items ++ behind) i.state front
    go behind [] back e h began = Begins.stop
    go behind (t ∷ front) back e h began =
        subst (λ (ss : Stack). Begins (ss ++ behind) i.state (t ∷ front)) (picked t (front ++ back) e) (picks.only behind i.state t front h began)

-- a change of the state begins with no token
pub behind_change : {goes_on : State → Lexeme → Bool} {f : State → State} → ((s : State) (t : Lexeme) → goes_on (f s) t ≡ goes_on s t)
    → Follows (Stops goes_on) (Stops goes_on) (changed f ∷ [])
behind_change {goes_on} {f} calm = record {
  step = λ behind h. record { never = λ s t ts on b. h.never (f s) t ts (calm s t ∙ on) (undone f behind s (t ∷ ts) b) };
}
