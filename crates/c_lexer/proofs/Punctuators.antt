-- The longest mark of a table at the front of a text.
use Rattle.std.proofs.Common.{◌≡◌, ℕ, ◌≤◌, Bool, true, false, not, ◌&&◌, eqb, nat_lt, cond, List, [], ◌∷◌, ◌++◌, length, drop, Option, Some, None, refl, sym, ap, subst, arith}
use Rattle.std.specs.List.{list_all}
use Rattle.std.specs.Str.{bytes_eq}
use Rattle.std.proofs.lemmas.Slice.Eq.{bytes_eq-Decides}
use Rattle.std.proofs.lemmas.Bool.{and_parts, eqb-true, eq-eqb, ltb-true, ltb-false, cond_both, false≢true}
use Rattle.c_syntax.specs.Marks.{Mark, marks}
use Rattle.c_lexer.specs.Bytes.{Text, is_nondigit, is_digit}
use Rattle.c_lexer.specs.Shapes.{mark_number, IsMark}
use Rattle.c_lexer.specs.computed.Marks.{begins, longer, best}

-- ---- a text begins with a word
pub begins_is : (w back : Text) → begins w (w ++ back) ≡ true
begins_is [] back = refl
begins_is (x ∷ w) back = rw (eq-eqb x x refl) (begins_is w back)

pub begins_cut : (w text : Text) → begins w text ≡ true → text ≡ w ++ drop (length w) text
begins_cut [] text e = refl
begins_cut (x ∷ w) [] e = absurd (false≢true e)
begins_cut (x ∷ w) (b ∷ bs) e = go (eqb x b) refl e (begins_cut w bs)
  where
    go : (t : Bool) → eqb x b ≡ t → cond t (begins w bs) false ≡ true → (begins w bs ≡ true → bs ≡ w ++ drop (length w) bs) → b ∷ bs ≡ x ∷ (w ++ drop (length w) bs)
    go true q e more = let head = eqb-true x b q in let rest = more e in cc
    go false q e more = absurd (false≢true e)

-- ---- the best of a table
abbrev pub Beats : Option Mark → ℕ → Type 0
Beats None n = ⊥
Beats (Some m) n = n ≤ length m.text

longer_left : (m : Mark) (o : Option Mark) → Beats (longer m o) (length m.text)
longer_left m None = omega arith
longer_left m (Some k) = cond_both (nat_lt (length m.text) (length k.text)) (Some k) (Some m) (λ o. Beats o (length m.text)) (λ e. omega (arith, ltb-true (length m.text) (length k.text) e)) (λ e. omega arith)

longer_right : (m : Mark) (o : Option Mark) (n : ℕ) → Beats o n → Beats (longer m o) n
longer_right m None n h = absurd h
longer_right m (Some k) n h = cond_both (nat_lt (length m.text) (length k.text)) (Some k) (Some m) (λ o. Beats o n) (λ e. h) (λ e. omega (arith, ltb-false (length m.text) (length k.text) e))

-- some mark of the table is this front
pub best_beats : (ms : List Mark) (front back : Text) (n : ℕ) → mark_number ms front ≡ Some n → Beats (best ms (front ++ back)) (length front)
best_beats [] front back n e = absurd cc
best_beats (m ∷ ms) front back n e = go (bytes_eq m.text front) refl e (best_beats ms front back n)
  where
    keep : Beats (best ms (front ++ back)) (length front) → Beats (best (m ∷ ms) (front ++ back)) (length front)
    keep h = cond_both (begins m.text (front ++ back)) (longer m (best ms (front ++ back))) (best ms (front ++ back)) (λ o. Beats o (length front)) (λ q. longer_right m (best ms (front ++ back)) (length front) h) (λ q. h)

    here : m.text ≡ front → Beats (best (m ∷ ms) (front ++ back)) (length front)
    here same = subst (λ (f : Text). Beats (best (m ∷ ms) (f ++ back)) (length f)) same (rw (begins_is m.text back) (longer_left m (best ms (m.text ++ back))))

    go : (t : Bool) → bytes_eq m.text front ≡ t → cond t (Some m.number) (mark_number ms front) ≡ Some n → (mark_number ms front ≡ Some n → Beats (best ms (front ++ back)) (length front)) → Beats (best (m ∷ ms) (front ++ back)) (length front)
    go true q e more = here ((bytes_eq-Decides m.text front).0 q)
    go false q e more = keep (more e)

-- what every mark of the table has, the best has; and the text begins with it
pub record IsOfTable (test : Mark → Bool) (text : Text) (m : Mark) : Type 0 where
  pub passes : test m ≡ true
  pub begins_with : begins m.text text ≡ true

abbrev AllRight : (Mark → Bool) → Text → Option Mark → Type 0
AllRight test text None = Unit {0}
AllRight test text (Some m) = IsOfTable test text m

longer_right_one : (test : Mark → Bool) (text : Text) (m : Mark) (o : Option Mark) → IsOfTable test text m → AllRight test text o → AllRight test text (longer m o)
longer_right_one test text m None h k = h
longer_right_one test text m (Some k) h r = cond_both (nat_lt (length m.text) (length k.text)) (Some k) (Some m) (λ o. AllRight test text o) (λ e. r) (λ e. h)

all_right : (test : Mark → Bool) (ms : List Mark) (text : Text) → list_all test ms ≡ true → AllRight test text (best ms text)
all_right test [] text e = tt
all_right test (m ∷ ms) text e =
    let parts = and_parts (test m) (list_all test ms) e in
    let more = all_right test ms text parts.1 in
    cond_both (begins m.text text) (longer m (best ms text)) (best ms text) (λ o. AllRight test text o) (λ q. longer_right_one test text m (best ms text) (record { passes = parts.0; begins_with = q }) more) (λ q. more)

pub best_is : (test : Mark → Bool) (text : Text) (m : Mark) → list_all test marks ≡ true → best marks text ≡ Some m → IsOfTable test text m
best_is test text m all e = subst (λ (o : Option Mark). AllRight test text o) e (all_right test marks text all)

-- ---- a spelling of the table
-- what every mark of the table has, each spelling with its number has
spelling_in : (test : Text → ℕ → Bool) (ms : List Mark) (text : Text) (n : ℕ) → list_all (λ m. test m.text m.number) ms ≡ true → mark_number ms text ≡ Some n → test text n ≡ true
spelling_in test [] text n all e = absurd cc
spelling_in test (m ∷ ms) text n all e =
    let parts = and_parts (test m.text m.number) (list_all (λ m. test m.text m.number) ms) all in
    go (bytes_eq m.text text) refl e (λ e. spelling_in test ms text n parts.1 e) parts.0
  where
    go : (t : Bool) → bytes_eq m.text text ≡ t → cond t (Some m.number) (mark_number ms text) ≡ Some n → (mark_number ms text ≡ Some n → test text n ≡ true) → test m.text m.number ≡ true → test text n ≡ true
    go true q e more here =
        let same : m.text ≡ text = (bytes_eq-Decides m.text text).0 q in
        let number : m.number ≡ n = cc in
        subst (λ (w : Text). test w n ≡ true) same (subst (λ (k : ℕ). test m.text k ≡ true) number here)
    go false q e more here = more e

pub spelling : (test : Text → ℕ → Bool) (text : Text) (n : ℕ) → list_all (λ m. test m.text m.number) marks ≡ true → IsMark n text → test text n ≡ true
spelling test text n all e = spelling_in test marks text n all e

abbrev pub is_some_number : ℕ → Option ℕ → Bool
is_some_number n None = false
is_some_number n (Some k) = eqb n k

some_number : (n : ℕ) (o : Option ℕ) → is_some_number n o ≡ true → o ≡ Some n
some_number n None e = absurd (false≢true e)
some_number n (Some k) e = ap Some (sym (eqb-true n k e))

-- the best mark is a spelling with its number
pub best_spelled : (text : Text) (m : Mark) → best marks text ≡ Some m → IsMark m.number m.text
best_spelled text m e = some_number m.number _ (best_is (λ k. is_some_number k.number (mark_number marks k.text)) text m refl e).passes

-- ---- how marks begin
-- no mark is empty or begins as a word, a number or a literal does
abbrev pub begins_apart : Text → Bool
begins_apart [] = false
begins_apart (b ∷ bs) = not (is_nondigit b) && (not (is_digit b) && (not (eqb b 39) && not (eqb b 34)))

-- behind a period that begins a longer mark stands no digit
abbrev pub period_apart : Text → Bool
period_apart (b ∷ c ∷ bs) = not (eqb b 46 && is_digit c)
period_apart text = true

pub mark_begins : (text : Text) (n : ℕ) → IsMark n text → begins_apart text ≡ true
mark_begins text n e = spelling (λ w k. begins_apart w) text n refl e

pub mark_period : (text : Text) (n : ℕ) → IsMark n text → period_apart text ≡ true
mark_period text n e = spelling (λ w k. period_apart w) text n refl e
