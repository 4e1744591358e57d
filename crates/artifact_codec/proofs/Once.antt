-- Windows find the numbers that stand twice.
use Rattle.std.proofs.Common.{◌≡◌, ℕ, ◌-◌, ◌+◌, ◌≤◌, ◌<◌, Bool, true, false, cond, ltb, ◌||◌, not, ◌==◌, ◌⊎◌, inl, inr, List, [], ◌∷◌, length, get_or, set, Option, Some, None, refl, sym, subst, ◌∙◌, arith}
use Rattle.std.proofs.lemmas.Bool.{ltb-true, ltb-false, eqb-true, eqb-false, eq-eqb, ne_eqb, and_from, and_parts}
use Rattle.std.proofs.lemmas.List.{get_or-set_same, get_or-set_other, length-set}
use Rattle.core_ir.specs.Lists.{has}
use Rattle.artifact_codec.specs.declared.window.Window.{Window}
use Rattle.artifact_codec.specs.Demands.{are_distinct}
use Rattle.artifact_codec.specs.computed.Reading.{◌>>=◌}
use Rattle.artifact_codec.specs.computed.Windows.{lesser, mark, mark_all, is_once}

-- ---- a list in which each number stands once

pub cases_bool : (b : Bool) → (b ≡ true) ⊎ (b ≡ false)
cases_bool true = inl refl
cases_bool false = inr refl

or_parts : (a b : Bool) → (a || b) ≡ false → (a ≡ false) × (b ≡ false)
or_parts true b h = absurd cc
or_parts false b h = (refl, h)

pub absent_once : (r : ℕ) (ns : List ℕ) → has ns r ≡ false → is_once r ns ≡ true
absent_once r [] h = refl
absent_once r (n ∷ ns) h =
    let p = or_parts (n == r) (has ns r) h in
    rw p.0 (absent_once r ns p.1)

not_true : (b : Bool) → not b ≡ true → b ≡ false
not_true true h = absurd cc
not_true false h = refl

not_false : (b : Bool) → b ≡ false → not b ≡ true
not_false true h = absurd cc
not_false false h = refl

once_tail : (r n : ℕ) (ns : List ℕ) → is_once r (n ∷ ns) ≡ true → is_once r ns ≡ true
once_tail r n ns h = split (n == r) h
  where
    split : (b : Bool) → cond b (not (has ns r)) (is_once r ns) ≡ true → is_once r ns ≡ true
    split true h = absent_once r ns (not_true (has ns r) h)
    split false h = h

once_head : (n : ℕ) (ns : List ℕ) → is_once n (n ∷ ns) ≡ true → not (has ns n) ≡ true
once_head n ns h = subst (λ b. cond b (not (has ns n)) (is_once n ns) ≡ true) (eq-eqb n n refl) h

pub all_once : (ns : List ℕ) → ((r : ℕ) → is_once r ns ≡ true) → are_distinct ns ≡ true
all_once [] h = refl
all_once (n ∷ ns) h = and_from (not (has ns n)) (are_distinct ns) (once_head n ns (h n)) (all_once ns (λ r. once_tail r n ns (h r)))

distinct_split : (r n : ℕ) (ns : List ℕ) → not (has ns n) ≡ true → is_once r ns ≡ true → (b : Bool) → (n == r) ≡ b → cond b (not (has ns r)) (is_once r ns) ≡ true
distinct_split r n ns head tail true e = subst (λ m. not (has ns m) ≡ true) (eqb-true n r e) head
distinct_split r n ns head tail false e = tail

pub distinct_once : (r : ℕ) (ns : List ℕ) → are_distinct ns ≡ true → is_once r ns ≡ true
distinct_once r [] h = refl
distinct_once r (n ∷ ns) h =
    let p = and_parts (not (has ns n)) (are_distinct ns) h in
    distinct_split r n ns p.0 (distinct_once r ns p.1) (n == r) refl

-- ---- what marking one number does

abbrev pub marked_at : Window → ℕ → Bool
marked_at w i = get_or w.marks i false

pub data Step (w : Window) (n : ℕ) : Option Window → Type 0 where
  below : n < w.low → Step w n (Some w)
  twice : w.low ≤ n → n - w.low < length w.marks → marked_at w (n - w.low) ≡ true → Step w n None
  new : w.low ≤ n → n - w.low < length w.marks → marked_at w (n - w.low) ≡ false → Step w n (Some (record w { marks = set w.marks (n - w.low) true }))
  behind : w.low + length w.marks ≤ n → Step w n (Some (record w { next = Some (lesser w.next n) }))

step : (w : Window) (n : ℕ) → Step w n (mark w n)
unfolding mark
step w n = first (ltb n w.low) refl
  where
    third : w.low ≤ n → n - w.low < length w.marks → (b : Bool) → marked_at w (n - w.low) ≡ b → Step w n (cond b None (Some (record w { marks = set w.marks (n - w.low) true })))
    third le lt true e = twice le lt e
    third le lt false e = new le lt e

    second : w.low ≤ n → (b : Bool) → ltb (n - w.low) (length w.marks) ≡ b
        → Step w n (cond b (cond (marked_at w (n - w.low)) None (Some (record w { marks = set w.marks (n - w.low) true }))) (Some (record w { next = Some (lesser w.next n) })))
    second le true e = third le (ltb-true _ _ e) (marked_at w (n - w.low)) refl
    second le false e = let far : length w.marks ≤ n - w.low = ltb-false (n - w.low) (length w.marks) e in behind (omega (arith, le, far))

    first : (b : Bool) → ltb n w.low ≡ b
        → Step w n (cond b (Some w) (cond (ltb (n - w.low) (length w.marks)) (cond (marked_at w (n - w.low)) None (Some (record w { marks = set w.marks (n - w.low) true }))) (Some (record w { next = Some (lesser w.next n) }))))
    first true e = below (ltb-true n w.low e)
    first false e = second (ltb-false n w.low e) (ltb (n - w.low) (length w.marks)) refl

-- ---- what marking all numbers tells

abbrev pub IsIn : Window → ℕ → Type 0
IsIn w r = (w.low ≤ r) × (r < w.low + length w.marks)

-- a noted number is at most another
abbrev pub IsAtMost : Option ℕ → ℕ → Type 0
IsAtMost None r = ⊥
IsAtMost (Some m) r = m ≤ r

abbrev pub IsFarBy : ℕ → Option ℕ → Type 0
IsFarBy limit None = Unit {0}
IsFarBy limit (Some m) = limit ≤ m

abbrev pub IsFar : Window → Option ℕ → Type 0
IsFar w next = IsFarBy (w.low + length w.marks) next

pub record Knows (w : Window) (ns : List ℕ) (v : Window) : Type 0 where
  pub once : (r : ℕ) → IsIn w r → is_once r ns ≡ true
  pub absent : (r : ℕ) → IsIn w r → marked_at w (r - w.low) ≡ true → has ns r ≡ false
  pub noted : (r : ℕ) → w.low + length w.marks ≤ r → has ns r ≡ true → IsAtMost v.next r
  pub kept : (r : ℕ) → IsAtMost w.next r → IsAtMost v.next r
  pub far : IsFar w w.next → IsFar w v.next

abbrev some : {A : Type 0} → A → Option A
some x = Some x

some_is : {A : Type 0} (x y : A) → some x ≡ some y → x ≡ y
some_is x y e = cc

lesser_left : (next : Option ℕ) (n r : ℕ) → IsAtMost next r → lesser next n ≤ r
lesser_left None n r h = absurd h
lesser_left (Some m) n r h = split (ltb n m) refl
  where
    split : (b : Bool) → ltb n m ≡ b → cond b n m ≤ r
    split true e = omega (arith, ltb-true n m e, h)
    split false e = h

lesser_right : (next : Option ℕ) (n : ℕ) → lesser next n ≤ n
lesser_right None n = omega arith
lesser_right (Some m) n = split (ltb n m) refl
  where
    split : (b : Bool) → ltb n m ≡ b → cond b n m ≤ n
    split true e = omega arith
    split false e = ltb-false n m e

lesser_far : (w : Window) (n : ℕ) → w.low + length w.marks ≤ n → IsFar w w.next → w.low + length w.marks ≤ lesser w.next n
lesser_far w n le h = split w.next h
  where
    inner : (m : ℕ) → w.low + length w.marks ≤ m → (b : Bool) → w.low + length w.marks ≤ cond b n m
    inner m far true = le
    inner m far false = far

    split : (next : Option ℕ) → IsFar w next → w.low + length w.marks ≤ lesser next n
    split None h = le
    split (Some m) h = inner m h (ltb n m)

-- a number that is not the first
other_once : (r n : ℕ) (ns : List ℕ) → (n ≡ r → ⊥) → is_once r ns ≡ true → is_once r (n ∷ ns) ≡ true
other_once r n ns apart h = rw (ne_eqb n r apart) h

other_absent : (r n : ℕ) (ns : List ℕ) → (n ≡ r → ⊥) → has ns r ≡ false → has (n ∷ ns) r ≡ false
other_absent r n ns apart h = rw (ne_eqb n r apart) h

first_once : (n : ℕ) (ns : List ℕ) → has ns n ≡ false → is_once n (n ∷ ns) ≡ true
first_once n ns h = rw (eq-eqb n n refl) (not_false (has ns n) h)

same_or_not : (n r : ℕ) → (n ≡ r) ⊎ (n ≡ r → ⊥)
same_or_not n r = split (n == r) refl
  where
    split : (b : Bool) → (n == r) ≡ b → (n ≡ r) ⊎ (n ≡ r → ⊥)
    split true e = inl (eqb-true n r e)
    split false e = inr (eqb-false n r e)

has_first : (r n : ℕ) (ns : List ℕ) → has (n ∷ ns) r ≡ true → (n ≡ r) ⊎ (has ns r ≡ true)
has_first r n ns h = split (n == r) refl h
  where
    split : (b : Bool) → (n == r) ≡ b → (b || has ns r) ≡ true → (n ≡ r) ⊎ (has ns r ≡ true)
    split true e h = inl (eqb-true n r e)
    split false e h = inr h

pub false_true : (b : Bool) → b ≡ false → b ≡ true → ⊥
false_true b f t = absurd (no (sym f ∙ t))
  where
    no : false ≡ true → ⊥
    no e = cc

-- the number was below the window
knows_below : (w v : Window) (n : ℕ) (ns : List ℕ) → n < w.low → Knows w ns v → Knows w (n ∷ ns) v
knows_below w v n ns lt k = record {
  once = λ r i. other_once r n ns (λ e. omega (arith, lt, i.0, e)) (k.once r i);
  absent = λ r i m. other_absent r n ns (λ e. omega (arith, lt, i.0, e)) (k.absent r i m);
  noted = λ r far h. elim (has_first r n ns h) [ inl e ↦ absurd (omega (arith, lt, far, e)) | inr h ↦ k.noted r far h ];
  kept = k.kept;
  far = k.far;
}

-- the number was marked for the first time
knows_new : (w v : Window) (n : ℕ) (ns : List ℕ) → w.low ≤ n → n - w.low < length w.marks → marked_at w (n - w.low) ≡ false
    → Knows (record w { marks = set w.marks (n - w.low) true }) ns v → Knows w (n ∷ ns) v
knows_new w v n ns le lt unmarked k =
    let i = n - w.low in
    let len : length (set w.marks i true) ≡ length w.marks = length-set w.marks i true in
    let inside : (r : ℕ) → IsIn w r → (w.low ≤ r) × (r < w.low + length (set w.marks i true)) = λ r p. (p.0, rw len p.1) in
    let gone : has ns n ≡ false = k.absent n (le, rw len (omega (arith, le, lt))) (get_or-set_same w.marks i true false lt) in
    record {
      once = λ r p. elim (same_or_not n r) [
        | inl e ↦ subst (λ m. is_once m (n ∷ ns) ≡ true) e (first_once n ns gone)
        | inr apart ↦ other_once r n ns apart (k.once r (inside r p))
      ];
      absent = λ r p m. elim (same_or_not n r) [
        | inl e ↦ absurd (false_true (marked_at w i) unmarked (subst (λ x. marked_at w (x - w.low) ≡ true) (sym e) m))
        | inr apart ↦ other_absent r n ns apart (k.absent r (inside r p) (get_or-set_other w.marks i (r - w.low) true false (λ e. apart (omega (arith, le, p.0, e))) ∙ m))
      ];
      noted = λ r far h. elim (has_first r n ns h) [
        | inl e ↦ absurd (omega (arith, le, lt, far, e))
        | inr h ↦ k.noted r (rw len far) h
      ];
      kept = k.kept;
      far = λ f. subst (λ m. IsFarBy (w.low + m) v.next) len (k.far (subst (λ m. IsFarBy (w.low + m) w.next) (sym len) f));
    }

-- the number was behind the window
knows_behind : (w v : Window) (n : ℕ) (ns : List ℕ) → w.low + length w.marks ≤ n → Knows (record w { next = Some (lesser w.next n) }) ns v → Knows w (n ∷ ns) v
knows_behind w v n ns le k = record {
  once = λ r p. other_once r n ns (λ e. omega (arith, le, p.1, e)) (k.once r p);
  absent = λ r p m. other_absent r n ns (λ e. omega (arith, le, p.1, e)) (k.absent r p m);
  noted = λ r far h. elim (has_first r n ns h) [
    | inl e ↦ k.kept r (subst (λ m. lesser w.next n ≤ m) e (lesser_right w.next n))
    | inr h ↦ k.noted r far h
  ];
  kept = λ r h. k.kept r (lesser_left w.next n r h);
  far = λ f. k.far (lesser_far w n le f);
}

knows_first : (w v : Window) (n : ℕ) (ns : List ℕ) (m : Option Window) → Step w n m → ((u : Window) → mark_all u ns ≡ Some v → Knows u ns v) → (m >>= λ u. mark_all u ns) ≡ Some v → Knows w (n ∷ ns) v
knows_first w v n ns m (below lt) again e = knows_below w v n ns lt (again w e)
knows_first w v n ns m (twice le lt t) again e = absurd cc
knows_first w v n ns m (new le lt t) again e = knows_new w v n ns le lt t (again _ e)
knows_first w v n ns m (behind le) again e = knows_behind w v n ns le (again _ e)

knows_none : (w v : Window) → w ≡ v → Knows w [] v
knows_none w v e = subst (λ u. Knows w [] u) e (record { once = λ r p. refl; absent = λ r p m. refl; noted = λ r far h. absurd cc; kept = λ r h. h; far = λ f. f })

pub knows : (ns : List ℕ) (w v : Window) → mark_all w ns ≡ Some v → Knows w ns v
unfolding mark_all
knows [] w v e = knows_none w v (some_is w v e)
knows (n ∷ ns) w v e = knows_first w v n ns (mark w n) (step w n) (λ u. knows ns u v) e

-- ---- a number that stands twice

pub record Twice (w : Window) (ns : List ℕ) : Type 0 where
  pub number : ℕ
  pub inside : IsIn w number
  pub why : (is_once number ns ≡ false) ⊎ ((marked_at w (number - w.low) ≡ true) × (has ns number ≡ true))

true_has : (n : ℕ) (ns : List ℕ) → has (n ∷ ns) n ≡ true
true_has n ns = rw (eq-eqb n n refl) refl

has_more : (r n : ℕ) (ns : List ℕ) → has ns r ≡ true → has (n ∷ ns) r ≡ true
has_more r n ns h = split (n == r)
  where
    split : (b : Bool) → (b || has ns r) ≡ true
    split true = refl
    split false = h

once_more : (r n : ℕ) (ns : List ℕ) → is_once r ns ≡ false → is_once r (n ∷ ns) ≡ false
once_more r n ns h = split (cases_bool (is_once r (n ∷ ns)))
  where
    split : (is_once r (n ∷ ns) ≡ true) ⊎ (is_once r (n ∷ ns) ≡ false) → is_once r (n ∷ ns) ≡ false
    split (inl t) = absurd (false_true (is_once r ns) h (once_tail r n ns t))
    split (inr f) = f

here_twice : (n : ℕ) (ns : List ℕ) → has ns n ≡ true → is_once n (n ∷ ns) ≡ false
here_twice n ns h = rw (eq-eqb n n refl) (not_of_true (has ns n) h)
  where
    not_of_true : (b : Bool) → b ≡ true → not b ≡ false
    not_of_true true e = refl
    not_of_true false e = absurd cc

twice_more : (w : Window) (n : ℕ) (ns : List ℕ) → Twice w ns → Twice w (n ∷ ns)
twice_more w n ns t = record {
  number = t.number;
  inside = t.inside;
  why = elim t.why as (λ _. (is_once t.number (n ∷ ns) ≡ false) ⊎ ((marked_at w (t.number - w.low) ≡ true) × (has (n ∷ ns) t.number ≡ true))) [ inl f ↦ inl (once_more t.number n ns f) | inr p ↦ inr (p.0, has_more t.number n ns p.1) ];
}

twice_new : (w : Window) (n : ℕ) (ns : List ℕ) → w.low ≤ n → n - w.low < length w.marks → Twice (record w { marks = set w.marks (n - w.low) true }) ns → Twice w (n ∷ ns)
twice_new w n ns le lt t =
    let i = n - w.low in
    let r = t.number in
    let len : length (set w.marks i true) ≡ length w.marks = length-set w.marks i true in
    let bound : r < w.low + length w.marks = subst (λ m. r < w.low + m) len t.inside.1 in
    let inside : IsIn w r = (t.inside.0, bound) in
    elim t.why as (λ _. Twice w (n ∷ ns)) [
      | inl f ↦ record { number = r; inside = inside; why = inl (once_more r n ns f) }
      | inr p ↦ elim (same_or_not n r) as (λ _. Twice w (n ∷ ns)) [
        | inl e ↦ record { number = n; inside = (le, omega (arith, le, lt)); why = inl (here_twice n ns (subst (λ m. has ns m ≡ true) (sym e) p.1)) }
        | inr apart ↦ record { number = r; inside = inside; why = inr (sym (get_or-set_other w.marks i (r - w.low) true false (λ e. apart (omega (arith, le, t.inside.0, e)))) ∙ p.0, has_more r n ns p.1) }
      ]
    ]

twice_first : (w : Window) (n : ℕ) (ns : List ℕ) (m : Option Window) → Step w n m → ((u : Window) → mark_all u ns ≡ None → Twice u ns) → (m >>= λ u. mark_all u ns) ≡ None → Twice w (n ∷ ns)
twice_first w n ns m (below lt) again e = twice_more w n ns (again w e)
twice_first w n ns m (twice le lt t) again e = record { number = n; inside = (le, omega (arith, le, lt)); why = inr (t, true_has n ns) }
twice_first w n ns m (new le lt t) again e = twice_new w n ns le lt (again _ e)
twice_first w n ns m (behind le) again e =
    let t = again (record w { next = Some (lesser w.next n) }) e in
    twice_more w n ns (record { number = t.number; inside = t.inside; why = t.why })

pub stands_twice : (ns : List ℕ) (w : Window) → mark_all w ns ≡ None → Twice w ns
unfolding mark_all
stands_twice [] w e = absurd cc
stands_twice (n ∷ ns) w e = twice_first w n ns (mark w n) (step w n) (λ u. stands_twice ns u) e
