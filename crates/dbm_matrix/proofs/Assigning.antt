-- Changes of one variable: forgetting, adding to it, copying into it.
use Rattle.std.proofs.Common.{◌≡◌, ◌≢◌, ℕ, ◌+◌, ◌≤◌, ◌⊎◌, inl, inr, ℤ, pos, ◌+ℤ◌, ◌-ℤ◌, ◌≤ℤ◌, neg_ℤ, Option, Some, None, Bool, true, false, cond, eqb, unsigned_abs, refl, sym, ◌∙◌, ap, arith, zero-le}
use Rattle.std.proofs.lemmas.Int.{ints}
use Rattle.std.proofs.lemmas.Bool.Decides.{eqb_tells}
use Rattle.dbm_matrix.specs.Bounds.{Weights, AtMost, IsWithin, IsRanged}
use Rattle.dbm_matrix.specs.Paths.{IsClosed}
use Rattle.dbm_matrix.specs.Solutions.{Solves, assigned}
use Rattle.dbm_matrix.specs.Changes.{around, forgotten, shifted, copied, plus}
use Rattle.dbm_matrix.proofs.Options.{none_some, some_same, most_out, most_in}

-- where a place stands to the variable v
data Place (v i j : ℕ) (f : ℕ → ℕ → Option ℤ → Option ℤ) (d : Weights) : Type 0 where
  diagonal : i ≡ j → around v f d i j ≡ d i j → Place v i j f d
  from : i ≢ j → i ≡ v → around v f d i j ≡ f i j (d i j) → Place v i j f d
  to : i ≢ j → i ≢ v → j ≡ v → around v f d i j ≡ f i j (d i j) → Place v i j f d
  apart : i ≢ j → i ≢ v → j ≢ v → around v f d i j ≡ d i j → Place v i j f d

place : (v i j : ℕ) (f : ℕ → ℕ → Option ℤ → Option ℤ) (d : Weights) → Place v i j f d
place v i j f d = elim (eqb_tells i j) [
  | inl e ↦ diagonal e.1 (rw e.0)
  | inr e ↦ elim (eqb_tells i v) [
    | inl g ↦ from e.1 g.1 (rw (e.0, g.0))
    | inr g ↦ elim (eqb_tells j v) [
      | inl h ↦ to e.1 g.1 h.1 (rw (e.0, g.0, h.0))
      | inr h ↦ apart e.1 g.1 h.1 (rw (e.0, g.0, h.0))
    ]
  ]
]

-- what was put in each place between v and another variable, with the other places as they were
pub all_around : (n v : ℕ) (f : ℕ → ℕ → Option ℤ → Option ℤ) (d e : Weights) → v ≤ n
    → ((k : ℕ) → k ≤ n → k ≢ v → e k v ≡ f k v (d k v)) → ((k : ℕ) → k ≤ n → k ≢ v → e v k ≡ f v k (d v k))
    → e v v ≡ d v v → ((i j : ℕ) → j ≤ n → i ≢ v → j ≢ v → e i j ≡ d i j)
    → (i j : ℕ) → i ≤ n → j ≤ n → e i j ≡ around v f d i j
all_around n v f d e vv to_v from_v here others i j ii jj = by_place (place v i j f d)
  where
    same : i ≡ j → e i j ≡ d i j
    same q = elim (eqb_tells i v) [
      | inl g ↦ rw (← q, g.1) here
      | inr g ↦ others i j jj g.1 (λ h. g.1 (q ∙ h))
    ]

    by_place : Place v i j f d → e i j ≡ around v f d i j
    by_place (diagonal q p) = same q ∙ sym p
    by_place (from n q p) = (rw q (from_v j jj (λ h. n (q ∙ sym h)))) ∙ sym p
    by_place (to n m q p) = (rw q (to_v i ii m)) ∙ sym p
    by_place (apart n m q p) = others i j jj m q ∙ sym p

pub assigned_same : (v : ℕ) (z : ℤ) (w : ℕ → ℤ) (k : ℕ) → k ≡ v → assigned v z w k ≡ z
assigned_same v z w k q = elim (eqb_tells k v) [ inl e ↦ rw e.0 | inr e ↦ absurd (e.1 q) ]

pub assigned_other : (v : ℕ) (z : ℤ) (w : ℕ → ℤ) (k : ℕ) → k ≢ v → assigned v z w k ≡ w k
assigned_other v z w k q = elim (eqb_tells k v) [ inl e ↦ absurd (q e.1) | inr e ↦ rw e.0 ]

-- bounds apart from v stay
pub stays_apart : (n v : ℕ) (f : ℕ → ℕ → Option ℤ → Option ℤ) (d e : Weights) → ((i j : ℕ) → i ≤ n → j ≤ n → e i j ≡ around v f d i j)
    → (i j : ℕ) → i ≤ n → j ≤ n → i ≢ v → j ≢ v → e i j ≡ d i j
stays_apart n v f d e each i j ii jj a b = by_place (place v i j f d)
  where
    by_place : Place v i j f d → e i j ≡ d i j
    by_place (diagonal h p) = each i j ii jj ∙ p
    by_place (from m h p) = absurd (a h)
    by_place (to m k h p) = absurd (b h)
    by_place (apart m k h p) = each i j ii jj ∙ p

-- forgetting
module _ (n v : ℕ) (d e : Weights) (each : (i j : ℕ) → i ≤ n → j ≤ n → e i j ≡ forgotten v d i j) where
  -- a bound that stands stood, on the diagonal or apart from v
  stands : (i j : ℕ) (x : ℤ) → i ≤ n → j ≤ n → e i j ≡ Some x → (d i j ≡ Some x) × ((i ≡ j) ⊎ ((i ≢ v) × (j ≢ v)))
  stands i j x ii jj q = by_place (place v i j (λ r s o. None) d)
    where
      by_place : Place v i j (λ r s o. None) d → (d i j ≡ Some x) × ((i ≡ j) ⊎ ((i ≢ v) × (j ≢ v)))
      by_place (diagonal h p) = (sym p ∙ (sym (each i j ii jj) ∙ q), inl h)
      by_place (from m h p) = absurd (none_some (e i j) x (each i j ii jj ∙ p) q)
      by_place (to m k h p) = absurd (none_some (e i j) x (each i j ii jj ∙ p) q)
      by_place (apart m k h p) = (sym p ∙ (sym (each i j ii jj) ∙ q), inr (k, h))

  stays : (i j : ℕ) → i ≤ n → j ≤ n → i ≢ v → j ≢ v → e i j ≡ d i j
  stays = stays_apart n v (λ r s o. None) d e each

  diagonal_stays : (i : ℕ) → i ≤ n → e i i ≡ d i i
  diagonal_stays i ii = elim (eqb_tells i i) [ inl q ↦ each i i ii ii ∙ (rw q.0) | inr q ↦ absurd (q.1 refl) ]

  forget_triangle : IsClosed n d → (i j k : ℕ) (x y : ℤ) → i ≤ n → j ≤ n → k ≤ n → e i k ≡ Some x → e k j ≡ Some y → AtMost (e i j) (x +ℤ y)
  forget_triangle closed i j k x y ii jj kk q r = by_stands (stands i k x ii kk q) (stands k j y kk jj r)
    where
      by_stands : (d i k ≡ Some x) × ((i ≡ k) ⊎ ((i ≢ v) × (k ≢ v))) → (d k j ≡ Some y) × ((k ≡ j) ⊎ ((k ≢ v) × (j ≢ v))) → AtMost (e i j) (x +ℤ y)
      by_stands (a, inl p) b =
          let z : x ≡ pos 0 = some_same x (pos 0) (sym a ∙ (ap (λ (s : ℕ). d i s) (sym p) ∙ closed.zero i ii)) in
          most_in (e i j) y (x +ℤ y) (ap (λ (s : ℕ). e s j) p ∙ r) (omega (arith, ints, z))
      by_stands (a, inr p) (b, inl s) =
          let z : y ≡ pos 0 = some_same y (pos 0) (sym b ∙ (ap (λ (t : ℕ). d t j) s ∙ closed.zero j jj)) in
          most_in (e i j) x (x +ℤ y) (ap (λ (t : ℕ). e i t) (sym s) ∙ q) (omega (arith, ints, z))
      by_stands (a, inr p) (b, inr s) = rw (stays i j ii jj p.0 s.1) (closed.triangle i j k x y ii jj kk a b)

  pub forget_closed : IsClosed n d → IsClosed n e
  forget_closed closed = record { zero = λ i ii. diagonal_stays i ii ∙ closed.zero i ii; triangle = forget_triangle closed }

  pub forget_within : (h : ℕ) → IsWithin h n d → IsWithin h n e
  forget_within h w = record { each = λ i j c ii jj q. w.each i j c ii jj (stands i j c ii jj q).0 }

  forget_meets : (w : ℕ → ℤ) (z : ℤ) → Solves n d w → (i j : ℕ) (c : ℤ) → i ≤ n → j ≤ n → e i j ≡ Some c → assigned v z w j ≤ℤ (assigned v z w i +ℤ c)
  forget_meets w z s i j c ii jj q =
      let p = stands i j c ii jj q in
      let h = s.each i j c ii jj p.0 in
      elim p.1 [
        | inl g ↦ (let f : w j ≡ w i = ap w (sym g) in let a : assigned v z w j ≡ assigned v z w i = ap (assigned v z w) (sym g) in omega (arith, ints, h, f, a))
        | inr g ↦ omega (arith, ints, h, assigned_other v z w i g.0, assigned_other v z w j g.1)
      ]

  pub forget_solves : 1 ≤ v → (w : ℕ → ℤ) (z : ℤ) → Solves n d w → Solves n e (assigned v z w)
  forget_solves one w z s = record {
    zero = assigned_other v z w 0 (λ q. omega (arith, q)) ∙ s.zero;
    each = forget_meets w z s;
  }

-- adding c to v: each bound moves by what its end moves less what its start moves
abbrev step : ℕ → ℤ → ℕ → ℤ
step v c k = cond (eqb k v) c (pos 0)

step_same : (v : ℕ) (c : ℤ) (k : ℕ) → k ≡ v → step v c k ≡ c
step_same v c k q = elim (eqb_tells k v) [ inl e ↦ rw e.0 | inr e ↦ absurd (e.1 q) ]

step_other : (v : ℕ) (c : ℤ) (k : ℕ) → k ≢ v → step v c k ≡ pos 0
step_other v c k q = elim (eqb_tells k v) [ inl e ↦ absurd (q e.1) | inr e ↦ rw e.0 ]

-- adding c to v
module _ (n v : ℕ) (c : ℤ) (d e : Weights) (each : (i j : ℕ) → i ≤ n → j ≤ n → e i j ≡ shifted v c d i j) where
  moved_some : (i j : ℕ) (a : ℤ) → d i j ≡ Some a → shifted v c d i j ≡ Some (a +ℤ (step v c j -ℤ step v c i))
  moved_some i j a q = by_place (place v i j (λ r s o. cond (eqb r v) (plus o (neg_ℤ c)) (plus o c)) d)
    where
      by_place : Place v i j (λ r s o. cond (eqb r v) (plus o (neg_ℤ c)) (plus o c)) d → shifted v c d i j ≡ Some (a +ℤ (step v c j -ℤ step v c i))
      by_place (diagonal h p) =
          let s : step v c j ≡ step v c i = ap (step v c) (sym h) in
          p ∙ (q ∙ ap Some (omega (arith, ints, s)))
      by_place (from m h p) =
          let there : eqb i v ≡ true = elim (eqb_tells i v) [ inl g ↦ g.0 | inr g ↦ absurd (g.1 h) ] in
          let s = step_same v c i h in
          let t = step_other v c j (λ g. m (h ∙ sym g)) in
          p ∙ (rw (there, q) (ap Some (omega (arith, ints, s, t))))
      by_place (to m k h p) =
          let there : eqb i v ≡ false = elim (eqb_tells i v) [ inl g ↦ absurd (k g.1) | inr g ↦ g.0 ] in
          let s = step_other v c i k in
          let t = step_same v c j h in
          p ∙ (rw (there, q) (ap Some (omega (arith, ints, s, t))))
      by_place (apart m k h p) =
          let s = step_other v c i k in
          let t = step_other v c j h in
          p ∙ (q ∙ ap Some (omega (arith, ints, s, t)))

  -- a bound moves, and stands where it stood
  shift_in : (i j : ℕ) (a : ℤ) → i ≤ n → j ≤ n → d i j ≡ Some a → e i j ≡ Some (a +ℤ (step v c j -ℤ step v c i))
  shift_in i j a ii jj q = each i j ii jj ∙ moved_some i j a q

  moved_none : (i j : ℕ) (o : Option ℤ) → o ≡ None → d i j ≡ o → shifted v c d i j ≡ o
  moved_none i j o z q = by_place (place v i j (λ r s o. cond (eqb r v) (plus o (neg_ℤ c)) (plus o c)) d)
    where
      plus_none : (t : ℤ) → plus o t ≡ o
      plus_none t = rw z refl

      either : (t : Bool) → cond t (plus o (neg_ℤ c)) (plus o c) ≡ o
      either true = plus_none (neg_ℤ c)
      either false = plus_none c

      by_place : Place v i j (λ r s o. cond (eqb r v) (plus o (neg_ℤ c)) (plus o c)) d → shifted v c d i j ≡ o
      by_place (diagonal h p) = p ∙ q
      by_place (from m h p) = p ∙ (rw q (either (eqb i v)))
      by_place (to m k h p) = p ∙ (rw q (either (eqb i v)))
      by_place (apart m k h p) = p ∙ q

  shift_out : (i j : ℕ) (x : ℤ) → i ≤ n → j ≤ n → e i j ≡ Some x → (a : ℤ) × (d i j ≡ Some a) × (x ≡ a +ℤ (step v c j -ℤ step v c i))
  shift_out i j x ii jj q = by (d i j) refl
    where
      by : (o : Option ℤ) → d i j ≡ o → (a : ℤ) × (d i j ≡ Some a) × (x ≡ a +ℤ (step v c j -ℤ step v c i))
      by None p = absurd (none_some (e i j) x (each i j ii jj ∙ moved_none i j None refl p) q)
      by (Some a) p = (a, p, some_same x (a +ℤ (step v c j -ℤ step v c i)) (sym q ∙ shift_in i j a ii jj p))

  shift_triangle : IsClosed n d → (i j k : ℕ) (x y : ℤ) → i ≤ n → j ≤ n → k ≤ n → e i k ≡ Some x → e k j ≡ Some y → AtMost (e i j) (x +ℤ y)
  shift_triangle closed i j k x y ii jj kk q r =
      let p = shift_out i k x ii kk q in
      let s = shift_out k j y kk jj r in
      let t = most_out (d i j) (p.0 +ℤ s.0) (closed.triangle i j k p.0 s.0 ii jj kk p.1 s.1) in
      most_in (e i j) (t.0 +ℤ (step v c j -ℤ step v c i)) (x +ℤ y) (shift_in i j t.0 ii jj t.1) (omega (arith, ints, p.2, s.2, t.2))

  shift_zero : IsClosed n d → (i : ℕ) → i ≤ n → e i i ≡ Some (pos 0)
  shift_zero closed i ii = shift_in i i (pos 0) ii ii (closed.zero i ii) ∙ ap Some (omega (arith, ints))

  pub shift_closed : IsClosed n d → IsClosed n e
  shift_closed closed = record { zero = shift_zero closed; triangle = shift_triangle closed }

  -- one end of a bound alone moves, or none
  step_small : (i j : ℕ) → unsigned_abs (step v c j -ℤ step v c i) ≤ unsigned_abs c
  step_small i j = elim (eqb_tells i v) [
    | inl a ↦ elim (eqb_tells j v) [
      | inl b ↦ omega (arith, ints, step_same v c i a.1, step_same v c j b.1)
      | inr b ↦ omega (arith, ints, step_same v c i a.1, step_other v c j b.1)
    ]
    | inr a ↦ elim (eqb_tells j v) [
      | inl b ↦ omega (arith, ints, step_other v c i a.1, step_same v c j b.1)
      | inr b ↦ omega (arith, ints, step_other v c i a.1, step_other v c j b.1)
    ]
  ]

  pub shift_within : (h : ℕ) → IsWithin h n d → IsWithin (h + unsigned_abs c) n e
  shift_within h w = record {
    each = λ i j x ii jj q. let p = shift_out i j x ii jj q in omega (arith, ints, w.each i j p.0 ii jj p.1, p.2, step_small i j);
  }

  shift_most : (h i j : ℕ) → i ≤ n → j ≤ n → AtMost (d i j) (pos h) → AtMost (e i j) (pos (h + unsigned_abs c))
  shift_most h i j ii jj m =
      let t = most_out (d i j) (pos h) m in
      most_in (e i j) (t.0 +ℤ (step v c j -ℤ step v c i)) (pos (h + unsigned_abs c)) (shift_in i j t.0 ii jj t.1) (omega (arith, ints, t.2, step_small i j))

  pub shift_ranged : (h : ℕ) → IsRanged h n d → IsRanged (h + unsigned_abs c) n e
  shift_ranged h r = record {
    above = λ i p ii. shift_most h 0 i zero-le ii (r.above i p ii);
    below = λ i p ii. shift_most h i 0 ii zero-le (r.below i p ii);
  }

  assigned_is : (w : ℕ → ℤ) (k : ℕ) → assigned v (w v +ℤ c) w k ≡ w k +ℤ step v c k
  assigned_is w k = elim (eqb_tells k v) [
    | inl q ↦ (let a : w k ≡ w v = ap w q.1 in omega (arith, ints, assigned_same v (w v +ℤ c) w k q.1, step_same v c k q.1, a))
    | inr q ↦ omega (arith, ints, assigned_other v (w v +ℤ c) w k q.1, step_other v c k q.1)
  ]

  pub shift_solves : 1 ≤ v → (w : ℕ → ℤ) → Solves n d w → Solves n e (assigned v (w v +ℤ c) w)
  shift_solves one w s = record {
    zero = assigned_other v (w v +ℤ c) w 0 (λ q. omega (arith, q)) ∙ s.zero;
    each = λ i j x ii jj q.
        let p = shift_out i j x ii jj q in
        omega (arith, ints, s.each i j p.0 ii jj p.1, p.2, assigned_is w i, assigned_is w j);
  }

  pub solves_shift : 1 ≤ v → (w : ℕ → ℤ) → Solves n e (assigned v (w v +ℤ c) w) → Solves n d w
  solves_shift one w s = record {
    zero = sym (assigned_other v (w v +ℤ c) w 0 (λ q. omega (arith, q))) ∙ s.zero;
    each = λ i j a ii jj q.
        omega (arith, ints, s.each i j (a +ℤ (step v c j -ℤ step v c i)) ii jj (shift_in i j a ii jj q), assigned_is w i, assigned_is w j);
  }

-- copying y + c into x
module _ (n x y : ℕ) (c : ℤ) (d e : Weights) (unlike : x ≢ y) (each : (i j : ℕ) → i ≤ n → j ≤ n → e i j ≡ copied x y c d i j) where
  -- where a bound that stands comes from
  data Origin (i j : ℕ) (t : ℤ) : Type 0 where
    upper : i ≡ y → j ≡ x → t ≡ c → Origin i j t
    lower : i ≡ x → j ≡ y → t ≡ neg_ℤ c → Origin i j t
    old : d i j ≡ Some t → (i ≡ j) ⊎ ((i ≢ x) × (j ≢ x)) → Origin i j t

  origin : (i j : ℕ) (t : ℤ) → i ≤ n → j ≤ n → e i j ≡ Some t → Origin i j t
  origin i j t ii jj q = by_place (place x i j (λ r s o. cond (eqb r y) (Some c) (cond (eqb s y) (Some (neg_ℤ c)) None)) d)
    where
      by_place : Place x i j (λ r s o. cond (eqb r y) (Some c) (cond (eqb s y) (Some (neg_ℤ c)) None)) d → Origin i j t
      by_place (diagonal h p) = old (sym p ∙ (sym (each i j ii jj) ∙ q)) (inl h)
      by_place (apart m k h p) = old (sym p ∙ (sym (each i j ii jj) ∙ q)) (inr (k, h))
      by_place (from m h p) = elim (eqb_tells i y) [
        | inl a ↦ absurd (unlike (sym h ∙ a.1))
        | inr a ↦ elim (eqb_tells j y) [
          | inl b ↦ lower h b.1 (sym (some_same (neg_ℤ c) t (sym (p ∙ (rw (a.0, b.0) refl)) ∙ (sym (each i j ii jj) ∙ q))))
          | inr b ↦ absurd (none_some (e i j) t (each i j ii jj ∙ (p ∙ (rw (a.0, b.0) refl))) q)
        ]
      ]
      by_place (to m k h p) = elim (eqb_tells i y) [
        | inl a ↦ upper a.1 h (sym (some_same c t (sym (p ∙ (rw a.0 refl)) ∙ (sym (each i j ii jj) ∙ q))))
        | inr a ↦ elim (eqb_tells j y) [
          | inl b ↦ absurd (unlike (sym h ∙ b.1))
          | inr b ↦ absurd (none_some (e i j) t (each i j ii jj ∙ (p ∙ (rw (a.0, b.0) refl))) q)
        ]
      ]

  upper_is : x ≤ n → y ≤ n → e y x ≡ Some c
  upper_is xx yy = by_place (place x y x (λ r s o. cond (eqb r y) (Some c) (cond (eqb s y) (Some (neg_ℤ c)) None)) d)
    where
      here : eqb y y ≡ true
      here = elim (eqb_tells y y) [ inl a ↦ a.0 | inr a ↦ absurd (a.1 refl) ]

      by_place : Place x y x (λ r s o. cond (eqb r y) (Some c) (cond (eqb s y) (Some (neg_ℤ c)) None)) d → e y x ≡ Some c
      by_place (diagonal h p) = absurd (unlike (sym h))
      by_place (from m h p) = absurd (unlike (sym h))
      by_place (to m k h p) = each y x yy xx ∙ (p ∙ (rw here refl))
      by_place (apart m k h p) = absurd (h refl)

  lower_is : x ≤ n → y ≤ n → e x y ≡ Some (neg_ℤ c)
  lower_is xx yy = by_place (place x x y (λ r s o. cond (eqb r y) (Some c) (cond (eqb s y) (Some (neg_ℤ c)) None)) d)
    where
      here : eqb y y ≡ true
      here = elim (eqb_tells y y) [ inl a ↦ a.0 | inr a ↦ absurd (a.1 refl) ]

      other : eqb x y ≡ false
      other = elim (eqb_tells x y) [ inl a ↦ absurd (unlike a.1) | inr a ↦ a.0 ]

      by_place : Place x x y (λ r s o. cond (eqb r y) (Some c) (cond (eqb s y) (Some (neg_ℤ c)) None)) d → e x y ≡ Some (neg_ℤ c)
      by_place (diagonal h p) = absurd (unlike h)
      by_place (from m h p) = each x y xx yy ∙ (p ∙ (rw (other, here) refl))
      by_place (to m k h p) = absurd (k refl)
      by_place (apart m k h p) = absurd (k refl)

  pub copy_within : (h : ℕ) → unsigned_abs c ≤ h → IsWithin h n d → IsWithin h n e
  copy_within h s w = record { each = λ i j t ii jj q. by_origin i j t ii jj (origin i j t ii jj q) }
    where
      by_origin : (i j : ℕ) (t : ℤ) → i ≤ n → j ≤ n → Origin i j t → unsigned_abs t ≤ h
      by_origin i j t ii jj (upper p q r) = rw r s
      by_origin i j t ii jj (lower p q r) = omega (arith, ints, r, s)
      by_origin i j t ii jj (old p q) = w.each i j t ii jj p

  pub copy_solves : 1 ≤ x → (w : ℕ → ℤ) → Solves n d w → Solves n e (assigned x (w y +ℤ c) w)
  copy_solves one w s = record {
    zero = assigned_other x (w y +ℤ c) w 0 (λ q. omega (arith, q)) ∙ s.zero;
    each = λ i j t ii jj q. by_origin i j t ii jj (origin i j t ii jj q);
  }
    where
      at_y : (k : ℕ) → k ≡ y → assigned x (w y +ℤ c) w k ≡ w y
      at_y k q = assigned_other x (w y +ℤ c) w k (λ p. unlike (sym p ∙ q)) ∙ ap w q

      by_origin : (i j : ℕ) (t : ℤ) → i ≤ n → j ≤ n → Origin i j t → assigned x (w y +ℤ c) w j ≤ℤ (assigned x (w y +ℤ c) w i +ℤ t)
      by_origin i j t ii jj (upper p q r) = omega (arith, ints, r, at_y i p, assigned_same x (w y +ℤ c) w j q)
      by_origin i j t ii jj (lower p q r) = omega (arith, ints, r, at_y j q, assigned_same x (w y +ℤ c) w i p)
      by_origin i j t ii jj (old p (inl q)) =
          let h = s.each i j t ii jj p in
          let f : w j ≡ w i = ap w (sym q) in
          let a : assigned x (w y +ℤ c) w j ≡ assigned x (w y +ℤ c) w i = ap (assigned x (w y +ℤ c) w) (sym q) in
          omega (arith, ints, h, f, a)
      by_origin i j t ii jj (old p (inr q)) =
          omega (arith, ints, s.each i j t ii jj p, assigned_other x (w y +ℤ c) w i q.0, assigned_other x (w y +ℤ c) w j q.1)

  pub copy_equal : x ≤ n → y ≤ n → (w : ℕ → ℤ) → Solves n e w → w x ≡ w y +ℤ c
  copy_equal xx yy w s =
      let up = s.each y x c yy xx (upper_is xx yy) in
      let down = s.each x y (neg_ℤ c) xx yy (lower_is xx yy) in
      omega (arith, ints, up, down)
