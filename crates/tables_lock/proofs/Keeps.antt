-- Each step keeps the rule of the lock.
use Rattle.std.proofs.Common.{◌≡◌, ◌≢◌, ℕ, zero, suc, ◌<◌, ◌⊎◌, inl, inr, true, false, eqb, List, [], ◌∷◌, ◌++◌, Option, Some, length, set, refl, sym, ◌∙◌, ap, arith, slice_index}
use mathlib.Core.Option.{some, some-injective, some-ne-none}
use lib.ListN.{get_elem?}
use prog.Atomic.{either}
use Rattle.std.proofs.Math.ListN.{length-set, length-append}
use Rattle.std.proofs.lemmas.Bool.Decides.{eqb_tells}
use Rattle.atomic_table.specs.Table.{Me, Step, Act, Allows, Splits, Valid, opening, stepped, carried_after, rest}
use Rattle.atomic_table.specs.Table.Act.{keeps, takes, gives}
use Rattle.atomic_table.proofs.Lists.{at_set, set_again}
use Rattle.tables.specs.declared.tables.Tables.{Tables}
use Rattle.tables.specs.declared.opening.Opening.{Opening}
use Rattle.tables_lock.specs.declared.guard.View.{View}
use Rattle.tables_lock.specs.Rule.{IsKept, IsHome, IsOut, rests, holds, Taken, GivenBack, IsResting}

at_end : {A : Type 0} (l : List A) (a b : A) (j : ℕ) → get_elem? (l ++ a ∷ []) j ≡ some b → (get_elem? l j ≡ some b) ⊎ ((j ≡ length l) × (a ≡ b))
at_end [] a b zero e = inr (refl, some-injective a b e)
at_end [] a b (suc j) e = absurd (some-ne-none b (sym e))
at_end (x ∷ xs) a b zero e = inl e
at_end (x ∷ xs) a b (suc j) e = elim (at_end xs a b j e) [ inl h ↦ inl h | inr h ↦ inr (ap suc h.0, h.1) ]

inside : {A : Type 0} (l : List A) (a : A) (j : ℕ) → get_elem? l j ≡ some a → j < length l
inside [] a j e = absurd (some-ne-none a (sym e))
inside (x ∷ xs) a zero e = omega arith
inside (x ∷ xs) a (suc j) e = omega (arith, inside xs a j e)

eqb_same : (a b : ℕ) → a ≡ b → eqb a b ≡ true
eqb_same a b e = elim (eqb_tells a b) [ inl t ↦ t.0 | inr t ↦ absurd (t.1 e) ]

eqb_apart : (a b : ℕ) → a ≢ b → eqb a b ≡ false
eqb_apart a b n = elim (eqb_tells a b) [ inl t ↦ absurd (n t.1) | inr t ↦ t.0 ]

eqb_means : (a b : ℕ) → eqb a b ≡ true → a ≡ b
eqb_means a b e = elim (eqb_tells a b) [ inl t ↦ t.1 | inr t ↦ absurd (let h : true ≡ false = sym e ∙ t.0 in cc) ]

module _ {D W B V : Type 0} (sound : Tables D W B V → Type 0) where
  one_view : (v w : View D W) (by : ℕ) → get_elem? (v ∷ []) by ≡ some w → v ≡ w
  one_view v w zero e = some-injective v w e
  one_view v w (suc by) e = absurd (some-ne-none w (sym e))

  -- a table that is made with the tables at home
  pub opens : (o : Opening D W) (t : Tables D W B V) (xs : List (Option (Tables D W B V))) → xs ≡ Some t ∷ [] → t.opening ≡ o → sound t → IsKept sound (opening (0 ∷ []) xs (rests o))
  opens o t xs e p d = rw e record {
    opening = o;
    same = λ by v q. ap (λ (w : View D W). w.opening) (sym (one_view (rests o) v by q));
    slot = inl record { words = refl; tables = t; homes = refl; opening = p; sound_there = d; nobody = λ by v q. ap (λ (w : View D W). w.holds) (sym (one_view (rests o) v by q)) };
  }

  -- a view that changes and keeps its opening
  same_still : (views : List (View D W)) (o : Opening D W) (id : ℕ) (w : View D W) → ((by : ℕ) (v : View D W) → get_elem? views by ≡ some v → v.opening ≡ o) → w.opening ≡ o
      → (by : ℕ) (v : View D W) → get_elem? (set views id w) by ≡ some v → v.opening ≡ o
  same_still views o id w h e by v q = elim (at_set views id by w v q) [
    | inl t ↦ ap (λ (x : View D W). x.opening) (sym t.1) ∙ e
    | inr t ↦ h by v t.1
  ]

  same_longer : (views : List (View D W)) (o : Opening D W) (w : View D W) → ((by : ℕ) (v : View D W) → get_elem? views by ≡ some v → v.opening ≡ o) → w.opening ≡ o
      → (by : ℕ) (v : View D W) → get_elem? (views ++ w ∷ []) by ≡ some v → v.opening ≡ o
  same_longer views o w h e by v q = elim (at_end views w v by q) [
    | inl t ↦ h by v t
    | inr t ↦ ap (λ (x : View D W). x.opening) (sym t.1) ∙ e
  ]

  -- the exchange from 0 to 1
  pub takes_slot : (slots id : ℕ) (m : Me (Option (Tables D W B V)) (View D W)) (st : Step (Option (Tables D W B V))) → IsResting m
      → Allows (IsKept sound) slots id m 0 (λ n. either (eqb n 0) 1 n) (Taken sound st m)
  takes_slot slots id (v, carried) st (c, r) s kept len at below =
      rw c (by_slot kept.slot)
    where
      Goal : Type 0
      Goal = (w : View D W) × (a : Act (Option (Tables D W B V))) × Valid s.homes [] a × IsKept sound (stepped s 0 (either (eqb (slice_index s.words 0) 0) 1 (slice_index s.words 0)) id [] w a)
          × Taken sound st (v, []) (slice_index s.words 0) (w, carried_after [] a)

      by_slot : IsHome sound kept.opening s ⊎ IsOut sound s → Goal
      by_slot (inl h) = rw (h.words, h.homes) (
        holds v.opening,
        takes 0 (Some h.tables),
        refl,
        record {
          opening = kept.opening;
          same = same_still s.views kept.opening id (holds v.opening) kept.same (kept.same id v at);
          slot = inr record {
            words = refl;
            homes = refl;
            holder = id;
            within = rw length-set (inside s.views v id at);
            one = λ by u q. elim (at_set s.views id by (holds v.opening) u q) [
              | inl t ↦ ap (λ (x : View D W). x.holds) (sym t.1) ∙ sym (eqb_same by id t.0)
              | inr t ↦ h.nobody by u t.1 ∙ sym (eqb_apart by id t.0)
            ];
          };
        },
        inl (refl, h.tables, h.opening ∙ sym (kept.same id v at), h.sound_there, refl, refl),
      )
      by_slot (inr h) = rw h.words (
        v,
        keeps,
        tt,
        rw (set_again s.views id v at) record {
          opening = kept.opening;
          same = kept.same;
          slot = inr record { words = refl; homes = h.homes; holder = h.holder; within = h.within; one = h.one };
        },
        inr (refl, refl),
      )

  -- the swap to 0
  pub gives_slot : (slots id : ℕ) (m : Me (Option (Tables D W B V)) (View D W)) (st : Step (Option (Tables D W B V))) (t : Tables D W B V) → m.0.holds ≡ true → m.1 ≡ (0, Some t) ∷ [] → t.opening ≡ m.0.opening → sound t
      → Allows (IsKept sound) slots id m 0 (λ _. 0) (GivenBack sound st m)
  gives_slot slots id (v, carried) st t hold c e d s kept len at below =
      rw c (by_slot kept.slot)
    where
      Goal : Type 0
      Goal = (w : View D W) × (a : Act (Option (Tables D W B V))) × Valid s.homes ((0, Some t) ∷ []) a × IsKept sound (stepped s 0 0 id ((0, Some t) ∷ []) w a)
          × GivenBack sound st (v, (0, Some t) ∷ []) (slice_index s.words 0) (w, carried_after ((0, Some t) ∷ []) a)

      by_slot : IsHome sound kept.opening s ⊎ IsOut sound s → Goal
      by_slot (inl h) = absurd (let q : true ≡ false = sym hold ∙ h.nobody id v at in cc)
      by_slot (inr h) = rw (h.words, h.homes) (
        rests v.opening,
        gives,
        tt,
        record {
          opening = kept.opening;
          same = same_still s.views kept.opening id (rests v.opening) kept.same (kept.same id v at);
          slot = inl record {
            words = refl;
            tables = t;
            homes = refl;
            opening = e ∙ kept.same id v at;
            sound_there = d;
            nobody = λ by u q. elim (at_set s.views id by (rests v.opening) u q) [
              | inl p ↦ ap (λ (x : View D W). x.holds) (sym p.1)
              | inr p ↦ h.one by u p.1 ∙ eqb_apart by h.holder (λ r. p.0 (r ∙ sym (eqb_means id h.holder (sym (h.one id v at) ∙ hold))))
            ];
          };
        },
        (refl, refl),
      )

  -- a seat that is split rests
  pub splits_seat : (id : ℕ) (v : View D W) → Splits (IsKept sound) id v v (rests v.opening)
  splits_seat id v s kept at = rw (set_again s.views id v at) record {
    opening = kept.opening;
    same = same_longer s.views kept.opening (rests v.opening) kept.same (kept.same id v at);
    slot = elim kept.slot [
      | inl h ↦ inl record {
        words = h.words;
        tables = h.tables;
        homes = h.homes;
        opening = h.opening;
        sound_there = h.sound_there;
        nobody = λ by u q. elim (at_end s.views (rests v.opening) u by q) [
          | inl p ↦ h.nobody by u p
          | inr p ↦ ap (λ (x : View D W). x.holds) (sym p.1)
        ];
      }
      | inr h ↦ inr record {
        words = h.words;
        homes = h.homes;
        holder = h.holder;
        within = omega (arith, h.within, length-append s.views (rests v.opening ∷ []));
        one = λ by u q. elim (at_end s.views (rests v.opening) u by q) [
          | inl p ↦ h.one by u p
          | inr p ↦ ap (λ (x : View D W). x.holds) (sym p.1) ∙ sym (eqb_apart by h.holder (λ r. omega (arith, r, p.0, h.within)))
        ];
      }
    ];
  }

  -- at 0 the exchange won
  pub won : (st : Step (Option (Tables D W B V))) (m n : Me (Option (Tables D W B V)) (View D W)) (found : ℕ) → Taken sound st m found n → found ≡ 0
      → (t : Tables D W B V) × (t.opening ≡ m.0.opening) × sound t × (n.0 ≡ holds m.0.opening) × (n.1 ≡ (0, Some t) ∷ [])
  won st m n found (inl h) e = (h.1, h.2, h.3, h.4, h.5)
  won st m n found (inr h) e = absurd (omega (arith, e, h.0))

  pub won_slot : (st : Step (Option (Tables D W B V))) (m n : Me (Option (Tables D W B V)) (View D W)) (found : ℕ) → Taken sound st m found n → found ≡ 0
      → (x : Option (Tables D W B V)) × (n.1 ≡ (0, x) ∷ rest n.1)
  won_slot st m n found h e = let t = won st m n found h e in (Some t.0, t.4 ∙ ap (λ (l : List (ℕ × Option (Tables D W B V))). (0, Some t.0) ∷ rest l) (sym t.4))
