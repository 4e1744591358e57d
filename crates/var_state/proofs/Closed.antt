-- The changes that keep a full matrix sound.
use Rattle.std.proofs.Common.{◌≡◌, inl, inr, ℕ, ◌≤◌, ◌^◌, ℤ, pos, neg_ℤ, ◌+ℤ◌, ◌-ℤ◌, ◌≤ℤ◌, unsigned_abs, false, refl, ◌∙◌, arith}
use Rattle.std.specs.Prelude.{if◌then◌else◌, ◌==◌}
use Rattle.std.proofs.lemmas.Int.{ints, clamps}
use Rattle.std.proofs.lemmas.Bool.Decides.{eqb_tells}
use Rattle.var_state.specs.Grids.{Weights, IsClosed, IsSound, IsSmall, over, placed, moved, greater}

module _ (n : ℕ) (d : Weights) (cl : IsClosed n d) where
  pub over_closed : (i j : ℕ) (c : ℤ) → i ≤ n → j ≤ n → pos 0 ≤ℤ (d j i +ℤ c) → IsClosed n (over i j c d)
  over_closed i j c ii jj back = record {
    zero = λ p pp. omega (arith, ints, clamps, back, cl.zero p pp, cl.triangle j i p jj ii pp);
    triangle = λ p q k pp qq kk. omega (arith, ints, clamps, back, cl.triangle p q k pp qq kk, cl.triangle p i k pp ii kk, cl.triangle j q k jj qq kk, cl.triangle j i k jj ii kk);
  }

  pub greater_closed : (e : Weights) → IsClosed n e → IsClosed n (greater d e)
  greater_closed e ce = record {
    zero = λ p pp. omega (arith, ints, clamps, cl.zero p pp, ce.zero p pp);
    triangle = λ p q k pp qq kk. omega (arith, ints, clamps, cl.triangle p q k pp qq kk, ce.triangle p q k pp qq kk);
  }

  -- row and column of one variable are replaced: l at the left of q, h at the right of p
  module _ (v : ℕ) (l h : ℕ → ℤ) (fore : (i k : ℕ) → i ≤ n → k ≤ n → h i ≤ℤ (d i k +ℤ h k)) (back : (j k : ℕ) → j ≤ n → k ≤ n → l j ≤ℤ (l k +ℤ d k j))
      (through : (i j : ℕ) → i ≤ n → j ≤ n → d i j ≤ℤ (h i +ℤ l j)) (round : (k : ℕ) → k ≤ n → pos 0 ≤ℤ (l k +ℤ h k)) where
    abbrev replaced : ℕ → ℕ → ℤ
    replaced p q = if p == v then (if q == v then pos 0 else l q) else (if q == v then h p else d p q)

    pub replaced_closed : IsClosed n replaced
    replaced_closed = record { zero = zeros; triangle = triangles }
      where
        zeros : (i : ℕ) → i ≤ n → replaced i i ≡ pos 0
        zeros i ii = elim (eqb_tells i v) [ inl a ↦ rw a.0 refl | inr a ↦ rw a.0 (cl.zero i ii) ]

        triangles : (i j k : ℕ) → i ≤ n → j ≤ n → k ≤ n → replaced i j ≤ℤ (replaced i k +ℤ replaced k j)
        triangles i j k ii jj kk = elim (eqb_tells i v) [
          | inl a ↦ elim (eqb_tells j v) [
            | inl b ↦ elim (eqb_tells k v) [ inl e ↦ rw (a.0, b.0, e.0) (omega (arith, ints)) | inr e ↦ rw (a.0, b.0, e.0) (omega (arith, ints, round k kk)) ]
            | inr b ↦ elim (eqb_tells k v) [ inl e ↦ rw (a.0, b.0, e.0) (omega (arith, ints)) | inr e ↦ rw (a.0, b.0, e.0) (omega (arith, ints, back j k jj kk)) ]
          ]
          | inr a ↦ elim (eqb_tells j v) [
            | inl b ↦ elim (eqb_tells k v) [ inl e ↦ rw (a.0, b.0, e.0) (omega (arith, ints)) | inr e ↦ rw (a.0, b.0, e.0) (omega (arith, ints, fore i k ii kk)) ]
            | inr b ↦ elim (eqb_tells k v) [ inl e ↦ rw (a.0, b.0, e.0) (omega (arith, ints, through i j ii jj)) | inr e ↦ rw (a.0, b.0, e.0) (cl.triangle i j k ii jj kk) ]
          ]
        ]

  pub moved_closed : (v f : ℕ) (c : ℤ) → f ≤ n → IsClosed n (moved v f c d)
  moved_closed v f c ff = replaced_closed v (λ q. d f q -ℤ c) (λ p. d p f +ℤ c)
      (λ i k ii kk. omega (arith, ints, cl.triangle i f k ii ff kk))
      (λ j k jj kk. omega (arith, ints, cl.triangle f j k ff jj kk))
      (λ i j ii jj. omega (arith, ints, cl.triangle i j f ii jj ff))
      (λ k kk. omega (arith, ints, cl.triangle f f k ff ff kk, cl.zero f ff))

  pub placed_closed : (v : ℕ) (l h : ℤ) → l ≤ℤ h → IsClosed n (placed v l h d)
  placed_closed v l h lh = replaced_closed v (λ q. d 0 q -ℤ l) (λ p. d p 0 +ℤ h)
      (λ i k ii kk. omega (arith, ints, cl.triangle i 0 k ii (omega arith) kk))
      (λ j k jj kk. omega (arith, ints, cl.triangle 0 j k (omega arith) jj kk))
      (λ i j ii jj. omega (arith, ints, lh, cl.triangle i j 0 ii jj (omega arith)))
      (λ k kk. omega (arith, ints, lh, cl.triangle 0 0 k (omega arith) (omega arith) kk, cl.zero 0 (omega arith)))

-- the bounds of single variables bound the rest
pub small : (n : ℕ) (d : Weights) → IsSound n d → IsSmall n d
small n d s = record {
  each = λ i j ii jj. omega (
    arith,
    ints,
    s.ranged.above i ii,
    s.ranged.above j jj,
    s.ranged.below i ii,
    s.ranged.below j jj,
    s.closed.triangle i j 0 ii jj (omega arith),
    s.closed.triangle j i 0 jj ii (omega arith),
    s.closed.triangle i i j ii ii jj,
    s.closed.zero i ii,
  );
}

-- bounds that are the same inside
pub same_sound : (n : ℕ) (d e : Weights) → ((i j : ℕ) → i ≤ n → j ≤ n → e i j ≡ d i j) → IsSound n d → IsSound n e
same_sound n d e each s = record {
  closed = record {
    zero = λ i ii. each i i ii ii ∙ s.closed.zero i ii;
    triangle = λ i j k ii jj kk. let x = s.closed.triangle i j k ii jj kk in omega (arith, ints, x, each i j ii jj, each i k ii kk, each k j kk jj);
  };
  ranged = record {
    above = λ i ii. rw (each 0 i (omega arith) ii) (s.ranged.above i ii);
    below = λ i ii. rw (each i 0 ii (omega arith)) (s.ranged.below i ii);
  };
}

pub over_sound : (n : ℕ) (d : Weights) (i j : ℕ) (c : ℤ) → IsSound n d → i ≤ n → j ≤ n → pos 0 ≤ℤ (d j i +ℤ c) → IsSound n (over i j c d)
over_sound n d i j c s ii jj back = record {
  closed = over_closed n d s.closed i j c ii jj back;
  ranged = record {
    above = λ p pp. omega (arith, ints, clamps, s.ranged.above p pp);
    below = λ p pp. omega (arith, ints, clamps, s.ranged.below p pp);
  };
}

pub greater_sound : (n : ℕ) (d e : Weights) → IsSound n d → IsSound n e → IsSound n (greater d e)
greater_sound n d e s t = record {
  closed = greater_closed n d s.closed e t.closed;
  ranged = record {
    above = λ p pp. omega (arith, ints, clamps, s.ranged.above p pp, t.ranged.above p pp);
    below = λ p pp. omega (arith, ints, clamps, s.ranged.below p pp, t.ranged.below p pp);
  };
}

-- the new bounds of v against zero are small too
pub placed_sound : (n : ℕ) (d : Weights) (v : ℕ) (l h : ℤ) → IsSound n d → neg_ℤ (pos (2 ^ 80)) ≤ℤ l → l ≤ℤ h → h ≤ℤ pos (2 ^ 80) → 1 ≤ v → IsSound n (placed v l h d)
placed_sound n d v l h s low order high vv = record {
  closed = placed_closed n d s.closed v l h order;
  ranged = record { above = above; below = below };
}
  where
    zero_is : (0 == v) ≡ false
    zero_is = elim (eqb_tells 0 v) [ inl e ↦ absurd (omega (arith, e.1, vv)) | inr e ↦ e.0 ]

    above : (i : ℕ) → i ≤ n → placed v l h d 0 i ≤ℤ pos (2 ^ 80)
    above i ii = elim (eqb_tells i v) [
      | inl e ↦ rw (zero_is, e.0) (omega (arith, ints, high, s.closed.zero 0 (omega arith)))
      | inr e ↦ rw (zero_is, e.0) (s.ranged.above i ii)
    ]

    below : (i : ℕ) → i ≤ n → placed v l h d i 0 ≤ℤ pos (2 ^ 80)
    below i ii = elim (eqb_tells i v) [
      | inl e ↦ rw (e.0, zero_is) (omega (arith, ints, low, s.closed.zero 0 (omega arith)))
      | inr e ↦ rw (e.0, zero_is) (s.ranged.below i ii)
    ]

pub moved_sound : (n : ℕ) (d : Weights) (v f : ℕ) (c : ℤ) → IsSound n d → f ≤ n → (d 0 f +ℤ c) ≤ℤ pos (2 ^ 80) → (d f 0 -ℤ c) ≤ℤ pos (2 ^ 80) → 1 ≤ v → IsSound n (moved v f c d)
moved_sound n d v f c s ff high low vv = record {
  closed = moved_closed n d s.closed v f c ff;
  ranged = record { above = above; below = below };
}
  where
    zero_is : (0 == v) ≡ false
    zero_is = elim (eqb_tells 0 v) [ inl e ↦ absurd (omega (arith, e.1, vv)) | inr e ↦ e.0 ]

    above : (i : ℕ) → i ≤ n → moved v f c d 0 i ≤ℤ pos (2 ^ 80)
    above i ii = elim (eqb_tells i v) [ inl e ↦ rw (zero_is, e.0) high | inr e ↦ rw (zero_is, e.0) (s.ranged.above i ii) ]

    below : (i : ℕ) → i ≤ n → moved v f c d i 0 ≤ℤ pos (2 ^ 80)
    below i ii = elim (eqb_tells i v) [ inl e ↦ rw (e.0, zero_is) low | inr e ↦ rw (e.0, zero_is) (s.ranged.below i ii) ]

-- a copy of sound bounds has small ones
pub small_at : (n : ℕ) (d e : Weights) → IsSound n d → ((i j : ℕ) → e i j ≡ d i j) → (i j : ℕ) → i ≤ n → j ≤ n → unsigned_abs (e i j) ≤ 2 ^ 81
small_at n d e s same i j ii jj = rw (same i j) ((small n d s).each i j ii jj)

-- the ends of a variable's range
pub record HasEnds (d : Weights) (v : ℕ) : Type 0 where
  pub low_end : neg_ℤ (pos (2 ^ 80)) ≤ℤ neg_ℤ (d v 0)
  pub order : neg_ℤ (d v 0) ≤ℤ d 0 v
  pub high_end : d 0 v ≤ℤ pos (2 ^ 80)
  pub near : unsigned_abs (d v 0) ≤ 2 ^ 125

pub has_ends : (n : ℕ) (d : Weights) → IsSound n d → (v : ℕ) → v ≤ n → HasEnds d v
has_ends n d s v vv = record {
  low_end = omega (arith, ints, s.ranged.below v vv);
  order = omega (arith, ints, s.closed.triangle v v 0 vv vv (omega arith), s.closed.zero v vv);
  high_end = s.ranged.above v vv;
  near = omega (arith, ints, (small n d s).each v 0 vv (omega arith));
}

-- a bound that is not below the one that stands changes nothing
pub over_same : (n : ℕ) (d : Weights) (i j : ℕ) (c : ℤ) → IsSound n d → i ≤ n → j ≤ n → d i j ≤ℤ c → (p q : ℕ) → p ≤ n → q ≤ n → d p q ≡ over i j c d p q
over_same n d i j c s ii jj h p q pp qq = omega (arith, ints, clamps, h, s.closed.triangle p q i pp qq ii, s.closed.triangle i q j ii qq jj)

-- variables that are all 0
pub zero_sound : (n : ℕ) (d : Weights) → ((i j : ℕ) → d i j ≡ pos 0) → IsSound n d
zero_sound n d each = record {
  closed = record { zero = λ i ii. each i i; triangle = λ i j k ii jj kk. omega (arith, ints, each i j, each i k, each k j) };
  ranged = record { above = λ i ii. omega (arith, ints, each 0 i); below = λ i ii. omega (arith, ints, each i 0) };
}

-- changes of bounds that are the same inside
pub over_cong : (n : ℕ) (d e : Weights) → ((i j : ℕ) → i ≤ n → j ≤ n → d i j ≡ e i j) → (i j : ℕ) (c : ℤ) → i ≤ n → j ≤ n → (p q : ℕ) → p ≤ n → q ≤ n → over i j c d p q ≡ over i j c e p q
over_cong n d e each i j c ii jj p q pp qq = rw (each p q pp qq, each p i pp ii, each j q jj qq) refl

pub moved_cong : (n : ℕ) (d e : Weights) → ((i j : ℕ) → i ≤ n → j ≤ n → d i j ≡ e i j) → (v f : ℕ) (c : ℤ) → f ≤ n → (p q : ℕ) → p ≤ n → q ≤ n → moved v f c d p q ≡ moved v f c e p q
moved_cong n d e each v f c ff p q pp qq = rw (each f q ff qq, each p f pp ff, each p q pp qq) refl
