-- The lowest number of a block, and the others.
use Rattle.std.proofs.Common.{◌≡◌, ℕ, ◌+◌, ◌*◌, ◌/◌, ◌%◌, ◌^◌, ◌<◌, ◌≤◌, ◌==◌, ◌≢◌, true, ◌&&◌, ◌||◌, List, [], ◌∷◌, bit_and, refl, sym, ap, ◌∙◌, inl, inr, eqb-true, eq-eqb, ne_eqb, arith}
use Rattle.std.specs.Int.{bit_at, bit_not, w64, trailing_zeros}
use Rattle.std.proofs.lemmas.Bool.{cases_eq, cases_lt, and_parts, or_left, or_right}
use Rattle.std.proofs.lemmas.Nat.{and_le_l}
use Rattle.std.proofs.lemmas.Nat.Bits.{bit_at-trailing_zeros, bit_at_clear_same, bit_at_clear_other}
use Rattle.points_to.specs.declared.block.Block.{Block}
use Rattle.points_to.specs.Sets.{has, AllFrom}
use Rattle.points_to.specs.computed.Blocks.{block_members, block_has}
use Rattle.points_to.proofs.Ascending.{same_ascending}
use Rattle.points_to.proofs.Words.{empty_has}
use Rattle.points_to.proofs.Members.{block_spells, block_ascending}

all_from : (low : ℕ) (xs : List ℕ) → ((n : ℕ) → has xs n ≡ true → low ≤ n) → AllFrom low xs
all_from low [] h = tt
all_from low (x ∷ xs) h =
    (h x (or_left (x == x) (has xs x) (eq-eqb x x refl)), all_from low xs (λ n t. h n (or_right (x == n) (has xs n) t)))

-- a word without the bit at a place
abbrev pub cleared : ℕ → ℕ → ℕ
cleared w place = bit_and w (bit_not w64 (1 * 2 ^ place % 2 ^ 64))

module _ (index w : ℕ) (some : 0 < w) (small : w < 2 ^ 64) where
  abbrev p : ℕ
  p = trailing_zeros w64 w

  found : (p < 64) × (bit_at w p ≡ 1) × ((i : ℕ) → i < p → bit_at w i ≡ 0)
  found = bit_at-trailing_zeros w64 w some small

  abbrev whole : Block
  whole = record { index = index; bits = w }

  abbrev rest : Block
  rest = record { index = index; bits = cleared w p }

  gone : bit_at (cleared w p) p ≡ 0
  gone = bit_at_clear_same w64 w p found.0

  others : (i : ℕ) → i < 64 → i ≢ p → bit_at (cleared w p) i ≡ bit_at w i
  others i h ne = bit_at_clear_other w64 w p found.0 i h ne

  pub fewer : cleared w p < w
  fewer = elim (cases_eq (cleared w p) w) [
    | inl same ↦ absurd (omega (arith, gone, found.1, ap (λ v. bit_at v p) same))
    | inr ne ↦ omega (arith, ne, and_le_l w (bit_not w64 (1 * 2 ^ p % 2 ^ 64)))
  ]

  later : (n : ℕ) → block_has rest n ≡ true → 64 * index + p + 1 ≤ n
  later n h =
      let parts = and_parts (n / 64 == index) (bit_at (cleared w p) (n % 64) == 1) h in
      let here : n / 64 ≡ index = eqb-true (n / 64) index parts.0 in
      let set : bit_at (cleared w p) (n % 64) ≡ 1 = eqb-true _ 1 parts.1 in
      elim (cases_eq (n % 64) p) [
        | inl same ↦ absurd (omega (arith, gone, set, ap (λ i. bit_at (cleared w p) i) same))
        | inr ne ↦ elim (cases_lt (n % 64) p) [
          | inl less ↦ absurd (omega (arith, found.2 (n % 64) less, set, others (n % 64) (omega arith) ne))
          | inr more ↦ omega (arith, here, ne, more)
        ]
      ]

  one_more : (n : ℕ) → block_has whole n ≡ ((64 * index + p == n) || block_has rest n)
  one_more n = elim (cases_eq (64 * index + p) n) [
    | inl same ↦
        let here : n / 64 ≡ index = omega (arith, same, found.0) in
        let digit : n % 64 ≡ p = omega (arith, same, found.0) in
        rw (eq-eqb (64 * index + p) n same, eq-eqb (n / 64) index here, digit, found.1) refl
    | inr other ↦ rw (ne_eqb (64 * index + p) n other) (elim (cases_eq (n / 64) index) [
      | inl here ↦ ap (λ v. (n / 64 == index) && (v == 1)) (sym (others (n % 64) (omega arith) (λ e. other (omega (arith, e, here)))))
      | inr away ↦ rw (ne_eqb (n / 64) index away) refl
    ])
  ]

  -- the numbers of a block are its lowest one, and those without it
  pub lowest_first : block_members index w ≡ (64 * index + p) ∷ block_members index (cleared w p)
  lowest_first = same_ascending (block_members index w) ((64 * index + p) ∷ block_members index (cleared w p))
      (block_ascending index w)
      (all_from (64 * index + p + 1) (block_members index (cleared w p)) (λ n h. later n (sym (block_spells rest n) ∙ h)), block_ascending index (cleared w p))
      (λ n. block_spells whole n ∙ one_more n ∙ ap (λ s. (64 * index + p == n) || s) (sym (block_spells rest n)))

pub none_spelled : (index : ℕ) → block_members index 0 ≡ []
none_spelled index = same_ascending (block_members index 0) [] (block_ascending index 0) tt (λ n. block_spells (record { index = index; bits = 0 }) n ∙ empty_has (record { index = index; bits = 0 }) n refl)
