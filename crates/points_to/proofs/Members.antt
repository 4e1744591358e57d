-- Blocks as the lists of their numbers.
use Rattle.std.proofs.Common.{◌≡◌, ℕ, zero, suc, ◌+◌, ◌*◌, ◌/◌, ◌%◌, ◌<◌, ◌≤◌, ◌==◌, Bool, true, false, cond, ◌&&◌, ◌||◌, List, [], ◌∷◌, ◌++◌, length, get_or, refl, sym, ap, ◌∙◌, inl, inr, eq-eqb, ne_eqb, arith}
use Rattle.std.specs.List.{filter, range_with_len}
use Rattle.std.specs.Int.{bit_at}
use Rattle.std.proofs.lemmas.Bool.{cases_eq, cases_lt, or_cases, or_right, or_left, true≢false}
use Rattle.std.proofs.lemmas.List.{get_or_default, length-map, get_or-map}
use Rattle.points_to.specs.declared.block.Block.{Block}
use Rattle.points_to.specs.Sets.{has, AllFrom, AllBelow, IsAscending}
use Rattle.points_to.specs.computed.Blocks.{block_members, members, block_has, blocks_have, indexes}
use Rattle.points_to.proofs.Logic.{and_false, or_assoc, or_false}
use Rattle.points_to.proofs.Ascending.{from_weaker, from_lacks, at_from, ordered_at, ascending_append, from_append, below_append}

-- ---- ranges and filters

range_from : (a n : ℕ) → AllFrom a (range_with_len a n)
range_from a zero = tt
range_from a (suc n) = (omega arith, from_weaker (a + 1) a (range_with_len (a + 1) n) (omega arith) (range_from (a + 1) n))

range_below : (a n high : ℕ) → a + n ≤ high → AllBelow high (range_with_len a n)
range_below a zero high h = tt
range_below a (suc n) high h = (omega arith, range_below (a + 1) n high (omega arith))

range_ascending : (a n : ℕ) → IsAscending (range_with_len a n)
range_ascending a zero = tt
range_ascending a (suc n) = (range_from (a + 1) n, range_ascending (a + 1) n)

range_in : (a n m : ℕ) → a ≤ m → m < a + n → has (range_with_len a n) m ≡ true
range_in a zero m h l = absurd (omega arith)
range_in a (suc n) m h l = elim (cases_eq a m) [
  | inl e ↦ or_left (a == m) (has (range_with_len (a + 1) n) m) (eq-eqb a m e)
  | inr ne ↦ or_right (a == m) (has (range_with_len (a + 1) n) m) (range_in (a + 1) n m (omega arith) (omega arith))
]

below_lacks : (high : ℕ) (xs : List ℕ) (n : ℕ) → AllBelow high xs → high ≤ n → has xs n ≡ false
below_lacks high [] n all h = refl
below_lacks high (x ∷ xs) n all h = rw (ne_eqb x n (λ e. omega (arith, e, all.0)), below_lacks high xs n all.1 h) refl

kept_from : (low x : ℕ) (xs : List ℕ) (s : Bool) → low ≤ x → AllFrom low xs → AllFrom low (cond s (x ∷ xs) xs)
kept_from low x xs true h all = (h, all)
kept_from low x xs false h all = all

kept_below : (high x : ℕ) (xs : List ℕ) (s : Bool) → x < high → AllBelow high xs → AllBelow high (cond s (x ∷ xs) xs)
kept_below high x xs true h all = (h, all)
kept_below high x xs false h all = all

kept_ascending : (x : ℕ) (xs : List ℕ) (s : Bool) → AllFrom (x + 1) xs → IsAscending xs → IsAscending (cond s (x ∷ xs) xs)
kept_ascending x xs true h up = (h, up)
kept_ascending x xs false h up = up

module _ (p : ℕ → Bool) where
  filter_from : (low : ℕ) (xs : List ℕ) → AllFrom low xs → AllFrom low (filter p xs)
  filter_from low [] all = tt
  filter_from low (x ∷ xs) all = kept_from low x (filter p xs) (p x) all.0 (filter_from low xs all.1)

  filter_below : (high : ℕ) (xs : List ℕ) → AllBelow high xs → AllBelow high (filter p xs)
  filter_below high [] all = tt
  filter_below high (x ∷ xs) all = kept_below high x (filter p xs) (p x) all.0 (filter_below high xs all.1)

  filter_ascending : (xs : List ℕ) → IsAscending xs → IsAscending (filter p xs)
  filter_ascending [] up = tt
  filter_ascending (x ∷ xs) up = kept_ascending x (filter p xs) (p x) (filter_from (x + 1) xs up.0) (filter_ascending xs up.1)

  here : (x n : ℕ) (s : Bool) → p x ≡ s → (rest : List ℕ) (t : Bool) → has rest n ≡ (t && p n) → has (cond s (x ∷ rest) rest) n ≡ (((x == n) || t) && p n)
  here x n true e rest t h = elim (cases_eq x n) [
    | inl same ↦ rw (eq-eqb x n same, ← same, e) refl
    | inr other ↦ rw (ne_eqb x n other) h
  ]
  here x n false e rest t h = elim (cases_eq x n) [
    | inl same ↦
        let fails : p n ≡ false = ap p (sym same) ∙ e in
        h ∙ ap (λ z. t && z) fails ∙ and_false t ∙ sym (ap (λ z. ((x == n) || t) && z) fails ∙ and_false _)
    | inr other ↦ rw (ne_eqb x n other) h
  ]

  filter_has : (xs : List ℕ) (n : ℕ) → has (filter p xs) n ≡ (has xs n && p n)
  filter_has [] n = refl
  filter_has (x ∷ xs) n = here x n (p x) refl (filter p xs) (has xs n) (filter_has xs n)

-- ---- one block

pub block_ascending : (index bits : ℕ) → IsAscending (block_members index bits)
unfolding block_members
block_ascending index bits = filter_ascending (λ n. bit_at bits (n % 64) == 1) (range_with_len (64 * index) 64) (range_ascending (64 * index) 64)

pub block_from : (index bits : ℕ) → AllFrom (64 * index) (block_members index bits)
unfolding block_members
block_from index bits = filter_from (λ n. bit_at bits (n % 64) == 1) (64 * index) (range_with_len (64 * index) 64) (range_from (64 * index) 64)

pub block_below : (index bits high : ℕ) → index < high → AllBelow (64 * high) (block_members index bits)
unfolding block_members
block_below index bits high h = filter_below (λ n. bit_at bits (n % 64) == 1) (64 * high) (range_with_len (64 * index) 64) (range_below (64 * index) 64 (64 * high) (omega arith))

range_of_block : (index n : ℕ) → has (range_with_len (64 * index) 64) n ≡ (n / 64 == index)
range_of_block index n = elim (cases_eq (n / 64) index) [
  | inl e ↦ range_in (64 * index) 64 n (omega arith) (omega arith) ∙ sym (eq-eqb (n / 64) index e)
  | inr ne ↦ elim (cases_lt n (64 * index)) [
    | inl low ↦ from_lacks (64 * index) (range_with_len (64 * index) 64) n (range_from (64 * index) 64) low ∙ sym (ne_eqb (n / 64) index ne)
    | inr high ↦ below_lacks (64 * index + 64) (range_with_len (64 * index) 64) n (range_below (64 * index) 64 (64 * index + 64) (omega arith)) (omega arith) ∙ sym (ne_eqb (n / 64) index ne)
  ]
]

pub block_spells : (b : Block) (n : ℕ) → has (block_members b.index b.bits) n ≡ block_has b n
unfolding block_members
block_spells b n =
    filter_has (λ m. bit_at b.bits (m % 64) == 1) (range_with_len (64 * b.index) 64) n
    ∙ ap (λ s. s && (bit_at b.bits (n % 64) == 1)) (range_of_block b.index n)

-- ---- several blocks

has_append : (xs ys : List ℕ) (n : ℕ) → has (xs ++ ys) n ≡ (has xs n || has ys n)
has_append [] ys n = refl
has_append (x ∷ xs) ys n = ap (λ s. (x == n) || s) (has_append xs ys n) ∙ sym (or_assoc (x == n) (has xs n) (has ys n))

pub have_append : (xs ys : List Block) (n : ℕ) → blocks_have (xs ++ ys) n ≡ (blocks_have xs n || blocks_have ys n)
have_append [] ys n = refl
have_append (x ∷ xs) ys n = ap (λ s. block_has x n || s) (have_append xs ys n) ∙ sym (or_assoc (block_has x n) (blocks_have xs n) (blocks_have ys n))

pub members_have : (blocks : List Block) (n : ℕ) → has (members blocks) n ≡ blocks_have blocks n
members_have [] n = refl
members_have (b ∷ blocks) n =
    has_append (block_members b.index b.bits) (members blocks) n
    ∙ ap (λ s. s || has (members blocks) n) (block_spells b n)
    ∙ ap (λ s. block_has b n || s) (members_have blocks n)

members_from : (low : ℕ) (blocks : List Block) → AllFrom low (indexes blocks) → AllFrom (64 * low) (members blocks)
members_from low [] all = tt
members_from low (b ∷ blocks) all =
    from_append (64 * low) (block_members b.index b.bits) (members blocks)
    (from_weaker (64 * b.index) (64 * low) (block_members b.index b.bits) (omega (arith, all.0)) (block_from b.index b.bits))
    (members_from low blocks all.1)

pub members_below : (high : ℕ) (blocks : List Block) → AllBelow high (indexes blocks) → AllBelow (64 * high) (members blocks)
members_below high [] all = tt
members_below high (b ∷ blocks) all =
    below_append (64 * high) (block_members b.index b.bits) (members blocks) (block_below b.index b.bits high all.0) (members_below high blocks all.1)

pub members_ascending : (blocks : List Block) → IsAscending (indexes blocks) → IsAscending (members blocks)
members_ascending [] up = tt
members_ascending (b ∷ blocks) up =
    ascending_append (64 * (b.index + 1)) (block_members b.index b.bits) (members blocks)
    (block_below b.index b.bits (b.index + 1) (omega arith)) (members_from (b.index + 1) blocks up.0)
    (block_ascending b.index b.bits) (members_ascending blocks up.1)

-- ---- looking a number up

none_above : (blocks : List Block) (n : ℕ) → AllFrom (n / 64 + 1) (indexes blocks) → blocks_have blocks n ≡ false
none_above [] n all = refl
none_above (b ∷ blocks) n all = rw (ne_eqb (n / 64) b.index (λ e. omega (arith, e, all.0)), none_above blocks n all.1) refl

pub found_have : (blocks : List Block) (k n : ℕ) (d : Block) → IsAscending (indexes blocks) → k < length blocks → n / 64 ≡ (get_or blocks k d).index
    → blocks_have blocks n ≡ (bit_at (get_or blocks k d).bits (n % 64) == 1)
found_have [] k n d up h e = absurd (omega arith)
found_have (b ∷ blocks) zero n d up h e =
    rw (eq-eqb (n / 64) b.index e, none_above blocks n (from_weaker (b.index + 1) (n / 64 + 1) (indexes blocks) (omega (arith, e)) up.0)) (or_false (bit_at b.bits (n % 64) == 1))
found_have (b ∷ blocks) (suc k) n d up h e =
    let later : b.index + 1 ≤ (get_or blocks k d).index = omega (arith, at_from (b.index + 1) (indexes blocks) up.0 k d.index (rw length-map (omega arith)), get_or-map (λ (x : Block). x.index) blocks k d d.index (omega arith)) in
    rw (ne_eqb (n / 64) b.index (λ s. omega (arith, s, e, later))) (found_have blocks k n d up.1 (omega arith) e)

pub absent_have : (blocks : List Block) (n : ℕ) → ((k : ℕ) (d : Block) → k < length blocks → (get_or blocks k d).index ≡ n / 64 → ⊥) → blocks_have blocks n ≡ false
absent_have [] n h = refl
absent_have (b ∷ blocks) n h =
    rw (ne_eqb (n / 64) b.index (λ e. h 0 b (omega arith) (sym e)), absent_have blocks n (λ k d l e. h (suc k) d (omega arith) e)) refl

pub index_order : (blocks : List Block) → IsAscending (indexes blocks) → (i j : ℕ) (d e : Block) → i < j → j < length blocks → (get_or blocks i d).index < (get_or blocks j e).index
index_order blocks up i j d e h l =
    let p = ordered_at (indexes blocks) up i j d.index e.index h (rw length-map l) in
    omega (arith, p, get_or-map (λ (x : Block). x.index) blocks i d d.index (omega arith), get_or-map (λ (x : Block). x.index) blocks j e e.index l)

-- the block that has a number
pub some_block : (blocks : List Block) (n : ℕ) → blocks_have blocks n ≡ true → (k : ℕ) × (k < length blocks) × ((d : Block) → block_has (get_or blocks k d) n ≡ true)
some_block [] n h = absurd (true≢false (sym h))
some_block (b ∷ blocks) n h = elim (or_cases (block_has b n) (blocks_have blocks n) h) [
  | inl e ↦ (0, omega arith, λ d. e)
  | inr t ↦ let r = some_block blocks n t in (suc r.0, omega (arith, r.1), r.2)
]

pub block_in : (blocks : List Block) (k n : ℕ) (d : Block) → k < length blocks → block_has (get_or blocks k d) n ≡ true → blocks_have blocks n ≡ true
block_in [] k n d h t = absurd (omega arith)
block_in (b ∷ blocks) zero n d h t = or_left (block_has b n) (blocks_have blocks n) t
block_in (b ∷ blocks) (suc k) n d h t = or_right (block_has b n) (blocks_have blocks n) (block_in blocks k n d (omega arith) t)

-- ---- halves of a search

upto : (blocks : List Block) → IsAscending (indexes blocks) → (i j : ℕ) (d e : Block) → i ≤ j → j < length blocks → (get_or blocks i d).index ≤ (get_or blocks j e).index
upto blocks up i j d e h l = elim (cases_lt i j) [
  | inl less ↦ omega (arith, index_order blocks up i j d e less l)
  | inr more ↦
      let same : i ≡ j = omega arith in
      omega (arith, ap (λ k. (get_or blocks k d).index) same, ap (λ (b : Block). b.index) (get_or_default blocks j d e l))
]

pub lesser_half : (blocks : List Block) → IsAscending (indexes blocks) → (m index : ℕ) (e : Block) → m < length blocks → (get_or blocks m e).index < index
    → (k : ℕ) (d : Block) → k < m + 1 → (get_or blocks k d).index < index
lesser_half blocks up m index e l h k d p = omega (arith, h, upto blocks up k m d e (omega arith) l)

pub greater_half : (blocks : List Block) → IsAscending (indexes blocks) → (m index : ℕ) (e : Block) → index ≤ (get_or blocks m e).index
    → (k : ℕ) (d : Block) → m ≤ k → k < length blocks → index ≤ (get_or blocks k d).index
greater_half blocks up m index e h k d p l = omega (arith, h, upto blocks up m k e d p l)

-- no block has the index: those before are below it, those after are not, and the one between has another
pub no_block : (blocks : List Block) → IsAscending (indexes blocks) → (p index : ℕ)
    → ((k : ℕ) (d : Block) → k < p → (get_or blocks k d).index < index)
    → ((k : ℕ) (d : Block) → p ≤ k → k < length blocks → index ≤ (get_or blocks k d).index)
    → ((d : Block) → p < length blocks → (get_or blocks p d).index ≡ index → ⊥)
    → (k : ℕ) (d : Block) → k < length blocks → (get_or blocks k d).index ≡ index → ⊥
no_block blocks up p index before after other k d l e = elim (cases_lt k p) [
  | inl less ↦ omega (arith, before k d less, e)
  | inr more ↦ elim (cases_eq k p) [
    | inl same ↦ other d (omega arith) (ap (λ i. (get_or blocks i d).index) (sym same) ∙ e)
    | inr past ↦ omega (arith, after p d (omega arith) (omega arith), index_order blocks up p k d d (omega arith) l, e)
  ]
]
