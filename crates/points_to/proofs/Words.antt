-- Bits of words of 64 bits, as truth values.
use Rattle.std.proofs.Common.{◌≡◌, ℕ, ◌+◌, ◌-◌, ◌*◌, ◌/◌, ◌%◌, ◌^◌, ◌<◌, ◌≢◌, ◌==◌, Bool, true, false, not, ◌&&◌, ◌||◌, refl, sym, ap, ◌∙◌, max, min, suc, zero, bit_or, bit_and, inl, inr, eqb-true, eq-eqb, ne_eqb, arith}
use Rattle.std.specs.Int.{bit_at, bit_not, w64, trailing_zeros}
use Rattle.std.proofs.lemmas.Nat.{one_shl, and_le_r}
use Rattle.std.proofs.Math.Nat.{pos_of_ne-zero}
use Rattle.std.proofs.lemmas.Nat.Bits.{bit_at-lt, bit_at_or, bit_at_and, bit_at-pow_same, bit_at-pow_other, bit_at_not, bit_at-trailing_zeros, bit_at-zero}
use Rattle.std.proofs.lemmas.Bool.{true≢false, cases_eq, and_parts, and_from, not-true}
use Rattle.points_to.specs.declared.block.Block.{Block}
use Rattle.points_to.specs.computed.Blocks.{block_has}
use Rattle.points_to.proofs.Logic.{and_or, and_false}

max_one : (x y : ℕ) → x < 2 → y < 2 → (max x y == 1) ≡ ((x == 1) || (y == 1))
max_one zero zero p q = refl
max_one zero (suc zero) p q = refl
max_one (suc zero) zero p q = refl
max_one (suc zero) (suc zero) p q = refl
max_one (suc (suc x)) y p q = absurd (omega arith)
max_one x (suc (suc y)) p q = absurd (omega arith)

pub or_has : (a b k : ℕ) → (bit_at (bit_or a b) k == 1) ≡ ((bit_at a k == 1) || (bit_at b k == 1))
or_has a b k = ap (λ x. x == 1) (bit_at_or a b k) ∙ max_one (bit_at a k) (bit_at b k) (bit_at-lt a k) (bit_at-lt b k)

pub joined_has : (l r : Block) → l.index ≡ r.index → (n : ℕ) → block_has (record { index = l.index; bits = bit_or l.bits r.bits }) n ≡ (block_has l n || block_has r n)
joined_has l r same n =
    ap (λ x. (n / 64 == l.index) && x) (or_has l.bits r.bits (n % 64)) ∙ and_or (n / 64 == l.index) _ _
    ∙ ap (λ i. ((n / 64 == l.index) && (bit_at l.bits (n % 64) == 1)) || ((n / 64 == i) && (bit_at r.bits (n % 64) == 1))) same

apart : (n m : ℕ) → (n ≡ m → ⊥) → n / 64 ≡ m / 64 → n % 64 ≢ m % 64
apart n m h p q = h (omega arith)

other_digit : (m n : ℕ) → (n ≡ m → ⊥) → (s : Bool) → (n / 64 == m / 64) ≡ s → (s && (bit_at (2 ^ (m % 64)) (n % 64) == 1)) ≡ false
other_digit m n h false e = refl
other_digit m n h true e = ap (λ x. x == 1) (bit_at-pow_other (m % 64) (n % 64) (apart n m h (eqb-true (n / 64) (m / 64) e)))

pub single_has : (m n : ℕ) → ((n / 64 == m / 64) && (bit_at (2 ^ (m % 64)) (n % 64) == 1)) ≡ (n == m)
single_has m n = elim (cases_eq n m) [
  | inl e ↦ rw (e, eq-eqb (m / 64) (m / 64) refl, bit_at-pow_same (m % 64), eq-eqb m m refl) refl
  | inr h ↦ other_digit m n h (n / 64 == m / 64) refl ∙ sym (ne_eqb n m h)
]

pub single_shifted : (m n : ℕ) → ((n / 64 == m / 64) && (bit_at (1 * 2 ^ (m % 64) % 2 ^ 64) (n % 64) == 1)) ≡ (n == m)
single_shifted m n = ap (λ w. (n / 64 == m / 64) && (bit_at w (n % 64) == 1)) (one_shl (m % 64) 64 (omega arith)) ∙ single_has m n

min_one : (x y : ℕ) → x < 2 → y < 2 → (min x y == 1) ≡ ((x == 1) && (y == 1))
min_one zero zero p q = refl
min_one zero (suc zero) p q = refl
min_one (suc zero) zero p q = refl
min_one (suc zero) (suc zero) p q = refl
min_one (suc (suc x)) y p q = absurd (omega arith)
min_one x (suc (suc y)) p q = absurd (omega arith)

pub and_has : (a b k : ℕ) → (bit_at (bit_and a b) k == 1) ≡ ((bit_at a k == 1) && (bit_at b k == 1))
and_has a b k = ap (λ x. x == 1) (bit_at_and a b k) ∙ min_one (bit_at a k) (bit_at b k) (bit_at-lt a k) (bit_at-lt b k)

not_one : (x : ℕ) → x < 2 → (1 - x == 1) ≡ not (x == 1)
not_one zero p = refl
not_one (suc zero) p = refl
not_one (suc (suc x)) p = absurd (omega arith)

pub not_has : (a k : ℕ) → a < 2 ^ 64 → k < 64 → (bit_at (bit_not w64 a) k == 1) ≡ not (bit_at a k == 1)
not_has a k h l = ap (λ x. x == 1) (bit_at_not w64 a k h l) ∙ not_one (bit_at a k) (bit_at-lt a k)

-- the bits of a that b has not
pub without_has : (a b k : ℕ) → b < 2 ^ 64 → k < 64 → (bit_at (bit_and a (bit_not w64 b)) k == 1) ≡ ((bit_at a k == 1) && not (bit_at b k == 1))
without_has a b k h l = and_has a (bit_not w64 b) k ∙ ap (λ x. (bit_at a k == 1) && x) (not_has b k h l)

-- a word other than 0 has a bit
pub some_bit : (a : ℕ) → 0 < a → a < 2 ^ 64 → (k : ℕ) × (k < 64) × ((bit_at a k == 1) ≡ true)
some_bit a h l = let t = bit_at-trailing_zeros w64 a h l in (trailing_zeros w64 a, t.0, eq-eqb _ _ t.1)

pub zero_has : (k : ℕ) → (bit_at 0 k == 1) ≡ false
zero_has k = ap (λ x. x == 1) (bit_at-zero k)

bit_kept : (x y : Bool) → x ≡ true → (x && not y) ≡ false → y ≡ true
bit_kept true true p q = refl
bit_kept true false p q = sym q
bit_kept false y p q = absurd (true≢false (sym p))

-- no number of the block is lacking, if no bit of it is
pub covered : (b : Block) (w n : ℕ) (t : Bool) → w < 2 ^ 64 → bit_and b.bits (bit_not w64 w) ≡ 0 → (n / 64 ≡ b.index → t ≡ (bit_at w (n % 64) == 1)) → block_has b n ≡ true → t ≡ true
covered b w n t h none tie has =
    let parts = and_parts (n / 64 == b.index) (bit_at b.bits (n % 64) == 1) has in
    let gone : ((bit_at b.bits (n % 64) == 1) && not (bit_at w (n % 64) == 1)) ≡ false =
    sym (without_has b.bits w (n % 64) h (omega arith)) ∙ ap (λ v. bit_at v (n % 64) == 1) none ∙ zero_has (n % 64) in
    tie (eqb-true (n / 64) b.index parts.0) ∙ bit_kept (bit_at b.bits (n % 64) == 1) (bit_at w (n % 64) == 1) parts.1 gone

-- some number of the block is lacking, if a bit of it is
pub uncovered : (b : Block) (w : ℕ) → w < 2 ^ 64 → (bit_and b.bits (bit_not w64 w) ≡ 0 → ⊥)
    → (n : ℕ) × (n / 64 ≡ b.index) × (block_has b n ≡ true) × ((bit_at w (n % 64) == 1) ≡ false)
uncovered b w h some =
    let v : ℕ = bit_and b.bits (bit_not w64 w) in
    let r = some_bit v (pos_of_ne-zero some) (omega (arith, and_le_r b.bits (bit_not w64 w))) in
    let k : ℕ = r.0 in
    let n : ℕ = 64 * b.index + k in
    let index : n / 64 ≡ b.index = omega (arith, r.1) in
    let digit : n % 64 ≡ k = omega (arith, r.1) in
    let both = and_parts (bit_at b.bits k == 1) (not (bit_at w k == 1)) (sym (without_has b.bits w k h r.1) ∙ r.2) in (
      n,
      index,
      and_from (n / 64 == b.index) (bit_at b.bits (n % 64) == 1) (eq-eqb (n / 64) b.index index) (ap (λ i. bit_at b.bits i == 1) digit ∙ both.0),
      ap (λ i. bit_at w i == 1) digit ∙ not-true (bit_at w k == 1) both.1,
    )

and_test : (s x y t : Bool) → (s ≡ true → t ≡ y) → (s && (x && not y)) ≡ ((s && x) && not t)
and_test false x y t tie = refl
and_test true x y t tie = ap (λ z. x && not z) (sym (tie refl))

-- the numbers of a block that are not in the word of its index
pub lacking_has : (b : Block) (w n : ℕ) (t : Bool) → w < 2 ^ 64 → (n / 64 ≡ b.index → t ≡ (bit_at w (n % 64) == 1))
    → block_has (record { index = b.index; bits = bit_and b.bits (bit_not w64 w) }) n ≡ (block_has b n && not t)
lacking_has b w n t h tie =
    ap (λ s. (n / 64 == b.index) && s) (without_has b.bits w (n % 64) h (omega arith))
    ∙ and_test (n / 64 == b.index) (bit_at b.bits (n % 64) == 1) (bit_at w (n % 64) == 1) t (λ e. tie (eqb-true (n / 64) b.index e))

pub empty_has : (b : Block) (n : ℕ) → b.bits ≡ 0 → block_has b n ≡ false
empty_has b n e = ap (λ w. (n / 64 == b.index) && (bit_at w (n % 64) == 1)) e ∙ ap (λ s. (n / 64 == b.index) && s) (zero_has (n % 64)) ∙ and_false (n / 64 == b.index)

-- a block with a bit has a number
pub some_has : (b : Block) → b.bits < 2 ^ 64 → (b.bits ≡ 0 → ⊥) → (n : ℕ) × (block_has b n ≡ true)
some_has b h some =
    let r = some_bit b.bits (pos_of_ne-zero some) h in
    let k : ℕ = r.0 in
    let n : ℕ = 64 * b.index + k in
    let digit : n % 64 ≡ k = omega (arith, r.1) in
    (n, and_from (n / 64 == b.index) (bit_at b.bits (n % 64) == 1) (eq-eqb (n / 64) b.index (omega (arith, r.1))) (ap (λ i. bit_at b.bits i == 1) digit ∙ r.2))
