-- Sets as their blocks.
use Rattle.std.proofs.Common.{◌≡◌, ℕ, suc, ◌^◌, ◌<◌, ◌==◌, Bool, true, false, ◌||◌, List, [], ◌∷◌, length, refl, sym, ap, ◌∙◌, subst, eq-eqb, ne_eqb, arith}
use Rattle.std.proofs.lemmas.Bool.{or_left, or_right, true≢false}
use Rattle.points_to.specs.declared.block.Block.{Block}
use Rattle.points_to.specs.Sets.{has, IsSet}
use Rattle.points_to.specs.computed.Blocks.{blocks_have, members, AreBlocks}
use Rattle.points_to.proofs.Ascending.{longer}
use Rattle.points_to.proofs.Members.{members_have, members_below, members_ascending}

pub set_of : (blocks : List Block) → AreBlocks blocks → IsSet (members blocks)
set_of blocks a = record { ascending = members_ascending blocks a.ascending; within = members_below (2 ^ 26) blocks a.within }

-- the blocks of a set that a contract sees as a list
pub set_at : (blocks : List Block) (xs : List ℕ) → members blocks ≡ xs → AreBlocks blocks → IsSet xs
set_at blocks xs e a = subst IsSet e (set_of blocks a)

pub has_at : (blocks : List Block) (xs : List ℕ) → members blocks ≡ xs → (n : ℕ) → has xs n ≡ blocks_have blocks n
has_at blocks xs e n = ap (λ ys. has ys n) (sym e) ∙ members_have blocks n

-- numbers that were added
pub added_at : (old new : List Block) (xs : List ℕ) (t : ℕ → Bool) → members old ≡ xs → ((n : ℕ) → blocks_have new n ≡ (blocks_have old n || t n)) → (n : ℕ) → has (members new) n ≡ (has xs n || t n)
added_at old new xs t e f n = members_have new n ∙ f n ∙ ap (λ s. s || t n) (sym (has_at old xs e n))

pub grew_at : (old new : List Block) (xs : List ℕ) (t : ℕ → Bool) (m : ℕ) → members old ≡ xs → AreBlocks old → AreBlocks new
    → ((n : ℕ) → blocks_have new n ≡ (blocks_have old n || t n)) → blocks_have old m ≡ false → t m ≡ true → length xs < length (members new)
grew_at old new xs t m e a b f out in' =
    longer xs (members new) m (set_at old xs e a).ascending (set_of new b).ascending
    (λ n h. added_at old new xs t e f n ∙ or_left (has xs n) (t n) h)
    (has_at old xs e m ∙ out)
    (added_at old new xs t e f m ∙ or_right (has xs m) (t m) in')

first_has : (x : ℕ) (xs : List ℕ) → has (x ∷ xs) x ≡ true
first_has x xs = or_left (x == x) (has xs x) (eq-eqb x x refl)

pub empty_at : (xs : List ℕ) (r : Bool) → (r ≡ true → (n : ℕ) → has xs n ≡ false) → (r ≡ false → (n : ℕ) × (has xs n ≡ true)) → r ≡ (length xs == 0)
empty_at [] true f g = refl
empty_at [] false f g = absurd (true≢false (sym (g refl).1))
empty_at (x ∷ xs) true f g = absurd (true≢false (sym (first_has x xs) ∙ f refl x))
empty_at (x ∷ xs) false f g = sym (ne_eqb (suc (length xs)) 0 (λ e. omega (arith, e)))

-- a set with one more that it had, or with a set whose members it had, is the same
pub kept : (s t : Bool) → (t ≡ true → s ≡ true) → s ≡ (s || t)
kept true t f = refl
kept false true f = absurd (true≢false (sym (f refl)))
kept false false f = refl
