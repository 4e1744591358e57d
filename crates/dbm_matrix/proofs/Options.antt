-- Bounds that may be missing: the lesser of two, and their sum.
use Rattle.std.proofs.Common.{◌≡◌, ℕ, ◌*◌, ◌^◌, ◌≤◌, ℤ, pos, ◌+ℤ◌, ◌≤ℤ◌, ◌⊎◌, inl, inr, Option, Some, None, refl, sym, ap, arith, FitsSigned, to_z, of_z, Bool, true, false, cond, unsigned_abs, int_lt}
use mir.Syntax.{w128}
use Rattle.std.proofs.lemmas.Int.{ints, to_z-of_z}
use Rattle.dbm_matrix.specs.Bounds.{AtMost}
use Rattle.dbm_matrix.specs.Changes.{lesser, greater, stable, sum_of, plus}

pub sum_fits : (a b : ℤ) → unsigned_abs a ≤ 2 ^ 125 → unsigned_abs b ≤ 2 ^ 125 → FitsSigned w128 (a +ℤ b)
sum_fits a b h k = omega (arith, ints)

-- the lesser of two is one of them
pub lesser_cases : (a b : Option ℤ) (c : ℤ) → lesser a b ≡ Some c → (a ≡ Some c) ⊎ (b ≡ Some c)
lesser_cases None b c e = inr e
lesser_cases (Some x) None c e = inl e
lesser_cases (Some x) (Some y) c e = by_test (int_lt y x) e
  where
    by_test : (t : Bool) → Some (cond t y x) ≡ Some c → (Some x ≡ Some c) ⊎ (Some y ≡ Some c)
    by_test true q = inr q
    by_test false q = inl q

pub lesser_left : (a b : Option ℤ) (c : ℤ) → a ≡ Some c → AtMost (lesser a b) c
lesser_left None b c e = absurd (cc)
lesser_left (Some x) None c e = let h : x ≡ c = cc in omega (arith, ints)
lesser_left (Some x) (Some y) c e = let h : x ≡ c = cc in grind (arith, ints)

pub lesser_right : (a b : Option ℤ) (c : ℤ) → b ≡ Some c → AtMost (lesser a b) c
lesser_right None None c e = absurd (cc)
lesser_right None (Some y) c e = let h : y ≡ c = cc in omega (arith, ints)
lesser_right (Some x) None c e = absurd (cc)
lesser_right (Some x) (Some y) c e = let h : y ≡ c = cc in grind (arith, ints)

pub sum_cases : (a b : Option ℤ) (c : ℤ) → sum_of a b ≡ Some c → (x : ℤ) × (y : ℤ) × (a ≡ Some x) × (b ≡ Some y) × (c ≡ x +ℤ y)
sum_cases None b c e = absurd (cc)
sum_cases (Some x) None c e = absurd (cc)
sum_cases (Some x) (Some y) c e = let h : x +ℤ y ≡ c = cc in (x, y, refl, refl, sym h)

pub most_out : (o : Option ℤ) (w : ℤ) → AtMost o w → (e : ℤ) × (o ≡ Some e) × (e ≤ℤ w)
most_out None w h = absurd h
most_out (Some e) w h = (e, refl, h)

pub most_in : (o : Option ℤ) (e w : ℤ) → o ≡ Some e → e ≤ℤ w → AtMost o w
most_in None e w q h = absurd (cc)
most_in (Some x) e w q h = let s : x ≡ e = cc in omega (arith, ints)

pub most_more : (o : Option ℤ) (v w : ℤ) → AtMost o v → v ≤ℤ w → AtMost o w
most_more None v w h k = absurd h
most_more (Some x) v w h k = omega (arith, ints)

cond_same : (t : Bool) (x : ℤ) → cond t x x ≡ x
cond_same true x = refl
cond_same false x = refl

-- a way over a place whose own bound is 0 changes nothing
pub over_here : (o : Option ℤ) → lesser o (sum_of o (Some (pos 0))) ≡ o
over_here None = refl
over_here (Some x) = let e : x +ℤ pos 0 ≡ x = omega (arith, ints) in rw e (ap Some (cond_same (int_lt x x) x))

pub from_here : (o : Option ℤ) → lesser o (sum_of (Some (pos 0)) o) ≡ o
from_here None = refl
from_here (Some x) = let e : pos 0 +ℤ x ≡ x = omega (arith, ints) in rw e (ap Some (cond_same (int_lt x x) x))

-- the bound of the sum
pub unsigned_abs-sum : (a b : ℤ) (m : ℕ) → unsigned_abs a ≤ m → unsigned_abs b ≤ m → unsigned_abs (a +ℤ b) ≤ 2 * m
unsigned_abs-sum a b m h k = omega (arith, ints)

pub small : (a : ℤ) → unsigned_abs a ≤ 2 ^ 125 → FitsSigned w128 a
small a h = omega (arith, ints)

-- what the code's `a + b` is
pub plus_fits : (a b : ℤ) → unsigned_abs a ≤ 2 ^ 125 → unsigned_abs b ≤ 2 ^ 125 → FitsSigned w128 (to_z w128 (of_z w128 a) +ℤ to_z w128 (of_z w128 b))
plus_fits a b h k =
    let fa = small a h in
    let fb = small b k in
    rw (to_z-of_z w128 a fa, to_z-of_z w128 b fb) (sum_fits a b h k)

pub plus_is : (o : Option ℤ) (a b : ℤ) → o ≡ Some a → unsigned_abs a ≤ 2 ^ 125 → unsigned_abs b ≤ 2 ^ 125 → Some (to_z w128 (of_z w128 (to_z w128 (of_z w128 a) +ℤ to_z w128 (of_z w128 b)))) ≡ plus o b
plus_is o a b e h k =
    let fa = small a h in
    let fb = small b k in
    let fs = sum_fits a b h k in
    rw (e, to_z-of_z w128 a fa, to_z-of_z w128 b fb, to_z-of_z w128 (a +ℤ b) fs) refl

pub some_same : (a b : ℤ) → Some a ≡ Some b → a ≡ b
some_same a b e = cc

pub most_self : (o : Option ℤ) (c : ℤ) → o ≡ Some c → AtMost o c
most_self o c e = most_in o c c e (omega (arith, ints))

pub lesser_none : (o : Option ℤ) → lesser o None ≡ o
lesser_none None = refl
lesser_none (Some x) = refl

pub none_some : (o : Option ℤ) (x : ℤ) → o ≡ None → o ≡ Some x → ⊥
none_some o x e f = cc

pub plus_some : (o : Option ℤ) (c x : ℤ) → plus o c ≡ Some x → (a : ℤ) × (o ≡ Some a) × (x ≡ a +ℤ c)
plus_some None c x e = absurd (cc)
plus_some (Some a) c x e = let h : a +ℤ c ≡ x = cc in (a, refl, sym h)

-- the greater of two is one of them, and at least both
pub greater_some : (a b : Option ℤ) (c : ℤ) → greater a b ≡ Some c → (x : ℤ) × (y : ℤ) × (a ≡ Some x) × (b ≡ Some y) × (x ≤ℤ c) × (y ≤ℤ c) × ((c ≡ x) ⊎ (c ≡ y))
greater_some None b c e = absurd (cc)
greater_some (Some x) None c e = absurd (cc)
greater_some (Some x) (Some y) c e = by_test (int_lt x y) refl e
  where
    by_test : (t : Bool) → int_lt x y ≡ t → Some (cond t y x) ≡ Some c → (u : ℤ) × (v : ℤ) × (Some x ≡ Some u) × (Some y ≡ Some v) × (u ≤ℤ c) × (v ≤ℤ c) × ((c ≡ u) ⊎ (c ≡ v))
    by_test true t q = let h : y ≡ c = cc in (x, y, refl, refl, grind (arith, ints), omega (arith, ints), inr (sym h))
    by_test false t q = let h : x ≡ c = cc in (x, y, refl, refl, omega (arith, ints), grind (arith, ints), inl (sym h))

pub greater_most : (a b : Option ℤ) (w : ℤ) → AtMost a w → AtMost b w → AtMost (greater a b) w
greater_most None b w h k = absurd h
greater_most (Some x) None w h k = absurd k
greater_most (Some x) (Some y) w h k = by_test (int_lt x y)
  where
    by_test : (t : Bool) → AtMost (Some (cond t y x)) w
    by_test true = k
    by_test false = h

-- what is kept is the first, and the second is no greater
pub stable_some : (a b : Option ℤ) (c : ℤ) → stable a b ≡ Some c → (y : ℤ) × (a ≡ Some c) × (b ≡ Some y) × (y ≤ℤ c)
stable_some None b c e = absurd (cc)
stable_some (Some x) None c e = absurd (cc)
stable_some (Some x) (Some y) c e = by_test (int_lt x y) refl e
  where
    by_test : (t : Bool) → int_lt x y ≡ t → cond t None (Some x) ≡ Some c → (u : ℤ) × (Some x ≡ Some c) × (Some y ≡ Some u) × (u ≤ℤ c)
    by_test true t q = absurd (cc)
    by_test false t q = let h : x ≡ c = cc in (y, ap Some h, refl, grind (arith, ints))

pub plus_small : (o r : Option ℤ) (c : ℤ) → r ≡ plus o c → ((x : ℤ) → o ≡ Some x → unsigned_abs x ≤ 2 ^ 124) → unsigned_abs c ≤ 2 ^ 82 → (y : ℤ) → r ≡ Some y → unsigned_abs y ≤ 2 ^ 125
plus_small None r c e h k y f = absurd (cc)
plus_small (Some x) r c e h k y f = let z : x +ℤ c ≡ y = cc in omega (arith, ints, h x refl, k, z)
