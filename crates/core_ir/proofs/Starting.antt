-- With what the static leaves of the worked program begin.
use Rattle.std.proofs.Common.{◌≡◌, ℕ, zero, suc, ◌<◌, Bool, true, false, cond, eqb, ◌==◌, ◌||◌, nat_lt, pos, neg_ℤ, List, [], ◌∷◌, drop, find, Option, Some, None, refl, sym, ap, subst, ◌∙◌, eqb-true}
use Rattle.std.specs.Bool.{⊤}
use Rattle.std.specs.Int.Signed.{≤ℤ_refl}
use Rattle.std.proofs.Math.Facts.{leb_yes}
use Rattle.core_ir.specs.declared.steps.Leaf.TheVariants as leaves
use Rattle.c_values.specs.declared.int_type.IntType.TheVariants as types
use Rattle.core_ir.specs.Lists.{has}
use Rattle.core_ir.specs.Ranges.{Range, Includes}
use Rattle.core_ir.specs.Shapes.{PlainShape, Scalar, Array, Members, ended, member, shape_at, is_whole_region}
use Rattle.core_ir.specs.Starts.{all_begun, static_at, is_begun, choice_in, given_at, start_range, IsStart, IsStartInterval}
use Rattle.core_ir.specs.Statics.{PlainValue}
use Rattle.core_ir.specs.Worked.{worked, objects}

-- all leaves of one class begin with the same here
abbrev pub expected : ℕ → Range
expected (suc zero) = (neg_ℤ (pos 2147483648), pos 2147483647)
expected (suc (suc zero)) = (pos 5, pos 5)
expected (suc (suc (suc zero))) = (pos 4, pos 4)
expected class = (pos 0, pos 0)

abbrev Expected : ℕ → Range → Type 0
Expected class range = (class < 9) × (range ≡ expected class)

abbrev a : PlainShape
a = Array 0 (Some 0) 4 4 (Scalar 1 None (leaves.Int types.Int) 0)

abbrev pub x : PlainShape
x = Members 2 (Some 1) true (member 0 (Scalar 1 (Some 2) (leaves.Int types.Int) 1) (member 0 (Scalar 3 (Some 3) (leaves.Int types.Char) 2) ended))

abbrev q : PlainShape
q = Scalar 4 (Some 4) leaves.Pointer 3

abbrev s1 : PlainShape
s1 = Members 5 (Some 5) false (member 0 (Scalar 4 (Some 6) leaves.Pointer 4) (member 4 (Array 6 (Some 7) 2 4 (Scalar 1 None (leaves.Int types.Int) 5)) ended))

abbrev s2 : PlainShape
s2 = Members 5 (Some 8) false (member 0 (Scalar 4 (Some 9) leaves.Pointer 6) (member 4 (Array 6 (Some 10) 2 4 (Scalar 1 None (leaves.Int types.Int) 7)) ended))

abbrev fp : PlainShape
fp = Scalar 4 (Some 11) leaves.Pointer 8

-- where a path leads to a scalar, it begins as expected
abbrev Begins : Range → Bool → Option PlainValue → Option PlainShape → Type 0
Begins range begun value (Some (Scalar layout region leaf class)) = range ≡ start_range begun leaf value → Expected class range
Begins range begun value _ = ⊤

abbrev AllBegin : ℕ → PlainShape → Type 0
AllBegin o root = (path : List ℕ) (range : Range) → Begins range (is_begun (choice_in worked o) [] root path) (given_at worked o path) (shape_at root path)

if_there : (range : Range) (begun : Bool) (value : Option PlainValue) (c : Bool) (shape : Option PlainShape) → Begins range begun value shape → Begins range begun value (cond c shape None)
if_there range begun value true shape h = h
if_there range begun value false shape h = tt

in_a : AllBegin 0 a
in_a [] range = tt
in_a (k ∷ []) range = if_there range true None (nat_lt k 4) (Some (Scalar 1 None (leaves.Int types.Int) 0)) (λ e. (leb_yes tt, e))
in_a (k ∷ j ∷ path) range = if_there range true None (nat_lt k 4) None tt

in_x : AllBegin 1 x
in_x [] range = tt
in_x (zero ∷ []) range = λ e. (leb_yes tt, e)
in_x (zero ∷ j ∷ path) range = tt
in_x (suc zero ∷ []) range = λ e. (leb_yes tt, e)
in_x (suc zero ∷ j ∷ path) range = tt
in_x (suc (suc m) ∷ path) range = tt

in_q : AllBegin 4 q
in_q [] range = λ e. (leb_yes tt, e)
in_q (k ∷ path) range = tt

in_s1 : AllBegin 5 s1
in_s1 [] range = tt
in_s1 (zero ∷ []) range = λ e. (leb_yes tt, e)
in_s1 (zero ∷ j ∷ path) range = tt
in_s1 (suc zero ∷ []) range = tt
in_s1 (suc zero ∷ k ∷ []) range = if_there range true None (nat_lt k 2) (Some (Scalar 1 None (leaves.Int types.Int) 5)) (λ e. (leb_yes tt, e))
in_s1 (suc zero ∷ k ∷ j ∷ path) range = if_there range true None (nat_lt k 2) None tt
in_s1 (suc (suc m) ∷ path) range = tt

in_s2 : AllBegin 8 s2
in_s2 [] range = tt
in_s2 (zero ∷ []) range = λ e. (leb_yes tt, e)
in_s2 (zero ∷ j ∷ path) range = tt
in_s2 (suc zero ∷ []) range = tt
in_s2 (suc zero ∷ k ∷ []) range = if_there range true None (nat_lt k 2) (Some (Scalar 1 None (leaves.Int types.Int) 7)) (λ e. (leb_yes tt, e))
in_s2 (suc zero ∷ k ∷ j ∷ path) range = if_there range true None (nat_lt k 2) None tt
in_s2 (suc (suc m) ∷ path) range = tt

in_fp : AllBegin 11 fp
in_fp [] range = λ e. (leb_yes tt, e)
in_fp (k ∷ path) range = tt

-- ---- objects by the classes of their whole regions

none_some : {A B : Type 0} (x : A) → None ≡ Some x → B
none_some x e = absurd (cc)

in_some : {A : Type 0} (x y : A) → Some x ≡ Some y → x ≡ y
in_some x y e = cc

-- an object is the first of several, or one of the others
either : (P : ℕ → PlainShape → Type 0) (o k : ℕ) (shape root : PlainShape) (rest : List PlainShape) → is_whole_region o shape ≡ (k == o) → find (is_whole_region o) (shape ∷ rest) ≡ Some root → P k shape → (find (is_whole_region o) rest ≡ Some root → P o root) → P o root
either P o k shape root rest tests found first others = by (k == o) refl (sym (ap (λ b. cond b (Some shape) (find (is_whole_region o) rest)) tests) ∙ found)
  where
    by : (b : Bool) → eqb k o ≡ b → cond b (Some shape) (find (is_whole_region o) rest) ≡ Some root → P o root
    by true same e = subst (P o) (in_some shape root e) (subst (λ n. P n shape) (eqb-true k o same) first)
    by false other e = others e

not_begun : (b : Bool) (found : Option PlainShape) (root : PlainShape) → cond b None found ≡ Some root → found ≡ Some root
not_begun true found root e = none_some root e
not_begun false found root e = e

abbrev Tells : ℕ → PlainShape → Type 0
Tells o root = static_at worked o ≡ Some root → AllBegin o root

or_false : (b : Bool) → (b || false) ≡ b
or_false true = refl
or_false false = refl

tells : (o : ℕ) (root : PlainShape) → static_at worked o ≡ Some root → Tells o root
tells o root found =
    either Tells o 0 a root (drop 1 objects) (or_false (0 == o)) (not_begun (has (all_begun worked) o) (find (is_whole_region o) objects) root found) (λ e. in_a)
    (λ found. either Tells o 1 x root (drop 2 objects) (or_false (1 == o)) found (λ e. in_x)
    (λ found. either Tells o 4 q root (drop 3 objects) (or_false (4 == o)) found (λ e. in_q)
    (λ found. either Tells o 5 s1 root (drop 4 objects) (or_false (5 == o)) found (λ e. in_s1)
    (λ found. either Tells o 8 s2 root (drop 5 objects) (or_false (8 == o)) found (λ e. in_s2)
    (λ found. either Tells o 11 fp root (drop 6 objects) (or_false (11 == o)) found (λ e. in_fp)
    (λ found. either Tells o 12 (Scalar 1 (Some 12) (leaves.Int types.Int) 9) root [] (or_false (12 == o)) found (λ e. none_some (Scalar 1 (Some 12) (leaves.Int types.Int) 9) e) (λ e. none_some root e)))))))

-- ---- the intervals

pub starts_as_expected : (class : ℕ) (range : Range) → IsStart worked class range → Expected class range
starts_as_expected class range s = subst (Begins range (is_begun (choice_in worked s.object) [] s.root s.path) (given_at worked s.object s.path)) s.found (tells s.object s.root s.static s.static s.path range) s.begins

itself : (r : Range) → Includes r r
itself r = record { low = ≤ℤ_refl r.0; high = ≤ℤ_refl r.1 }

pub interval : (class : ℕ) → IsStart worked class (expected class) → IsStartInterval worked class (expected class)
interval class s = record {
  all = λ range other. subst (Includes (expected class)) (sym (starts_as_expected class range other).1) (itself (expected class));
  low = ((expected class).1, s);
  high = ((expected class).0, s);
}

-- by class: a leaf that begins as expected
pub start_of_0 : IsStart worked 0 (expected 0)
start_of_0 = record { object = 0; path = 2 ∷ []; root = a; static = refl; layout = 1; region = None; leaf = leaves.Int types.Int; found = refl; begins = refl }

pub start_of_1 : IsStart worked 1 (expected 1)
start_of_1 = record { object = 1; path = 0 ∷ []; root = x; static = refl; layout = 1; region = Some 2; leaf = leaves.Int types.Int; found = refl; begins = refl }

pub start_of_2 : IsStart worked 2 (expected 2)
start_of_2 = record { object = 1; path = 1 ∷ []; root = x; static = refl; layout = 3; region = Some 3; leaf = leaves.Int types.Char; found = refl; begins = refl }

pub start_of_3 : IsStart worked 3 (expected 3)
start_of_3 = record { object = 4; path = []; root = q; static = refl; layout = 4; region = Some 4; leaf = leaves.Pointer; found = refl; begins = refl }

pub start_of_4 : IsStart worked 4 (expected 4)
start_of_4 = record { object = 5; path = 0 ∷ []; root = s1; static = refl; layout = 4; region = Some 6; leaf = leaves.Pointer; found = refl; begins = refl }

pub start_of_5 : IsStart worked 5 (expected 5)
start_of_5 = record { object = 5; path = 1 ∷ 1 ∷ []; root = s1; static = refl; layout = 1; region = None; leaf = leaves.Int types.Int; found = refl; begins = refl }

pub start_of_6 : IsStart worked 6 (expected 6)
start_of_6 = record { object = 8; path = 0 ∷ []; root = s2; static = refl; layout = 4; region = Some 9; leaf = leaves.Pointer; found = refl; begins = refl }

pub start_of_7 : IsStart worked 7 (expected 7)
start_of_7 = record { object = 8; path = 1 ∷ 0 ∷ []; root = s2; static = refl; layout = 1; region = None; leaf = leaves.Int types.Int; found = refl; begins = refl }

pub start_of_8 : IsStart worked 8 (expected 8)
start_of_8 = record { object = 11; path = []; root = fp; static = refl; layout = 4; region = Some 11; leaf = leaves.Pointer; found = refl; begins = refl }
