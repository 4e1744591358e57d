-- The tree of minima: what a write keeps of it, and where the first due leaf is.
use Rattle.std.proofs.Common.{◌≡◌, ◌≢◌, ℕ, zero, suc, ◌+◌, ◌-◌, ◌*◌, ◌^◌, ◌<◌, ◌≤◌, Bool, true, false, Option, Some, None, List, length, set, refl, arith, inl, inr, get_or-set_other, get_or-set_same}
use Rattle.std.specs.Prelude.{if◌then◌else◌}
use Rattle.std.proofs.Math.Nat.{pow-suc, mul-le-mul_left}
use Rattle.std.proofs.lemmas.Bool.{cases_Bool, cases_lt}
use Rattle.std.proofs.lemmas.Nat.{pow_pos}
use Rattle.std.proofs.lemmas.Bool.Decides.{nat_tests}
use Rattle.lease_table.specs.Times.{time_at, earlier_of, is_due_at, IsTree, IsFirstDue}

-- the rule of the tree at one node
abbrev pub Rule : List (Option ℕ) → ℕ → Type 0
Rule nodes k = time_at nodes k ≡ earlier_of (time_at nodes (2 * k)) (time_at nodes (2 * k + 1))

pub rule-set_other : (nodes : List (Option ℕ)) (a : ℕ) (v : Option ℕ) (k : ℕ) → k ≢ a → 2 * k ≢ a → 2 * k + 1 ≢ a → Rule nodes k → Rule (set nodes a v) k
rule-set_other nodes a v k here left right rule =
    rw (get_or-set_other nodes a k v None here, get_or-set_other nodes a (2 * k) v None left, get_or-set_other nodes a (2 * k + 1) v None right) rule

pub rule-set_same : (nodes : List (Option ℕ)) (a : ℕ) → 1 ≤ a → a < length nodes → Rule (set nodes a (earlier_of (time_at nodes (2 * a)) (time_at nodes (2 * a + 1)))) a
rule-set_same nodes a low high =
    let v : Option ℕ = earlier_of (time_at nodes (2 * a)) (time_at nodes (2 * a + 1)) in
    rw (get_or-set_same nodes a v None high, get_or-set_other nodes a (2 * a) v None (omega arith), get_or-set_other nodes a (2 * a + 1) v None (omega arith)) refl

-- which child is due
not_due-left : (now : ℕ) (a b : Option ℕ) → is_due_at now (earlier_of a b) ≡ false → is_due_at now a ≡ false
not_due-left now None b h = refl
not_due-left now (Some a) None h = h
not_due-left now (Some a) (Some b) h = grind (arith, nat_tests)

not_due-right : (now : ℕ) (a b : Option ℕ) → is_due_at now (earlier_of a b) ≡ false → is_due_at now b ≡ false
not_due-right now None b h = h
not_due-right now (Some a) None h = refl
not_due-right now (Some a) (Some b) h = grind (arith, nat_tests)

due-right : (now : ℕ) (a b : Option ℕ) → is_due_at now (earlier_of a b) ≡ true → is_due_at now a ≡ false → is_due_at now b ≡ true
due-right now None b h left = h
due-right now (Some a) None h left = cc
due-right now (Some a) (Some b) h left = grind (arith, nat_tests)

-- a test that fails at the earlier of two times only where it fails at both, and passes only where it passes at one
pub record IsMonotone (test : Option ℕ → Bool) : Type 0 where
  pub left : (a b : Option ℕ) → test (earlier_of a b) ≡ false → test a ≡ false
  pub right : (a b : Option ℕ) → test (earlier_of a b) ≡ false → test b ≡ false
  pub either : (a b : Option ℕ) → test (earlier_of a b) ≡ true → test a ≡ false → test b ≡ true

pub monotone-due : (now : ℕ) → IsMonotone (is_due_at now)
monotone-due now = record { left = not_due-left now; right = not_due-right now; either = due-right now }

-- below a node where the test fails it fails everywhere
pub below_fails : (test : Option ℕ → Bool) (leaves : ℕ) (nodes : List (Option ℕ)) → IsMonotone test → IsTree leaves nodes → (h j x : ℕ) → 1 ≤ j → j * 2 ^ h ≤ x → x < (j + 1) * 2 ^ h → x < 2 * leaves → test (time_at nodes j) ≡ false → test (time_at nodes x) ≡ false
below_fails test leaves nodes mono tree zero j x low from to inside fails =
    let same : j ≡ x = omega arith in
    rw (← same) fails
below_fails test leaves nodes mono tree (suc h) j x low from to inside fails =
    let from' : j * (2 ^ h * 2) ≤ x = rw (pow-suc 2 h) at from in
    let to' : x < (j + 1) * (2 ^ h * 2) = rw (pow-suc 2 h) at to in
    let some : 1 ≤ 2 ^ h = omega (arith, pow_pos h) in
    let grows : j * 1 ≤ j * 2 ^ h = mul-le-mul_left j some in
    let within : j < leaves = omega arith in
    let both = rw (tree.inner j low within) at fails in
    elim (cases_lt x ((2 * j + 1) * 2 ^ h)) [
      | inl left ↦ below_fails test leaves nodes mono tree h (2 * j) x (omega arith) (omega arith) left inside (mono.left (time_at nodes (2 * j)) (time_at nodes (2 * j + 1)) both)
      | inr right ↦ below_fails test leaves nodes mono tree h (2 * j + 1) x (omega arith) right (omega arith) inside (mono.right (time_at nodes (2 * j)) (time_at nodes (2 * j + 1)) both)
    ]

-- below a node where the test passes it passes at some leaf
pub below_passes : (test : Option ℕ → Bool) (leaves : ℕ) (nodes : List (Option ℕ)) → IsMonotone test → IsTree leaves nodes → (h j : ℕ) → 1 ≤ j → (j + 1) * 2 ^ h ≤ 2 * leaves → test (time_at nodes j) ≡ true → (x : ℕ) × (j * 2 ^ h ≤ x) × (x < (j + 1) * 2 ^ h) × (test (time_at nodes x) ≡ true)
below_passes test leaves nodes mono tree zero j low inside passes = (j, omega arith, omega arith, passes)
below_passes test leaves nodes mono tree (suc h) j low inside passes =
    let inside' : (j + 1) * (2 ^ h * 2) ≤ 2 * leaves = rw (pow-suc 2 h) at inside in
    let some : 1 ≤ 2 ^ h = omega (arith, pow_pos h) in
    let grows : (j + 1) * 1 ≤ (j + 1) * 2 ^ h = mul-le-mul_left (j + 1) some in
    let within : j < leaves = omega arith in
    let both = rw (tree.inner j low within) at passes in
    elim (cases_Bool (test (time_at nodes (2 * j)))) [
      | inl left ↦ (let found = below_passes test leaves nodes mono tree h (2 * j) (omega arith) (omega arith) left in
          rw (pow-suc 2 h) (found.0, omega (arith, found.1), omega (arith, found.2), found.3))
      | inr fails ↦ (let found = below_passes test leaves nodes mono tree h (2 * j + 1) (omega arith) (omega arith) (mono.either (time_at nodes (2 * j)) (time_at nodes (2 * j + 1)) both fails) in
          rw (pow-suc 2 h) (found.0, omega (arith, found.1), omega (arith, found.2), found.3))
    ]

-- a node that is due, where no leaf before those below it is; `width` is the number of the leaves below it
pub record Descends (now height : ℕ) (nodes : List (Option ℕ)) (width at : ℕ) : Type 0 where
  pub low : 2 ^ height ≤ at * width
  pub high : (at + 1) * width ≤ 2 * 2 ^ height
  pub due : is_due_at now (time_at nodes at) ≡ true
  pub before : (x : ℕ) → 2 ^ height ≤ x → x < at * width → is_due_at now (time_at nodes x) ≡ false

-- an inner node has two children
inner_node : (n w at : ℕ) → 1 ≤ w → (at + 1) * (w * 2) ≤ 2 * n → at < n
inner_node n w at some high =
    let grows : (at + 1) * 1 ≤ (at + 1) * w = mul-le-mul_left (at + 1) some in
    omega arith

step : (now height : ℕ) (nodes : List (Option ℕ)) → IsTree (2 ^ height) nodes → (r at : ℕ) → Descends now height nodes (2 ^ suc r) at → Descends now height nodes (2 ^ r) (if is_due_at now (time_at nodes (2 * at)) then 2 * at else 2 * at + 1)
step now height nodes tree r at d =
    let low : 2 ^ height ≤ at * (2 ^ r * 2) = rw (pow-suc 2 r) at d.low in
    let high : (at + 1) * (2 ^ r * 2) ≤ 2 * 2 ^ height = rw (pow-suc 2 r) at d.high in
    let some : 1 ≤ 2 ^ r = omega (arith, pow_pos r) in
    let within : at < 2 ^ height = inner_node (2 ^ height) (2 ^ r) at some high in
    let first : 1 ≤ 2 ^ height = omega (arith, pow_pos height) in
    let positive : 1 ≤ at = elim (cases_lt 0 at) [ inl p ↦ p | inr z ↦ (let none : at ≡ 0 = omega arith in absurd (let low' : 2 ^ height ≤ 0 * (2 ^ r * 2) = rw none at low in omega arith)) ] in
    let due = rw (tree.inner at positive within) at d.due in
    let before : (x : ℕ) → 2 ^ height ≤ x → x < at * (2 ^ r * 2) → is_due_at now (time_at nodes x) ≡ false = λ x from to. d.before x from (rw (pow-suc 2 r) to) in
    elim (cases_Bool (is_due_at now (time_at nodes (2 * at)))) [
      | inl yes' ↦ rw yes' (record { low = omega arith; high = omega arith; due = yes'; before = λ x from to. before x from (omega arith) })
      | inr no' ↦ rw no' (record {
        low = omega arith;
        high = omega arith;
        due = due-right now (time_at nodes (2 * at)) (time_at nodes (2 * at + 1)) due no';
        before = λ x from to. elim (cases_lt x (at * (2 ^ r * 2))) [
          | inl earlier ↦ before x from earlier
          | inr later ↦ below_fails (is_due_at now) (2 ^ height) nodes (monotone-due now) tree r (2 * at) x (omega arith) (omega arith) to (omega arith) no'
        ];
      })
    ]

pub descends-child : (now height : ℕ) (nodes : List (Option ℕ)) (level at : ℕ) → level < height → IsTree (2 ^ height) nodes → Descends now height nodes (2 ^ (height - level)) at → Descends now height nodes (2 ^ (height - (level + 1))) (if is_due_at now (time_at nodes (2 * at)) then 2 * at else 2 * at + 1)
descends-child now height nodes level at below tree d =
    let next : height - level ≡ suc (height - (level + 1)) = omega arith in
    step now height nodes tree (height - (level + 1)) at (rw next at d)

pub descends-inner : (now height : ℕ) (nodes : List (Option ℕ)) (level at : ℕ) → level < height → Descends now height nodes (2 ^ (height - level)) at → at < 2 ^ height
descends-inner now height nodes level at below d =
    let next : height - level ≡ suc (height - (level + 1)) = omega arith in
    let high = rw (next, pow-suc 2 (height - (level + 1))) at d.high in
    inner_node (2 ^ height) (2 ^ (height - (level + 1))) at (omega (arith, pow_pos (height - (level + 1)))) high

pub descends-start : (now height : ℕ) (nodes : List (Option ℕ)) → is_due_at now (time_at nodes 1) ≡ true → Descends now height nodes (2 ^ (height - 0)) 1
descends-start now height nodes due =
    let all : height - 0 ≡ height = omega arith in
    rw all (record { low = omega arith; high = omega arith; due = due; before = λ x from to. absurd (omega arith) })

pub descends-end : (now height : ℕ) (nodes : List (Option ℕ)) (level at leaf : ℕ) → height ≤ level → Descends now height nodes (2 ^ (height - level)) at → leaf ≡ at - 2 ^ height → IsFirstDue now height nodes leaf
descends-end now height nodes level at leaf over d place =
    let none : height - level ≡ 0 = omega arith in
    let end : Descends now height nodes 1 at = rw none at d in
    let there : 2 ^ height + leaf ≡ at = omega (arith, end.low) in
    record {
      within = omega (arith, end.high);
      due = rw there end.due;
      before = λ k below. end.before (2 ^ height + k) (omega arith) (omega arith);
    }

pub none_due : (now height : ℕ) (nodes : List (Option ℕ)) → IsTree (2 ^ height) nodes → is_due_at now (time_at nodes 1) ≡ false → (k : ℕ) → k < 2 ^ height → is_due_at now (time_at nodes (2 ^ height + k)) ≡ false
none_due now height nodes tree not_due k below =
    below_fails (is_due_at now) (2 ^ height) nodes (monotone-due now) tree height 1 (2 ^ height + k) (omega arith) (omega arith) (omega arith) (omega arith) not_due
