-- Constraints that are sorted, each once.
use Rattle.std.proofs.Common.{◌≡◌, Bool, true, false, ◌&&◌, eqb, nat_cmp, List, Contains, IsPermutation, refl, sym, ap, ◌∙◌, eqb-true, true≢false}
use Rattle.std.specs.Cmp.{IsTotalOrder, IsEquivalence, tied_then, unsigned_ties}
use Rattle.std.specs.List.{dedup}
use Rattle.std.specs.Ordering.{eq_by_cmp, is_eq, ordering_then}
use Rattle.std.proofs.lemmas.Cmp.{then_total, on_total, nat_cmp_total, eq_by_cmp_equiv}
use Rattle.std.proofs.lemmas.List.Kept.{Contains-dedup, Contains-from_dedup}
use Rattle.std.proofs.lemmas.List.Sorted.{Contains-permutation, IsPermutation-sym}
use Rattle.core_ir.specs.Constraints.{constraint_cmp}
use Rattle.core_ir.specs.declared.artifacts.Constraint.{Constraint}

pub constraint_total : IsTotalOrder constraint_cmp
constraint_total = then_total (on_total (λ c. c.rule) nat_cmp_total) (then_total (on_total (λ c. c.target) nat_cmp_total) (then_total (on_total (λ c. c.source) nat_cmp_total) (on_total (λ c. c.third) nat_cmp_total)))

abbrev pub same : Constraint → Constraint → Bool
same x y = eqb x.rule y.rule && (eqb x.target y.target && (eqb x.source y.source && eqb x.third y.third))

pub ties : (x y : Constraint) → same x y ≡ eq_by_cmp constraint_cmp x y
ties x y =
    ap (λ b. b && (eqb x.target y.target && (eqb x.source y.source && eqb x.third y.third))) (unsigned_ties x.rule y.rule)
    ∙ ap (λ b. is_eq (nat_cmp x.rule y.rule) && b)
    (ap (λ b. b && (eqb x.source y.source && eqb x.third y.third)) (unsigned_ties x.target y.target)
    ∙ ap (λ b. is_eq (nat_cmp x.target y.target) && b)
    (ap (λ b. b && eqb x.third y.third) (unsigned_ties x.source y.source)
    ∙ ap (λ b. is_eq (nat_cmp x.source y.source) && b) (unsigned_ties x.third y.third)
    ∙ tied_then (nat_cmp x.source y.source) (nat_cmp x.third y.third))
    ∙ tied_then (nat_cmp x.target y.target) (ordering_then (nat_cmp x.source y.source) (nat_cmp x.third y.third)))
    ∙ tied_then (nat_cmp x.rule y.rule) (ordering_then (nat_cmp x.target y.target) (ordering_then (nat_cmp x.source y.source) (nat_cmp x.third y.third)))

both : (b c : Bool) → (b && c) ≡ true → (b ≡ true) × (c ≡ true)
both true c e = (refl, e)
both false c e = absurd (true≢false (sym e))

pub apart : (x y : Constraint) → same x y ≡ true → x ≡ y
apart x y e =
    let first = both (eqb x.rule y.rule) (eqb x.target y.target && (eqb x.source y.source && eqb x.third y.third)) e in
    let second = both (eqb x.target y.target) (eqb x.source y.source && eqb x.third y.third) first.1 in
    let third = both (eqb x.source y.source) (eqb x.third y.third) second.1 in
    let rules : x.rule ≡ y.rule = eqb-true x.rule y.rule first.0 in
    let targets : x.target ≡ y.target = eqb-true x.target y.target second.0 in
    let sources : x.source ≡ y.source = eqb-true x.source y.source third.0 in
    let thirds : x.third ≡ y.third = eqb-true x.third y.third third.1 in
    λ i. record { rule = rules i; target = targets i; source = sources i; third = thirds i }

pub equivalence : IsEquivalence same
equivalence =
    let order = eq_by_cmp_equiv constraint_total in
    record {
      refl = λ x. ties x x ∙ order.refl x;
      symm = λ x y. ties x y ∙ order.symm x y ∙ sym (ties y x);
      congr = λ x y z e. ties x z ∙ order.congr x y z (sym (ties x y) ∙ e) ∙ sym (ties y z);
    }

pub kept : (found sorted : List Constraint) → IsPermutation found sorted → (c : Constraint) → (Contains (dedup same sorted) c → Contains found c) × (Contains found c → Contains (dedup same sorted) c)
kept found sorted moved c =
    ((λ h. Contains-permutation _ _ c (IsPermutation-sym _ _ moved) (Contains-from_dedup same sorted c h)), (λ h. Contains-dedup equivalence apart sorted c (Contains-permutation _ _ c moved h)))
