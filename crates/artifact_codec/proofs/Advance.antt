-- One window after the other, until all numbers are known to stand once.
use Rattle.std.proofs.Common.{◌≡◌, ℕ, ◌-◌, ◌+◌, ◌<◌, ◌^◌, Bool, true, false, cond, inl, inr, List, length, Option, Some, None, refl, sym, subst, arith}
use Rattle.std.specs.Prelude.{is_some}
use Rattle.std.specs.List.{concat}
use Rattle.std.proofs.lemmas.Bool.{cases_lt}
use Rattle.core_ir.specs.Lists.{has}
use Rattle.artifact_codec.specs.declared.window.Window.{Window}
use Rattle.artifact_codec.specs.Demands.{are_distinct}
use Rattle.artifact_codec.specs.computed.Reading.{◌>>=◌, counted_at, numbers_at}
use Rattle.artifact_codec.specs.computed.Checking.{registers_distinct}
use Rattle.artifact_codec.specs.computed.Windows.{mark_all, is_once, IsBlank, registers, IsBefore, IsAbove, Known, distinct_registers}
use Rattle.artifact_codec.proofs.Once.{all_once, distinct_once, absent_once, cases_bool, false_true, IsAtMost, IsFarBy, knows, stands_twice}

pub err : (low : ℕ) (w : Window) (numbers : Option (List ℕ)) → IsBlank low w → (numbers >>= mark_all w) ≡ None → distinct_registers numbers ≡ false
err low w None blank e = refl
err low w (Some ns) blank e =
    let t = stands_twice ns w e in
    elim (cases_bool (are_distinct ns)) as (λ _. are_distinct ns ≡ false) [
      | inl d ↦ elim t.why as (λ _. are_distinct ns ≡ false) [
        | inl f ↦ absurd (false_true (is_once t.number ns) f (distinct_once t.number ns d))
        | inr p ↦ absurd (false_true _ (blank.unmarked (t.number - w.low) (omega (arith, t.inside.0, t.inside.1))) p.0)
      ]
      | inr f ↦ f
    ]

above : (low limit : ℕ) (next : Option ℕ) → low < limit → IsFarBy limit next → IsAbove low next
above low limit None lt far = tt
above low limit (Some m) lt far = omega (arith, lt, far)

not_both : (next : Option ℕ) (r : ℕ) → IsAtMost next r → IsBefore r next → ⊥
not_both None r most before = absurd most
not_both (Some m) r most before = omega (arith, most, before)

none_far : (w : Window) (next : Option ℕ) → next ≡ None → IsFarBy (w.low + length w.marks) next
none_far w next e = subst (λ o. IsFarBy (w.low + length w.marks) o) (sym e) tt

pub ok : (low : ℕ) (w v : Window) (numbers : Option (List ℕ)) → IsBlank low w → (numbers >>= mark_all w) ≡ Some v → IsAbove low v.next × (Known (Some low) numbers → Known v.next numbers)
ok low w v None blank e = absurd cc
ok low w v (Some ns) blank e =
    let k = knows ns w v e in (
      above low (w.low + length w.marks) v.next (omega (arith, blank.low_is, blank.wide)) (k.far (none_far w w.next blank.next_is)),
      λ known r before. elim (cases_lt r low) [
        | inl lt ↦ known r lt
        | inr le ↦ elim (cases_lt r (w.low + length w.marks)) [
          | inl inside ↦ k.once r (omega (arith, blank.low_is, le), inside)
          | inr far ↦ elim (cases_bool (has ns r)) [
            | inl there ↦ absurd (not_both v.next r (k.noted r far there) before)
            | inr gone ↦ absent_once r ns gone
          ]
        ]
      ],
    )

pub at_end : (numbers : Option (List ℕ)) → Known None numbers → distinct_registers numbers ≡ true
at_end None known = absurd (known refl)
at_end (Some ns) known = all_once ns (λ r. known r tt)

pub at_start : (numbers : Option (List ℕ)) → Known (Some 0) numbers
at_start None = λ e. cc
at_start (Some ns) = λ r before. absurd (omega (arith, before))

-- how far a limit may still rise
abbrev pub left : Option ℕ → ℕ
left None = 0
left (Some low) = 2 ^ 32 - low

pub falls : (low : ℕ) (next : Option ℕ) → low < 2 ^ 32 → IsAbove low next → left next < left (Some low)
falls low None lt a = omega (arith, lt)
falls low (Some m) lt a = omega (arith, lt, a)

pub by_registers : (bytes : List ℕ) → registers_distinct bytes ≡ distinct_registers (registers bytes)
unfolding registers_distinct registers
by_registers bytes = split (counted_at numbers_at bytes)
  where
    some_cond : (b : Bool) (x : List (List ℕ) × List ℕ) → is_some (cond b (Some x) None) ≡ b
    some_cond true x = refl
    some_cond false x = refl

    split : (read : Option (List (List ℕ) × List ℕ)) → is_some (read >>= λ x. cond (are_distinct (concat x.0)) (Some x) None) ≡ distinct_registers (read >>= λ x. Some (concat x.0))
    split None = refl
    split (Some x) = some_cond (are_distinct (concat x.0)) x
