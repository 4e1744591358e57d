use Rattle.std.proofs.Common.{◌≡◌, ◌++◌, ◌∷◌, [], true, false, ℕ, List, take, ap, sym, ◌∙◌, subst}
use Rattle.std.specs.List.{list_any}
use Rattle.std.specs.Str.{bytes_eq}
use Rattle.first_form.specs.Form.{names}
use Rattle.first_form.specs.computed.Reading.{are_distinct}
use Rattle.first_form.proofs.Distinct.{one_name_more, new_distinct, twice}
use Rattle.first_form.proofs.names.names_of.Goals as goal

pub returns-then-not-branch : goal.returns-then-not-branch
returns-then-not-branch c =
    let array = c.array-item.result in
    let known : list_any (bytes_eq c.as_slice.result.now) c.loop-array.names ≡ true = c.in_ok-add.ensures.known c.if-not-branch.true in
    let same_name : list_any (bytes_eq array.name) c.loop-array.names ≡ true = subst (λ (t : List ℕ). list_any (bytes_eq t) c.loop-array.names ≡ true) c.as_slice.ensures known in
    let same_names : list_any (bytes_eq array.name) (names (take c.loop-array.array-index c.args.arrays.now)) ≡ true = subst (λ (ts : List (List ℕ)). list_any (bytes_eq array.name) ts ≡ true) c.loop-array.invariant.so_far same_name in
    record { distinct = twice c.args.arrays.now c.loop-array.array-index array c.loop-array-test.true c.array-item.is same_names }

pub loop-array-preserved : goal.loop-array-preserved
loop-array-preserved c =
    let array = c.array-item.result in
    let grown : c.add.new.self ≡ c.loop-array.names ++ c.as_slice.result.now ∷ [] = c.in_ok-add.ensures.added c.if-not-branch.false in
    let new : list_any (bytes_eq c.as_slice.result.now) c.loop-array.names ≡ false = c.in_ok-add.ensures.new c.if-not-branch.false in
    let one_more = one_name_more c.args.arrays.now c.loop-array.array-index array c.loop-array-test.true c.array-item.is in
    record {
      so_far = grown ∙ ap (λ (t : List ℕ). c.loop-array.names ++ t ∷ []) c.as_slice.ensures ∙ ap (λ (ts : List (List ℕ)). ts ++ array.name ∷ []) c.loop-array.invariant.so_far ∙ sym one_more;
      distinct = ap are_distinct grown ∙ new_distinct c.loop-array.names c.as_slice.result.now c.loop-array.invariant.distinct new;
    }
