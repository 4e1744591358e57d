use Rattle.std.proofs.Common.{◌≡◌, get_or, true, ◌∙◌, sym, ap, inl, inr, arith}
use Rattle.std.proofs.lemmas.Bool.{cases_lt}
use Rattle.std.proofs.lemmas.List.{get_or_default}
use Rattle.points_to.specs.declared.block.Block.{Block}
use Rattle.points_to.specs.computed.Blocks.{block_has}
use Rattle.points_to.proofs.Words.{covered, uncovered}
use Rattle.points_to.proofs.Members.{some_block, block_in}
use Rattle.points_to.proofs.blocks.covers.Goals as goal

abbrev nothing : Block
nothing = record { index = 0; bits = 0 }

pub loop-other-preserved : goal.loop-other-preserved
loop-other-preserved c = λ k n d p h. elim (cases_lt k c.loop-other.other-index) [
  | inl less ↦ c.loop-other.invariant k n d less h
  | inr more ↦
      let same : k ≡ c.loop-other.other-index = omega arith in
      let here : block_has (get_or c.args.others.now c.loop-other.other-index nothing) n ≡ true =
      ap (λ b. block_has b n) (get_or_default c.args.others.now c.loop-other.other-index nothing d c.loop-other-test.true)
      ∙ ap (λ i. block_has (get_or c.args.others.now i d) n) (sym same) ∙ h in
      covered (get_or c.args.others.now c.loop-other.other-index nothing) c.word.result n _ c.word.type_inv c.if-other-word-ne0.false (c.word.ensures n) here
]

pub returns-then-other-word-ne0-clause-some : goal.returns-then-other-word-ne0-clause-some
returns-then-other-word-ne0-clause-some c = λ f.
    let r = uncovered _ c.word.result c.word.type_inv c.if-other-word-ne0.true in
    (r.0, block_in c.args.others.now c.loop-other.other-index r.0 _ c.loop-other-test.true r.2, c.word.ensures r.0 r.1 ∙ r.3)

pub returns-clause-all : goal.returns-clause-all
returns-clause-all c = λ t n h.
    let r = some_block c.args.others.now n h in
    c.loop-other.invariant r.0 n nothing (omega (arith, r.1)) (r.2 nothing)
