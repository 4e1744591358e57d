use Rattle.std.proofs.Common.{◌+◌, ◌*◌, ◌^◌, ◌<◌, [], ◌∷◌, ◌++◌, ◌∙◌, sym, ap, arith}
use Rattle.std.specs.Int.{w64, trailing_zeros}
use Rattle.std.proofs.Math.Nat.{pos_of_ne-zero}
use Rattle.std.proofs.lemmas.List.{append_assoc, append-nil}
use Rattle.points_to.specs.computed.Blocks.{block_members}
use Rattle.points_to.proofs.Lowest.{lowest_first, fewer, none_spelled, cleared}
use Rattle.points_to.proofs.block.spell.Goals as goal

pub loop-rest-smaller : goal.loop-rest-smaller
loop-rest-smaller c =
    let fits : c.loop-rest.rest < 2 ^ 64 = omega (arith, c.loop-rest.auto.rest-fits) in
    fewer c.args.block.index c.loop-rest.rest (pos_of_ne-zero c.loop-rest-test.true) fits

pub loop-rest-preserved : goal.loop-rest-preserved
loop-rest-preserved c =
    let l = c.loop-rest in
    let b = c.args.block in
    let p = trailing_zeros w64 l.rest in
    let fits : l.rest < 2 ^ 64 = omega (arith, l.auto.rest-fits) in
    ap (λ xs. xs ++ block_members b.index (cleared l.rest p)) c.in_ok-push.ensures.items
    ∙ append_assoc l.out.items ((64 * b.index + p) ∷ []) (block_members b.index (cleared l.rest p))
    ∙ ap (λ xs. l.out.items ++ xs) (sym (lowest_first b.index l.rest (pos_of_ne-zero c.loop-rest-test.true) fits))
    ∙ l.invariant

pub returns : goal.returns
returns c =
    let l = c.loop-rest in
    let b = c.args.block in
    sym (append-nil l.out.items) ∙ ap (λ xs. l.out.items ++ xs) (sym (none_spelled b.index))
    ∙ ap (λ w. l.out.items ++ block_members b.index w) (sym c.loop-rest-test.false) ∙ l.invariant
