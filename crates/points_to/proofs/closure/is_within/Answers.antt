use Rattle.std.proofs.Common.{◌≡◌, true}
use Rattle.points_to.specs.Sets.{has}
use Rattle.points_to.proofs.Each.{each_all, by_members}
use Rattle.points_to.proofs.closure.is_within.Goals as goal

pub returns : goal.returns
returns c =
    by_members (λ n. has c.args.others.now n ≡ true) c.args.numbers.now true
    (each_all (λ n. has c.args.others.now n ≡ true) c.args.numbers.now c.loop-number.number-index c.loop-number-test.false c.loop-number.invariant)
