use Rattle.std.proofs.Common.{arith}
use Rattle.c_lexer.proofs.DigitSteps.{is_step}
use Rattle.c_lexer.proofs.constant.value_of.Goals as goal

pub returns-in_default : goal.returns-in_default
returns-in_default c =
    let s = is_step c.args.base c.args.digits.now c.loop-b.b-index c.loop-b.value c.requires c.loop-b-test.true c.loop-b.invariant in
    let most = s.most in
    let more = s.more in
    let h = c.in_default.ensures in
    omega (arith, h)

pub returns-in_default-checked_add : goal.returns-in_default-checked_add
returns-in_default-checked_add c =
    let s = is_step c.args.base c.args.digits.now c.loop-b.b-index c.loop-b.value c.requires c.loop-b-test.true c.loop-b.invariant in
    let most = s.most in
    let more = s.more in
    let d = c.digit_value.ensures in
    let shifted = c.in-Some.ensures.1 in
    let h = c.in_default-checked_add.ensures in
    omega (arith, h)

pub loop-b-preserved : goal.loop-b-preserved
loop-b-preserved c =
    let s = is_step c.args.base c.args.digits.now c.loop-b.b-index c.loop-b.value c.requires c.loop-b-test.true c.loop-b.invariant in
    let more = s.more in
    let d = c.digit_value.ensures in
    let shifted = c.in-Some.ensures.1 in
    let sum = c.in-Some-checked_add.ensures.1 in
    omega (arith, more, d, shifted, sum)
