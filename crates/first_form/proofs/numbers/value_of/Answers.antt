use Rattle.std.proofs.Common.{arith}
use Rattle.first_form.proofs.Digits.{is_step}
use Rattle.first_form.proofs.numbers.value_of.Goals as goal

pub overflow_mul-value : goal.overflow_mul-value
overflow_mul-value c =
    let step = is_step c.args.text.now c.loop-b.b-index c.loop-b.value c.requires.digits c.requires.short c.loop-b-test.true c.loop-b.invariant in
    omega arith

pub overflow_sub-b : goal.overflow_sub-b
overflow_sub-b c =
    let step = is_step c.args.text.now c.loop-b.b-index c.loop-b.value c.requires.digits c.requires.short c.loop-b-test.true c.loop-b.invariant in
    step.digit_low

pub overflow_add-value : goal.overflow_add-value
overflow_add-value c =
    let step = is_step c.args.text.now c.loop-b.b-index c.loop-b.value c.requires.digits c.requires.short c.loop-b-test.true c.loop-b.invariant in
    omega arith

pub loop-b-preserved : goal.loop-b-preserved
loop-b-preserved c =
    let step = is_step c.args.text.now c.loop-b.b-index c.loop-b.value c.requires.digits c.requires.short c.loop-b-test.true c.loop-b.invariant in
    omega arith
