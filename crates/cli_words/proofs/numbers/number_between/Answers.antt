use Rattle.std.proofs.Common.{◌+◌, ◌*◌, ◌-◌, ◌<◌, ◌∙◌, sym, drop, get_or, arith}
use Rattle.cli_words.proofs.Values.{too_large, value_after-step}
use Rattle.cli_words.proofs.numbers.number_between.Goals as goal

pub returns-then-value-from : goal.returns-then-value-from
returns-then-value-from c =
    let above : c.args.high < 10 * c.loop-digit.value + (get_or c.args.text.now c.loop-digit.digit-index 0 - 48) = omega arith in
    too_large c.args.low c.args.high (10 * c.loop-digit.value + (get_or c.args.text.now c.loop-digit.digit-index 0 - 48)) c.args.text.now
    (drop (c.loop-digit.digit-index + 1) c.args.text.now)
    above
    (sym (value_after-step c.args.text.now c.loop-digit.digit-index c.loop-digit.value c.loop-digit-test.true) ∙ c.loop-digit.invariant.so_far)
