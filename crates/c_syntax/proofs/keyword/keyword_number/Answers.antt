use Rattle.std.proofs.Common.{◌+◌, sym, ap, ◌∙◌}
use Rattle.std.specs.Option.{option_map}
use Rattle.c_syntax.proofs.Places.{numbered_text}
use Rattle.c_syntax.proofs.keyword.keyword_number.Goals as goal

pub returns-in-Some : goal.returns-in-Some
returns-in-Some c =
    let r = c.range_of-from.ensures in
    let n = numbered_text c.args.text.now c.range_of-from.result.0 c.range_of-from.result.1 c.words_between.result.now c.in-len1-up.len_at_least (record { ordered = r.ordered; within = r.within; before = r.before; behind = r.behind }) c.words_between.ensures in
    sym (n ∙ ap (option_map (λ i. c.range_of-from.result.0 + i)) (sym c.in-Some.ensures))

pub returns-in-None : goal.returns-in-None
returns-in-None c =
    let r = c.range_of-from.ensures in
    let n = numbered_text c.args.text.now c.range_of-from.result.0 c.range_of-from.result.1 c.words_between.result.now c.in-len1-up.len_at_least (record { ordered = r.ordered; within = r.within; before = r.before; behind = r.behind }) c.words_between.ensures in
    sym (n ∙ ap (option_map (λ i. c.range_of-from.result.0 + i)) (sym c.in-None.ensures))
