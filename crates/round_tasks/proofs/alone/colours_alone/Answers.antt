use Rattle.std.proofs.Common.{◌≡◌, length, map, ap, ◌∙◌, arith}
use Rattle.std.proofs.lemmas.Result.{IfOk-weaker}
use Rattle.std.specs.List.{range_with_len}
use Rattle.round_tasks.proofs.Numbering.{numbers}
use Rattle.round_tasks.specs.Rounds.{numbered}
use Rattle.round_tasks.proofs.alone.colours_alone.Goals as goal

pub returns : goal.returns
returns c =
    let colours = c.deref-2.result.now in
    let sites = length c.args.analysis.now.core.sites.items in
    let same : length c.deref-2.result.now ≡ length c.args.analysis.now.core.sites.items = grind (arith, ap length c.deref-2.ensures.value) in
    IfOk-weaker c.numbered.result (λ list. list.items ≡ numbered 0 colours) (λ list. map (λ x. x.0.0) list.items ≡ range_with_len 0 sites) (λ list e. ap (map (λ x. x.0.0)) e ∙ (numbers 0 colours ∙ ap (range_with_len 0) same)) c.numbered.ensures
