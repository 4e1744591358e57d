use Rattle.std.proofs.Common.{◌≡◌, ◌∙◌, ap}
use Rattle.report_view.specs.Sites.{whole_key}
use Rattle.report_view.specs.Changes.{colour_in, rises, rises_over}
use Rattle.report_view.proofs.Turns.{counted_below, counted_more, risen}
use Rattle.report_view.proofs.changes.push_rises.Goals as goal

pub loop-site-preserved : goal.loop-site-preserved
loop-site-preserved c =
    let same : c.in_ok-before.before ≡ colour_in c.args.from.now (whole_key c.site-item.result) =
    c.in_ok-before.ensures ∙ c.in_ok-colours.ensures (whole_key c.site-item.result) in
    record {
      below = counted_below c.rises-more.result c.loop-site.count c.loop-site.site-index c.counted-next.result c.counted-next.ensures c.loop-site.invariant.below;
      counted = counted_more (rises_over c.args.from.now) c.args.to.now c.loop-site.site-index c.site-item.result c.rises-more.result c.loop-site.count
          c.counted-next.result c.loop-site-test.true c.site-item.is (c.rises-more.ensures ∙ ap (λ b. rises b c.site-item.result) same)
          c.loop-site.invariant.counted c.counted-next.ensures;
      lines = risen c.args.label.now c.args.from.now c.args.to.now c.loop-site.site-index c.site-item.result c.in_ok-before.before c.args.text.now.items
          c.loop-site.text.items c.push_rise.new.text.items c.loop-site-test.true c.site-item.is same c.loop-site.invariant.lines c.in_ok-push_rise.ensures;
    }
