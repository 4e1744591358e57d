use Rattle.report_view.proofs.Turns.{pushed_lines, pushed_keys}
use Rattle.report_view.proofs.site.sites_of.Goals as goal

pub loop-line-preserved : goal.loop-line-preserved
loop-line-preserved c = record {
  same = pushed_lines c.args.lines.now c.loop-line.line-index c.line-item.result c.loop-line.sites.items c.push.new.self.items c.in_ok-site_of.field-0
      c.loop-line-test.true c.line-item.is c.in_ok-site_of.ensures.line c.loop-line.invariant.same c.in_ok-push.ensures.items;
  named = pushed_keys c.loop-line.sites.items c.push.new.self.items c.in_ok-site_of.field-0 c.loop-line.invariant.named c.in_ok-site_of.ensures.key
      c.in_ok-push.ensures.items;
}
