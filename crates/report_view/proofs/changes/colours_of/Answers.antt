use Rattle.report_view.proofs.Keys.{updates_bytes, colour_in_more}
use Rattle.report_view.proofs.changes.colours_of.Goals as goal

pub loop-site-preserved : goal.loop-site-preserved
loop-site-preserved c = λ q.
    let changed = updates_bytes c.in_ok-whole_key.field-0.items c.loop-site.colours c.insert.new.self _ c.in_ok-insert.ensures.updates q in
    let more = colour_in_more c.args.sites.now c.loop-site.site-index c.site-item.result q c.loop-site-test.true in
    let before = c.loop-site.invariant q in
    rw (changed, more, before, ← c.site-item.is, ← c.in_ok-whole_key.ensures)
