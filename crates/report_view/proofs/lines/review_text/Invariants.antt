use Rattle.std.proofs.Common.{◌≡◌, take}
use Rattle.std.specs.List.{flat_map}
use Rattle.report_view.specs.Lines.{review_line}
use Rattle.report_view.proofs.lines.review_text.Given as goal

abbrev pub invariant-loop-site : goal.invariant-loop-site
invariant-loop-site l = l.text.items ≡ flat_map review_line (take l.site-index l.sites)
