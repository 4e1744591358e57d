use Rattle.std.proofs.Common.{◌≡◌, ◌≤◌, ◌++◌, take, count_by}
use Rattle.report_view.specs.Changes.{rise_lines, rises_over}
use Rattle.report_view.proofs.changes.push_rises.Given as goal

abbrev pub invariant-loop-site : goal.invariant-loop-site
invariant-loop-site l = record {
  below : l.count ≤ l.site-index;
  counted : l.count ≡ count_by (rises_over l.fn.from) (take l.site-index l.to);
  lines : l.text.items ≡ l.initial.text.items ++ rise_lines l.label l.fn.from (take l.site-index l.to);
}
