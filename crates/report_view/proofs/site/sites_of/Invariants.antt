use Rattle.std.proofs.Common.{◌≡◌, All, map, take}
use Rattle.report_view.specs.Sites.{key_text}
use Rattle.report_view.proofs.site.sites_of.Given as goal

abbrev pub invariant-loop-line : goal.invariant-loop-line
invariant-loop-line l = record {
  same : map (λ s. s.line.now) l.sites.items ≡ take l.line-index l.lines;
  named : All (λ s. s.key.items ≡ key_text s.line.now s.text.now) l.sites.items;
}
