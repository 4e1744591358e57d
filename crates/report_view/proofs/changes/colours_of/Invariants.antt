use Rattle.std.proofs.Common.{◌≡◌, ℕ, List, take}
use Rattle.std.specs.HashMap.{get_by}
use Rattle.std.specs.Str.{bytes_eq}
use Rattle.report_view.specs.Changes.{colour_in}
use Rattle.report_view.proofs.changes.colours_of.Given as goal

abbrev pub invariant-loop-site : goal.invariant-loop-site
invariant-loop-site l = (q : List ℕ) → get_by (λ k. bytes_eq q k.items) l.colours ≡ colour_in (take l.site-index l.sites) q
