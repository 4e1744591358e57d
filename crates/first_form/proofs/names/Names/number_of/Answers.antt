use denote.Ref.{Bor}
use Rattle.std.proofs.Common.{ℕ, List, sym, ap, ◌∙◌}
use Rattle.std.specs.Prelude.{position}
use Rattle.std.specs.Str.{bytes_eq}
use Rattle.first_form.proofs.Distinct.{position-map}
use Rattle.first_form.proofs.names.Names.number_of.Goals as goal

pub returns : goal.returns
returns c = c.get_index_of.ensures.index ∙ sym (position-map (bytes_eq c.args.name.now) (λ (key : Bor (List ℕ)). key.now) c.self.inside.set.keys) ∙ ap (position (bytes_eq c.args.name.now)) c.self.view_is
