use Rattle.std.proofs.Common.{sym, ap, ◌∙◌}
use Rattle.std.specs.List.{list_any}
use Rattle.std.specs.Str.{bytes_eq}
use Rattle.first_form.proofs.Distinct.{is_new_name, is_known_name}
use Rattle.first_form.proofs.names.Names.add.Goals as goal

pub returns-clause-new : goal.returns-clause-new
returns-clause-new c = λ new. ap (list_any (bytes_eq c.args.name.now)) (sym c.self.view_is) ∙ is_new_name c.self.inside.set.keys c.args.name.now c.in_ok-is_new.is_new c.in_ok-is_new.ensures.added new

pub returns-clause-known : goal.returns-clause-known
returns-clause-known c = λ known. ap (list_any (bytes_eq c.args.name.now)) (sym c.self.view_is) ∙ is_known_name c.self.inside.set.keys c.args.name.now c.in_ok-is_new.is_new c.in_ok-is_new.ensures.added known
