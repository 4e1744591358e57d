use Rattle.std.proofs.Common.{◌≡◌, ap, ◌∙◌, Option, ℕ, List, [], ◌∷◌, ◌++◌, ◌||◌, codes}
use Rattle.std.specs.Option.{is_some}
use Rattle.std.specs.List.{list_any}
use Rattle.std.specs.Str.{bytes_eq}
use Rattle.first_form.specs.Form.{gnu_words}
use Rattle.first_form.proofs.reserved.is_reserved.Goals as goal

pub returns-in-None : goal.returns-in-None
returns-in-None c = c.is_among.ensures ∙ ap (λ (o : Option ℕ). is_some o || list_any (bytes_eq c.args.text.now) (gnu_words ++ codes "main" ∷ [])) c.in-None.ensures
