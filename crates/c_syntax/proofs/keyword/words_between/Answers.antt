use Rattle.std.proofs.Common.{ℕ, List, ◌-◌, take, sym, ap, ◌∙◌}
use Rattle.std.specs.Borrow.{Bor}
use Rattle.std.proofs.lemmas.List.{take-map, drop-map}
use Rattle.c_syntax.proofs.keyword.words_between.Goals as goal

pub returns : goal.returns
returns c = sym (take-map (λ (w : Bor (List ℕ)). w.now) (c.args.to - c.args.from) _) ∙ ap (take (c.args.to - c.args.from)) (sym (drop-map (λ (w : Bor (List ℕ)). w.now) c.args.from _))
