use Rattle.std.proofs.Common.{ap, sym, ◌∙◌}
use Rattle.core_ir.specs.Programs.{function_of}
use Rattle.core_fits.specs.Callers.{are_below}
use Rattle.core_fits.proofs.CallersFit.{callers_fit}
use Rattle.core_fits.proofs.rooms.entries_fit.Goals as goal

pub returns : goal.returns
returns c =
    let functions = c.args.core.now.functions in
    let entries = c.args.core.now.entries in
    λ yes. callers_fit function_of functions.items entries.items
    (ap (λ n. are_below n entries.items) (sym functions.ok.0)
    ∙ ap (are_below functions.len) (sym c.deref.ensures.value)
    ∙ ap (λ n. are_below n c.deref.result.now) (sym c.len.ensures)
    ∙ sym c.are_functions.ensures
    ∙ yes)
