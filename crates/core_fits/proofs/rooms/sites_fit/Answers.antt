use Rattle.std.proofs.Common.{ap, sym, ◌∙◌}
use Rattle.core_ir.specs.Programs.{function_of}
use Rattle.core_fits.specs.Callers.{sites_below}
use Rattle.core_fits.proofs.CallersFit.{sites_fit}
use Rattle.core_fits.proofs.rooms.sites_fit.Goals as goal

pub returns : goal.returns
returns c =
    let functions = c.args.core.now.functions in
    let sites = c.args.core.now.sites in
    λ yes. sites_fit function_of functions.items sites.items
    (ap (λ n. sites_below n sites.items) (sym functions.ok.0)
    ∙ ap (sites_below functions.len) (sym c.deref.ensures.value)
    ∙ ap (λ n. sites_below n c.deref.result.now) (sym c.len.ensures)
    ∙ sym c.are_sites.ensures
    ∙ yes)
