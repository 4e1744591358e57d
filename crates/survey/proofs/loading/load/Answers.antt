use Rattle.std.proofs.Common.{◌≢◌, inl}
use Rattle.sv_outside.specs.declared.sources.Loaded.TheVariants as loaded
use Rattle.survey.proofs.Loads.{long_told, refused_stops}
use Rattle.survey.proofs.loading.load.Goals as goal

large_passed : loaded.TooLarge ≢ loaded.Failed
large_passed e = cc

pub returns-in-TooLarge-clause-stops : goal.returns-in-TooLarge-clause-stops
returns-in-TooLarge-clause-stops g c =
    let long = long_told (g.S.Sources.files c.args.sources.now) c.args.name.now _ c.in-TooLarge.ensures.told in
    refused_stops c.refused-ending-in-TooLarge.result _ _ _ _ _ c.refused-ending-in-TooLarge.ensures (inl long) (c.in-TooLarge.ensures.not_failed large_passed)
