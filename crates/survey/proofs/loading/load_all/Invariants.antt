use Rattle.survey.specs.computed.Asking.{asking}
use Rattle.survey.specs.Sources.{sources_of}
use Rattle.survey.proofs.Loads.{SoFar}
use Rattle.std.proofs.Common.{◌≡◌}
use Rattle.survey.proofs.loading.load_all.Given as goal

abbrev pub invariant-loop-name : goal.invariant-loop-name
invariant-loop-name g l =
    SoFar (g.S.Sources.files l.fn.sources) (asking l.fn.asked) l.name-index (sources_of l.files.items) l.room (g.S.Sources.faults l.fn.sources) (g.S.Sources.faults l.sources) (g.S.Sources.calls l.fn.sources) (g.S.Sources.calls l.sources)
    × (g.S.Sources.files l.sources ≡ g.S.Sources.files l.fn.sources)
    × (l.name-items ≡ l.fn.asked.files.items)
