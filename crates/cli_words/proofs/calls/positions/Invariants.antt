use Rattle.std.proofs.Common.{◌≡◌, ◌++◌, map, drop, option_map}
use Rattle.cli_words.specs.Settings.{positions}
use Rattle.cli_words.proofs.calls.positions.Given as goal

abbrev pub invariant-loop-part : goal.invariant-loop-part
invariant-loop-part l =
    option_map (λ rest. l.positions.items ++ rest) (positions l.fn.names (map (λ s. s.now) (drop l.part-index l.parts)))
    ≡ positions l.fn.names (map (λ s. s.now) l.parts)
