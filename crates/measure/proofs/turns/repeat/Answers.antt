use Rattle.std.proofs.Common.{◌^◌, arith, rules, refl}
use Rattle.measure.proofs.Ranges.{within}
use Rattle.measure.proofs.turns.repeat.Goals as goal

pub close-requires : goal.close-requires
close-requires c = record { within = c.new-matrix.ensures.within (2 ^ 90) (within _ _ (2 ^ 90) refl (omega arith)) }

pub repeat_close-requires-clause-ranged : goal.repeat_close-requires-clause-ranged
repeat_close-requires-clause-ranged c = c.close.ensures.ranged (search rules) 100 (c.new-matrix.ensures.ranged 100 (within _ _ 100 refl (omega arith)))

pub repeat_close-requires-clause-within : goal.repeat_close-requires-clause-within
repeat_close-requires-clause-within c = c.close.ensures.within (search rules) 100 (c.new-matrix.ensures.ranged 100 (within _ _ 100 refl (omega arith)))

pub repeat_tighten-requires-clause-ranged : goal.repeat_tighten-requires-clause-ranged
repeat_tighten-requires-clause-ranged c = c.close.ensures.ranged (search rules) 100 (c.new-matrix.ensures.ranged 100 (within _ _ 100 refl (omega arith)))

pub repeat_tighten-requires-clause-within : goal.repeat_tighten-requires-clause-within
repeat_tighten-requires-clause-within c = c.close.ensures.within (search rules) 100 (c.new-matrix.ensures.ranged 100 (within _ _ 100 refl (omega arith)))
