use Rattle.std.proofs.Common.{subst}
use Rattle.core_ir.specs.Programs.{function_of}
use Rattle.core_ir.specs.StepsFit.{IntegerIn}
use Rattle.c_values.specs.declared.int_type.IntType.TheVariants as types
use Rattle.steps_fit.proofs.operands.of_some_type.Goals as goal

pub returns-then-integer_in : goal.returns-then-integer_in
returns-then-integer_in c = λ yes. (types.ULongLong, subst (λ range. IntegerIn (function_of c.args.f.now) range c.args.a) c.type_range.ensures (c.integer_in.ensures yes))

pub returns-else-integer_in : goal.returns-else-integer_in
returns-else-integer_in c = λ yes. (types.LongLong, subst (λ range. IntegerIn (function_of c.args.f.now) range c.args.a) c.type_range-else-integer_in.ensures (c.integer_in-else-integer_in.ensures yes))
