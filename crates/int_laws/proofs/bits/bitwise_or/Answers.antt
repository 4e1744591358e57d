use Rattle.int_laws.proofs.Digits.{or_digits}
use Rattle.int_laws.proofs.TwosComplement.{or_is}
use Rattle.int_laws.proofs.bits.bitwise_or.Goals as goal

pub returns-clause-value : goal.returns-clause-value
returns-clause-value c = or_is c.args.a c.args.b c.ranges.a c.ranges.b

pub returns-clause-digits : goal.returns-clause-digits
returns-clause-digits c i = rw (or_is c.args.a c.args.b c.ranges.a c.ranges.b) (or_digits c.args.a c.args.b i)
