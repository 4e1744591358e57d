use Rattle.int_laws.proofs.Digits.{and_digits}
use Rattle.int_laws.proofs.TwosComplement.{and_is}
use Rattle.int_laws.proofs.bits.bitwise_and.Goals as goal

pub returns-clause-value : goal.returns-clause-value
returns-clause-value c = and_is c.args.a c.args.b c.ranges.a c.ranges.b

pub returns-clause-digits : goal.returns-clause-digits
returns-clause-digits c i = rw (and_is c.args.a c.args.b c.ranges.a c.ranges.b) (and_digits c.args.a c.args.b i)
