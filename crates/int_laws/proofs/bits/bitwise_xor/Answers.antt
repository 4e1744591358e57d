use Rattle.int_laws.proofs.Digits.{xor_digits}
use Rattle.int_laws.proofs.TwosComplement.{xor_is}
use Rattle.int_laws.proofs.bits.bitwise_xor.Goals as goal

pub returns-clause-value : goal.returns-clause-value
returns-clause-value c = xor_is c.args.a c.args.b c.ranges.a c.ranges.b

pub returns-clause-digits : goal.returns-clause-digits
returns-clause-digits c i = rw (xor_is c.args.a c.args.b c.ranges.a c.ranges.b) (xor_digits c.args.a c.args.b i)
