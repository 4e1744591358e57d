use Rattle.std.proofs.Common.{arith, ◌^◌, ◌*ℤ◌, FitsSigned, refl}
use mir.Syntax.{w128}
use Rattle.std.proofs.lemmas.Int.{fits_signed_mul, to_z-of_z}
use Rattle.int_laws.proofs.arithmetic.product.Goals as goal

pub returns : goal.returns
returns c =
    let p : FitsSigned w128 (c.args.a *ℤ c.args.b) = fits_signed_mul w128 c.args.a c.args.b (2 ^ 63) (2 ^ 63) c.requires.a c.requires.b (omega arith) in
    record { value = rw (to_z-of_z w128 c.args.a c.ranges.a, to_z-of_z w128 c.args.b c.ranges.b, to_z-of_z w128 (c.args.a *ℤ c.args.b) p) refl }
