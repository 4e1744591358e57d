use Rattle.std.proofs.Common.{arith, ◌≡◌, pos, ◌*ℤ◌, to_z, of_z, sym, ap, ◌∙◌, Bool, false, Some}
use mir.Syntax.{w128}
use Rattle.std.proofs.lemmas.Int.{ints}
use Rattle.c_values.specs.Types.{least, greatest, modulus}
use Rattle.intervals.specs.Forms.{fit_with, fit_all}
use Rattle.intervals.proofs.ProductLaws.{unsigned_corners}
use Rattle.intervals.proofs.products.multiply_unsigned.Goals as goal

pub returns : goal.returns
returns c =
    let al : to_z w128 (of_z w128 c.args.a.low) ≡ c.args.a.low = omega (arith, ints) in
    let ah : to_z w128 (of_z w128 c.args.a.high) ≡ c.args.a.high = omega (arith, ints) in
    let bl : to_z w128 (of_z w128 c.args.b.low) ≡ c.args.b.low = omega (arith, ints) in
    let bh : to_z w128 (of_z w128 c.args.b.high) ≡ c.args.b.high = omega (arith, ints) in
    let k = unsigned_corners c.args.a c.args.b c.requires.a.0 c.requires.a.1 c.requires.b.0 c.requires.b.1 in
    let t = c.args.t in
    let p = c.args.a.low *ℤ c.args.b.low in
    let q = c.args.a.high *ℤ c.args.b.high in
    let low : pos c.natural_product.result ≡ p = cc in
    let high : pos c.natural_product-2.result ≡ q = cc in
    let e : Some c.fit_unsigned.result ≡ fit_with false (least t) (greatest t) (modulus t) p q = rw (← low, ← high) c.fit_unsigned.ensures.value in
    record { value = e ∙ (ap (λ (s : Bool). fit_with s (least t) (greatest t) (modulus t) p q) (sym c.requires.type_of) ∙ ap (fit_all t) (sym k)) }
