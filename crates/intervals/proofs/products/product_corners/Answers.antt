use Rattle.std.proofs.Common.{arith, ◌≡◌, of_z, to_z}
use mir.Syntax.{w128}
use Rattle.std.proofs.lemmas.Int.{ints, to_z-of_z}
use Rattle.intervals.proofs.products.product_corners.Goals as goal

pub returns : goal.returns
returns c =
    let al : to_z w128 (of_z w128 c.args.a.low) ≡ c.args.a.low = omega (arith, ints) in
    let ah : to_z w128 (of_z w128 c.args.a.high) ≡ c.args.a.high = omega (arith, ints) in
    let bl : to_z w128 (of_z w128 c.args.b.low) ≡ c.args.b.low = omega (arith, ints) in
    let bh : to_z w128 (of_z w128 c.args.b.high) ≡ c.args.b.high = omega (arith, ints) in
    let p = to_z-of_z w128 c.product.result (record { sfits = c.product.type_inv }) in
    let q = to_z-of_z w128 c.product-2.result (record { sfits = c.product-2.type_inv }) in
    let r = to_z-of_z w128 c.product-3.result (record { sfits = c.product-3.type_inv }) in
    let s = to_z-of_z w128 c.product-4.result (record { sfits = c.product-4.type_inv }) in
    record { value = cc }
