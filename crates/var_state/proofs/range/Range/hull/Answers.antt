use Rattle.std.proofs.Common.{◌≡◌, ◌∙◌, refl, arith}
use mir.Syntax.{w128}
use Rattle.std.specs.Int.{int_max, int_min}
use Rattle.std.proofs.lemmas.Int.{ints, clamps, to_z-of_z}
use Rattle.var_state.proofs.range.Range.hull.Goals as goal

pub returns-clause-low : goal.returns-clause-low
returns-clause-low c =
    let a = to_z-of_z w128 c.args.self.low (record { sfits = omega (arith, ints) }) in
    let b = to_z-of_z w128 c.args.other.low (record { sfits = omega (arith, ints) }) in
    let m = to_z-of_z w128 c.min.result (record { sfits = c.min.type_inv }) in
    let v : c.min.result ≡ int_min c.args.self.low c.args.other.low = c.min.ensures.value ∙ (rw (a, b) refl) in
    c.from_ends.ensures.low (rw m (omega (arith, ints, clamps))) (rw m (omega (arith, ints, clamps))) ∙ (m ∙ v)

pub returns-clause-high : goal.returns-clause-high
returns-clause-high c =
    let a = to_z-of_z w128 c.args.self.low (record { sfits = omega (arith, ints) }) in
    let b = to_z-of_z w128 c.args.other.low (record { sfits = omega (arith, ints) }) in
    let m = to_z-of_z w128 c.min.result (record { sfits = c.min.type_inv }) in
    let v : c.min.result ≡ int_min c.args.self.low c.args.other.low = c.min.ensures.value ∙ (rw (a, b) refl) in
    let d = to_z-of_z w128 c.args.self.high (record { sfits = omega (arith, ints) }) in
    let e = to_z-of_z w128 c.args.other.high (record { sfits = omega (arith, ints) }) in
    let n = to_z-of_z w128 c.max.result (record { sfits = c.max.type_inv }) in
    let w : c.max.result ≡ int_max c.args.self.high c.args.other.high = c.max.ensures.value ∙ (rw (d, e) refl) in
    c.from_ends.ensures.high (rw m (omega (arith, ints, clamps))) (rw (m, n) (omega (arith, ints, clamps))) (rw n (omega (arith, ints, clamps))) ∙ (n ∙ w)
