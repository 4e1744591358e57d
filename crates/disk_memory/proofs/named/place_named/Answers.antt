use Rattle.std.proofs.Common.{◌≡◌, true, false, sym, ◌∙◌, ap}
use Rattle.std.specs.Prelude.{string_bytes}
use Rattle.std.specs.Str.{bytes_eq}
use Rattle.disk_memory.proofs.Places.{searches_next, searches_found}
use Rattle.disk_memory.proofs.named.place_named.Goals as goal

pub returns-then-eq : goal.returns-then-eq
returns-then-eq g c =
    let pair = c.index-list-at.result in
    let same : bytes_eq (string_bytes pair.0) c.args.name.now ≡ true = ap (λ bytes. bytes_eq bytes c.args.name.now) (sym c.as_str.ensures.value) ∙ sym c.eq.ensures ∙ c.if-eq.true in
    searches_found c.args.list.now c.args.name.now c.loop-at.at pair c.loop-at-test.true c.index-list-at.is same c.loop-at.invariant

pub loop-at-preserved : goal.loop-at-preserved
loop-at-preserved g c =
    let pair = c.index-list-at.result in
    let other : bytes_eq (string_bytes pair.0) c.args.name.now ≡ false = ap (λ bytes. bytes_eq bytes c.args.name.now) (sym c.as_str.ensures.value) ∙ sym c.eq.ensures ∙ c.if-eq.false in
    searches_next c.args.list.now c.args.name.now c.loop-at.at pair c.loop-at-test.true c.index-list-at.is other c.loop-at.invariant
