use Rattle.std.proofs.Common.{◌≡◌, ◌+◌, false, get_or, drop, ap, sym, ◌∙◌}
use Rattle.c_lexer.specs.computed.Settings.{closes}
use Rattle.c_lexer.proofs.Turning.{close_step}
use Rattle.c_lexer.proofs.space.close_len.Goals as goal

pub loop-i-preserved : goal.loop-i-preserved
loop-i-preserved c =
    let i = c.loop-i.i in
    let inside = c.args.inside.now in
    let open_still : closes (get_or inside i 0) (drop (i + 1) inside) ≡ false = ap (closes (get_or inside i 0)) (sym c.behind.ensures) ∙ sym c.if-closes.ensures.value in
    close_step inside i c.loop-i-test.true open_still ∙ c.loop-i.invariant
