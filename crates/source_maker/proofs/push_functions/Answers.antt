use Rattle.std.proofs.Common.{◌≡◌, ◌∙◌, ap, sym, refl, add-one, append_assoc}
use Rattle.std.proofs.lemmas.List.{append-nil}
use Rattle.source_maker.specs.Source.{functions_text, draw_after, next_draw}
use Rattle.source_maker.proofs.push_functions.Goals as goal

pub loop-k-init : goal.loop-k-init
unfolding functions_text draw_after
loop-k-init c = record { drawn = refl; so_far = sym (append-nil c.args.text.now.items) }

pub loop-k-preserved : goal.loop-k-preserved
unfolding functions_text draw_after
loop-k-preserved c =
    let drawn : c.next_draw-draw.result ≡ next_draw (draw_after c.args.number c.loop-k.k) = c.next_draw-draw.ensures ∙ ap next_draw c.loop-k.invariant.drawn in
    record {
      drawn = rw add-one drawn;
      so_far = rw (add-one, c.in_ok-push_function.ensures, c.loop-k.invariant.so_far, drawn) (simp append_assoc);
    }
