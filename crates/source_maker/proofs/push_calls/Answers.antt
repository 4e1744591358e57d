use Rattle.std.proofs.Common.{sym, add-one, append_assoc}
use Rattle.std.proofs.lemmas.List.{append-nil}
use Rattle.source_maker.specs.Source.{calls_text, call_text}
use Rattle.source_maker.proofs.push_calls.Goals as goal

pub loop-k-init : goal.loop-k-init
unfolding calls_text
loop-k-init c = sym (append-nil c.args.text.now.items)

pub loop-k-preserved : goal.loop-k-preserved
unfolding calls_text call_text
loop-k-preserved c =
    rw (add-one, c.in_ok-extend_from_slice.ensures.items, c.in_ok-push_numbered.ensures, c.loop-k.invariant) (simp (append_assoc, append-nil))
