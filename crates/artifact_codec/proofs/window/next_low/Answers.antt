use Rattle.std.proofs.Common.{sym, ◌∙◌}
use Rattle.std.proofs.lemmas.Result.{err_from_is_err_and}
use Rattle.artifact_codec.specs.computed.Windows.{registers}
use Rattle.artifact_codec.proofs.Marks.{counted_marked}
use Rattle.artifact_codec.proofs.Advance.{ok, err}
use Rattle.artifact_codec.proofs.window.next_low.Goals as goal

pub returns-in_err-mark_counted : goal.returns-in_err-mark_counted
returns-in_err-mark_counted c =
    let p = err_from_is_err_and c.from_residual.result c.from_residual.ensures.1 in
    rw p.1 (err c.args.low c.blank-window.result (registers c.args.bytes.now) c.blank-window.ensures (sym (counted_marked c.blank-window.result c.args.bytes.now) ∙ c.in_err-mark_counted.ensures))

pub returns : goal.returns
returns c = ok c.args.low c.blank-window.result c.mark_counted.new.window (registers c.args.bytes.now) c.blank-window.ensures (sym (counted_marked c.blank-window.result c.args.bytes.now) ∙ c.in_ok-mark_counted.ensures)
