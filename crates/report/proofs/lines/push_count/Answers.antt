use Rattle.std.proofs.lemmas.List.{append-nil}
use Rattle.report.proofs.Prefixes.{refused_in_second}
use Rattle.report.specs.Report.{count_text}
use Rattle.report.proofs.lines.push_count.Goals as goal

pub returns-clause-err : goal.returns-clause-err
unfolding count_text
returns-clause-err c =
    refused_in_second c.push_pieces.result c.args.into.now.items c.args.count.0.now _ _ c.extend_from_slice.new.self.items c.push_pieces.new.into.items
    (rw (c.as_bytes.ensures.value, c.format.ensures.text) (simp append-nil))
    c.in_ok-extend_from_slice.ensures.items c.push_pieces.ensures.err
