use Rattle.std.proofs.Common.{append_assoc}
use Rattle.std.proofs.lemmas.List.{append-nil}
use Rattle.report.proofs.Prefixes.{refused_in_second}
use Rattle.report.specs.Report.{place_text}
use Rattle.report.proofs.pieces.push_place.Goals as goal

pub returns-clause-err : goal.returns-clause-err
unfolding place_text
returns-clause-err c =
    refused_in_second c.push_pieces.result c.args.into.now.items c.args.file.now _ _ c.extend_from_slice.new.self.items c.push_pieces.new.into.items
    (rw (c.as_bytes.ensures.value, c.format.ensures.text, c.as_bytes-2.ensures.value, c.format-2.ensures.text) (simp (append_assoc, append-nil)))
    c.in_ok-extend_from_slice.ensures.items c.push_pieces.ensures.err
