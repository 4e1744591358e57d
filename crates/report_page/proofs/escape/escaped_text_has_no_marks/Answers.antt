use Rattle.report_page.proofs.NoMarks.{text_is_plain, raw_is_plain}
use Rattle.report_page.proofs.escape.escaped_text_has_no_marks.Goals as goal

pub returns : goal.returns
returns c = record { text = text_is_plain; raw = raw_is_plain }
