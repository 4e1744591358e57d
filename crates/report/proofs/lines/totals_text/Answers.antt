use Rattle.std.proofs.Common.{◌≡◌, ℕ, List, [], ◌++◌, length, codes, append_assoc}
use Rattle.std.proofs.lemmas.List.{append-nil}
use Rattle.sv_base.specs.declared.colour.Colour.TheVariants as colours
use Rattle.report.specs.declared.line.Line.{Line}
use Rattle.report.specs.Append.{AppendsPrefix}
use Rattle.report.specs.Report.{totals_text, count_text, count_of}
use Rattle.report.proofs.Prefixes.{refused, both, on_ok_map, on_err_map, within_first, within_second}
use Rattle.report.proofs.lines.totals_text.Goals as goal

numbers : List Line → List ℕ
numbers lines = count_text (codes "sites ") (length lines)
    ++ (count_text (codes " green ") (count_of colours.Green lines)
    ++ (count_text (codes " orange ") (count_of colours.Orange lines)
    ++ (count_text (codes " red ") (count_of colours.Red lines)
    ++ (count_text (codes " unreachable ") (count_of colours.Unreachable lines) ++ []))))

-- the totals are the five numbers and the end of the line
split : (lines : List Line) → totals_text lines ≡ numbers lines ++ codes "\n"
unfolding totals_text numbers
split lines = simp (append_assoc, append-nil)

pub returns-in_err-push_counts-clause-err : goal.returns-in_err-push_counts-clause-err
unfolding numbers
returns-in_err-push_counts-clause-err c =
    let p : AppendsPrefix c.args.into.now.items (numbers c.args.lines.now) c.push_counts.new.into.items =
    rw (← c.count.ensures, ← c.count-2.ensures, ← c.count-3.ensures, ← c.count-4.ensures) c.in_err-push_counts.ensures.err in
    rw (split c.args.lines.now) (refused _ (within_first _ _ _ _ p))

pub returns-clause-ok : goal.returns-clause-ok
unfolding numbers
returns-clause-ok c =
    let e : c.push_counts.new.into.items ≡ c.args.into.now.items ++ numbers c.args.lines.now =
    rw (← c.count.ensures, ← c.count-2.ensures, ← c.count-3.ensures, ← c.count-4.ensures) c.in_ok-push_counts.ensures.ok in
    rw (split c.args.lines.now) (on_ok_map c.push_pieces.result (λ f. both _ _ _ _ _ e f) c.push_pieces.ensures.ok)

pub returns-clause-err : goal.returns-clause-err
unfolding numbers
returns-clause-err c =
    let e : c.push_counts.new.into.items ≡ c.args.into.now.items ++ numbers c.args.lines.now =
    rw (← c.count.ensures, ← c.count-2.ensures, ← c.count-3.ensures, ← c.count-4.ensures) c.in_ok-push_counts.ensures.ok in
    rw (split c.args.lines.now) (on_err_map c.push_pieces.result (λ p. within_second _ _ _ _ _ e p) c.push_pieces.ensures.err)
