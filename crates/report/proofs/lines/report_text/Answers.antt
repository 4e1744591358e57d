use Rattle.std.proofs.Common.{◌≡◌, ℕ, List, [], ◌∷◌, ◌++◌, map, Vec, append_assoc, refl, ap}
use Rattle.std.specs.List.{flat_map}
use Rattle.std.specs.declared.alloc.Global.{Global}
use Rattle.report.specs.declared.line.Line.{Line}
use Rattle.report.specs.Report.{report_text, line_text, assumed_text, totals_text}
use Rattle.report.proofs.Prefixes.{refused, both, on_ok_map, on_err_map, within_first, within_second}
use Rattle.report.proofs.lines.report_text.Goals as goal

assumed_lines : List (Vec ℕ Global) → List ℕ
assumed_lines names = flat_map (λ name. assumed_text name.items) names

same_lines : (names : List (Vec ℕ Global)) → flat_map assumed_text (map (λ name. name.items) names) ≡ assumed_lines names
unfolding assumed_lines
same_lines [] = refl
same_lines (name ∷ names) = ap (λ t. assumed_text name.items ++ t) (same_lines names)

-- the report is its three parts
split : (lines : List Line) (names : List (Vec ℕ Global))
    → report_text lines (map (λ name. name.items) names) ≡ flat_map line_text lines ++ (assumed_lines names ++ totals_text lines)
unfolding report_text
split lines names = rw (same_lines names) (simp append_assoc)

pub returns-in_err-push_lines-clause-err : goal.returns-in_err-push_lines-clause-err
returns-in_err-push_lines-clause-err c =
    rw (split c.args.lines.now c.args.assumed.now) (refused _ (within_first _ _ _ _ c.in_err-push_lines.ensures.err))

pub returns-in_err-push_assumed-clause-err : goal.returns-in_err-push_assumed-clause-err
unfolding assumed_lines
returns-in_err-push_assumed-clause-err c =
    rw (split c.args.lines.now c.args.assumed.now)
    (refused _ (within_second _ _ _ _ _ c.in_ok-push_lines.ensures.ok (within_first _ _ _ _ c.in_err-push_assumed.ensures.err)))

pub returns-clause-ok : goal.returns-clause-ok
unfolding assumed_lines
returns-clause-ok c =
    rw (split c.args.lines.now c.args.assumed.now)
    (on_ok_map c.totals_text.result (λ last.
    both c.args.into.now.items (flat_map line_text c.args.lines.now) (assumed_lines c.args.assumed.now ++ totals_text c.args.lines.now)
    c.push_lines.new.into.items c.totals_text.new.into.items c.in_ok-push_lines.ensures.ok
    (both c.push_lines.new.into.items (assumed_lines c.args.assumed.now) (totals_text c.args.lines.now)
    c.push_assumed.new.into.items c.totals_text.new.into.items c.in_ok-push_assumed.ensures.ok last)) c.totals_text.ensures.ok)

pub returns-clause-err : goal.returns-clause-err
unfolding assumed_lines
returns-clause-err c =
    rw (split c.args.lines.now c.args.assumed.now)
    (on_err_map c.totals_text.result (λ p.
    within_second _ _ _ _ _ c.in_ok-push_lines.ensures.ok (within_second _ _ _ _ _ c.in_ok-push_assumed.ensures.ok p)) c.totals_text.ensures.err)
