use Rattle.std.proofs.Common.{◌≡◌, ℕ, List, ◌++◌, append_assoc, codes}
use Rattle.report.specs.declared.line.Line.{Line}
use Rattle.report.specs.Append.{AppendsPrefix}
use Rattle.report.specs.Report.{line_text, place_text, colour_word}
use Rattle.report.proofs.Prefixes.{refused, on_err_map, within_first, within_second}
use Rattle.report.proofs.lines.push_line.Goals as goal

between : Line → List ℕ
between l = codes " " ++ (l.function ++ codes " ")

ending : Line → List ℕ
ending l = colour_word l.colour ++ codes "\n"

-- a line is its place, the function between blanks, and the colour
split : (l : Line) → line_text l ≡ place_text l.file l.line l.col ++ (between l ++ ending l)
unfolding line_text between ending
split l = simp append_assoc

pub returns-in_err-push_place-clause-err : goal.returns-in_err-push_place-clause-err
returns-in_err-push_place-clause-err c =
    let l : Line = c.args.line.now in
    let p : AppendsPrefix c.args.into.now.items (place_text l.file l.line l.col) c.push_place.new.into.items = rw (← c.as_slice.ensures) c.in_err-push_place.ensures.err in
    rw (split l) (refused _ (within_first _ _ _ _ p))

pub returns-in_err-push_pieces-clause-err : goal.returns-in_err-push_pieces-clause-err
unfolding between
returns-in_err-push_pieces-clause-err c =
    let l : Line = c.args.line.now in
    let e : c.push_place.new.into.items ≡ c.args.into.now.items ++ place_text l.file l.line l.col = rw (← c.as_slice.ensures) c.in_ok-push_place.ensures.ok in
    let p : AppendsPrefix c.push_place.new.into.items (between l) c.push_pieces.new.into.items = rw (← c.as_slice-2.ensures) c.in_err-push_pieces.ensures.err in
    rw (split l) (refused _ (within_second _ _ _ _ _ e (within_first _ _ _ _ p)))

pub returns-clause-err : goal.returns-clause-err
unfolding between ending
returns-clause-err c =
    let l : Line = c.args.line.now in
    let e : c.push_place.new.into.items ≡ c.args.into.now.items ++ place_text l.file l.line l.col = rw (← c.as_slice.ensures) c.in_ok-push_place.ensures.ok in
    let f : c.push_pieces.new.into.items ≡ c.push_place.new.into.items ++ between l = rw (← c.as_slice-2.ensures) c.in_ok-push_pieces.ensures.ok in
    on_err_map c.push_pieces-2.result (λ q.
    let p : AppendsPrefix c.push_pieces.new.into.items (ending l) c.push_pieces-2.new.into.items = rw (← c.colour_word.ensures, ← c.as_bytes.ensures.value) q in
    rw (split l) (within_second _ _ _ _ _ e (within_second _ _ _ _ _ f p))) c.push_pieces-2.ensures.err
