use Rattle.std.proofs.Common.{◌≡◌, ℕ, List, ◌++◌, append_assoc, codes}
use Rattle.std.specs.Fmt.{decimal}
use Rattle.sv_base.specs.declared.fault.FaultKind.{FaultKind}
use Rattle.report.specs.Append.{AppendsPrefix}
use Rattle.report.specs.Faults.{kind_line, kind_word, kind_code, kind_text}
use Rattle.report.proofs.Prefixes.{refused, on_err_map, within_first, within_second}
use Rattle.report.proofs.faults.push_kind.Goals as goal

beginning : FaultKind → List ℕ
beginning kind = codes ": " ++ (kind_word kind ++ codes " ")

middle : FaultKind → List ℕ
middle kind = decimal (kind_code kind) ++ codes " "

ending : FaultKind → List ℕ
ending kind = kind_text kind ++ codes "\n"

-- the word, the code and the text, each with what stands round it
split : (kind : FaultKind) → kind_line kind ≡ beginning kind ++ (middle kind ++ ending kind)
unfolding kind_line beginning middle ending
split kind = simp append_assoc

pub returns-in_err-push_pieces-clause-err : goal.returns-in_err-push_pieces-clause-err
unfolding beginning
returns-in_err-push_pieces-clause-err c =
    let p : AppendsPrefix c.args.into.now.items (beginning c.args.kind) c.push_pieces.new.into.items =
    rw (← c.kind_word.ensures, ← c.as_bytes.ensures.value) c.in_err-push_pieces.ensures.err in
    rw (split c.args.kind) (refused _ (within_first _ _ _ _ p))

pub returns-in_err-push_pieces-2-clause-err : goal.returns-in_err-push_pieces-2-clause-err
unfolding beginning middle
returns-in_err-push_pieces-2-clause-err c =
    let e : c.push_pieces.new.into.items ≡ c.args.into.now.items ++ beginning c.args.kind =
    rw (← c.kind_word.ensures, ← c.as_bytes.ensures.value) c.in_ok-push_pieces.ensures.ok in
    let p : AppendsPrefix c.push_pieces.new.into.items (middle c.args.kind) c.push_pieces-2.new.into.items =
    rw (← c.kind_code.ensures, ← c.format.ensures.text, ← c.as_bytes-2.ensures.value) c.in_err-push_pieces-2.ensures.err in
    rw (split c.args.kind) (refused _ (within_second _ _ _ _ _ e (within_first _ _ _ _ p)))

pub returns-clause-err : goal.returns-clause-err
unfolding beginning middle ending
returns-clause-err c =
    let e : c.push_pieces.new.into.items ≡ c.args.into.now.items ++ beginning c.args.kind =
    rw (← c.kind_word.ensures, ← c.as_bytes.ensures.value) c.in_ok-push_pieces.ensures.ok in
    let f : c.push_pieces-2.new.into.items ≡ c.push_pieces.new.into.items ++ middle c.args.kind =
    rw (← c.kind_code.ensures, ← c.format.ensures.text, ← c.as_bytes-2.ensures.value) c.in_ok-push_pieces-2.ensures.ok in
    on_err_map c.push_pieces-3.result (λ q.
    let p : AppendsPrefix c.push_pieces-2.new.into.items (ending c.args.kind) c.push_pieces-3.new.into.items =
    rw (← c.kind_text.ensures, ← c.as_bytes-3.ensures.value) q in
    rw (split c.args.kind) (within_second _ _ _ _ _ e (within_second _ _ _ _ _ f p))) c.push_pieces-3.ensures.err
