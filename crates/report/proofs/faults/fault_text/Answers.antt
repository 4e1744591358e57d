use Rattle.std.proofs.Common.{[]}
use Rattle.std.proofs.lemmas.Option.{get_or_from_slice_get}
use Rattle.report.specs.Report.{place_text}
use Rattle.report.specs.Faults.{fault_text, kind_line}
use Rattle.report.proofs.Prefixes.{refused, both, on_ok_map, on_err_map, within_first, within_second}
use Rattle.report.proofs.faults.fault_text.Goals as goal

pub returns-in_err-push_place-clause-err : goal.returns-in_err-push_place-clause-err
unfolding fault_text
returns-in_err-push_place-clause-err c =
    let name = get_or_from_slice_get c.args.names.now c.args.fault.now.place.file.0 c.text.result.now [] c.text.ensures in
    rw name (refused _ (within_first _ _ _ _ c.in_err-push_place.ensures.err))

pub returns-clause-ok : goal.returns-clause-ok
unfolding fault_text
returns-clause-ok c =
    let name = get_or_from_slice_get c.args.names.now c.args.fault.now.place.file.0 c.text.result.now [] c.text.ensures in
    rw name (on_ok_map c.push_kind.result (λ kind.
    both c.args.into.now.items (place_text c.text.result.now c.args.fault.now.place.line c.args.fault.now.place.col) (kind_line c.args.fault.now.kind)
    c.push_place.new.into.items c.push_kind.new.into.items c.in_ok-push_place.ensures.ok kind) c.push_kind.ensures.ok)

pub returns-clause-err : goal.returns-clause-err
unfolding fault_text
returns-clause-err c =
    let name = get_or_from_slice_get c.args.names.now c.args.fault.now.place.file.0 c.text.result.now [] c.text.ensures in
    rw name (on_err_map c.push_kind.result (λ p. within_second _ _ _ _ _ c.in_ok-push_place.ensures.ok p) c.push_kind.ensures.err)
