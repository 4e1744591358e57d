use Rattle.std.proofs.Common.{◌≡◌, true, take}
use Rattle.first_form.specs.Form.{names}
use Rattle.first_form.specs.computed.Reading.{are_distinct}
use Rattle.first_form.proofs.names.names_of.Given as goal

abbrev pub invariant-loop-array : goal.invariant-loop-array
invariant-loop-array l = record {
  so_far : l.names ≡ names (take l.array-index l.arrays);
  distinct : are_distinct l.names ≡ true;
}
