-- The last of rows to which one was added.
use Rattle.std.proofs.Common.{◌≡◌, ℕ, ◌+◌, ◌-◌, List, length, min, Some, slice_get, ap, ◌∙◌, arith}
use Rattle.std.specs.Global.{Vec}
use Rattle.round_tasks.specs.Rounds.{row_tasks}

pub last_row : (before now : List (Vec (Vec ℕ))) (row : Vec (Vec ℕ)) → length now ≡ length before + 1 → slice_get now (length before) ≡ Some row → row_tasks (slice_get now (length now - 1)) ≡ min (length row.items) 4294967295
last_row before now row more is =
    let at : length now - 1 ≡ length before = omega arith in
    ap (λ k. row_tasks (slice_get now k)) at ∙ ap row_tasks is
