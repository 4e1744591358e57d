-- Writes to one place of the cells.
use Rattle.std.proofs.Common.{◌≡◌, ◌≢◌, ℕ, ◌+◌, ◌*◌, ◌<◌, ℤ, length, set, get_or-set_same, get_or-set_other, arith}
use Rattle.var_state.specs.Grids.{Cells, at}

pub put_same : (m : Cells) (i j : ℕ) (o : ℤ) → 17 * i + j < length m → at (set m (17 * i + j) o) i j ≡ o
put_same m i j o h = rw get_or-set_same

pub put_other : (m : Cells) (i j r s : ℕ) (o : ℤ) → j < 17 → s < 17 → ¬ ((r ≡ i) × (s ≡ j)) → at (set m (17 * i + j) o) r s ≡ at m r s
put_other m i j r s o q t n =
    let h : 17 * r + s ≢ 17 * i + j = λ e. n (omega arith, omega arith) in
    rw get_or-set_other
