-- A function value that checks a part of a tree one level deeper.
use Rattle.std.specs.Prelude.{ℕ}

-- it may be called with this depth, whatever the part and the state are
pub record IsCallable {Part State : Type 0} (depth : ℕ) (pre : Part → ℕ → State → Type 0) : Type 0 where
  pub callable : (part : Part) (state : State) → pre part depth state
