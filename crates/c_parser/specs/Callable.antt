-- A function value that may be called at any place, nested no deeper than a number that it is given.
use Rattle.std.specs.Prelude.{ℕ}
use Rattle.std.specs.declared.alloc.Global.{Global}
use denote.Ref.{MutBor}
use Rattle.c_cursor.specs.Parsers.{Input}

pub record Reads (depth : ℕ) (pre : Global → ℕ → MutBor Input → Type 0) : Type 0 where
  pub callable : (alloc : Global) (old : MutBor Input) → pre alloc depth old
