-- A function value that reads, nested no deeper than a number that it is given.
use Rattle.std.specs.Prelude.{ℕ, Result}
use Rattle.std.specs.declared.alloc.Global.{Global}
use denote.Ref.{MutBor}
use Rattle.c_cursor.specs.declared.error.ReadError.{ReadError}
use Rattle.c_cursor.specs.Parsers.{Input, Parser, Reads}

-- it may be called at any place, and computes the parser for the number
pub record Runs {X : Type 0} (parses : ℕ → Parser X) (depth : ℕ) (pre : Global → ℕ → MutBor Input → Type 0)
    (post : Global → ℕ → MutBor Input → Result X ReadError → MutBor Input → Type 0) : Type 0 where
  pub callable : (alloc : Global) (old : MutBor Input) → pre alloc depth old
  pub reads : (alloc : Global) (old new : MutBor Input) (r : Result X ReadError) → post alloc depth old r new
      → Reads (parses depth old.now) r new.now
