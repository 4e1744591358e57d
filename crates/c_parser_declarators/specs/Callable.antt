-- Function values that may be called at any place, nested no deeper than a number that they are given.
use Rattle.std.specs.Prelude.{ℕ}
use Rattle.std.specs.declared.alloc.Global.{Global}
use denote.Ref.{MutBor}
use Rattle.c_cursor.specs.Parsers.{Input}
use Rattle.c_parser_declarators.specs.declared.mode.Mode.{Mode}

pub record Reads (depth : ℕ) (pre : Global → ℕ → MutBor Input → Type 0) : Type 0 where
  pub callable : (alloc : Global) (old : MutBor Input) → pre alloc depth old

pub record ReadsModes (depth : ℕ) (pre : Global → ℕ → Mode → MutBor Input → Type 0) : Type 0 where
  pub callable : (alloc : Global) (mode : Mode) (old : MutBor Input) → pre alloc depth mode old
