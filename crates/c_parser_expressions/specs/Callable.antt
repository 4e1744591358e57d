-- Function values that may be called at any place, nested no deeper than a number that they are given.
use Rattle.std.specs.Prelude.{ℕ}
use Rattle.std.specs.declared.alloc.Global.{Global}
use denote.Ref.{MutBor}
use Rattle.c_cursor.specs.Parsers.{Input}
use Rattle.c_parser_expressions.specs.declared.form.Form.{Form}

pub record ReadsForms (depth : ℕ) (pre : Global → ℕ → Form → MutBor Input → Type 0) : Type 0 where
  pub callable : (alloc : Global) (form : Form) (old : MutBor Input) → pre alloc depth form old

pub record ReadsNames (depth : ℕ) (pre : Global → ℕ → MutBor Input → Type 0) : Type 0 where
  pub callable : (alloc : Global) (old : MutBor Input) → pre alloc depth old
