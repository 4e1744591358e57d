use Rattle.std.specs.Prelude.{ℕ}

-- a task of a round, and the ticket of its lease
pub record Turned : Type 0 where
  pub round : ℕ
  pub task : ℕ
  pub ticket : ℕ
