use Rattle.std.specs.Prelude.{◌≢◌, ◌<◌, ℕ, List, [], ◌∷◌}
use Rattle.tables.specs.declared.work.Next.{Next}
use Rattle.tables.specs.declared.work.Next.TheVariants.{Round, End}

-- no round is without a task
abbrev pub HasTask : {B : Type 0} → Next B → Type 0
HasTask (Round tasks basis) = 0 < tasks
HasTask End = Unit {0}

-- not the single byte that stands for the artifact of the same task in the round before
abbrev pub IsNoMark : List ℕ → Type 0
IsNoMark bytes = bytes ≢ 6 ∷ []
