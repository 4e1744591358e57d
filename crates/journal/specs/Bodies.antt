-- Records, and where the first of each task of a round is.
use Rattle.std.specs.Prelude.{List}
use Rattle.indexmap.specs.IndexMap.{get}
use Rattle.journal.specs.declared.kept.Kept.{Kept}
use Rattle.journal.specs.declared.first_bodies.TaskKey.{TaskKey}
use Rattle.journal.specs.declared.first_bodies.FirstBodies.{FirstBodies}
use Rattle.journal.specs.Keys.{same_key, given, IsFirst}

abbrev pub records_in : FirstBodies → List Kept
records_in bodies = bodies.records.items

-- its map has the index of the first record of each key
abbrev pub HasFirsts : FirstBodies → Type 0
HasFirsts bodies = (key : TaskKey) → IsFirst (get same_key bodies.firsts key) (given bodies.records.items) key
