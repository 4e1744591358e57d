-- How much is left to be done, at most.
use Rattle.std.specs.Prelude.{ℕ, ◌+◌, ◌*◌, ◌-◌, ◌^◌, Bool, true, false, if◌then◌else◌, List, [], ◌∷◌}
use Rattle.lease_table.specs.declared.standing.Standing.{Standing}
use Rattle.lease_table.specs.declared.standing.Standing.TheVariants.{Free, Leased, Done}
use Rattle.lease_table.specs.Machine.{Machine}
use Rattle.journal.specs.Journals.{journal_gate}
use Rattle.tables.specs.Sound.{machine_of, journal_of}
use Rattle.tables.specs.declared.tables.Tables.{Tables}

abbrev pub all_done : List Standing → Bool
all_done [] = true
all_done (Free ∷ tasks) = false
all_done (Leased ticket until ∷ tasks) = false
all_done (Done ticket ∷ tasks) = all_done tasks

-- whether the machine waits for the next round
abbrev pub waits : Machine → ℕ
waits machine = if machine.ended then 0 else (if all_done machine.tasks then 1 else 0)

-- the bytes that records may still take, and the next round
abbrev pub left_of : Machine → ℕ → ℕ
left_of machine gate = 2 * (2 ^ 31 - gate) + waits machine

abbrev pub left : {D W B V : Type 0} → Tables D W B V → ℕ
left tables = left_of (machine_of tables) (journal_gate (journal_of tables))
