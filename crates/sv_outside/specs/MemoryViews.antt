-- What the forms in memory show of themselves: their files, what was taken, which calls fail, and their counts.
use Rattle.std.specs.Prelude.{ℕ, ◌==◌, ◌||◌, Bool, not, is_some, List, Option}
use Rattle.std.specs.List.{list_any}
use Rattle.sv_outside.specs.declared.memory_sources.MemorySources.{MemorySources}
use Rattle.sv_outside.specs.declared.memory_sink.MemorySink.{MemorySink}
use Rattle.sv_outside.specs.Outside.{Files}
use Rattle.sv_outside.specs.Memory.{file_named}

abbrev pub memory_files : MemorySources → Files
memory_files s = file_named s.files.items

-- the numbers of the loads that fail
abbrev pub memory_failing_loads : MemorySources → List ℕ
memory_failing_loads s = s.failing.items

abbrev pub memory_loads : MemorySources → ℕ
memory_loads s = s.calls

abbrev pub memory_load_faults : MemorySources → ℕ
memory_load_faults s = s.faults

-- the next load fails: it is one that is to fail, or nothing stands under the name
abbrev pub memory_load_fails : MemorySources → List ℕ → Bool
memory_load_fails s name = list_any (λ n. n == memory_loads s) (memory_failing_loads s) || not (is_some (memory_files s name))

abbrev pub memory_taken : MemorySink → List ℕ
memory_taken s = s.bytes.items

-- the puts that fail, each with how many bytes it takes before
abbrev pub memory_failing_puts : MemorySink → List (ℕ × ℕ)
memory_failing_puts s = s.failing.items

abbrev pub memory_puts : MemorySink → ℕ
memory_puts s = s.calls

abbrev pub memory_put_faults : MemorySink → ℕ
memory_put_faults s = s.faults

abbrev pub memory_put_refusals : MemorySink → ℕ
memory_put_refusals s = s.refusals
