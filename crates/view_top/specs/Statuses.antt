-- The exit statuses.
use Rattle.std.specs.Prelude.{◌≡◌, ◌⊎◌, ℕ}
use Rattle.view_top.specs.declared.failure.Failure.{Failure}
use Rattle.view_top.specs.declared.failure.Failure.TheVariants.{Bad, CannotRead, NoMemory}

abbrev pub failure_status : Failure → ℕ
failure_status (Bad line) = 2
failure_status (CannotRead line) = 4
failure_status NoMemory = 8

-- something was printed; 1 where a site of the new report is worse than in the old one
abbrev pub IsPrinted : ℕ → Type 0
IsPrinted status = (status ≡ 0) ⊎ (status ≡ 1)

-- nothing was printed, for want of words, a report, notes or memory
abbrev pub IsRefused : ℕ → Type 0
IsRefused status = (status ≡ 2) ⊎ ((status ≡ 4) ⊎ (status ≡ 8))

-- a call answers one of these; 7 where the output could not be written
abbrev pub IsStatus : ℕ → Type 0
IsStatus status = IsPrinted status ⊎ (IsRefused status ⊎ (status ≡ 7))
