-- The texts that are told of a database, and of a trial.
use Rattle.std.specs.Prelude.{◌≡◌, ◌⊎◌, ◌<◌, ◌^◌, ℕ, List, ◌++◌, codes, decimal}
use Rattle.hex.specs.Hex.{encode_lower}

abbrev pub disk_failed_text : List ℕ
disk_failed_text = codes "surveyor: disk failed\n"

abbrev pub not_database_text : List ℕ
not_database_text = codes "surveyor: not a database\n"

unfoldable pub other_source_text : List ℕ → List ℕ → List ℕ
other_source_text stored wanted = codes "surveyor: database of another source " ++ encode_lower stored ++ codes " wanted " ++ encode_lower wanted ++ codes "\n"

unfoldable pub numbered : List ℕ → ℕ → List ℕ
numbered words number = words ++ decimal number ++ codes "\n"

abbrev pub damaged_text : ℕ → List ℕ
damaged_text at = numbered (codes "surveyor: database damaged at ") at

abbrev pub full_text : ℕ → List ℕ
full_text size = numbered (codes "surveyor: database full at ") size

-- the line that refuses a database
abbrev pub IsRefusalLine : List ℕ → Type 0
IsRefusalLine text =
    (text ≡ not_database_text)
    ⊎ (((stored : List ℕ) × (wanted : List ℕ) × (text ≡ other_source_text stored wanted)) ⊎ ((at : ℕ) × (text ≡ damaged_text at)))

-- the line that says how long a database would become, which is longer than 2,147,483,648 bytes
abbrev pub IsFullLine : List ℕ → Type 0
IsFullLine text = (size : ℕ) × (2 ^ 31 < size) × (text ≡ full_text size)

-- what stands before the totals of a trial
unfoldable pub trial_words : ℕ → ℕ → List ℕ
trial_words number functions = codes "trial " ++ decimal number ++ codes " " ++ decimal functions ++ codes " "
