-- The command line, as far as it is built: `alone` without a database or a book.
use Rattle.std.specs.Prelude.{ℕ, Bool, true, false, ◌&&◌, ◌==◌, if◌then◌else◌, List, [], ◌∷◌, codes, length, map, Option, Some, None, is_none, option_and_then, String, string_bytes}
use Rattle.std.specs.Str.{bytes_eq}
use Rattle.std.specs.declared.alloc.Global.{Global}
use Rattle.cli_words.specs.Settings.{Read, settings_of}
use Rattle.cli_words.specs.declared.options.Command.{Command}
use Rattle.cli_words.specs.declared.options.Command.TheVariants as commands

abbrev pub texts : List (String Global) → List (List ℕ)
texts words = map string_bytes words

-- what a check is asked for: the names of the entries, separated by commas, the most rounds, and the names of the files
pub record Asked : Type 0 where
  pub entry : List ℕ
  pub rounds : ℕ
  pub files : List (List ℕ)

abbrev pub is_alone : Command → Bool
is_alone commands.Alone = true
is_alone command = false

-- what these settings ask for, where that is built
abbrev pub built : Read → Option Asked
built s =
    if is_alone s.command && (length s.path == 0) && is_none s.book
    then Some (record { entry = s.entry; rounds = s.rounds; files = s.files })
    else None

-- what the words ask for, where they are accepted and that is built
abbrev pub asked_of : List (List ℕ) → Option Asked
asked_of words = option_and_then built (settings_of words)

abbrev pub only_one : List (List ℕ) → Option (List ℕ)
only_one (file ∷ []) = Some file
only_one files = None

-- the one file that is asked for from `main` alone
abbrev pub only_file : Asked → Option (List ℕ)
only_file a = if bytes_eq a.entry (codes "main") then only_one a.files else None
