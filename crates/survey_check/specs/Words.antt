-- What the command lines over a database ask for.
use Rattle.std.specs.Prelude.{ℕ, Bool, true, false, ◌&&◌, if◌then◌else◌, List, [], Option, Some, None, is_none, option_and_then, option_map}
use Rattle.cli_words.specs.Settings.{Read, settings_of}
use Rattle.cli_words.specs.declared.options.Command.{Command}
use Rattle.cli_words.specs.declared.options.Command.TheVariants as commands
use Rattle.survey.specs.Words.{Asked}

-- a check of these files over the database of that name, which is empty where it stands in memory
pub record Wanted : Type 0 where
  pub asked : Asked
  pub path : List ℕ
  pub workers : ℕ

-- a source that is made
pub record Made : Type 0 where
  pub number : ℕ
  pub functions : ℕ

abbrev pub is_check : Command → Bool
is_check commands.Check = true
is_check command = false

abbrev pub is_alone : Command → Bool
is_alone commands.Alone = true
is_alone command = false

abbrev pub is_trial : Command → Bool
is_trial commands.Trial = true
is_trial command = false

abbrev pub wanted_in : Read → Wanted
wanted_in s = record { asked = record { entry = s.entry; rounds = s.rounds; files = s.files }; path = s.path; workers = s.workers }

abbrev pub by_workers : Read → Option Wanted
by_workers s = if is_check s.command then Some (wanted_in s) else None

abbrev pub on_one_thread : Read → Option Wanted
on_one_thread s = if is_alone s.command && is_none s.book then Some (wanted_in s) else None

abbrev pub made_in : Read → Option Made
made_in s = if is_trial s.command then Some (record { number = s.number; functions = s.functions }) else None

-- what the words of a check by workers ask for
abbrev pub check_of : List (List ℕ) → Option Wanted
check_of words = option_and_then by_workers (settings_of words)

-- what the words of a check on one thread ask for
abbrev pub stored_of : List (List ℕ) → Option Wanted
stored_of words = option_and_then on_one_thread (settings_of words)

-- what the words of a trial ask for
abbrev pub trial_of : List (List ℕ) → Option Made
trial_of words = option_and_then made_in (settings_of words)

abbrev pub files_of : Option Wanted → Option Asked
files_of wanted = option_map (λ w. w.asked) wanted

-- the name of the database, empty where the words are not accepted
abbrev pub path_of : Option Wanted → List ℕ
path_of (Some wanted) = wanted.path
path_of None = []
