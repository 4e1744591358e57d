-- The settings that a command line gives.
use Rattle.std.specs.Prelude.{◌≡◌, Result, Ok, Err, ⊤, ℕ, zero, suc, ◌-◌, Bool, false, ◌&&◌, ◌==◌, nat_le, List, [], ◌∷◌, ◌++◌, Option, Some, None, length, map, unwrap_or, option_map, option_and_then, string_bytes, codes, if◌then◌else◌}
use Rattle.std.specs.List.{slice_split}
use Rattle.std.specs.Str.{bytes_eq}
use Rattle.clap.specs.Kinds.{Kinds}
use Rattle.clap.specs.Words.{Row, Text, all_of, first_of, subcommand_of, fault_of}
use Rattle.cli_words.specs.declared.options.Settings.{Settings}
use Rattle.cli_words.specs.declared.options.Command.{Command}
use Rattle.cli_words.specs.declared.options.Command.TheVariants.{Check, Alone, Trial, Run, Audit}
use Rattle.cli_words.specs.declared.fields.Numbers.{Numbers}
use Rattle.cli_words.specs.declared.words.WordsFault.{WordsFault}
use Rattle.cli_words.specs.declared.words.WordsFault.TheVariants as faults
use Rattle.cli_words.specs.Commands.{surveyor_command}
use Rattle.cli_words.specs.Numbers.{number_between}

-- settings whose texts are lists of bytes
pub record Read : Type 0 where
  pub command : Command
  pub entry : Text
  pub rounds : ℕ
  pub workers : ℕ
  pub path : Text
  pub files : List Text
  pub number : ℕ
  pub functions : ℕ
  pub bound : ℕ
  pub calls : List ℕ
  pub word_path : Option Text
  pub book : Option Text

abbrev pub reading : Settings → Read
reading s = record {
  command = s.command;
  entry = string_bytes s.entry;
  rounds = s.rounds;
  workers = s.workers;
  path = string_bytes s.path;
  files = map string_bytes s.files.items;
  number = s.number;
  functions = s.functions;
  bound = s.bound;
  calls = s.calls.items;
  word_path = option_map string_bytes s.word_path;
  book = option_map string_bytes s.book;
}

-- the command of a word
abbrev pub command_of : Text → Option Command
command_of word =
    if bytes_eq word (codes "check") then Some Check
    else if bytes_eq word (codes "alone") then Some Alone
    else if bytes_eq word (codes "trial") then Some Trial
    else if bytes_eq word (codes "run") then Some Run
    else if bytes_eq word (codes "audit") then Some Audit
    else None

-- the number of an option or word, and the default where it is not given
abbrev pub number_or : ℕ → ℕ → ℕ → Option Text → Option ℕ
number_or default low high None = Some default
number_or default low high (Some text) = number_between low high text

-- each number in its range
abbrev pub numbers_in : List Row → Option Numbers
numbers_in rows =
    option_and_then (λ rounds.
    option_and_then (λ workers.
    option_and_then (λ bound.
    option_and_then (λ number.
    option_map (λ functions. record { rounds = rounds; workers = workers; bound = bound; number = number; functions = functions })
    (number_or 0 1 2000 (first_of (codes "FUNCTIONS") rows)))
    (number_or 0 0 4294967295 (first_of (codes "NUMBER") rows)))
    (number_or 1000 1 1000000 (first_of (codes "bound") rows)))
    (number_or 4 1 64 (first_of (codes "workers") rows)))
    (number_or 24 1 200 (first_of (codes "rounds") rows))

-- the parts of a list that commas separate
abbrev pub parts : Text → List Text
parts text = slice_split (λ b. b == 44) text

-- the positions that the parts write, each below the number of names
abbrev pub positions : ℕ → List Text → Option (List ℕ)
positions names [] = Some []
positions names (part ∷ rest) =
    option_and_then (λ position. option_map (λ others. position ∷ others) (positions names rest))
    (number_between 0 (names - 1) part)

-- the numbers below n in order
abbrev pub each_below : ℕ → List ℕ
each_below zero = []
each_below (suc n) = each_below n ++ n ∷ []

-- the positions that are given, or each entry once in order
abbrev pub calls_or : ℕ → Option Text → Option (List ℕ)
calls_or names None = Some (each_below names)
calls_or names (Some text) = positions names (parts text)

abbrev pub entry_in : List Row → Text
entry_in rows = unwrap_or (first_of (codes "entry") rows) (codes "main")

-- the calls of a run; the entry names are counted in 32 bits
abbrev pub calls_in : List Row → Option (List ℕ)
calls_in rows =
    let names = length (parts (entry_in rows)) in
    if nat_le names 4294967295 then calls_or names (first_of (codes "calls") rows) else None

-- 256 files at most; a trial has none
abbrev pub at_most_256 : List Text → Option (List Text)
at_most_256 files = if nat_le (length files) 256 then Some files else None

abbrev pub files_in : List Row → Option (List Text)
files_in rows = at_most_256 (unwrap_or (all_of (codes "FILE") rows) [])

abbrev pub same : Option Text → Option Text → Bool
same (Some path) (Some book) = bytes_eq path book && nat_le 1 (length path)
same _ _ = false

-- the database and the book are one file
abbrev pub same_paths : List Row → Bool
same_paths rows = same (first_of (codes "db") rows) (first_of (codes "book") rows)

-- the settings of a command with these matches
unfoldable pub settings_in : Command → List Row → Option Read
settings_in command rows =
    option_and_then (λ numbers.
    option_and_then (λ files.
    option_and_then (λ calls.
    if same_paths rows then None else Some (record {
      command = command;
      entry = entry_in rows;
      rounds = numbers.rounds;
      workers = numbers.workers;
      path = unwrap_or (first_of (codes "db") rows) [];
      files = files;
      number = numbers.number;
      functions = numbers.functions;
      bound = numbers.bound;
      calls = calls;
      word_path = first_of (codes "words") rows;
      book = first_of (codes "book") rows;
    }))
    (calls_in rows))
    (files_in rows))
    (numbers_in rows)

abbrev pub read_command : Text × List Row → Option Read
read_command p = option_and_then (λ command. settings_in command p.1) (command_of p.0)

-- what a call returned is what the reading gives, unless memory ran out
abbrev pub Gives : {X Y : Type 0} → (X → Y) → Result X WordsFault → Option Y → Type 0
Gives view (Ok x) read = read ≡ Some (view x)
Gives view (Err faults.Bad) read = read ≡ None
Gives view (Err faults.NoMemory) read = ⊤

abbrev pub where_accepted : Kinds → Option (Text × List Row) → Option Read
where_accepted [] command = option_and_then read_command command
where_accepted (fault ∷ faults) command = None

-- the settings of the words, where they are accepted: `clap` finds no fault in them, and the numbers and counts are in range
unfoldable pub settings_of : List Text → Option Read
settings_of words = where_accepted (fault_of surveyor_command words) (subcommand_of surveyor_command words)
