-- What a command line asks for.
use Rattle.std.specs.Prelude.{◌≡◌, Result, Ok, Err, ⊤, List, [], ◌∷◌, Option, Some, None, map, unwrap_or, option_map, option_and_then, string_bytes, codes, if◌then◌else◌}
use Rattle.std.specs.Str.{bytes_eq}
use Rattle.clap.specs.Kinds.{Kinds}
use Rattle.clap.specs.Words.{Row, Text, all_of, first_of, subcommand_of, fault_of}
use Rattle.view_words.specs.declared.wanted.View.{View}
use Rattle.view_words.specs.declared.wanted.View.TheVariants.{Lines, Sarif, Html, Diff}
use Rattle.view_words.specs.declared.wanted.Wanted.{Wanted}
use Rattle.view_words.specs.declared.words.WordsFault.{WordsFault}
use Rattle.view_words.specs.declared.words.WordsFault.TheVariants as faults
use Rattle.view_words.specs.Commands.{view_command}

-- what is wanted, with texts as lists of bytes
pub record Read : Type 0 where
  pub view : View
  pub report : Text
  pub new_report : Text
  pub files : List Text
  pub notes : Text
  pub folder : Text
  pub old_folder : Text

abbrev pub reading : Wanted → Read
reading w = record {
  view = w.view;
  report = string_bytes w.report;
  new_report = string_bytes w.new_report;
  files = map string_bytes w.files.items;
  notes = string_bytes w.notes;
  folder = string_bytes w.folder;
  old_folder = string_bytes w.old_folder;
}

-- the view of a word
abbrev pub view_of : Text → Option View
view_of word =
    if bytes_eq word (codes "lines") then Some Lines
    else if bytes_eq word (codes "sarif") then Some Sarif
    else if bytes_eq word (codes "html") then Some Html
    else if bytes_eq word (codes "diff") then Some Diff
    else None

-- the value of an option or word, and nothing where it is not given
abbrev pub value_in : Text → List Row → Text
value_in name rows = unwrap_or (first_of name rows) []

abbrev pub files_in : List Row → List Text
files_in rows = unwrap_or (all_of (codes "FILE") rows) []

-- what a view with these matches wants
unfoldable pub wanted_in : View → List Row → Read
wanted_in view rows = record {
  view = view;
  report = value_in (codes "REPORT") rows;
  new_report = value_in (codes "NEW") rows;
  files = files_in rows;
  notes = value_in (codes "notes") rows;
  folder = value_in (codes "sources") rows;
  old_folder = value_in (codes "old-sources") rows;
}

abbrev pub read_command : Text × List Row → Option Read
read_command p = option_map (λ view. wanted_in view p.1) (view_of p.0)

-- what a call returned is what the reading gives, unless memory ran out
abbrev pub Gives : {X Y : Type 0} → (X → Y) → Result X WordsFault → Option Y → Type 0
Gives view (Ok x) read = read ≡ Some (view x)
Gives view (Err faults.Bad) read = read ≡ None
Gives view (Err faults.NoMemory) read = ⊤

abbrev pub where_accepted : Kinds → Option (Text × List Row) → Option Read
where_accepted [] command = option_and_then read_command command
where_accepted (fault ∷ faults) command = None

-- what the words want, where they are accepted: `clap` finds no fault in them
unfoldable pub wanted_of : List Text → Option Read
wanted_of words = where_accepted (fault_of view_command words) (subcommand_of view_command words)
