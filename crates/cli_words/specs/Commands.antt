-- The command line as `clap` sees it.
use Rattle.std.specs.Prelude.{true, List, [], ◌∷◌, Some, codes}
use Rattle.clap.specs.Words.{App, Rule, Text, new_app, new_rule, with_rule, with_subcommand}
use Rattle.clap.specs.Lexer.{usize_max}
use Rattle.clap.specs.declared.builder.action.ArgAction.TheVariants.{Set, Append}

-- --NAME VALUE
abbrev pub text_option : Text → Rule
text_option name = record (new_rule name) { long = Some name; action = Some Set }

-- one word
abbrev pub text_word : Text → Rule
text_word name = record (new_rule name) { required = true; action = Some Set }

-- FILE...
abbrev pub file_words : Rule
file_words = record (new_rule (codes "FILE")) {
  required = true;
  action = Some Append;
  range = Some (record { start_inclusive = 1; end_inclusive = usize_max });
}

abbrev pub with_rules : App → List Rule → App
with_rules a [] = a
with_rules a (r ∷ rs) = with_rules (with_rule a r) rs

abbrev pub check_command : App
check_command = with_rules (new_app (codes "check"))
    (text_option (codes "entry") ∷ text_option (codes "rounds") ∷ text_option (codes "workers") ∷ text_option (codes "db") ∷ file_words ∷ [])

abbrev pub alone_command : App
alone_command = with_rules (new_app (codes "alone"))
    (text_option (codes "entry") ∷ text_option (codes "rounds") ∷ text_option (codes "db") ∷ text_option (codes "book") ∷ file_words ∷ [])

abbrev pub trial_command : App
trial_command = with_rules (new_app (codes "trial")) (text_word (codes "NUMBER") ∷ text_word (codes "FUNCTIONS") ∷ [])

abbrev pub run_command : App
run_command = with_rules (new_app (codes "run"))
    (text_option (codes "entry") ∷ text_option (codes "bound") ∷ text_option (codes "calls") ∷ text_option (codes "words") ∷ file_words ∷ [])

abbrev pub audit_command : App
audit_command = with_rules (new_app (codes "audit"))
    (text_option (codes "entry") ∷ text_option (codes "rounds") ∷ record (text_option (codes "db")) { required = true } ∷ file_words ∷ [])

-- help and version are not offered, and a command is wanted
abbrev pub bare_command : App
bare_command =
    let new = new_app (codes "surveyor") in
    record new { top = record new.top { disable_help_flag = true; disable_help_subcommand = true; subcommand_required = true } }

unfoldable pub surveyor_command : App
surveyor_command =
    with_subcommand
    (with_subcommand
    (with_subcommand
    (with_subcommand
    (with_subcommand bare_command check_command.top) alone_command.top) trial_command.top) run_command.top) audit_command.top
