-- The command line as `clap` sees it.
use Rattle.std.specs.Prelude.{true, List, [], ◌∷◌, Some, codes}
use Rattle.clap.specs.Words.{App, Rule, Text, new_app, new_rule, with_rule, with_subcommand}
use Rattle.clap.specs.Lexer.{usize_max}
use Rattle.clap.specs.declared.builder.action.ArgAction.TheVariants.{Set, Append}

-- --NAME VALUE
abbrev pub text_option : Text → Rule
text_option name = record (new_rule name) { long = Some name; action = Some Set }

-- one word
abbrev pub text_word : Text → Rule
text_word name = record (new_rule name) { required = true; action = Some Set }

-- [FILE...]
abbrev pub file_words : Rule
file_words = record (new_rule (codes "FILE")) {
  action = Some Append;
  range = Some (record { start_inclusive = 1; end_inclusive = usize_max });
}

abbrev pub with_rules : App → List Rule → App
with_rules a [] = a
with_rules a (r ∷ rs) = with_rules (with_rule a r) rs

-- NAME [--notes FILE] [--sources DIR] REPORT
abbrev pub report_command : Text → App
report_command name = with_rules (new_app name) (text_option (codes "notes") ∷ text_option (codes "sources") ∷ text_word (codes "REPORT") ∷ [])

abbrev pub html_command : App
html_command = with_rule (report_command (codes "html")) file_words

abbrev pub diff_command : App
diff_command = with_rules (report_command (codes "diff")) (text_word (codes "NEW") ∷ text_option (codes "old-sources") ∷ [])

-- help and version are not offered, and a command is wanted
abbrev pub bare_command : App
bare_command =
    let new = new_app (codes "surveyor-view") in
    record new { top = record new.top { disable_help_flag = true; disable_help_subcommand = true; subcommand_required = true } }

unfoldable pub view_command : App
view_command =
    with_subcommand
    (with_subcommand
    (with_subcommand
    (with_subcommand bare_command (report_command (codes "lines")).top) (report_command (codes "sarif")).top) html_command.top) diff_command.top
