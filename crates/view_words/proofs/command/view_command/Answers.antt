use Rattle.std.proofs.Common.{◌≡◌, ◌∙◌, ap₂}
use Rattle.std.proofs.lemmas.Result.{IfOk-weaker}
use Rattle.clap.specs.Words.{App, app_of, with_subcommand}
use Rattle.view_words.specs.Commands.{view_command}
use Rattle.view_words.proofs.command.view_command.Goals as goal

abbrev added : App → App → App
added top command = with_subcommand top command.top

pub returns : goal.returns
unfolding view_command
returns c =
    let lines = c.in_ok-with_lines.ensures ∙ ap₂ added c.bare_command.ensures c.in_ok-report_command.ensures in
    let sarif = c.in_ok-with_sarif.ensures ∙ ap₂ added lines c.in_ok-report_command-2.ensures in
    let html = c.in_ok-with_html.ensures ∙ ap₂ added sarif c.in_ok-html_command.ensures in
    IfOk-weaker c.with_command-4.result (λ r. app_of r ≡ added (app_of c.in_ok-with_html.with_html) (app_of c.in_ok-diff_command.field-0))
    (λ r. app_of r ≡ view_command) (λ r is. is ∙ ap₂ added html c.in_ok-diff_command.ensures) c.with_command-4.ensures
