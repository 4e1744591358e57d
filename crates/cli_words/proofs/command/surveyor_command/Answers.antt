use Rattle.std.proofs.Common.{◌≡◌, ◌∙◌, ap₂}
use Rattle.std.proofs.lemmas.Result.{IfOk-weaker}
use Rattle.clap.specs.Words.{App, app_of, with_subcommand}
use Rattle.cli_words.specs.Commands.{surveyor_command}
use Rattle.cli_words.proofs.command.surveyor_command.Goals as goal

abbrev added : App → App → App
added top command = with_subcommand top command.top

pub returns : goal.returns
unfolding surveyor_command
returns c =
    let check = c.in_ok-with_check.ensures ∙ ap₂ added c.bare_command.ensures c.in_ok-check_command.ensures in
    let alone = c.in_ok-with_alone.ensures ∙ ap₂ added check c.in_ok-alone_command.ensures in
    let trial = c.in_ok-with_trial.ensures ∙ ap₂ added alone c.in_ok-trial_command.ensures in
    let run = c.in_ok-with_run.ensures ∙ ap₂ added trial c.in_ok-run_command.ensures in
    IfOk-weaker c.with_command-5.result (λ r. app_of r ≡ added (app_of c.in_ok-with_run.with_run) (app_of c.in_ok-audit_command.field-0))
    (λ r. app_of r ≡ surveyor_command) (λ r is. is ∙ ap₂ added run c.in_ok-audit_command.ensures) c.with_command-5.ensures
