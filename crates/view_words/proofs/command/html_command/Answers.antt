use Rattle.std.proofs.Common.{◌≡◌, ◌∙◌, ap₂}
use Rattle.std.proofs.lemmas.Result.{IfOk-weaker}
use Rattle.clap.specs.Words.{AddsArg, app_of, with_rule}
use Rattle.view_words.specs.Commands.{html_command}
use Rattle.view_words.proofs.command.html_command.Goals as goal

pub returns : goal.returns
returns c =
    IfOk-weaker c.arg.result (AddsArg c.in_ok-report_command.field-0 c.file_words.result) (λ r. app_of r ≡ html_command)
    (λ r added. added.shape c.file_words.ensures.local ∙ ap₂ with_rule c.in_ok-report_command.ensures c.file_words.ensures.rule) c.arg.ensures
