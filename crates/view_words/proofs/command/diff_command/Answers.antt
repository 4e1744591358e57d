use Rattle.std.proofs.Common.{◌≡◌, ◌∙◌, ap₂}
use Rattle.std.proofs.lemmas.Result.{IfOk-weaker}
use Rattle.clap.specs.Words.{AddsArg, app_of, with_rule}
use Rattle.view_words.specs.Commands.{diff_command}
use Rattle.view_words.proofs.command.diff_command.Goals as goal

pub returns : goal.returns
returns c =
    let first = c.in_ok-arg.ensures.shape c.text_word.ensures.local ∙ ap₂ with_rule c.in_ok-report_command.ensures c.text_word.ensures.rule in
    IfOk-weaker c.arg-2.result (AddsArg c.in_ok-arg.field-0 c.text_option.result) (λ r. app_of r ≡ diff_command)
    (λ r added. added.shape c.text_option.ensures.local ∙ ap₂ with_rule first c.text_option.ensures.rule) c.arg-2.ensures
