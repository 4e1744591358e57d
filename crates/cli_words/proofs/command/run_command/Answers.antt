use Rattle.std.proofs.Common.{◌≡◌, ◌∙◌, ap₂}
use Rattle.std.proofs.lemmas.Result.{IfOk-weaker}
use Rattle.clap.specs.Words.{AddsArg, app_of, with_rule}
use Rattle.cli_words.specs.Commands.{run_command}
use Rattle.cli_words.proofs.command.run_command.Goals as goal

pub returns : goal.returns
returns c =
    let first = c.in_ok-arg.ensures.shape c.text_option.ensures.local ∙ ap₂ with_rule c.in_ok-entry_command.ensures c.text_option.ensures.rule in
    let second = c.in_ok-arg-2.ensures.shape c.text_option-2.ensures.local ∙ ap₂ with_rule first c.text_option-2.ensures.rule in
    let third = c.in_ok-arg-3.ensures.shape c.text_option-3.ensures.local ∙ ap₂ with_rule second c.text_option-3.ensures.rule in
    IfOk-weaker c.arg-4.result (AddsArg c.in_ok-arg-3.field-0 c.file_words.result) (λ r. app_of r ≡ run_command)
    (λ r added. added.shape c.file_words.ensures.local ∙ ap₂ with_rule third c.file_words.ensures.rule) c.arg-4.ensures
