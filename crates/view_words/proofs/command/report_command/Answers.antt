use Rattle.std.proofs.Common.{◌≡◌, ◌∙◌, ap₂}
use Rattle.std.proofs.lemmas.Result.{IfOk-weaker}
use Rattle.clap.specs.Words.{AddsArg, app_of, with_rule}
use Rattle.view_words.specs.Commands.{report_command}
use Rattle.view_words.proofs.command.report_command.Goals as goal

pub returns : goal.returns
returns c =
    let first = c.in_ok-arg.ensures.shape c.text_option.ensures.local ∙ ap₂ with_rule c.new.ensures.app c.text_option.ensures.rule in
    let second = c.in_ok-arg-2.ensures.shape c.text_option-2.ensures.local ∙ ap₂ with_rule first c.text_option-2.ensures.rule in
    IfOk-weaker c.arg-3.result (AddsArg c.in_ok-arg-2.field-0 c.text_word.result) (λ r. app_of r ≡ report_command c.args.name.now)
    (λ r added. added.shape c.text_word.ensures.local ∙ ap₂ with_rule second c.text_word.ensures.rule) c.arg-3.ensures
