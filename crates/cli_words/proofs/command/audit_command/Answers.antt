use Rattle.std.proofs.Common.{◌≡◌, ◌∙◌, ap, ap₂, true}
use Rattle.std.proofs.lemmas.Result.{IfOk-weaker}
use Rattle.clap.specs.Words.{AddsArg, Rule, app_of, rule_of, with_rule}
use Rattle.clap.specs.declared.builder.arg.Arg.{Arg}
use Rattle.cli_words.specs.Commands.{audit_command}
use Rattle.cli_words.proofs.command.audit_command.Goals as goal

pub returns : goal.returns
returns c =
    let first = c.in_ok-arg.ensures.shape c.text_option.ensures.local ∙ ap₂ with_rule c.in_ok-entry_command.ensures c.text_option.ensures.rule in
    let rule = ap rule_of c.required.ensures ∙ ap (λ (r : Rule). record r { required = true }) c.text_option-2.ensures.rule in
    let local = ap (λ (a : Arg). a.global) c.required.ensures ∙ c.text_option-2.ensures.local in
    let second = c.in_ok-arg-2.ensures.shape local ∙ ap₂ with_rule first rule in
    IfOk-weaker c.arg-3.result (AddsArg c.in_ok-arg-2.field-0 c.file_words.result) (λ r. app_of r ≡ audit_command)
    (λ r added. added.shape c.file_words.ensures.local ∙ ap₂ with_rule second c.file_words.ensures.rule) c.arg-3.ensures
