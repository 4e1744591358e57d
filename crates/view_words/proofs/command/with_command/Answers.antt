use Rattle.std.proofs.Common.{◌≡◌}
use Rattle.std.proofs.lemmas.Result.{IfOk-weaker}
use Rattle.clap.specs.Words.{AddsSubcommand, app_of, with_subcommand}
use Rattle.view_words.proofs.Plain.{plain_is_local}
use Rattle.view_words.proofs.command.with_command.Goals as goal

pub returns : goal.returns
returns c = IfOk-weaker c.subcommand.result (AddsSubcommand c.args.top c.args.command) (λ r. app_of r ≡ with_subcommand (app_of c.args.top) (app_of c.args.command).top)
    (λ r added. added.shape (plain_is_local c.args.command c.requires.plain)) c.subcommand.ensures
