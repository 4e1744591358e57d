use Rattle.std.proofs.Common.{ap, true}
use Rattle.clap.specs.Words.{App}
use Rattle.view_words.proofs.command.bare_command.Goals as goal

pub returns : goal.returns
returns c = rw (c.subcommand_required.ensures, c.disable_help_subcommand.ensures, c.disable_help_flag.ensures)
    (ap (λ (a : App). record a { top = record a.top { disable_help_flag = true; disable_help_subcommand = true; subcommand_required = true } }) c.new.ensures.app)
