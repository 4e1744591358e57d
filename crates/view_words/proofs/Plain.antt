-- A plain command has no global argument.
use Rattle.std.proofs.Common.{◌≡◌, Bool, true, false, not, ◌&&◌, is_some, refl}
use Rattle.clap.specs.Walk.{is_empty}
use Rattle.clap.specs.Words.{app_of}
use Rattle.clap.specs.declared.builder.command.Command.{Command, out-Command}

no_globals : (groups external globals rest : Bool) → (groups && (not external && (not globals && rest))) ≡ true → globals ≡ false
no_globals groups external false rest plain = refl
no_globals true false true rest plain = cc
no_globals true true true rest plain = cc
no_globals false external true rest plain = cc

pub plain_is_local : (command : Command) → (app_of command).top.is_plain ≡ true → (out-Command command).has_globals ≡ false
plain_is_local command plain =
    let c = out-Command command in
    no_globals (is_empty c.groups.items) c.allow_external_subcommands c.has_globals
    (not c.infer_long_args && (not c.allow_missing_positional && (not c.infer_subcommands && (not c.args_conflicts_with_subcommands
    && (not c.subcommand_precedence_over_arg && (not (is_some c.long_flag) && (not (is_some c.short_flag)
    && (is_empty c.long_flag_aliases.items && is_empty c.short_flag_aliases.items)))))))) plain
