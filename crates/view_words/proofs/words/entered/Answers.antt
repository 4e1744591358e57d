use Rattle.view_words.proofs.Entered.{pairs}
use Rattle.view_words.proofs.words.entered.Goals as goal

pub returns : goal.returns
returns c = pairs _ _ _ _ _ _ c.subcommand.ensures.name c.subcommand.ensures.rows
