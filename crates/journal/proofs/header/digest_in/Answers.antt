use Rattle.std.proofs.Common.{drop, ◌∙◌, arith, length-drop}
use Rattle.std.proofs.lemmas.List.{take_all}
use Rattle.journal.proofs.header.digest_in.Goals as goal

pub returns : goal.returns
returns c =
    c.copy_from_slice.ensures.after ∙ take_all 32 (drop 8 c.args.header.now) (omega (arith, length-drop 8 c.args.header.now, c.told-header))
