use Rattle.journal.proofs.Numerals.{three_numbers}
use Rattle.journal.proofs.bytes.numbers_in.Goals as goal

pub returns : goal.returns
returns c =
    three_numbers c.args.bytes.now c.read_u32.result c.read_u32-2.result c.read_u32-3.result c.told-bytes c.fits-bytes c.read_u32.ensures c.read_u32-2.ensures c.read_u32-3.ensures
