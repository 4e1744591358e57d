-- What a check is asked for, as texts.
use Rattle.std.specs.Prelude.{map, string_bytes}
use Rattle.survey.specs.declared.asked.Asked.{Asked as Request}
use Rattle.survey.specs.Words.{Asked}

abbrev pub asking : Request → Asked
asking a = record { entry = string_bytes a.entry; rounds = a.rounds; files = map string_bytes a.files.items }
