-- How sites are named.
use Rattle.std.specs.Prelude.{ℕ, List, ◌++◌, codes, decimal}
use Rattle.report.specs.declared.line.Line.{Line}
use Rattle.report_view.specs.declared.site.Site.{Site}

-- FILE FUNCTION TEXT
unfoldable pub key_text : Line → List ℕ → List ℕ
key_text l text = l.file ++ codes " " ++ l.function ++ codes " " ++ text

-- the key and the ordinal
unfoldable pub whole_key : Site → List ℕ
whole_key s = s.key.items ++ codes " #" ++ decimal s.ordinal
