-- How bytes are written in a page of HTML.
use Rattle.std.specs.Prelude.{ℕ, Bool, not, ◌==◌, ◌||◌, nat_lt, List, [], ◌∷◌, codes, if◌then◌else◌}
use Rattle.report_view.specs.Letters.{escaped_byte}

-- the five marks of HTML as character references, a control byte but the tab as \xHH
abbrev pub html_ascii : ℕ → List ℕ
html_ascii b = if b == 60 then codes "&lt;"
    else if b == 62 then codes "&gt;"
    else if b == 38 then codes "&amp;"
    else if b == 34 then codes "&quot;"
    else if b == 39 then codes "&#39;"
    else if b == 9 then b ∷ []
    else if nat_lt b 32 || b == 127 then escaped_byte b
    else b ∷ []

-- a byte of UTF-8
abbrev pub html_byte : ℕ → List ℕ
html_byte b = if nat_lt b 128 then html_ascii b else b ∷ []

-- a byte of what is no UTF-8
abbrev pub raw_html_byte : ℕ → List ℕ
raw_html_byte b = if nat_lt b 128 then html_ascii b else escaped_byte b

-- none of `<`, `>`, `"` and `'`
abbrev pub is_no_mark : ℕ → Bool
is_no_mark b = not (b == 60 || b == 62 || b == 34 || b == 39)
