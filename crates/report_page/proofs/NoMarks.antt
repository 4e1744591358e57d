-- No byte is escaped to a mark of HTML.
use Rattle.std.proofs.Common.{◌≡◌, ◌≢◌, ℕ, ◌+◌, ◌-◌, ◌/◌, ◌%◌, ◌<◌, Bool, true, false, cond, ◌||◌, ◌==◌, List, [], ◌∷◌, codes, nat_lt, refl, ◌∙◌, arith}
use Rattle.std.specs.List.{flat_map, list_all}
use Rattle.std.proofs.lemmas.Bool.Decides.{nat_tests}
use Rattle.std.proofs.lemmas.List.Folds.{list_all-append}
use Rattle.report_view.specs.Letters.{escaped_byte, hex_digit}
use Rattle.report_page.specs.Escape.{html_ascii, html_byte, raw_html_byte, is_no_mark}

apart : (b k : ℕ) → b ≢ k → (b == k) ≡ false
apart b k ne = search (arith, nat_tests)

bare : (b : ℕ) → (b == 60) ≡ false → (b == 62) ≡ false → (b == 34) ≡ false → (b == 39) ≡ false → list_all is_no_mark (b ∷ []) ≡ true
bare b lt gt quote tick = rw (lt, gt, quote, tick) refl

unlike : (b : ℕ) → b ≢ 60 → b ≢ 62 → b ≢ 34 → b ≢ 39 → list_all is_no_mark (b ∷ []) ≡ true
unlike b lt gt quote tick = bare b (apart b 60 lt) (apart b 62 gt) (apart b 34 quote) (apart b 39 tick)

high : (b : ℕ) → 127 < b → list_all is_no_mark (b ∷ []) ≡ true
high b h = unlike b (omega arith) (omega arith) (omega arith) (omega arith)

digit_by : (n : ℕ) (p : Bool) → nat_lt n 10 ≡ p → list_all is_no_mark (cond p (48 + n) (97 + (n - 10)) ∷ []) ≡ true
digit_by n true e =
    let small : n < 10 = search (arith, nat_tests) in
    unlike (48 + n) (omega arith) (omega arith) (omega arith) (omega arith)
digit_by n false e = unlike (97 + (n - 10)) (omega arith) (omega arith) (omega arith) (omega arith)

digit : (n : ℕ) → list_all is_no_mark (hex_digit n ∷ []) ≡ true
digit n = digit_by n (nat_lt n 10) refl

escaped : (b : ℕ) → list_all is_no_mark (escaped_byte b) ≡ true
escaped b =
    list_all-append is_no_mark (92 ∷ 120 ∷ hex_digit (b / 16) ∷ []) (hex_digit (b % 16) ∷ []) ∙ rw (digit (b / 16), digit (b % 16)) refl

ascii_by : (b : ℕ) (lt gt and quote tick tab control : Bool) → (b == 60) ≡ lt → (b == 62) ≡ gt → (b == 34) ≡ quote → (b == 39) ≡ tick
    → list_all is_no_mark (cond lt (codes "&lt;") (cond gt (codes "&gt;") (cond and (codes "&amp;") (cond quote (codes "&quot;")
    (cond tick (codes "&#39;") (cond tab (b ∷ []) (cond control (escaped_byte b) (b ∷ [])))))))) ≡ true
ascii_by b true gt and quote tick tab control e f g h = refl
ascii_by b false true and quote tick tab control e f g h = refl
ascii_by b false false true quote tick tab control e f g h = refl
ascii_by b false false false true tick tab control e f g h = refl
ascii_by b false false false false true tab control e f g h = refl
ascii_by b false false false false false true control e f g h = bare b e f g h
ascii_by b false false false false false false true e f g h = escaped b
ascii_by b false false false false false false false e f g h = bare b e f g h

ascii : (b : ℕ) → list_all is_no_mark (html_ascii b) ≡ true
ascii b = ascii_by b (b == 60) (b == 62) (b == 38) (b == 34) (b == 39) (b == 9) (nat_lt b 32 || b == 127) refl refl refl refl

text_by : (b : ℕ) (p : Bool) → nat_lt b 128 ≡ p → list_all is_no_mark (cond p (html_ascii b) (b ∷ [])) ≡ true
text_by b true e = ascii b
text_by b false e = let large : 127 < b = search (arith, nat_tests) in high b large

raw_by : (b : ℕ) (p : Bool) → list_all is_no_mark (cond p (html_ascii b) (escaped_byte b)) ≡ true
raw_by b true = ascii b
raw_by b false = escaped b

flat : (f : ℕ → List ℕ) → ((b : ℕ) → list_all is_no_mark (f b) ≡ true) → (bytes : List ℕ) → list_all is_no_mark (flat_map f bytes) ≡ true
flat f h [] = refl
flat f h (b ∷ bytes) = list_all-append is_no_mark (f b) (flat_map f bytes) ∙ rw (h b, flat f h bytes) refl

pub text_is_plain : (bytes : List ℕ) → list_all is_no_mark (flat_map html_byte bytes) ≡ true
text_is_plain = flat html_byte (λ b. text_by b (nat_lt b 128) refl)

pub raw_is_plain : (bytes : List ℕ) → list_all is_no_mark (flat_map raw_html_byte bytes) ≡ true
raw_is_plain = flat raw_html_byte (λ b. raw_by b (nat_lt b 128))
