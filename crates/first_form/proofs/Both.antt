-- What the code reads of a text is the program that the text is by its form.
use Rattle.std.proofs.Common.{◌≡◌, ◌⊎◌, ℕ, ◌+◌, ◌<◌, ◌^◌, true, false, List, [], ◌∷◌, length, Some, None, refl, sym, ap, ◌∙◌, subst, inl, inr, arith}
use Rattle.std.specs.Prelude.{codes, decimal}
use Rattle.std.specs.Str.{all_ascii_digits}
use Rattle.std.proofs.lemmas.Bool.{and_parts}
use Rattle.std.proofs.lemmas.Fmt.{digits_decimal, decimal_nonempty}
use Rattle.c_lexer.specs.Bytes.{is_digit}
use Rattle.first_form.specs.Pieces.{Piece}
use Rattle.c_lexer.specs.computed.Settings.{◌>>=◌}
use Rattle.first_form.specs.computed.Scan.{pieces_from}
use Rattle.first_form.specs.Cuts.{AllAre, IsToken, Cuts}
use Rattle.first_form.specs.Form.{number_end, begins_word, Spelled, IsArrayAt, IsStoreAt, Each, IsFormOf, IsForm}
use Rattle.first_form.specs.computed.Reading.{program_at, reading}
use Rattle.first_form.specs.declared.program.Array.{Array}
use Rattle.first_form.specs.declared.program.Store.{Store}
use Rattle.first_form.specs.declared.program.Program.{Program}
use Rattle.first_form.proofs.Digits.{own}
use Rattle.first_form.proofs.Longest.{Kind, Word, Digits, Mark, IsOfKind, word_of}
use Rattle.first_form.proofs.Cutting.{AllOfForm, cuts_of, pieces_of}
use Rattle.first_form.proofs.Symbols.{bind_some}
use Rattle.first_form.proofs.Whole.{program_some, program_gives}

-- ---- the tokens of a file of the form are words, digits and marks

-- a text of which this is so once it is known to be a token
abbrev IsPlain : List ℕ → Type 0
IsPlain text = (begins_word text ≡ true) ⊎ ((k : Kind) × IsOfKind k text)

abbrev AllPlain : List Piece → Type 0
AllPlain [] = Unit {0}
AllPlain (p ∷ ps) = IsPlain p.text × AllPlain ps

abbrev PlainTexts : List (List ℕ) → Type 0
PlainTexts [] = Unit {0}
PlainTexts (t ∷ ts) = IsPlain t × PlainTexts ts

plain_spelled : (ts : List (List ℕ)) (ps rest : List Piece) → PlainTexts ts → Spelled ts ps rest → AllPlain rest → AllPlain ps
plain_spelled [] ps rest plain h all = subst AllPlain (sym h) all
plain_spelled (t ∷ ts) [] rest plain h all = absurd h
plain_spelled (t ∷ ts) (p ∷ ps) rest plain h all = (subst IsPlain (sym h.0) plain.0, plain_spelled ts ps rest plain.1 h.1 all)

plain_each : {A : Type 0} (One : A → List Piece → List Piece → Type 0) → ((a : A) (ps rest : List Piece) → One a ps rest → AllPlain rest → AllPlain ps)
    → (xs : List A) (ps rest : List Piece) → Each One xs ps rest → AllPlain rest → AllPlain ps
plain_each One h [] ps rest e all = subst AllPlain (sym e) all
plain_each One h (x ∷ xs) ps rest e all = h x ps e.0 e.1 (plain_each One h xs e.0 rest e.2 all)

digits_are : (text : List ℕ) → all_ascii_digits text ≡ true → AllAre is_digit text
digits_are [] e = tt
digits_are (b ∷ bs) e = let parts = and_parts (is_digit b) (all_ascii_digits bs) e in (parts.0, digits_are bs parts.1)

digits_kind : (text : List ℕ) → all_ascii_digits text ≡ true → 0 < length text → IsOfKind Digits text
digits_kind [] e some = absurd (omega arith)
digits_kind (b ∷ bs) e some = digits_are (b ∷ bs) e

plain_number : (n : ℕ) → n < number_end → IsPlain (decimal n)
plain_number n small =
    let wide : n < 2 ^ 64 = omega arith in
    inr (Digits, digits_kind (decimal n) (digits_decimal own n wide) (decimal_nonempty n wide))

plain_mark : (b : ℕ) → IsOfKind Mark (b ∷ []) → IsPlain (b ∷ [])
plain_mark b h = inr (Mark, h)

plain_array : (a : Array) (ps rest : List Piece) → IsArrayAt a ps rest → AllPlain rest → AllPlain ps
plain_array a ps rest h all =
    plain_spelled (codes "int" ∷ a.name ∷ codes "[" ∷ decimal a.size ∷ codes "]" ∷ codes ";" ∷ []) ps rest
    (inl refl, (inl h.named.word, (plain_mark 91 (refl, refl), (plain_number a.size (omega (arith, h.fits)), (plain_mark 93 (refl, refl), (plain_mark 59 (refl, refl), tt)))))) h.spelled all

plain_store : (arrays : List Array) (s : Store) (ps rest : List Piece) → IsStoreAt arrays s ps rest → AllPlain rest → AllPlain ps
plain_store arrays s ps rest h all =
    plain_spelled (h.name ∷ codes "[" ∷ decimal s.subscript ∷ codes "]" ∷ codes "=" ∷ decimal s.value ∷ codes ";" ∷ []) ps rest
    (inl h.named.word, (plain_mark 91 (refl, refl), (plain_number s.subscript h.short_subscript, (plain_mark 93 (refl, refl), (plain_mark 61 (refl, refl), (plain_number s.value h.short_value, (plain_mark 59 (refl, refl), tt))))))) h.spelled all

plain_file : (ps : List Piece) (p : Program) → IsFormOf ps p → AllPlain ps
plain_file ps p h =
    let tail = plain_spelled (codes "return" ∷ decimal p.returned ∷ codes ";" ∷ codes "}" ∷ []) h.end [] (inl refl, (plain_number p.returned h.short, (plain_mark 59 (refl, refl), (plain_mark 125 (refl, refl), tt)))) h.tail tt in
    let stores = plain_each (IsStoreAt p.arrays) (plain_store p.arrays) p.stores h.body h.end h.stores tail in
    let head = plain_spelled (codes "int" ∷ codes "main" ∷ codes "(" ∷ codes "void" ∷ codes ")" ∷ codes "{" ∷ []) h.main h.body (inl refl, (inl refl, (plain_mark 40 (refl, refl), (inl refl, (plain_mark 41 (refl, refl), (plain_mark 123 (refl, refl), tt)))))) h.head stores in
    plain_each IsArrayAt plain_array p.arrays ps h.main h.arrays head

plain_kind : (text : List ℕ) → IsPlain text → IsToken text → (k : Kind) × IsOfKind k text
plain_kind [] (inl word) t = absurd (let bad : false ≡ true = word in cc)
plain_kind (b ∷ bs) (inl word) t = (Word, word_of b bs word t)
plain_kind text (inr kind) t = kind

of_form : (ps : List Piece) (line col : ℕ) (bytes : List ℕ) → AllPlain ps → Cuts line col bytes ps → AllOfForm ps
of_form [] line col bytes all h = tt
of_form (p ∷ ps) line col bytes all h = (plain_kind p.text all.0 h.cut.token, of_form ps p.line (p.col + length p.text) h.rest all.1 h.behind)

-- ---- both ways

pub form_of : (bytes : List ℕ) (p : Program) → reading bytes ≡ Some p → IsForm bytes p
form_of bytes p e =
    let b = bind_some (pieces_from 0 1 1 bytes) program_at p e in
    record { tokens = b.0; cuts = cuts_of (length bytes) 1 1 bytes b.0 (omega arith) b.1; form = program_some b.0 p b.2 }

pub reading_of : (bytes : List ℕ) (p : Program) → IsForm bytes p → reading bytes ≡ Some p
reading_of bytes p f =
    let all = of_form f.tokens 1 1 bytes (plain_file f.tokens p f.form) f.cuts in
    ap (λ x. x >>= program_at) (pieces_of f.tokens 1 1 bytes all f.cuts) ∙ program_gives f.tokens p f.form

same_program : (x y : Program) → Some x ≡ Some y → x ≡ y
same_program x y e = cc

pub one_program : (bytes : List ℕ) (x y : Program) → IsForm bytes x → IsForm bytes y → x ≡ y
one_program bytes x y f g = same_program x y (sym (reading_of bytes x f) ∙ reading_of bytes y g)

pub no_program : (bytes : List ℕ) → reading bytes ≡ None → (p : Program) → IsForm bytes p → ⊥
no_program bytes e p f = let is : reading bytes ≡ Some p = reading_of bytes p f in cc
