-- A text has at most one list of tokens.
use Rattle.std.proofs.Common.{◌≡◌, ◌≢◌, ◌⊎◌, ℕ, ◌+◌, ◌≤◌, List, [], ◌∷◌, ◌++◌, length, take, drop, refl, sym, ap, ◌∙◌, subst, inl, inr, arith, length-append}
use Rattle.std.proofs.lemmas.List.{take_at, drop_at}
use Rattle.first_form.specs.Pieces.{Piece}
use Rattle.first_form.specs.Cuts.{IsToken, IsLongest, AllBlank, line_after, col_after, Cuts}
use Rattle.first_form.proofs.Longest.{begins_dark, not_empty}

-- a text that begins with a byte that is no blank
abbrev BeginsDark : List ℕ → Type 0
BeginsDark [] = ⊥
BeginsDark (b ∷ bs) = (b ≢ 10) × (b ≢ 32)

dark_token : (text rest : List ℕ) → IsToken text → BeginsDark (text ++ rest)
dark_token [] rest t = absurd (not_empty t)
dark_token (b ∷ bs) rest t = begins_dark b bs t

not_blank : (b : ℕ) → (b ≡ 10) ⊎ (b ≡ 32) → (b ≢ 10) × (b ≢ 32) → ⊥
not_blank b (inl e) dark = dark.0 e
not_blank b (inr e) dark = dark.1 e

-- blanks before a dark byte, and what stands behind them, are one way to take a text apart
same_white : (white other x y : List ℕ) → AllBlank white → AllBlank other → BeginsDark x → BeginsDark y → white ++ x ≡ other ++ y → (white ≡ other) × (x ≡ y)
same_white [] [] x y all every dark_x dark_y e = (refl, e)
same_white [] (c ∷ other) [] y all every dark_x dark_y e = absurd dark_x
same_white [] (c ∷ other) (b ∷ x) y all every dark_x dark_y e = absurd (let same : b ≡ c = cc in not_blank c every.0 (subst (λ (d : ℕ). (d ≢ 10) × (d ≢ 32)) same dark_x))
same_white (b ∷ white) [] x [] all every dark_x dark_y e = absurd dark_y
same_white (b ∷ white) [] x (c ∷ y) all every dark_x dark_y e = absurd (let same : c ≡ b = cc in not_blank b all.0 (subst (λ (d : ℕ). (d ≢ 10) × (d ≢ 32)) same dark_y))
same_white (b ∷ white) (c ∷ other) x y all every dark_x dark_y e =
    let first : b ≡ c = cc in
    let rest : white ++ x ≡ other ++ y = cc in
    let tail = same_white white other x y all.1 every.1 dark_x dark_y rest in
    (ap (λ (d : ℕ). d ∷ white) first ∙ ap (λ (w : List ℕ). c ∷ w) tail.0, tail.1)

no_blank_token : (white x : List ℕ) → AllBlank (white ++ x) → BeginsDark x → ⊥
no_blank_token [] [] all dark = dark
no_blank_token [] (b ∷ x) all dark = not_blank b all.0 dark
no_blank_token (b ∷ white) x all dark = no_blank_token white x all.1 dark

-- the longest token is as long as any other
no_shorter : (text rest other more : List ℕ) → IsLongest text rest → IsToken other → text ++ rest ≡ other ++ more → length other ≤ length text
no_shorter text rest other more l t e =
    let front : take (length other) (text ++ rest) ≡ other = ap (take (length other)) e ∙ take_at other more (length other) refl in
    l.longest (length other) (omega (arith, ap length e, length-append other more)) (subst IsToken (sym front) t)

same_text : (text rest other more : List ℕ) → length text ≡ length other → text ++ rest ≡ other ++ more → (text ≡ other) × (rest ≡ more)
same_text text rest other more len e = (
  sym (take_at text rest (length text) refl) ∙ ap (take (length text)) e ∙ take_at other more (length text) (sym len),
  sym (drop_at text rest (length text) refl) ∙ ap (drop (length text)) e ∙ drop_at other more (length text) (sym len),
)

between : (m n : ℕ) → m ≤ n → n ≤ m → m ≡ n
between m n h k = omega arith

same_piece : (p q : Piece) → p.text ≡ q.text → p.line ≡ q.line → p.col ≡ q.col → p ≡ q
same_piece p q t l c = λ k. record { text = t k; line = l k; col = c k }

pub unique : (some others : List Piece) (line col : ℕ) (bytes : List ℕ) → Cuts line col bytes some → Cuts line col bytes others → some ≡ others
unique [] [] line col bytes h k = refl
unique [] (q ∷ others) line col bytes h k = absurd (no_blank_token k.white (q.text ++ k.rest) (subst AllBlank k.parts h) (dark_token q.text k.rest k.cut.token))
unique (p ∷ some) [] line col bytes h k = absurd (no_blank_token h.white (p.text ++ h.rest) (subst AllBlank h.parts k) (dark_token p.text h.rest h.cut.token))
unique (p ∷ some) (q ∷ others) line col bytes h k =
    let white = same_white h.white k.white (p.text ++ h.rest) (q.text ++ k.rest) h.blank k.blank (dark_token p.text h.rest h.cut.token) (dark_token q.text k.rest k.cut.token) (sym h.parts ∙ k.parts) in
    let len : length p.text ≡ length q.text = between (length p.text) (length q.text) (no_shorter q.text k.rest p.text h.rest k.cut h.cut.token (sym white.1)) (no_shorter p.text h.rest q.text k.rest h.cut k.cut.token white.1) in
    let text = same_text p.text h.rest q.text k.rest len white.1 in
    let line_is : p.line ≡ q.line = h.line_is ∙ ap (line_after line) white.0 ∙ sym k.line_is in
    let col_is : p.col ≡ q.col = h.col_is ∙ ap (col_after col) white.0 ∙ sym k.col_is in
    let first : p ≡ q = same_piece p q text.0 line_is col_is in
    let behind : Cuts q.line (q.col + length q.text) k.rest some =
    subst (λ (r : List ℕ). Cuts q.line (q.col + length q.text) r some) text.1 (subst (λ (x : Piece). Cuts x.line (x.col + length x.text) h.rest some) first h.behind) in
    ap (λ (x : Piece). x ∷ some) first ∙ ap (λ (ps : List Piece). q ∷ ps) (unique some others q.line (q.col + length q.text) k.rest behind k.behind)
