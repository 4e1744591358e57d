-- Steps of the lexer over the bytes that are left.
use Rattle.std.proofs.Common.{◌≡◌, ◌≢◌, ℕ, zero, suc, ◌+◌, ◌-◌, ◌<◌, ◌≤◌, false, eqb, List, [], ◌∷◌, ◌++◌, length, get_or, take, drop, Option, Some, None, refl, sym, ap, ◌∙◌, arith, append_assoc, add-zero, length-drop}
use Rattle.std.specs.Option.{option_map}
use Rattle.std.proofs.lemmas.List.{drop_more, drop-drop, drop_all, append-nil}
use Rattle.first_form.specs.Pieces.{Piece}
use Rattle.c_lexer.specs.computed.Settings.{◌>>=◌}
use Rattle.first_form.specs.computed.Scan.{piece_len, put_first, pieces_from}

-- what was cut before, and what is still cut
abbrev pub with_front : List Piece → Option (List Piece) → Option (List Piece)
with_front front read = option_map (λ ps. front ++ ps) read

pub skip : (k line col : ℕ) (bs : List ℕ) → k ≤ length bs → pieces_from k line col bs ≡ pieces_from 0 line (col + k) (drop k bs)
unfolding pieces_from
skip zero line col bs le = rw add-zero refl
skip (suc k) line col [] le = absurd (omega arith)
skip (suc k) line col (b ∷ bs) le =
    let e : (col + 1) + k ≡ col + suc k = omega arith in
    skip k line (col + 1) bs (omega arith) ∙ ap (λ c. pieces_from 0 line c (drop k bs)) e

eqb_no : (a b : ℕ) → a ≢ b → eqb a b ≡ false
eqb_no a b h = grind arith

pub newline_step : (line col : ℕ) (bytes : List ℕ) (at : ℕ) → at < length bytes → get_or bytes at 0 ≡ 10 → pieces_from 0 line col (drop at bytes) ≡ pieces_from 0 (line + 1) 1 (drop (at + 1) bytes)
unfolding pieces_from
newline_step line col bytes at lt e = rw (drop_more bytes at 0 lt, e) refl

pub space_step : (line col : ℕ) (bytes : List ℕ) (at : ℕ) → at < length bytes → get_or bytes at 0 ≡ 32 → pieces_from 0 line col (drop at bytes) ≡ pieces_from 0 line (col + 1) (drop (at + 1) bytes)
unfolding pieces_from
space_step line col bytes at lt e = rw (drop_more bytes at 0 lt, e) refl

at_piece : (line col b : ℕ) (bs : List ℕ) → b ≢ 10 → b ≢ 32 → pieces_from 0 line col (b ∷ bs) ≡ (piece_len (b ∷ bs) >>= λ len. put_first (record { text = take len (b ∷ bs); line = line; col = col }) (pieces_from (len - 1) line (col + 1) bs))
unfolding pieces_from
at_piece line col b bs n s = rw (eqb_no b 10 n, eqb_no b 32 s) refl

pub none_step : (line col : ℕ) (bytes : List ℕ) (at : ℕ) → at < length bytes → get_or bytes at 0 ≢ 10 → get_or bytes at 0 ≢ 32 → piece_len (drop at bytes) ≡ None → pieces_from 0 line col (drop at bytes) ≡ None
none_step line col bytes at lt n s e =
    let d = drop_more bytes at 0 lt in
    let e' : piece_len (get_or bytes at 0 ∷ drop (at + 1) bytes) ≡ None = ap piece_len (sym d) ∙ e in
    ap (pieces_from 0 line col) d ∙ at_piece line col _ _ n s ∙ rw e' refl

pub piece_step : (line col : ℕ) (bytes : List ℕ) (at len : ℕ) → at < length bytes → get_or bytes at 0 ≢ 10 → get_or bytes at 0 ≢ 32 → piece_len (drop at bytes) ≡ Some len → 0 < len → at + len ≤ length bytes
    → pieces_from 0 line col (drop at bytes) ≡ put_first (record { text = take len (drop at bytes); line = line; col = col }) (pieces_from 0 line (col + len) (drop (at + len) bytes))
piece_step line col bytes at zero lt n s e pos le = absurd (omega arith)
piece_step line col bytes at (suc k) lt n s e pos le =
    let b = get_or bytes at 0 in
    let bs = drop (at + 1) bytes in
    let d : drop at bytes ≡ b ∷ bs = drop_more bytes at 0 lt in
    let e' : piece_len (b ∷ bs) ≡ Some (suc k) = ap piece_len (sym d) ∙ e in
    let fits : k ≤ length bs = simp length-drop (omega arith) in
    let rest : drop k bs ≡ drop (at + suc k) bytes = drop-drop k (at + 1) bytes ∙ ap (λ i. drop i bytes) (let g : (at + 1) + k ≡ at + suc k = omega arith in g) in
    let col-is : (col + 1) + k ≡ col + suc k = omega arith in
    let skipped : pieces_from k line (col + 1) bs ≡ pieces_from 0 line (col + suc k) (drop (at + suc k) bytes) = skip k line (col + 1) bs fits ∙ ap (λ c. pieces_from 0 line c (drop k bs)) col-is ∙ ap (pieces_from 0 line (col + suc k)) rest in
    let one : suc k - 1 ≡ k = omega arith in
    let text : take (suc k) (b ∷ bs) ≡ take (suc k) (drop at bytes) = ap (take (suc k)) (sym d) in
    ap (pieces_from 0 line col) d ∙ at_piece line col b bs n s ∙ rw (e', one) (ap (λ (t : List ℕ). put_first (record { text = t; line = line; col = col }) (pieces_from k line (col + 1) bs)) text ∙ ap (put_first (record { text = take (suc k) (drop at bytes); line = line; col = col })) skipped)

pub with_more : (front : List Piece) (p : Piece) (read : Option (List Piece)) → with_front front (put_first p read) ≡ with_front (front ++ p ∷ []) read
with_more front p None = refl
with_more front p (Some ps) = ap (λ (qs : List Piece). Some qs) (simp append_assoc)

pub ends : (front : List Piece) (line col : ℕ) (bytes : List ℕ) (at : ℕ) (total : Option (List Piece)) → length bytes ≤ at → with_front front (pieces_from 0 line col (drop at bytes)) ≡ total → total ≡ Some front
unfolding pieces_from
ends front line col bytes at total le so_far =
    let d : drop at bytes ≡ [] = drop_all at bytes le in
    let e : with_front front (pieces_from 0 line col (drop at bytes)) ≡ Some front = rw d (ap (λ (qs : List Piece). Some qs) (append-nil front)) in
    sym so_far ∙ e
