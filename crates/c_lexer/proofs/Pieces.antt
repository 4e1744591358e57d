-- One piece of the text, as the lexer finds it, is a piece or a fault of the definition.
use Rattle.std.proofs.Common.{◌≡◌, ◌⊎◌, ℕ, zero, suc, ◌+◌, ◌<◌, ◌≤◌, Bool, true, false, not, ◌&&◌, ◌||◌, eqb, nat_lt, cond, [], ◌∷◌, ◌++◌, length, take, drop, Option, Some, None, refl, sym, ap, ◌∙◌, subst, inl, inr, arith}
use Rattle.std.specs.Prelude.{Ok, Err}
use Rattle.std.specs.List.{prefix_len}
use Rattle.std.proofs.lemmas.List.{length-take-le}
use Rattle.std.proofs.lemmas.Bool.{cases_Bool, or_cases, or_parts, and_parts, and_from, eqb-true, eq-eqb, ltb-true, ltb-false, false≢true}
use Rattle.sv_base.specs.Names.{has_name, with_name, number_in}
use Rattle.sv_base.specs.declared.fault.FaultKind.{FaultKind}
use Rattle.sv_base.specs.declared.fault.FaultKind.TheVariants as faults
use Rattle.c_syntax.specs.declared.token.TokenKind.{TokenKind}
use Rattle.c_lexer.specs.Bytes.{Text, in_line, is_blank, is_newline}
use Rattle.c_lexer.specs.White.{ClosesFirst, IsLine}
use Rattle.c_lexer.specs.Meaning.{Meaning, Means}
use Rattle.c_lexer.specs.Directives.{Directive}
use Rattle.c_lexer.specs.Spots.{past, past_token, past_directive, token_at}
use Rattle.c_lexer.specs.Cuts.{Names, Turn, found, file_of, behind_newline, BeginsNoToken, most_names, most_bytes, IsFull, Piece, Fault}
use Rattle.c_lexer.specs.computed.Lengths.{shape_at}
use Rattle.c_lexer.specs.computed.Values.{meaning}
use Rattle.c_lexer.specs.computed.Settings.{begins_byte, close_len, opens_block, opens_line, setting_of}
use Rattle.c_lexer.specs.computed.Scan.{step, with_names, Turned, named, commented, block_comment, line_comment, meant, shaped, token, plain, is_full, set, directive, begins_directive, turn}
use Rattle.c_lexer.specs.declared.shape.Shape.{Shape}
use Rattle.c_lexer.specs.declared.directive.Setting.{Setting}
use Rattle.c_lexer.specs.declared.directive.Setting.TheVariants as settings
use Rattle.c_lexer.specs.declared.spot.Spot.{Spot}
use Rattle.c_lexer.proofs.Comments.{close_is, closes_first, never_closes, close_len_is, close_drop, close_take, line_is, line_take, line_drop}
use Rattle.c_lexer.proofs.Longest.{found as found_shape, longest_of, none_of}
use Rattle.c_lexer.proofs.Meanings.{means}
use Rattle.c_lexer.proofs.SettingsAre.{setting_is, none_set}

-- what is found is defined
pub data Right (names : Names) (s : Spot) (text : Text) : Turned → Type 0 where
  piece : {t : Turn} → Piece names s text t → Right names s text (Ok t)
  fault : {k : FaultKind} → Fault names s text k → Right names s text (Err k)

-- ---- directives
directive_line : (line bs rest : Text) → IsLine line bs rest → IsLine (35 ∷ line) (35 ∷ bs) rest
directive_line line bs rest h = record { cut = ap (λ (t : Text). 35 ∷ t) h.cut; inside = (refl, h.inside); ends = h.ends }

directive_by : (names : Names) (s : Spot) (text front back behind : Text) (o : Option Setting) → take (prefix_len in_line text) text ≡ front → drop (prefix_len in_line text) text ≡ back
    → drop 1 front ≡ behind → setting_of behind ≡ o → directive names s text ≡ set names s front back o
unfolding directive
directive_by names s text front back behind o f b d e = rw (f, b, d, e) refl

pub directive_at : (names : Names) (s : Spot) (line bs rest : Text) (o : Option Setting) → IsLine line bs rest → setting_of line ≡ o → directive names s (35 ∷ bs) ≡ set names s (35 ∷ line) rest o
directive_at names s line bs rest o h e =
    let whole = directive_line line bs rest h in
    directive_by names s (35 ∷ bs) (35 ∷ line) rest line o (line_take (35 ∷ line) (35 ∷ bs) rest whole) (line_drop (35 ∷ line) (35 ∷ bs) rest whole) refl e

full_is : (names : Names) (name : Text) → is_full names name ≡ true → IsFull names name
full_is names name e = let p = and_parts (not (has_name names name)) (eqb (length names) most_names) e in (not_true (has_name names name) p.0, eqb-true _ _ p.1)
  where
    not_true : (t : Bool) → not t ≡ true → t ≡ false
    not_true false e = refl
    not_true true e = absurd (false≢true e)

pub full_of : (names : Names) (name : Text) → IsFull names name → is_full names name ≡ true
full_of names name h = let len : eqb (length names) most_names ≡ true = eq-eqb _ _ h.1 in rw (h.0, len) refl

pub not_full : (names : Names) (name : Text) → (IsFull names name → ⊥) → is_full names name ≡ false
not_full names name never = elim (cases_Bool (is_full names name)) [ inl e ↦ absurd (never (full_is names name e)) | inr e ↦ e ]

full_right : (names : Names) (s : Spot) (line bs rest name : Text) (number : ℕ) (t : Bool) → s.is_first ≡ true → IsLine line bs rest → Directive line (settings.Named number name) → is_full names name ≡ t
    → Right names s (35 ∷ bs) (cond t (Err (faults.Limit 13)) (Ok (with_names (with_name names name) (step (past_directive s (file_of (number_in names name)) number (35 ∷ line) rest) None (behind_newline rest)))))
full_right names s line bs rest name number true first h d e = Right.fault (Fault.full first h d (full_is names name e))
full_right names s line bs rest name number false first h d e = Right.piece (Piece.renamed first h d (λ f. false≢true (sym e ∙ full_of names name f)))

set_right : (names : Names) (s : Spot) (line bs rest : Text) (o : Option Setting) → s.is_first ≡ true → IsLine line bs rest → setting_of line ≡ o → Right names s (35 ∷ bs) (set names s (35 ∷ line) rest o)
set_right names s line bs rest None first h e = Right.fault (Fault.no_directive first h (none_set line e))
set_right names s line bs rest (Some settings.Pass) first h e = Right.piece (Piece.passed_over first h (setting_is line settings.Pass e))
set_right names s line bs rest (Some (settings.Line number)) first h e = Right.piece (Piece.numbered first h (setting_is line (settings.Line number) e))
set_right names s line bs rest (Some (settings.Named number name)) first h e =
    full_right names s line bs rest name number (is_full names name) first h (setting_is line (settings.Named number name) e) refl

directive_right : (names : Names) (s : Spot) (bs : Text) → s.is_first ≡ true → Right names s (35 ∷ bs) (directive names s (35 ∷ bs))
directive_right names s bs first =
    let n = prefix_len in_line bs in
    rw (directive_at names s (take n bs) bs (drop n bs) (setting_of (take n bs)) (line_is bs) refl)
    (set_right names s (take n bs) bs (drop n bs) (setting_of (take n bs)) first (line_is bs) refl)

-- ---- comments
pub block_none : (s : Spot) (inside : Text) → close_len inside ≡ None → block_comment s (47 ∷ 42 ∷ inside) ≡ Err faults.Lex
unfolding block_comment
block_none s inside e = ap (commented s (47 ∷ 42 ∷ inside)) e

pub block_some : (s : Spot) (inside body rest : Text) → ClosesFirst body inside rest → block_comment s (47 ∷ 42 ∷ inside) ≡ Ok (step (past s (47 ∷ 42 ∷ (body ++ 42 ∷ 47 ∷ []))) None rest)
unfolding block_comment
block_some s inside body rest h =
    let n = close_len_is body inside rest h in
    let len : length body + 2 + 2 ≡ suc (suc (length body + 2)) = omega arith in
    let front : take (length body + 2) inside ≡ body ++ 42 ∷ 47 ∷ [] = ap (take (length body + 2)) h.cut ∙ close_take body rest in
    let back : drop (length body + 2) inside ≡ rest = ap (drop (length body + 2)) h.cut ∙ close_drop body rest in
    ap (commented s (47 ∷ 42 ∷ inside)) n ∙ rw (len, front, back) refl

block_right : (names : Names) (s : Spot) (inside : Text) (o : Option ℕ) → close_len inside ≡ o → Right names s (47 ∷ 42 ∷ inside) (named names (block_comment s (47 ∷ 42 ∷ inside)))
block_right names s inside None e = rw (block_none s inside e) (Right.fault (Fault.open_comment (never_closes inside e)))
block_right names s inside (Some n) e =
    let c = close_is inside n e in
    let first = closes_first inside n e in
    rw (block_some s inside c.body c.rest first) (Right.piece (Piece.block_comment first))

pub line_some : (s : Spot) (text line rest : Text) → IsLine line text rest → line_comment s text ≡ step (past s line) None rest
unfolding line_comment
line_some s text line rest h = rw (line_take line text rest h, line_drop line text rest h) refl

line_right : (names : Names) (s : Spot) (text : Text) → Right names s (47 ∷ 47 ∷ text) (Ok (with_names names (line_comment s (47 ∷ 47 ∷ text))))
line_right names s text =
    let h = line_is (47 ∷ 47 ∷ text) in
    rw (line_some s (47 ∷ 47 ∷ text) _ _ h) (Right.piece (Piece.line_comment h))

-- ---- tokens
pub token_by : (s : Spot) (text word rest : Text) (shape : Shape) (n : ℕ) (m : Meaning) → shape_at text ≡ Some (shape, n) → take n text ≡ word → meaning s.is_wide shape word ≡ m → token s text ≡ meant s text n m
unfolding token
token_by s text word rest shape n m e f g = ap (shaped s text) e ∙ rw (f, g) refl

pub token_none : (s : Spot) (text : Text) → shape_at text ≡ None → token s text ≡ Err faults.Lex
unfolding token
token_none s text e = ap (shaped s text) e

module _ (names : Names) (s : Spot) (text : Text) (apart : BeginsNoToken s text → ⊥) (shape : Shape) (n : ℕ) (at : shape_at text ≡ Some (shape, n)) where
  word_len : length (take n text) ≡ n
  word_len = length-take-le n text (found_shape text shape n at).within

  short_right : (kind : TokenKind) (t : Bool) → Means s.is_wide shape (take n text) (Ok kind) → 0 < s.room → nat_lt most_bytes n ≡ t
      → Right names s text (named names (cond t (Err (faults.Limit 12)) (Ok (step (past_token s (take n text)) (Some (token_at s kind n)) (drop n text)))))
  short_right kind true m some e =
      let long = ltb-true _ _ e in
      Right.fault (Fault.too_long apart (longest_of text shape n at) m some (subst (λ (k : ℕ). most_bytes < k) (sym word_len) long))
  short_right kind false m some e =
      let short : n ≤ most_bytes = ltb-false _ _ e in
      subst (λ (k : ℕ). Right names s text (Ok (found names (past_token s (take n text)) (token_at s kind k) (drop n text)))) word_len
      (Right.piece (Piece.token apart (longest_of text shape n at) m some (subst (λ (k : ℕ). k ≤ most_bytes) (sym word_len) short)))

  room_right : (kind : TokenKind) (t : Bool) → Means s.is_wide shape (take n text) (Ok kind) → eqb s.room 0 ≡ t
      → Right names s text (named names (cond t (Err (faults.Limit 3)) (cond (nat_lt most_bytes n) (Err (faults.Limit 12)) (Ok (step (past_token s (take n text)) (Some (token_at s kind n)) (drop n text))))))
  room_right kind true m e = Right.fault (Fault.no_room apart (longest_of text shape n at) m (eqb-true _ _ e))
  room_right kind false m e = short_right kind (nat_lt most_bytes n) m (some_room s.room e) refl
    where
      some_room : (k : ℕ) → eqb k 0 ≡ false → 0 < k
      some_room zero e = absurd (false≢true (sym e))
      some_room (suc k) e = omega arith

  meant_right : (m : Meaning) → Means s.is_wide shape (take n text) m → Right names s text (named names (meant s text n m))
  meant_right (Err k) m = Right.fault (Fault.no_meaning apart (longest_of text shape n at) m)
  meant_right (Ok kind) m = room_right kind (eqb s.room 0) m refl

  shape_right : Right names s text (named names (token s text))
  shape_right =
      let word = take n text in
      rw (token_by s text word (drop n text) shape n (meaning s.is_wide shape word) at refl refl) (meant_right (meaning s.is_wide shape word) (means s.is_wide shape word (found_shape text shape n at).can))

token_right : (names : Names) (s : Spot) (b : ℕ) (bs : Text) (o : Option (Shape × ℕ)) → (BeginsNoToken s (b ∷ bs) → ⊥) → shape_at (b ∷ bs) ≡ o → Right names s (b ∷ bs) (named names (token s (b ∷ bs)))
token_right names s b bs None apart e = rw (token_none s (b ∷ bs) e) (Right.fault (Fault.no_token apart (none_of (b ∷ bs) e)))
token_right names s b bs (Some p) apart e = shape_right names s (b ∷ bs) apart p.0 p.1 e

-- ---- what begins here
apart_of : (s : Spot) (b : ℕ) (bs : Text) → (is_newline b || is_blank b) ≡ false → opens_block (b ∷ bs) ≡ false → opens_line (b ∷ bs) ≡ false → begins_directive s (b ∷ bs) ≡ false
    → BeginsNoToken s (b ∷ bs) → ⊥
apart_of s b [] w o l d h = elim h [
  | inl white ↦ no_white b w white
  | inr p ↦ false≢true (sym d ∙ and_from _ _ p.0 (eq-eqb b 35 p.1))
]
  where
    no_white : (b : ℕ) → (is_newline b || is_blank b) ≡ false → (is_newline b ≡ true) ⊎ (is_blank b ≡ true) → ⊥
    no_white b w white = let p = or_parts _ _ w in elim white [ inl e ↦ false≢true (sym p.0 ∙ e) | inr e ↦ false≢true (sym p.1 ∙ e) ]
apart_of s b (c ∷ bs) w o l d h = elim h [
  | inl first ↦ elim first [
    | inl white ↦ no_white b w white
    | inr p ↦ elim p.1 [
      | inl e ↦ false≢true (sym o ∙ and_from _ _ (eq-eqb b 47 p.0) (eq-eqb 42 c (sym e)))
      | inr e ↦ false≢true (sym l ∙ and_from _ _ (eq-eqb b 47 p.0) (eq-eqb 47 c (sym e)))
    ]
  ]
  | inr p ↦ false≢true (sym d ∙ and_from _ _ p.0 (eq-eqb b 35 p.1))
]
  where
    no_white : (b : ℕ) → (is_newline b || is_blank b) ≡ false → (is_newline b ≡ true) ⊎ (is_blank b ≡ true) → ⊥
    no_white b w white = let p = or_parts _ _ w in elim white [ inl e ↦ false≢true (sym p.0 ∙ e) | inr e ↦ false≢true (sym p.1 ∙ e) ]

-- what opens a comment begins with its two bytes
opened_by : (a b : ℕ) (bs : Text) → (eqb b 47 && begins_byte a bs) ≡ true → (rest : Text) × (b ∷ bs ≡ 47 ∷ a ∷ rest)
opened_by a b [] e = absurd (false≢true ((and_parts (eqb b 47) false e).1))
opened_by a b (c ∷ bs) e =
    let p = and_parts (eqb b 47) (eqb a c) e in
    let first = eqb-true b 47 p.0 in
    let second = eqb-true a c p.1 in
    (bs, ap (λ (x : ℕ). x ∷ c ∷ bs) first ∙ ap (λ (x : ℕ). 47 ∷ x ∷ bs) (sym second))

-- ---- what is no directive
pub white_plain : (s : Spot) (b : ℕ) (bs : Text) → (is_newline b || is_blank b) ≡ true → plain s (b ∷ bs) ≡ Ok (step (past s (b ∷ [])) None bs)
unfolding plain
white_plain s b bs w = rw w refl

pub block_plain : (s : Spot) (b : ℕ) (bs : Text) → (is_newline b || is_blank b) ≡ false → opens_block (b ∷ bs) ≡ true → plain s (b ∷ bs) ≡ block_comment s (b ∷ bs)
unfolding plain
block_plain s b bs w o = rw (w, o) refl

pub line_plain : (s : Spot) (b : ℕ) (bs : Text) → (is_newline b || is_blank b) ≡ false → opens_block (b ∷ bs) ≡ false → opens_line (b ∷ bs) ≡ true → plain s (b ∷ bs) ≡ Ok (line_comment s (b ∷ bs))
unfolding plain
line_plain s b bs w o l = rw (w, o, l) refl

pub token_plain : (s : Spot) (b : ℕ) (bs : Text) → (is_newline b || is_blank b) ≡ false → opens_block (b ∷ bs) ≡ false → opens_line (b ∷ bs) ≡ false → plain s (b ∷ bs) ≡ token s (b ∷ bs)
unfolding plain
token_plain s b bs w o l = rw (w, o, l) refl

plain_right : (names : Names) (s : Spot) (b : ℕ) (bs : Text) (t u v : Bool) → begins_directive s (b ∷ bs) ≡ false → (is_newline b || is_blank b) ≡ t → opens_block (b ∷ bs) ≡ u → opens_line (b ∷ bs) ≡ v
    → Right names s (b ∷ bs) (named names (plain s (b ∷ bs)))
plain_right names s b bs true u v d w o l = rw (white_plain s b bs w) (Right.piece (Piece.white (or_cases _ _ w)))
plain_right names s b bs false true v d w o l =
    let p = opened_by 42 b bs o in
    rw (block_plain s b bs w o) (subst (λ (t : Text). Right names s t (named names (block_comment s t))) (sym p.1) (block_right names s p.0 (close_len p.0) refl))
plain_right names s b bs false false true d w o l =
    let p = opened_by 47 b bs l in
    rw (line_plain s b bs w o l) (subst (λ (t : Text). Right names s t (Ok (with_names names (line_comment s t)))) (sym p.1) (line_right names s p.0))
plain_right names s b bs false false false d w o l = rw (token_plain s b bs w o l) (token_right names s b bs (shape_at (b ∷ bs)) (apart_of s b bs w o l d) refl)

pub turn_directive : (names : Names) (s : Spot) (text : Text) → begins_directive s text ≡ true → turn names s text ≡ directive names s text
unfolding turn
turn_directive names s text d = rw d refl

pub turn_plain : (names : Names) (s : Spot) (text : Text) → begins_directive s text ≡ false → turn names s text ≡ named names (plain s text)
unfolding turn
turn_plain names s text d = rw d refl

turn_right_by : (names : Names) (s : Spot) (b : ℕ) (bs : Text) (t : Bool) → begins_directive s (b ∷ bs) ≡ t → Right names s (b ∷ bs) (turn names s (b ∷ bs))
turn_right_by names s b bs true d =
    let p = and_parts s.is_first (eqb b 35) d in
    rw (turn_directive names s (b ∷ bs) d) (subst (λ (x : ℕ). Right names s (x ∷ bs) (directive names s (x ∷ bs))) (sym (eqb-true b 35 p.1)) (directive_right names s bs p.0))
turn_right_by names s b bs false d = rw (turn_plain names s (b ∷ bs) d) (plain_right names s b bs (is_newline b || is_blank b) (opens_block (b ∷ bs)) (opens_line (b ∷ bs)) d refl refl refl)

pub turn_right : (names : Names) (s : Spot) (b : ℕ) (bs : Text) → Right names s (b ∷ bs) (turn names s (b ∷ bs))
turn_right names s b bs = turn_right_by names s b bs (begins_directive s (b ∷ bs)) refl
