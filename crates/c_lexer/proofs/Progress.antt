-- A piece takes a byte at least, keeps the names that stand, and leaves room for the numbers of the places behind it.
use Rattle.std.proofs.Common.{◌≡◌, ℕ, suc, ◌+◌, ◌<◌, ◌≤◌, true, false, [], ◌∷◌, ◌++◌, length, None, refl, sym, ap, ◌∙◌, subst, arith, length-append, append-nil}
use Rattle.std.proofs.lemmas.Bool.{cond_both}
use Rattle.sv_base.specs.Names.{has_name, with_name}
use Rattle.sv_base.specs.declared.ids.FileId.{FileId}
use Rattle.sv_base.specs.declared.fault.FaultKind.{FaultKind}
use Rattle.c_lexer.specs.Bytes.{Text, is_newline}
use Rattle.c_lexer.specs.White.{IsLine}
use Rattle.c_lexer.specs.Shapes.{IsLongest}
use Rattle.c_lexer.specs.Directives.{Directive}
use Rattle.c_lexer.specs.Spots.{IsWithin, past_byte, past, past_token, past_directive}
use Rattle.c_lexer.specs.Cuts.{Names, Turn, behind_newline, Piece, Fault}
use Rattle.c_lexer.specs.computed.Scan.{Extends}
use Rattle.c_lexer.specs.declared.shape.Shape.{Shape}
use Rattle.c_lexer.specs.declared.directive.Setting.TheVariants as settings
use Rattle.c_lexer.specs.declared.spot.Spot.{Spot}
use Rattle.c_lexer.proofs.Longest.{found as found_shape, at_longest}

pub record Goes (names : Names) (s : Spot) (text : Text) (t : Turn) : Type 0 where
  pub shorter : length t.rest < length text
  pub within : IsWithin s (length text) → IsWithin t.spot (length t.rest)
  pub extends : Extends names t.names

-- ---- names
same_names : (names : Names) → Extends names names
same_names names = record { more = []; is = sym (append-nil names) }

name_extends : (names : Names) (name : Text) → Extends names (with_name names name)
name_extends names name = cond_both (has_name names name) names (names ++ name ∷ []) (Extends names) (λ e. same_names names) (λ e. record { more = name ∷ []; is = refl })

-- ---- places
byte_within : (s : Spot) (b n : ℕ) → IsWithin s (suc n) → IsWithin (past_byte s b) n
byte_within s b n h =
    let offset = h.offset in
    let column = h.column in
    let lines = h.lines in
    cond_both (is_newline b) _ _ (λ (t : Spot). IsWithin t n)
    (λ e. record { offset = omega (arith, offset); column = omega (arith, offset); lines = omega (arith, lines) })
    (λ e. record { offset = omega (arith, offset); column = omega (arith, column); lines = omega (arith, lines) })

within_is : (s : Spot) (m n : ℕ) → IsWithin s m → n ≡ m → IsWithin s n
within_is s m n h e = subst (IsWithin s) (sym e) h

past_within : (s : Spot) (line : Text) (n : ℕ) → IsWithin s (length line + n) → IsWithin (past s line) n
past_within s [] n h = within_is s (length {A = ℕ} [] + n) n h (omega arith)
past_within s (b ∷ bs) n h = past_within (past_byte s b) bs n (byte_within s b (length bs + n) (within_is s (length (b ∷ bs) + n) (suc (length bs + n)) h (omega arith)))

token_within : (s : Spot) (word : Text) (n : ℕ) → IsWithin s (length word + n) → IsWithin (past_token s word) n
token_within s word n h =
    let offset = h.offset in
    let column = h.column in
    let lines = h.lines in
    record { offset = omega (arith, offset); column = omega (arith, column); lines = omega (arith, lines) }

directive_within : (s : Spot) (file : FileId) (number : ℕ) (line rest : Text) → number ≤ 2147483647 → IsWithin s (length line + length rest) → IsWithin (past_directive s file number line rest) (length (behind_newline rest))
directive_within s file number line [] high h =
    let offset = h.offset in
    let column = h.column in
    record { offset = omega (arith, offset); column = omega (arith, column); lines = omega (arith, high) }
directive_within s file number line (b ∷ bs) high h =
    let offset = h.offset in
    record { offset = omega (arith, offset); column = omega (arith, offset); lines = omega (arith, offset, high) }

-- ---- the number of a directive
line_high : (line : Text) (number : ℕ) → Directive line (settings.Line number) → number ≤ 2147483647
line_high text number (Directive.line word ds behind space stops digits is only) = is.high

name_high : (line name : Text) (number : ℕ) → Directive line (settings.Named number name) → number ≤ 2147483647
name_high text name number (Directive.marker ds behind inside after space is quote named flags) = is.high
name_high text name number (Directive.named_line word ds behind inside after space stops digits is quote named only) = is.high

-- ---- pieces
cut_len : (text front back : Text) → text ≡ front ++ back → length text ≡ length front + length back
cut_len text front back e = ap length e ∙ length-append front back

behind_shorter : (rest : Text) → length (behind_newline rest) ≤ length rest
behind_shorter [] = omega arith
behind_shorter (b ∷ bs) = omega arith

passes : (names : Names) (s : Spot) (text line rest : Text) → length text ≡ length line + length rest → 0 < length line → Goes names s text (record { names = names; spot = past s line; token = None; rest = rest })
passes names s text line rest len some = record {
  shorter = omega (arith, len, some);
  within = λ h. past_within s line (length rest) (subst (IsWithin s) len h);
  extends = same_names names;
}

sets : (names new : Names) (s : Spot) (file : FileId) (number : ℕ) (text line rest : Text) → number ≤ 2147483647 → Extends names new → IsLine line text rest
    → Goes names s (35 ∷ text) (record { names = new; spot = past_directive s file number (35 ∷ line) rest; token = None; rest = behind_newline rest })
sets names new s file number text line rest high extends h =
    let len = cut_len text line rest h.cut in
    let le = behind_shorter rest in
    record {
      shorter = omega (arith, len, le);
      within = λ w. directive_within s file number (35 ∷ line) rest high (within_is s (length (35 ∷ text)) (length (35 ∷ line) + length rest) w (omega (arith, len)));
      extends = extends;
    }

some_word : (shape : Shape) (word rest text : Text) → IsLongest shape word rest text → 0 < length word
some_word shape word rest text l = (found_shape text shape (length word) (at_longest shape word rest text l)).some

pub goes : (names : Names) (s : Spot) (text : Text) (t : Turn) → Piece names s text t → Goes names s text t
goes names s text t (Piece.white {b = b} {rest = rest} w) = passes names s (b ∷ rest) (b ∷ []) rest (omega arith) (omega arith)
goes names s text t (Piece.block_comment {body = body} {inside = inside} {rest = rest} h) =
    let len = cut_len inside body (42 ∷ 47 ∷ rest) h.cut in
    let front = length-append body (42 ∷ 47 ∷ []) in
    passes names s (47 ∷ 42 ∷ inside) (47 ∷ 42 ∷ (body ++ 42 ∷ 47 ∷ [])) rest (omega (arith, len, front)) (omega arith)
goes names s text t (Piece.line_comment {line = line} {text = more} {rest = rest} h) =
    let len = cut_len (47 ∷ 47 ∷ more) line rest h.cut in
    passes names s (47 ∷ 47 ∷ more) line rest len (some_line line rest h)
  where
    some_line : (line rest : Text) → IsLine line (47 ∷ 47 ∷ more) rest → 0 < length line
    some_line [] rest h = absurd (let bad : true ≡ false = subst (λ (t : Text). Rattle.c_lexer.specs.Bytes.Stops Rattle.c_lexer.specs.Bytes.in_line t) (sym h.cut) h.ends in cc)
    some_line (b ∷ bs) rest h = omega arith
goes names s text t (Piece.passed_over {line = line} {text = more} {rest = rest} first h d) =
    let len = cut_len more line rest h.cut in
    passes names s (35 ∷ more) (35 ∷ line) rest (omega (arith, len)) (omega arith)
goes names s text t (Piece.numbered {line = line} {text = more} {rest = rest} {number = number} first h d) = sets names names s s.file number more line rest (line_high line number d) (same_names names) h
goes names s text t (Piece.renamed {line = line} {text = more} {rest = rest} {name = name} {number = number} first h d room) =
    sets names (with_name names name) s _ number more line rest (name_high line name number d) (name_extends names name) h
goes names s text t (Piece.token {shape = shape} {word = word} {rest = rest} h l means room short) =
    let len = cut_len text word rest l.cut in
    let some = some_word shape word rest text l in
    record {
      shorter = omega (arith, len, some);
      within = λ w. token_within s word (length rest) (subst (IsWithin s) len w);
      extends = same_names names;
    }

-- ---- nothing stands at the end of a text
empty_word : (shape : Shape) (word rest : Text) → IsLongest shape word rest [] → ⊥
empty_word shape word rest l =
    let some = some_word shape word rest [] l in
    let len = cut_len [] word rest l.cut in
    absurd (omega (arith, some, len))

pub no_piece : (names : Names) (s : Spot) (t : Turn) → Piece names s [] t → ⊥
no_piece names s t (Piece.token {shape = shape} {word = word} {rest = rest} h l means room short) = empty_word shape word rest l

pub no_fault : (names : Names) (s : Spot) (k : FaultKind) → Fault names s [] k → ⊥
no_fault names s k (Fault.no_meaning {shape = shape} {word = word} {rest = rest} h l means) = empty_word shape word rest l
no_fault names s k (Fault.no_room {shape = shape} {word = word} {rest = rest} h l means none) = empty_word shape word rest l
no_fault names s k (Fault.too_long {shape = shape} {word = word} {rest = rest} h l means room long) = empty_word shape word rest l
