-- A piece or a fault of the definition is what the lexer finds.
use Rattle.std.proofs.Common.{◌≡◌, ℕ, ◌<◌, ◌≤◌, Bool, true, false, ◌&&◌, ◌||◌, eqb, [], ◌∷◌, length, take, drop, Option, Some, None, refl, sym, ap, ◌∙◌, inl, inr, arith}
use Rattle.std.specs.Prelude.{Ok, Err}
use Rattle.std.proofs.lemmas.List.{take_at, drop_at}
use Rattle.std.proofs.lemmas.Bool.{or_cases, or_left, or_right, and_parts, and_from, eqb-true, eq-eqb, ne_eqb, lt-ltb, le-ltb, false≢true}
use Rattle.std.proofs.lemmas.Bool.Decides.{nat_tests}
use Rattle.sv_base.specs.declared.fault.FaultKind.{FaultKind}
use Rattle.sv_base.specs.declared.fault.FaultKind.TheVariants as faults
use Rattle.c_syntax.specs.declared.token.TokenKind.{TokenKind}
use Rattle.c_lexer.specs.Bytes.{Text, is_blank, is_newline}
use Rattle.c_lexer.specs.Shapes.{IsLongest}
use Rattle.c_lexer.specs.Meaning.{Meaning, Means}
use Rattle.c_lexer.specs.Spots.{past_token, token_at}
use Rattle.c_lexer.specs.Cuts.{Names, Turn, BeginsNoToken, most_bytes, Piece, Fault}
use Rattle.c_lexer.specs.computed.Lengths.{shape_at}
use Rattle.c_lexer.specs.computed.Settings.{begins_byte, opens_block, opens_line}
use Rattle.c_lexer.specs.computed.Scan.{step, named, counted, meant, token, set, begins_directive, turn}
use Rattle.c_lexer.specs.declared.shape.Shape.{Shape}
use Rattle.c_lexer.specs.declared.directive.Setting.{Setting}
use Rattle.c_lexer.specs.declared.directive.Setting.TheVariants as settings
use Rattle.c_lexer.specs.declared.spot.Spot.{Spot}
use Rattle.c_lexer.proofs.Comments.{close_none}
use Rattle.c_lexer.proofs.Longest.{none_at, at_longest}
use Rattle.c_lexer.proofs.Meanings.{meaning_is}
use Rattle.c_lexer.proofs.SettingsAre.{setting_at, setting_none}
use Rattle.c_lexer.proofs.Pieces.{directive_at, full_of, not_full, block_none, block_some, line_some, token_by, token_none, white_plain, block_plain, line_plain, token_plain, turn_directive, turn_plain}

and_no : (x y : Bool) → y ≡ false → (x && y) ≡ false
and_no true y e = e
and_no false y e = refl

no_hash : (s : Spot) (b : ℕ) (bs : Text) → eqb b 35 ≡ false → begins_directive s (b ∷ bs) ≡ false
no_hash s b bs e = and_no s.is_first (eqb b 35) e

white_no_hash : (b : ℕ) → (is_newline b || is_blank b) ≡ true → eqb b 35 ≡ false
white_no_hash b e = grind (arith, nat_tests)

-- ---- directives
set_of : (names : Names) (s : Spot) (line text rest : Text) (o : Option Setting) → s.is_first ≡ true → Rattle.c_lexer.specs.White.IsLine line text rest → Rattle.c_lexer.specs.computed.Settings.setting_of line ≡ o
    → turn names s (35 ∷ text) ≡ set names s (35 ∷ line) rest o
set_of names s line text rest o first h e = turn_directive names s (35 ∷ text) (and_from _ _ first refl) ∙ directive_at names s line text rest o h e

-- ---- tokens
record IsApart (s : Spot) (b : ℕ) (bs : Text) : Type 0 where
  directive : begins_directive s (b ∷ bs) ≡ false
  white : (is_newline b || is_blank b) ≡ false
  block : opens_block (b ∷ bs) ≡ false
  line : opens_line (b ∷ bs) ≡ false

refuted : (t : Bool) → (t ≡ true → ⊥) → t ≡ false
refuted true h = absurd (h refl)
refuted false h = refl

apart : (s : Spot) (b : ℕ) (bs : Text) → (BeginsNoToken s (b ∷ bs) → ⊥) → IsApart s b bs
apart s b [] h = record {
  directive = refuted _ (λ e. (let p = and_parts s.is_first (eqb b 35) e in h (inr (p.0, eqb-true b 35 p.1))));
  white = refuted _ (λ e. h (inl (or_cases _ _ e)));
  block = refuted _ (λ e. false≢true ((and_parts (eqb b 47) false e).1));
  line = refuted _ (λ e. false≢true ((and_parts (eqb b 47) false e).1));
}
apart s b (c ∷ bs) h = record {
  directive = refuted _ (λ e. (let p = and_parts s.is_first (eqb b 35) e in h (inr (p.0, eqb-true b 35 p.1))));
  white = refuted _ (λ e. h (inl (inl (or_cases _ _ e))));
  block = refuted _ (λ e. (let p = and_parts (eqb b 47) (eqb 42 c) e in h (inl (inr (eqb-true b 47 p.0, inl (sym (eqb-true 42 c p.1)))))));
  line = refuted _ (λ e. (let p = and_parts (eqb b 47) (eqb 47 c) e in h (inl (inr (eqb-true b 47 p.0, inr (sym (eqb-true 47 c p.1)))))));
}

token_turn : (names : Names) (s : Spot) (b : ℕ) (bs : Text) → (BeginsNoToken s (b ∷ bs) → ⊥) → turn names s (b ∷ bs) ≡ named names (token s (b ∷ bs))
token_turn names s b bs h = let a = apart s b bs h in turn_plain names s (b ∷ bs) a.directive ∙ ap (named names) (token_plain s b bs a.white a.block a.line)

none_empty : (shape : Shape) (n : ℕ) → shape_at [] ≡ Some (shape, n) → ⊥
unfolding shape_at
none_empty shape n e = cc

module _ (names : Names) (s : Spot) where
  meant_turn : (text word rest : Text) (shape : Shape) (m : Meaning) → (BeginsNoToken s text → ⊥) → IsLongest shape word rest text → Means s.is_wide shape word m
      → turn names s text ≡ named names (meant s text (length word) m)
  meant_turn [] word rest shape m h l means = absurd (none_empty shape (length word) (at_longest shape word rest [] l))
  meant_turn (b ∷ bs) word rest shape m h l means =
      token_turn names s b bs h
      ∙ ap (named names) (token_by s (b ∷ bs) word rest shape (length word) m (at_longest shape word rest (b ∷ bs) l) (ap (take (length word)) l.cut ∙ take_at word rest _ refl) (meaning_is s.is_wide shape word m means))

no_room : (s : Spot) (text : Text) (n : ℕ) (kind : TokenKind) → s.room ≡ 0 → counted s text n kind ≡ Err (faults.Limit 3)
no_room s text n kind e = rw (eq-eqb s.room 0 e) refl

some_room : (s : Spot) → 0 < s.room → eqb s.room 0 ≡ false
some_room s h = ne_eqb s.room 0 (λ e. absurd (omega (arith, h, e)))

too_long : (s : Spot) (text : Text) (n : ℕ) (kind : TokenKind) → 0 < s.room → most_bytes < n → counted s text n kind ≡ Err (faults.Limit 12)
too_long s text n kind h long = rw (some_room s h, lt-ltb most_bytes n long) refl

fits : (s : Spot) (text word rest : Text) (n : ℕ) (kind : TokenKind) → 0 < s.room → n ≤ most_bytes → take n text ≡ word → drop n text ≡ rest
    → counted s text n kind ≡ Ok (step (past_token s word) (Some (token_at s kind n)) rest)
fits s text word rest n kind h short f b = rw (some_room s h, le-ltb most_bytes n short, f, b) refl

pub piece_at : (names : Names) (s : Spot) (text : Text) (t : Turn) → Piece names s text t → turn names s text ≡ Ok t
piece_at names s text t (Piece.white {b = b} {rest = rest} w) =
    let is : (is_newline b || is_blank b) ≡ true = elim w [ inl e ↦ or_left _ _ e | inr e ↦ or_right _ _ e ] in
    turn_plain names s (b ∷ rest) (no_hash s b rest (white_no_hash b is)) ∙ ap (named names) (white_plain s b rest is)
piece_at names s text t (Piece.block_comment {body = body} {inside = inside} {rest = rest} h) =
    turn_plain names s (47 ∷ 42 ∷ inside) (no_hash s 47 (42 ∷ inside) refl) ∙ ap (named names) (block_plain s 47 (42 ∷ inside) refl refl ∙ block_some s inside body rest h)
piece_at names s text t (Piece.line_comment {line = line} {text = more} {rest = rest} h) =
    turn_plain names s (47 ∷ 47 ∷ more) (no_hash s 47 (47 ∷ more) refl) ∙ ap (named names) (line_plain s 47 (47 ∷ more) refl refl refl ∙ ap Ok (line_some s (47 ∷ 47 ∷ more) line rest h))
piece_at names s text t (Piece.passed_over {line = line} {text = more} {rest = rest} first h d) = set_of names s line more rest (Some settings.Pass) first h (setting_at line _ d)
piece_at names s text t (Piece.numbered {line = line} {text = more} {rest = rest} {number = number} first h d) = set_of names s line more rest (Some (settings.Line number)) first h (setting_at line _ d)
piece_at names s text t (Piece.renamed {line = line} {text = more} {rest = rest} {name = name} {number = number} first h d room) =
    set_of names s line more rest (Some (settings.Named number name)) first h (setting_at line _ d) ∙ rw (not_full names name room) refl
piece_at names s text t (Piece.token {shape = shape} {word = word} {rest = rest} {kind = kind} h l means room short) =
    meant_turn names s text word rest shape (Ok kind) h l means
    ∙ ap (named names) (fits s text word rest (length word) kind room short (ap (take (length word)) l.cut ∙ take_at word rest _ refl) (ap (drop (length word)) l.cut ∙ drop_at word rest _ refl))

pub fault_at_turn : (names : Names) (s : Spot) (text : Text) (k : FaultKind) → Fault names s text k → turn names s text ≡ Err k
fault_at_turn names s text k (Fault.open_comment {inside = inside} never) =
    turn_plain names s (47 ∷ 42 ∷ inside) (no_hash s 47 (42 ∷ inside) refl) ∙ ap (named names) (block_plain s 47 (42 ∷ inside) refl refl ∙ block_none s inside (close_none inside never))
fault_at_turn names s text k (Fault.no_directive {line = line} {text = more} {rest = rest} first h never) = set_of names s line more rest None first h (setting_none line never)
fault_at_turn names s text k (Fault.full {line = line} {text = more} {rest = rest} {name = name} {number = number} first h d f) =
    set_of names s line more rest (Some (settings.Named number name)) first h (setting_at line _ d) ∙ rw (full_of names name f) refl
fault_at_turn names s text k (Fault.no_token {b = b} {text = more} h nothing) =
    token_turn names s b more h ∙ ap (named names) (token_none s (b ∷ more) (none_at (b ∷ more) nothing))
fault_at_turn names s text k (Fault.no_meaning {shape = shape} {word = word} {rest = rest} h l means) = meant_turn names s text word rest shape (Err k) h l means
fault_at_turn names s text k (Fault.no_room {shape = shape} {word = word} {rest = rest} {kind = kind} h l means none) =
    meant_turn names s text word rest shape (Ok kind) h l means ∙ ap (named names) (no_room s text (length word) kind none)
fault_at_turn names s text k (Fault.too_long {shape = shape} {word = word} {rest = rest} {kind = kind} h l means room long) =
    meant_turn names s text word rest shape (Ok kind) h l means ∙ ap (named names) (too_long s text (length word) kind room long)
