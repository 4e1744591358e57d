-- The lexer reads the setting of a directive that is defined, and no other.
use Rattle.std.proofs.Common.{◌≡◌, ℕ, Bool, true, false, cond, [], ◌∷◌, ◌++◌, length, Option, Some, None, codes, refl, sym, ap, ◌∙◌, subst, arith}
use Rattle.std.proofs.lemmas.Bool.Decides.{nat_tests}
use Rattle.c_lexer.specs.Bytes.{Text, AllAre, Stops, is_blank, is_digit, is_word_byte}
use Rattle.c_lexer.specs.Directives.{Space, AtEnd, Directive}
use Rattle.c_lexer.specs.computed.Settings.{◌>>=◌, no_space, at_end, only_space, named, only_flags, line_number, marker, line, behind_word, line_or_marker, pragma_or_line, setting_of}
use Rattle.c_lexer.specs.declared.directive.Setting.{Setting}
use Rattle.c_lexer.specs.declared.directive.Setting.TheVariants as settings
use Rattle.c_lexer.proofs.Spaces.{no_space_is, no_space_at, stuck_byte, only_space_is, only_space_of}
use Rattle.c_lexer.proofs.DirectivesSet.{word_is, word_at, digits_at, digits_no_end, digits_no_word, number_is, number_at, named_of, named_from, flags_is, flags_at}

-- ---- a directive that is read is one
module _ (text word : Text) (s : Setting) (space : Space text (codes "line" ++ word)) (stops : Stops is_word_byte word) where
  name_ends : (p : ℕ × Text) (q : Text × Text) (t : Bool) → line_number (no_space word) ≡ Some p → named p.1 ≡ Some q → only_space q.1 ≡ t
      → cond t (Some (settings.Named p.0 q.0)) None ≡ Some s → Directive text s
  name_ends p q false is name o e = absurd cc
  name_ends p q true is name o e =
      let same : settings.Named p.0 q.0 ≡ s = cc in
      let n = number_is (no_space word) p.0 p.1 is in
      let m = named_of p.1 q.0 q.1 name in
      subst (Directive text) same (Directive.named_line word n.digits p.1 m.inside q.1 space stops (subst (Space word) n.cut (no_space_is word).space) n.is m.space m.is (only_space_is q.1 o))

  name_reads : (p : ℕ × Text) (o : Option (Text × Text)) → line_number (no_space word) ≡ Some p → named p.1 ≡ o
      → (o >>= λ q. cond (only_space q.1) (Some (settings.Named p.0 q.0)) None) ≡ Some s → Directive text s
  name_reads p None is name e = absurd cc
  name_reads p (Some q) is name e = name_ends p q (only_space q.1) is name refl e

  number_ends : (p : ℕ × Text) (t : Bool) → line_number (no_space word) ≡ Some p → only_space p.1 ≡ t
      → cond t (Some (settings.Line p.0)) (named p.1 >>= λ q. cond (only_space q.1) (Some (settings.Named p.0 q.0)) None) ≡ Some s → Directive text s
  number_ends p false is o e = name_reads p (named p.1) is refl e
  number_ends p true is o e =
      let same : settings.Line p.0 ≡ s = cc in
      let n = number_is (no_space word) p.0 p.1 is in
      subst (Directive text) same (Directive.line word n.digits p.1 space stops (subst (Space word) n.cut (no_space_is word).space) n.is (only_space_is p.1 o))

  line_reads : (o : Option (ℕ × Text)) → line_number (no_space word) ≡ o
      → (o >>= λ n. cond (only_space n.1) (Some (settings.Line n.0)) (named n.1 >>= λ q. cond (only_space q.1) (Some (settings.Named n.0 q.0)) None)) ≡ Some s → Directive text s
  line_reads None is e = absurd cc
  line_reads (Some p) is e = number_ends p (only_space p.1) is refl e

module _ (text at : Text) (s : Setting) (space : Space text at) where
  flags_end : (p : ℕ × Text) (q : Text × Text) (t : Bool) → line_number at ≡ Some p → named p.1 ≡ Some q → only_flags (length q.1) q.1 ≡ t
      → cond t (Some (settings.Named p.0 q.0)) None ≡ Some s → Directive text s
  flags_end p q false is name o e = absurd cc
  flags_end p q true is name o e =
      let same : settings.Named p.0 q.0 ≡ s = cc in
      let n = number_is at p.0 p.1 is in
      let m = named_of p.1 q.0 q.1 name in
      subst (Directive text) same (Directive.marker n.digits p.1 m.inside q.1 (subst (Space text) n.cut space) n.is m.space m.is (flags_is (length q.1) q.1 o))

  marker_name : (p : ℕ × Text) (o : Option (Text × Text)) → line_number at ≡ Some p → named p.1 ≡ o
      → (o >>= λ q. cond (only_flags (length q.1) q.1) (Some (settings.Named p.0 q.0)) None) ≡ Some s → Directive text s
  marker_name p None is name e = absurd cc
  marker_name p (Some q) is name e = flags_end p q (only_flags (length q.1) q.1) is name refl e

  marker_reads : (o : Option (ℕ × Text)) → line_number at ≡ o
      → (o >>= λ n. named n.1 >>= λ q. cond (only_flags (length q.1) q.1) (Some (settings.Named n.0 q.0)) None) ≡ Some s → Directive text s
  marker_reads None is e = absurd cc
  marker_reads (Some p) is e = marker_name p (named p.1) is refl e

  word_reads : (o : Option Text) → behind_word (codes "line") at ≡ o → line_or_marker at o ≡ Some s → Directive text s
  word_reads None w e = marker_reads (line_number at) refl e
  word_reads (Some word) w e =
      let b = word_is (codes "line") at word w in
      line_reads text word s (subst (Space text) b.cut space) b.stops (line_number (no_space word)) refl e

  pragma_reads : (o : Option Text) → behind_word (codes "pragma") at ≡ o → pragma_or_line at o ≡ Some s → Directive text s
  pragma_reads None w e = word_reads (behind_word (codes "line") at) refl e
  pragma_reads (Some behind) w e =
      let b = word_is (codes "pragma") at behind w in
      let same : settings.Pass ≡ s = cc in
      subst (Directive text) same (Directive.pragma behind (subst (Space text) b.cut space) b.stops)

set_by : (text : Text) (t : Bool) (s : Setting) → only_space text ≡ t → cond t (Some settings.Pass) (pragma_or_line (no_space text) (behind_word (codes "pragma") (no_space text))) ≡ Some s → Directive text s
set_by text true s o e = let same : settings.Pass ≡ s = cc in subst (Directive text) same (Directive.lone (only_space_is text o))
set_by text false s o e = pragma_reads text (no_space text) s (no_space_is text).space (behind_word (codes "pragma") (no_space text)) refl e

pub setting_is : (text : Text) (s : Setting) → setting_of text ≡ Some s → Directive text s
unfolding setting_of
setting_is text s e = set_by text (only_space text) s refl e

-- ---- one that is defined is read
set_lone : (text : Text) → only_space text ≡ true → setting_of text ≡ Some settings.Pass
unfolding setting_of
set_lone text o = rw o refl

set_at : (text at : Text) (o : Option Text) → no_space text ≡ at → at_end at ≡ false → behind_word (codes "pragma") at ≡ o → setting_of text ≡ pragma_or_line at o
unfolding setting_of
set_at text at o n e b = let only : only_space text ≡ false = ap at_end n ∙ e in rw (only, n, b) refl

line_at : (at word : Text) → behind_word (codes "line") at ≡ Some word → pragma_or_line at None ≡ line word
line_at at word b = ap (line_or_marker at) b

marker_at : (at : Text) → behind_word (codes "line") at ≡ None → pragma_or_line at None ≡ marker at
marker_at at b = ap (line_or_marker at) b

stops_space : (behind at : Text) → Space behind at → Stops is_digit at → Stops is_digit behind
stops_space behind at Space.none h = h
stops_space (b ∷ bs) at (Space.blank is s) h = blank_no_digit b is
  where
    blank_no_digit : (b : ℕ) → is_blank b ≡ true → is_digit b ≡ false
    blank_no_digit b e = grind (arith, nat_tests)
stops_space (a ∷ b ∷ bs) at (Space.comment h s) more = refl

stops_end : (at : Text) → AtEnd at → Stops is_digit at
stops_end [] h = tt
stops_end (a ∷ []) h = absurd h
stops_end (a ∷ b ∷ bs) h = ap is_digit h.0

quote_only : (text inside : Text) → Space text (34 ∷ inside) → only_space text ≡ false
quote_only text inside s = ap at_end (no_space_at text (34 ∷ inside) s (stuck_byte 34 inside refl refl))

named_value : (at : Text) (p : ℕ × Text) (q : Text × Text) → line_number at ≡ Some p → named p.1 ≡ Some q → only_flags (length q.1) q.1 ≡ true → marker at ≡ Some (settings.Named p.0 q.0)
named_value at p q n m f = rw (n, m, f) refl

line_value : (word at : Text) (p : ℕ × Text) → no_space word ≡ at → line_number at ≡ Some p → only_space p.1 ≡ true → line word ≡ Some (settings.Line p.0)
line_value word at p w n o = rw (w, n, o) refl

named_line_value : (word at : Text) (p : ℕ × Text) (q : Text × Text) → no_space word ≡ at → line_number at ≡ Some p → only_space p.1 ≡ false → named p.1 ≡ Some q → only_space q.1 ≡ true
    → line word ≡ Some (settings.Named p.0 q.0)
named_line_value word at p q w n o m f = rw (w, n, o, m, f) refl

word_line : (text word : Text) → Space text (codes "line" ++ word) → Stops is_word_byte word → setting_of text ≡ line word
word_line text word s stops =
    let all : AllAre is_word_byte (codes "line") = (refl, (refl, (refl, (refl, tt)))) in
    let no_pragma : behind_word (codes "pragma") (codes "line" ++ word) ≡ None = word_at (codes "pragma") (codes "line") word false all stops refl in
    set_at text (codes "line" ++ word) None (no_space_at text (codes "line" ++ word) s (stuck_byte 108 (105 ∷ 110 ∷ 101 ∷ word) refl refl)) refl no_pragma
    ∙ line_at (codes "line" ++ word) word (word_at (codes "line") (codes "line") word true all stops refl)

pub setting_at : (text : Text) (s : Setting) → Directive text s → setting_of text ≡ Some s
setting_at text s (Directive.lone h) = set_lone text (only_space_of text h)
setting_at text s (Directive.pragma behind space stops) =
    let all : AllAre is_word_byte (codes "pragma") = (refl, (refl, (refl, (refl, (refl, (refl, tt)))))) in
    set_at text (codes "pragma" ++ behind) (Some behind) (no_space_at text (codes "pragma" ++ behind) space (stuck_byte 112 (114 ∷ 97 ∷ 103 ∷ 109 ∷ 97 ∷ behind) refl refl)) refl
    (word_at (codes "pragma") (codes "pragma") behind true all stops refl)
setting_at text s (Directive.marker {name = name} ds behind inside after {number = number} space is quote name_is flags) =
    let at = ds ++ behind in
    let stops = stops_space behind (34 ∷ inside) quote refl in
    set_at text at None (digits_at text ds behind space is.digits) (digits_no_end ds behind is.digits) (digits_no_word 112 (114 ∷ 97 ∷ 103 ∷ 109 ∷ 97 ∷ []) ds behind is.digits refl)
    ∙ (marker_at at (digits_no_word 108 (105 ∷ 110 ∷ 101 ∷ []) ds behind is.digits refl)
    ∙ named_value at (number, behind) (name, after) (number_at ds behind number is stops) (named_from behind inside name after quote name_is) (flags_at (length after) after (omega arith) flags))
setting_at text s (Directive.line word ds behind {number = number} space stops digits is only) =
    word_line text word space stops
    ∙ line_value word (ds ++ behind) (number, behind) (digits_at word ds behind digits is.digits)
    (number_at ds behind number is (stops_space behind only.0 only.1 (stops_end only.0 only.2))) (only_space_of behind only)
setting_at text s (Directive.named_line {name = name} word ds behind inside after {number = number} space stops digits is quote name_is only) =
    word_line text word space stops
    ∙ named_line_value word (ds ++ behind) (number, behind) (name, after) (digits_at word ds behind digits is.digits)
    (number_at ds behind number is (stops_space behind (34 ∷ inside) quote refl)) (quote_only behind inside quote) (named_from behind inside name after quote name_is) (only_space_of after only)

pub setting_none : (text : Text) → ((s : Setting) → Directive text s → ⊥) → setting_of text ≡ None
setting_none text never = by (setting_of text) refl
  where
    by : (o : Option Setting) → setting_of text ≡ o → setting_of text ≡ None
    by None e = e
    by (Some s) e = absurd (never s (setting_is text s e))

pub none_set : (text : Text) → setting_of text ≡ None → (s : Setting) → Directive text s → ⊥
none_set text e s h = let bad : ◌≡◌ {A = Option Setting} None (Some s) = sym e ∙ setting_at text s h in cc
