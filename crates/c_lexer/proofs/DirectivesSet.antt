-- What a directive sets, as the lexer reads it, is what it sets by definition.
use Rattle.std.proofs.Common.{◌≡◌, ℕ, zero, suc, ◌+◌, ◌<◌, ◌≤◌, Bool, true, false, not, ◌||◌, eqb, nat_le, cond, [], ◌∷◌, ◌++◌, length, take, drop, Option, Some, None, refl, sym, ap, ◌∙◌, subst, arith, length-append}
use Rattle.std.specs.List.{prefix_len}
use Rattle.std.specs.Str.{bytes_eq}
use Rattle.std.specs.Str.Parse.{digits_value}
use Rattle.std.proofs.lemmas.Slice.Eq.{bytes_eq-Decides}
use Rattle.std.proofs.lemmas.List.{take_at, drop_at, take-append-drop}
use Rattle.std.proofs.lemmas.List.Sums.{prefix_len-le-length}
use Rattle.std.proofs.lemmas.Bool.{or_parts, or_left, or_right, eqb-true, eq-eqb, ne_eqb, leb-true, le-leb, false≢true}
use Rattle.std.proofs.lemmas.Bool.Decides.{nat_tests}
use Rattle.c_lexer.specs.Bytes.{Text, AllAre, Stops, is_blank, is_digit, is_word_byte, is_number_byte}
use Rattle.c_lexer.specs.Directives.{Space, IsDigits, IsNamed, Flags, IsLineNumber}
use Rattle.c_lexer.specs.computed.Settings.{no_space, at_end, only_space, name_in, opened, named, behind_flag, less_flag, only_flags, small, line_number, behind_word}
use Rattle.c_lexer.proofs.Runs.{run_len, run_all, run_stops}
use Rattle.c_lexer.proofs.Spaces.{no_space_is, no_space_at, stuck_byte, only_space_is, only_space_of}
use Rattle.c_lexer.proofs.DirectivesRead.{named_at, named_is}

-- ---- the word at the front
pub record IsBehind (word text behind : Text) : Type 0 where
  pub cut : text ≡ word ++ behind
  pub stops : Stops is_word_byte behind

behind_by : (word text behind : Text) (t : Bool) → bytes_eq (take (prefix_len is_word_byte text) text) word ≡ t
    → cond t (Some (drop (prefix_len is_word_byte text) text)) None ≡ Some behind → IsBehind word text behind
behind_by word text behind false q e = absurd cc
behind_by word text behind true q e =
    let n = prefix_len is_word_byte text in
    let left : drop n text ≡ behind = cc in
    let front : take n text ≡ word = (bytes_eq-Decides (take n text) word).0 q in
    record {
      cut = sym (take-append-drop n text) ∙ (ap (λ (t : Text). t ++ drop n text) front ∙ ap (λ (t : Text). word ++ t) left);
      stops = subst (Stops is_word_byte) left (run_stops is_word_byte text);
    }

pub word_is : (word text behind : Text) → behind_word word text ≡ Some behind → IsBehind word text behind
word_is word text behind e = behind_by word text behind (bytes_eq (take (prefix_len is_word_byte text) text) word) refl e

word_front : (word behind : Text) → AllAre is_word_byte word → Stops is_word_byte behind → take (prefix_len is_word_byte (word ++ behind)) (word ++ behind) ≡ word
word_front word behind all stops = ap (λ (n : ℕ). take n (word ++ behind)) (run_len is_word_byte word behind all stops) ∙ take_at word behind _ refl

behind_at : (other text front back : Text) (t : Bool) → take (prefix_len is_word_byte text) text ≡ front → drop (prefix_len is_word_byte text) text ≡ back → bytes_eq front other ≡ t
    → behind_word other text ≡ cond t (Some back) None
behind_at other text front back t f b e = let q : bytes_eq (take (prefix_len is_word_byte text) text) other ≡ t = ap (λ (w : Text). bytes_eq w other) f ∙ e in rw (q, b) refl

pub word_at : (other word behind : Text) (t : Bool) → AllAre is_word_byte word → Stops is_word_byte behind → bytes_eq word other ≡ t → behind_word other (word ++ behind) ≡ cond t (Some behind) None
word_at other word behind t all stops e =
    behind_at other (word ++ behind) word behind t (word_front word behind all stops) (ap (λ (n : ℕ). drop n (word ++ behind)) (run_len is_word_byte word behind all stops) ∙ drop_at word behind _ refl) e

-- no word begins with a digit
no_word : (w d : ℕ) (ws bs : Text) → is_digit d ≡ true → is_digit w ≡ false → behind_word (w ∷ ws) (d ∷ bs) ≡ None
no_word w d ws bs digit other = by (behind_word (w ∷ ws) (d ∷ bs)) refl
  where
    by : (o : Option Text) → behind_word (w ∷ ws) (d ∷ bs) ≡ o → behind_word (w ∷ ws) (d ∷ bs) ≡ None
    by None e = e
    by (Some behind) e =
        let c = (word_is (w ∷ ws) (d ∷ bs) behind e).cut in
        let same : d ≡ w = cc in
        absurd (false≢true (sym other ∙ subst (λ (n : ℕ). is_digit n ≡ true) same digit))

-- ---- digits
digit_no_blank : (d : ℕ) → is_digit d ≡ true → is_blank d ≡ false
digit_no_blank d e = grind (arith, nat_tests)

digit_no_slash : (d : ℕ) → is_digit d ≡ true → eqb d 47 ≡ false
digit_no_slash d e = grind (arith, nat_tests)

digits_of : (n : ℕ) (at : Text) → eqb n 0 ≡ false → n ≤ length at → AllAre is_digit (take n at) → IsDigits (take n at)
digits_of zero at z le h = absurd (false≢true (sym z))
digits_of (suc n) [] z le h = absurd (omega arith)
digits_of (suc n) (b ∷ bs) z le h = h

first_digits : (at : Text) → eqb (prefix_len is_digit at) 0 ≡ false → IsDigits (take (prefix_len is_digit at) at)
first_digits at z = digits_of (prefix_len is_digit at) at z (prefix_len-le-length is_digit at) (run_all is_digit at)

digits_all : (ds : Text) → IsDigits ds → AllAre is_digit ds
digits_all [] h = absurd h
digits_all (d ∷ ds) h = h

digits_some : (ds : Text) → IsDigits ds → eqb (length ds) 0 ≡ false
digits_some [] h = absurd h
digits_some (d ∷ ds) h = ne_eqb (length (d ∷ ds)) 0 (λ q. absurd (omega arith))

pub digits_at : (text ds behind : Text) → Space text (ds ++ behind) → IsDigits ds → no_space text ≡ ds ++ behind
digits_at text [] behind s h = absurd h
digits_at text (d ∷ ds) behind s h = no_space_at text _ s (stuck_byte d (ds ++ behind) (digit_no_blank d h.0) (digit_no_slash d h.0))

pub digits_no_end : (ds behind : Text) → IsDigits ds → at_end (ds ++ behind) ≡ false
digits_no_end [] behind h = absurd h
digits_no_end (d ∷ ds) behind h = rw (digit_no_slash d h.0) refl

pub digits_no_word : (w : ℕ) (ws ds behind : Text) → IsDigits ds → is_digit w ≡ false → behind_word (w ∷ ws) (ds ++ behind) ≡ None
digits_no_word w ws [] behind h other = absurd h
digits_no_word w ws (d ∷ ds) behind h other = no_word w d ws (ds ++ behind) h.0 other

-- ---- the number of a line
pub record IsNumbered (at : Text) (number : ℕ) (behind : Text) : Type 0 where
  pub digits : Text
  pub cut : at ≡ digits ++ behind
  pub is : IsLineNumber digits number

small_is : (at : Text) (n number : ℕ) (behind : Text) (t : Bool) → IsDigits (take n at) → nat_le (digits_value 10 (take n at)) 2147483647 ≡ t
    → cond {A = Option (ℕ × Text)} t (Some (digits_value 10 (take n at), drop n at)) None ≡ Some (number, behind) → IsNumbered at number behind
small_is at n number behind false digits q e = absurd cc
small_is at n number behind true digits q e =
    let pair : (digits_value 10 (take n at), drop n at) ≡ (number, behind) = cc in
    let value : digits_value 10 (take n at) ≡ number = ap (λ (p : ℕ × Text). p.0) pair in
    let left : drop n at ≡ behind = ap (λ (p : ℕ × Text). p.1) pair in
    record {
      digits = take n at;
      cut = sym (take-append-drop n at) ∙ ap (λ (t : Text). take n at ++ t) left;
      is = record { digits = digits; value = sym value; high = subst (λ (m : ℕ). m ≤ 2147483647) value (leb-true _ _ q) };
    }

pub number_is : (at : Text) (number : ℕ) (behind : Text) → line_number at ≡ Some (number, behind) → IsNumbered at number behind
number_is at number behind e = by (eqb (prefix_len is_digit at) 0) refl e
  where
    by : (t : Bool) → eqb (prefix_len is_digit at) 0 ≡ t → cond t None (small at (prefix_len is_digit at)) ≡ Some (number, behind) → IsNumbered at number behind
    by true q e = absurd cc
    by false q e = small_is at (prefix_len is_digit at) number behind (nat_le (digits_value 10 (take (prefix_len is_digit at) at)) 2147483647) (first_digits at q) refl e

number_by : (at : Text) (n : ℕ) → prefix_len is_digit at ≡ n → line_number at ≡ cond (eqb n 0) None (small at n)
number_by at n e = rw e refl

small_at : (at front back : Text) (n number : ℕ) → take n at ≡ front → drop n at ≡ back → number ≡ digits_value 10 front → number ≤ 2147483647 → small at n ≡ Some (number, back)
small_at at front back n number f b v h =
    let fits : nat_le (digits_value 10 front) 2147483647 ≡ true = le-leb _ _ (subst (λ (m : ℕ). m ≤ 2147483647) v h) in
    rw (f, b, fits) (ap (λ (m : ℕ). Some (m, back)) (sym v))

pub number_at : (ds behind : Text) (number : ℕ) → IsLineNumber ds number → Stops is_digit behind → line_number (ds ++ behind) ≡ Some (number, behind)
number_at ds behind number h stops =
    let n = number_by (ds ++ behind) (length ds) (run_len is_digit ds behind (digits_all ds h.digits) stops) in
    let z = digits_some ds h.digits in
    n ∙ rw z (small_at (ds ++ behind) ds behind (length ds) number (take_at ds behind _ refl) (drop_at ds behind _ refl) h.value h.high)

-- ---- a name
pub record IsQuotedName (text name behind : Text) : Type 0 where
  pub inside : Text
  pub space : Space text (34 ∷ inside)
  pub is : IsNamed inside name behind

opened_is : (text at name behind : Text) → Space text at → opened at ≡ Some (name, behind) → IsQuotedName text name behind
opened_is text [] name behind s e = absurd cc
opened_is text (b ∷ bs) name behind s e = by (eqb b 34) refl e
  where
    by : (t : Bool) → eqb b 34 ≡ t → cond t (name_in false bs) None ≡ Some (name, behind) → IsQuotedName text name behind
    by false q e = absurd cc
    by true q e = record { inside = bs; space = subst (λ (x : ℕ). Space text (x ∷ bs)) (eqb-true b 34 q) s; is = named_is false bs name behind e }

pub named_of : (text name behind : Text) → named text ≡ Some (name, behind) → IsQuotedName text name behind
unfolding named
named_of text name behind e = opened_is text (no_space text) name behind (no_space_is text).space e

pub named_from : (text inside name behind : Text) → Space text (34 ∷ inside) → IsNamed inside name behind → named text ≡ Some (name, behind)
unfolding named
named_from text inside name behind s h = ap opened (no_space_at text (34 ∷ inside) s (stuck_byte 34 inside refl refl)) ∙ named_at inside name behind h

-- ---- flags
pub record IsFlag (text rest : Text) : Type 0 where
  pub digits : Text
  pub space : Space text (digits ++ rest)
  pub is : IsDigits digits
  pub stops : Stops is_number_byte rest

not_false : (t : Bool) → not t ≡ false → t ≡ true
not_false true e = refl
not_false false e = absurd (false≢true (sym e))

flag_by : (text at rest : Text) (n : ℕ) (t : Bool) → Space text at → (eqb n 0 ≡ false → IsDigits (take n at)) → (eqb n 0 || not (eqb (prefix_len is_number_byte at) n)) ≡ t
    → cond t None (Some (drop n at)) ≡ Some rest → IsFlag text rest
flag_by text at rest n true s digits q e = absurd cc
flag_by text at rest n false s digits q e =
    let p = or_parts (eqb n 0) (not (eqb (prefix_len is_number_byte at) n)) q in
    let same : prefix_len is_number_byte at ≡ n = eqb-true _ _ (not_false _ p.1) in
    let left : drop n at ≡ rest = cc in
    record {
      digits = take n at;
      space = subst (Space text) (sym (take-append-drop n at) ∙ ap (λ (t : Text). take n at ++ t) left) s;
      is = digits p.0;
      stops = subst (Stops is_number_byte) (ap (λ (k : ℕ). drop k at) same ∙ left) (run_stops is_number_byte at);
    }

flag_is : (text rest : Text) → less_flag text ≡ Some rest → IsFlag text rest
flag_is text rest e =
    let at = no_space text in
    let n = prefix_len is_digit at in
    flag_by text at rest n (eqb n 0 || not (eqb (prefix_len is_number_byte at) n)) (no_space_is text).space (λ z. first_digits at z) refl e

flags_none : (turns : ℕ) (text : Text) → only_space text ≡ true → only_flags turns text ≡ true
unfolding only_flags
flags_none zero text q = q
flags_none (suc turns) text q = rw q refl

flags_stuck : (turns : ℕ) (text : Text) → only_space text ≡ false → less_flag text ≡ None → only_flags (suc turns) text ≡ false
unfolding only_flags
flags_stuck turns text q e = rw (q, e) refl

flags_go : (turns : ℕ) (text rest : Text) → only_space text ≡ false → less_flag text ≡ Some rest → only_flags (suc turns) text ≡ only_flags turns rest
unfolding only_flags
flags_go turns text rest q e = rw (q, e) refl

flags_end : (text : Text) → only_flags zero text ≡ only_space text
unfolding only_flags
flags_end text = refl

flags_by : (turns : ℕ) (text : Text) (t : Bool) (o : Option Text) → only_space text ≡ t → less_flag text ≡ o → only_flags (suc turns) text ≡ true
    → ((rest : Text) → only_flags turns rest ≡ true → Flags rest) → Flags text
flags_by turns text true o q is e more = Flags.none (only_space_is text q)
flags_by turns text false None q is e more = absurd (false≢true (sym (flags_stuck turns text q is) ∙ e))
flags_by turns text false (Some rest) q is e more =
    let f = flag_is text rest is in
    Flags.flag f.digits rest f.space f.is f.stops (more rest (sym (flags_go turns text rest q is) ∙ e))

pub flags_is : (turns : ℕ) (text : Text) → only_flags turns text ≡ true → Flags text
flags_is zero text e = Flags.none (only_space_is text (sym (flags_end text) ∙ e))
flags_is (suc turns) text e = flags_by turns text (only_space text) (less_flag text) refl refl e (λ rest f. flags_is turns rest f)

digit_number : (b : ℕ) → is_digit b ≡ true → is_number_byte b ≡ true
digit_number b e = or_left _ _ (or_right _ _ e)

all_number : (ds : Text) → AllAre is_digit ds → AllAre is_number_byte ds
all_number [] h = tt
all_number (d ∷ ds) h = (digit_number d h.0, all_number ds h.1)

stops_digit : (behind : Text) → Stops is_number_byte behind → Stops is_digit behind
stops_digit [] h = tt
stops_digit (b ∷ bs) h = (or_parts _ _ (or_parts _ _ h).0).1

flag_of : (at : Text) (n : ℕ) → eqb n 0 ≡ false → prefix_len is_number_byte at ≡ n → behind_flag at n ≡ Some (drop n at)
flag_of at n z e =
    let same : eqb (prefix_len is_number_byte at) n ≡ true = eq-eqb _ _ e in
    rw (z, same) refl

less_by : (text at : Text) (n : ℕ) → no_space text ≡ at → prefix_len is_digit at ≡ n → less_flag text ≡ behind_flag at n
less_by text at n e p = rw (e, p) refl

flag_at : (text ds behind : Text) → Space text (ds ++ behind) → IsDigits ds → Stops is_number_byte behind → less_flag text ≡ Some behind
flag_at text ds behind s h stops =
    let all = digits_all ds h in
    less_by text (ds ++ behind) (length ds) (digits_at text ds behind s h) (run_len is_digit ds behind all (stops_digit behind stops))
    ∙ (flag_of (ds ++ behind) (length ds) (digits_some ds h) (run_len is_number_byte ds behind (all_number ds all) stops) ∙ ap Some (drop_at ds behind _ refl))

digits_only : (text ds behind : Text) → Space text (ds ++ behind) → IsDigits ds → only_space text ≡ false
digits_only text ds behind s h = ap at_end (digits_at text ds behind s h) ∙ digits_no_end ds behind h

some_digits : (ds : Text) → IsDigits ds → 0 < length ds
some_digits [] h = absurd h
some_digits (d ∷ ds) h = omega arith

digits_within : (text ds behind : Text) → Space text (ds ++ behind) → IsDigits ds → length behind < length text
digits_within text ds behind s h =
    let within = (no_space_is text).within in
    let same : length (no_space text) ≡ length ds + length behind = ap length (digits_at text ds behind s h) ∙ length-append ds behind in
    let some = some_digits ds h in
    omega (arith, within, same, some)

pub flags_at : (turns : ℕ) (text : Text) → length text ≤ turns → Flags text → only_flags turns text ≡ true
flags_at turns text le (Flags.none h) = flags_none turns text (only_space_of text h)
flags_at zero text le (Flags.flag ds behind s h stops more) = absurd (let w = digits_within text ds behind s h in omega (arith, w, le))
flags_at (suc turns) text le (Flags.flag ds behind s h stops more) =
    let w = digits_within text ds behind s h in
    flags_go turns text behind (digits_only text ds behind s h) (flag_at text ds behind s h stops) ∙ flags_at turns behind (omega (arith, w, le)) more
