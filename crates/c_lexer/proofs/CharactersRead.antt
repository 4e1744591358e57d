-- Characters as the lexer reads them are those of the definition.
use Rattle.std.proofs.Common.{◌≡◌, ◌⊎◌, ℕ, zero, suc, ◌+◌, ◌≤◌, Bool, true, false, eqb, min, List, [], ◌∷◌, ◌++◌, length, take, drop, Option, Some, None, refl, sym, ap, ◌∙◌, subst, inl, inr, arith, length-drop, length-append}
use Rattle.std.specs.List.{prefix_len}
use Rattle.std.specs.Str.Parse.{digits_value}
use Rattle.std.proofs.lemmas.List.{take_at, drop_at, take-append-drop, length-take-le}
use Rattle.std.proofs.lemmas.List.Sums.{prefix_len-le-length}
use Rattle.std.proofs.lemmas.Bool.{cases_Bool, cases_lt, or_cases, eqb-true, eq-eqb, ne_eqb, false≢true}
use Rattle.std.proofs.lemmas.Bool.Decides.{nat_tests}
use Rattle.c_lexer.specs.Bytes.{Text, AllAre, Stops, is_octal, is_hexadecimal}
use Rattle.c_lexer.specs.Characters.{simple, in_byte, is_universal, IsNoEscape, Reads}
use Rattle.c_lexer.specs.computed.Values.{simple_or_wrong, octal_len, hexadecimal_escape, character_at, characters_in}
use Rattle.c_lexer.specs.declared.character.Character.{Character}
use Rattle.c_lexer.specs.declared.character.Character.TheVariants as characters
use Rattle.c_lexer.proofs.Runs.{run_len, run_reaches, run_all, run_stops}

-- ---- one character
at_plain : (b : ℕ) (bs : Text) → eqb b 92 ≡ false → character_at (b ∷ bs) ≡ (characters.Byte b, 1)
unfolding character_at
at_plain b bs e = rw e refl

at_alone : character_at (92 ∷ []) ≡ (characters.Wrong, 1)
unfolding character_at
at_alone = refl

at_octal_len : (b : ℕ) (bs : Text) → is_octal b ≡ true → character_at (92 ∷ b ∷ bs) ≡ (in_byte (digits_value 8 (take (octal_len (b ∷ bs)) (b ∷ bs))), octal_len (b ∷ bs) + 1)
unfolding character_at
at_octal_len b bs o = rw o refl

at_octal : (b : ℕ) (bs : Text) (n : ℕ) → is_octal b ≡ true → octal_len (b ∷ bs) ≡ n → character_at (92 ∷ b ∷ bs) ≡ (in_byte (digits_value 8 (take n (b ∷ bs))), n + 1)
at_octal b bs n o e = at_octal_len b bs o ∙ ap (λ (m : ℕ). (in_byte (digits_value 8 (take m (b ∷ bs))), m + 1)) e

at_x : (bs : Text) (n : ℕ) → prefix_len is_hexadecimal bs ≡ n → character_at (92 ∷ 120 ∷ bs) ≡ ((hexadecimal_escape n bs).0, (hexadecimal_escape n bs).1 + 1)
unfolding character_at
at_x bs n e = rw e refl

at_universal : (b : ℕ) (bs : Text) → is_octal b ≡ false → eqb b 120 ≡ false → is_universal b ≡ true → character_at (92 ∷ b ∷ bs) ≡ (characters.Universal, 2)
unfolding character_at
at_universal b bs o x u = rw (o, x, u) refl

at_simple : (b : ℕ) (bs : Text) (s : Option ℕ) → is_octal b ≡ false → eqb b 120 ≡ false → is_universal b ≡ false → simple b ≡ s → character_at (92 ∷ b ∷ bs) ≡ ((simple_or_wrong s).0, (simple_or_wrong s).1 + 1)
unfolding character_at
at_simple b bs s o x u e = rw (o, x, u, e) refl

-- ---- what is read
-- the characters of a text, by its first one
from_first : (turns : ℕ) (b : ℕ) (bs : Text) (c : Character) (n : ℕ) → character_at (b ∷ bs) ≡ (c, n) → characters_in (suc turns) (b ∷ bs) ≡ c ∷ characters_in turns (drop n (b ∷ bs))
unfolding characters_in
from_first turns b bs c n e = rw e refl

none_in : (turns : ℕ) → characters_in turns [] ≡ []
unfolding characters_in
none_in turns = refl

-- the reading goes on with what is read behind
abbrev pub Behind : ℕ → Type 0
Behind turns = (rest : Text) → length rest ≤ turns → Reads rest (characters_in turns rest)

read_plain : (turns b : ℕ) (bs : Text) → length bs ≤ turns → eqb b 92 ≡ false → Behind turns → Reads (b ∷ bs) (characters_in (suc turns) (b ∷ bs))
read_plain turns b bs le e more = rw (from_first turns b bs (characters.Byte b) 1 (at_plain b bs e)) (Reads.plain (λ is. false≢true (sym e ∙ eq-eqb b 92 is)) (more bs le))

-- digits of an octal escape
octal_some : (bs : Text) (k : ℕ) → k ≤ 2 → min 3 (1 + k) ≡ suc k
octal_some bs k le = omega arith

all_take : (p : ℕ → Bool) (n m : ℕ) (bs : Text) → n ≤ m → AllAre p (take m bs) → AllAre p (take n bs)
all_take p zero m bs le h = tt
all_take p (suc n) zero bs le h = absurd (omega arith)
all_take p (suc n) (suc m) [] le h = tt
all_take p (suc n) (suc m) (b ∷ bs) le h = (h.0, all_take p n m bs (omega arith) h.1)

read_octal : (turns b : ℕ) (bs : Text) → length bs ≤ turns → is_octal b ≡ true → Behind turns → Reads (92 ∷ b ∷ bs) (characters_in (suc turns) (92 ∷ b ∷ bs))
read_octal turns b bs le o more =
    let p = prefix_len is_octal bs in
    let k = min 2 p in
    let whole : prefix_len is_octal (b ∷ bs) ≡ 1 + p = rw o refl in
    let len : octal_len (b ∷ bs) ≡ suc k = ap (min 3) whole ∙ omega arith in
    let within = prefix_len-le-length is_octal bs in
    let all : AllAre is_octal (take k bs) = all_take is_octal k p bs (omega arith) (run_all is_octal bs) in
    let taken : length (take k bs) ≡ k = length-take-le k bs (omega (arith, within)) in
    let left : length (drop k bs) ≤ turns = (let e = length-drop k bs in omega (arith, e, le)) in
    let ends : (length (take k bs) ≡ 2) ⊎ Stops is_octal (drop k bs) = (elim (cases_lt p 2) [
      | inl lt ↦ (let same : p ≡ k = omega arith in inr (subst (λ (n : ℕ). Stops is_octal (drop n bs)) same (run_stops is_octal bs)))
      | inr ge ↦ inl (let two : k ≡ 2 = omega arith in taken ∙ two)
    ]) in
    let read = Reads.octal_escape {d = b} (take k bs) (drop k bs) (o, all) (omega (arith, taken)) ends (more (drop k bs) left) in
    let s : suc k + 1 ≡ suc (suc k) = omega arith in
    rw (from_first turns 92 (b ∷ bs) (in_byte (digits_value 8 (b ∷ take k bs))) (suc (suc k)) (at_octal b bs (suc k) o len ∙ ap (λ (n : ℕ). (in_byte (digits_value 8 (b ∷ take k bs)), n)) s))
    (subst (λ (t : Text). Reads (92 ∷ b ∷ t) (in_byte (digits_value 8 (b ∷ take k bs)) ∷ characters_in turns (drop k bs))) (take-append-drop k bs) read)

read_x : (turns : ℕ) (bs : Text) → length bs ≤ turns → Behind turns → Reads (92 ∷ 120 ∷ bs) (characters_in (suc turns) (92 ∷ 120 ∷ bs))
read_x turns bs le more = by (prefix_len is_hexadecimal bs) refl
  where
    stops : prefix_len is_hexadecimal bs ≡ 0 → Stops is_hexadecimal bs
    stops e = subst (λ (n : ℕ). Stops is_hexadecimal (drop n bs)) e (run_stops is_hexadecimal bs)

    some : (k : ℕ) (text : Text) → text ≡ bs → prefix_len is_hexadecimal text ≡ suc k → Reads (92 ∷ 120 ∷ text) (characters_in (suc turns) (92 ∷ 120 ∷ text))
    some k [] same e = absurd (omega (arith, e))
    some k (d ∷ ds) same e =
        let all : AllAre is_hexadecimal (take (suc k) (d ∷ ds)) = subst (λ (n : ℕ). AllAre is_hexadecimal (take n (d ∷ ds))) e (run_all is_hexadecimal (d ∷ ds)) in
        let stop : Stops is_hexadecimal (drop k ds) = subst (λ (n : ℕ). Stops is_hexadecimal (drop n (d ∷ ds))) e (run_stops is_hexadecimal (d ∷ ds)) in
        let short : length (d ∷ ds) ≤ turns = subst (λ (t : Text). length t ≤ turns) (sym same) le in
        let left : length (drop k ds) ≤ turns = (let q = length-drop k ds in omega (arith, q, short)) in
        let read = Reads.hexadecimal_escape {d = d} (take k ds) (drop k ds) all stop (more (drop k ds) left) in
        let z : eqb (suc k) 0 ≡ false = ne_eqb (suc k) 0 (λ q. absurd (omega arith)) in
        let s : suc k + 1 + 1 ≡ suc (suc (suc k)) = omega arith in
        let at : character_at (92 ∷ 120 ∷ d ∷ ds) ≡ (in_byte (digits_value 16 (d ∷ take k ds)), suc (suc (suc k))) = at_x (d ∷ ds) (suc k) e ∙ rw (z, s) refl in
        rw (from_first turns 92 (120 ∷ d ∷ ds) (in_byte (digits_value 16 (d ∷ take k ds))) (suc (suc (suc k))) at)
        (subst (λ (t : Text). Reads (92 ∷ 120 ∷ d ∷ t) (in_byte (digits_value 16 (d ∷ take k ds)) ∷ characters_in turns (drop k ds))) (take-append-drop k ds) read)

    by : (n : ℕ) → prefix_len is_hexadecimal bs ≡ n → Reads (92 ∷ 120 ∷ bs) (characters_in (suc turns) (92 ∷ 120 ∷ bs))
    by zero e = rw (from_first turns 92 (120 ∷ bs) characters.Wrong 2 (at_x bs 0 e)) (Reads.wrong (record { no_simple = refl; no_octal = refl; no_universal = refl; no_hexadecimal = λ is. stops e }) (more bs le))
    by (suc k) e = some k bs refl e

read_other : (turns b : ℕ) (bs : Text) → length bs ≤ turns → is_octal b ≡ false → eqb b 120 ≡ false → Behind turns → Reads (92 ∷ b ∷ bs) (characters_in (suc turns) (92 ∷ b ∷ bs))
read_other turns b bs le o x more = by (is_universal b) refl (simple b) refl
  where
    by : (u : Bool) → is_universal b ≡ u → (s : Option ℕ) → simple b ≡ s → Reads (92 ∷ b ∷ bs) (characters_in (suc turns) (92 ∷ b ∷ bs))
    by true u s e = rw (from_first turns 92 (b ∷ bs) characters.Universal 2 (at_universal b bs o x u)) (Reads.universal u (more bs le))
    by false u (Some v) e = rw (from_first turns 92 (b ∷ bs) (characters.Byte v) 2 (at_simple b bs (Some v) o x u e)) (Reads.simple_escape e (more bs le))
    by false u None e = rw (from_first turns 92 (b ∷ bs) characters.Wrong 2 (at_simple b bs None o x u e))
        (Reads.wrong (record { no_simple = e; no_octal = o; no_universal = u; no_hexadecimal = λ is. absurd (false≢true (sym x ∙ eq-eqb b 120 is)) }) (more bs le))

read_escape : (turns b : ℕ) (bs : Text) → length bs ≤ turns → Behind turns → Reads (92 ∷ b ∷ bs) (characters_in (suc turns) (92 ∷ b ∷ bs))
read_escape turns b bs le more = elim (cases_Bool (is_octal b)) [
  | inl o ↦ read_octal turns b bs le o more
  | inr o ↦ elim (cases_Bool (eqb b 120)) [
    | inl x ↦ (let same = eqb-true b 120 x in subst (λ (n : ℕ). Reads (92 ∷ n ∷ bs) (characters_in (suc turns) (92 ∷ n ∷ bs))) (sym same) (read_x turns bs le more))
    | inr x ↦ read_other turns b bs le o x more
  ]
]

read_backslash : (turns : ℕ) (bs : Text) → length bs ≤ turns → Behind turns → Reads (92 ∷ bs) (characters_in (suc turns) (92 ∷ bs))
read_backslash turns [] le more = rw (from_first turns 92 [] characters.Wrong 1 at_alone, none_in turns) Reads.alone
read_backslash turns (b ∷ bs) le more = read_escape turns b bs (omega arith) more

pub reads : (turns : ℕ) (body : Text) → length body ≤ turns → Reads body (characters_in turns body)
reads turns [] le = rw (none_in turns) Reads.done
reads zero (b ∷ bs) le = absurd (omega arith)
reads (suc turns) (b ∷ bs) le = elim (cases_Bool (eqb b 92)) [
  | inl e ↦ (let same = eqb-true b 92 e in subst (λ (n : ℕ). Reads (n ∷ bs) (characters_in (suc turns) (n ∷ bs))) (sym same) (read_backslash turns bs (omega arith) (λ rest short. reads turns rest short)))
  | inr e ↦ read_plain turns b bs (omega arith) e (λ rest short. reads turns rest short)
]

-- ---- nothing else is read
none_simple : (b v : ℕ) → simple b ≡ None → simple b ≡ Some v → ⊥
none_simple b v n e = let bad : ◌≡◌ {A = Option ℕ} None (Some v) = sym n ∙ e in cc

-- of the bytes that simple escapes have, none begins another one
simple_octal : (b v : ℕ) → simple b ≡ Some v → is_octal b ≡ false
simple_octal b v e = grind (arith, nat_tests)

simple_x : (b v : ℕ) → simple b ≡ Some v → eqb b 120 ≡ false
simple_x b v e = elim (cases_Bool (eqb b 120)) [ inl x ↦ absurd (none_simple 120 v refl (subst (λ (n : ℕ). simple n ≡ Some v) (eqb-true b 120 x) e)) | inr x ↦ x ]

simple_universal : (b v : ℕ) → simple b ≡ Some v → is_universal b ≡ false
simple_universal b v e = elim (cases_Bool (is_universal b)) [
  | inl u ↦ elim (or_cases (eqb b 117) (eqb b 85) u) [
    | inl x ↦ absurd (none_simple 117 v refl (subst (λ (n : ℕ). simple n ≡ Some v) (eqb-true b 117 x) e))
    | inr x ↦ absurd (none_simple 85 v refl (subst (λ (n : ℕ). simple n ≡ Some v) (eqb-true b 85 x) e))
  ]
  | inr u ↦ u
]

universal_octal : (b : ℕ) → is_universal b ≡ true → is_octal b ≡ false
universal_octal b e = grind (arith, nat_tests)

universal_x : (b : ℕ) → is_universal b ≡ true → eqb b 120 ≡ false
universal_x b e = grind (arith, nat_tests)

-- a character that is found, and what is read behind it
read_on : (turns b n : ℕ) (bs rest : Text) (c : Character) (cs : List Character) → character_at (b ∷ bs) ≡ (c, n) → drop n (b ∷ bs) ≡ rest → characters_in turns rest ≡ cs
    → characters_in (suc turns) (b ∷ bs) ≡ c ∷ cs
read_on turns b n bs rest c cs at left more = from_first turns b bs c n at ∙ ap (λ (t : List Character). c ∷ t) (ap (characters_in turns) left ∙ more)

-- how long an octal escape is
octal_run : (d : ℕ) (ds bs : Text) → AllAre is_octal (d ∷ ds) → length ds ≤ 2 → (length ds ≡ 2) ⊎ Stops is_octal bs → octal_len (d ∷ (ds ++ bs)) ≡ length (d ∷ ds)
octal_run d ds bs all short ends = elim ends [
  | inl two ↦ (let far = run_reaches is_octal (d ∷ ds) bs all in omega (arith, far, two))
  | inr stops ↦ (let run = run_len is_octal (d ∷ ds) bs all stops in omega (arith, run, short))
]

wrong_at : (b : ℕ) (bs : Text) → IsNoEscape b bs → character_at (92 ∷ b ∷ bs) ≡ (characters.Wrong, 2)
wrong_at b bs h = elim (cases_Bool (eqb b 120)) [
  | inl x ↦ (
      let same = eqb-true b 120 x in
      let none : prefix_len is_hexadecimal bs ≡ 0 = stopped bs (h.no_hexadecimal same) in
      subst (λ (n : ℕ). character_at (92 ∷ n ∷ bs) ≡ (characters.Wrong, 2)) (sym same) (at_x bs 0 none))
  | inr x ↦ at_simple b bs None h.no_octal x h.no_universal h.no_simple
]
  where
    stopped : (t : Text) → Stops is_hexadecimal t → prefix_len is_hexadecimal t ≡ 0
    stopped [] s = refl
    stopped (c ∷ cs) s = rw s refl

pub reads_is : (turns : ℕ) (body : Text) (cs : List Character) → length body ≤ turns → Reads body cs → characters_in turns body ≡ cs
reads_is turns [] cs le Reads.done = none_in turns
reads_is zero (b ∷ bs) cs le h = absurd (omega arith)
reads_is (suc turns) (b ∷ bs) cs le (Reads.plain no_escape h) =
    read_on turns b 1 bs bs (characters.Byte b) _ (at_plain b bs (ne_eqb b 92 no_escape)) refl (reads_is turns bs _ (omega arith) h)
reads_is (suc turns) (a ∷ b ∷ bs) cs le (Reads.simple_escape {v = v} e h) =
    read_on turns 92 2 (b ∷ bs) bs (characters.Byte v) _ (at_simple b bs (Some v) (simple_octal b v e) (simple_x b v e) (simple_universal b v e) e) refl (reads_is turns bs _ (omega arith) h)
reads_is (suc turns) (a ∷ d ∷ more) cs le (Reads.octal_escape ds bs all short ends h) =
    let len = octal_run d ds bs all short ends in
    let at : character_at (92 ∷ d ∷ (ds ++ bs)) ≡ (in_byte (digits_value 8 (d ∷ ds)), length (d ∷ ds) + 1) =
    at_octal d (ds ++ bs) (length (d ∷ ds)) all.0 len ∙ ap (λ (t : Text). (in_byte (digits_value 8 t), length (d ∷ ds) + 1)) (take_at (d ∷ ds) bs _ refl) in
    let s : length (d ∷ ds) + 1 ≡ suc (length (d ∷ ds)) = omega arith in
    let left : drop (length (d ∷ ds) + 1) (92 ∷ d ∷ (ds ++ bs)) ≡ bs = rw s (drop_at (d ∷ ds) bs _ refl) in
    let parts : length (d ∷ (ds ++ bs)) ≡ suc (length ds + length bs) = simp length-append refl in
    read_on turns 92 (length (d ∷ ds) + 1) (d ∷ (ds ++ bs)) bs _ _ at left (reads_is turns bs _ (omega (arith, parts)) h)
reads_is (suc turns) (a ∷ x ∷ d ∷ more) cs le (Reads.hexadecimal_escape ds bs all stops h) =
    let len : prefix_len is_hexadecimal (d ∷ (ds ++ bs)) ≡ length (d ∷ ds) = run_len is_hexadecimal (d ∷ ds) bs all stops in
    let z : eqb (length (d ∷ ds)) 0 ≡ false = ne_eqb (length (d ∷ ds)) 0 (λ q. absurd (omega arith)) in
    let at : character_at (92 ∷ 120 ∷ d ∷ (ds ++ bs)) ≡ (in_byte (digits_value 16 (d ∷ ds)), length (d ∷ ds) + 1 + 1) =
    at_x (d ∷ (ds ++ bs)) (length (d ∷ ds)) len ∙ rw z (ap (λ (t : Text). (in_byte (digits_value 16 t), length (d ∷ ds) + 1 + 1)) (take_at (d ∷ ds) bs _ refl)) in
    let s : length (d ∷ ds) + 1 + 1 ≡ suc (suc (length (d ∷ ds))) = omega arith in
    let left : drop (length (d ∷ ds) + 1 + 1) (92 ∷ 120 ∷ d ∷ (ds ++ bs)) ≡ bs = rw s (drop_at (d ∷ ds) bs _ refl) in
    let parts : length (d ∷ (ds ++ bs)) ≡ suc (length ds + length bs) = simp length-append refl in
    read_on turns 92 (length (d ∷ ds) + 1 + 1) (120 ∷ d ∷ (ds ++ bs)) bs _ _ at left (reads_is turns bs _ (omega (arith, parts)) h)
reads_is (suc turns) (a ∷ b ∷ bs) cs le (Reads.universal u h) =
    read_on turns 92 2 (b ∷ bs) bs characters.Universal _ (at_universal b bs (universal_octal b u) (universal_x b u) u) refl (reads_is turns bs _ (omega arith) h)
reads_is (suc turns) (a ∷ b ∷ bs) cs le (Reads.wrong none h) =
    read_on turns 92 2 (b ∷ bs) bs characters.Wrong _ (wrong_at b bs none) refl (reads_is turns bs _ (omega arith) h)
reads_is (suc turns) (a ∷ []) cs le Reads.alone = read_on turns 92 1 [] [] characters.Wrong [] at_alone refl (none_in turns)
