-- The characters of a literal that has one.
use Rattle.std.proofs.Common.{◌≡◌, ℕ, zero, suc, ◌<◌, ◌≤◌, List, [], ◌∷◌, length, drop, refl, sym, ap, ◌∙◌, arith, length-drop}
use Rattle.std.proofs.lemmas.List.{drop_all}
use Rattle.sv_base.specs.declared.fault.FaultKind.TheVariants as faults
use Rattle.std.specs.Prelude.{Ok, Err}
use Rattle.c_syntax.specs.declared.token.TokenKind.TheVariants as kinds
use Rattle.c_lexer.specs.Bytes.{Text}
use Rattle.c_lexer.specs.Meaning.{Meaning, wide_character, only_character, signed}
use Rattle.c_lexer.specs.computed.Values.{character_at, characters_in, all_characters}
use Rattle.c_lexer.specs.declared.character.Character.{Character}
use Rattle.c_lexer.specs.declared.character.Character.TheVariants as characters

nothing_left : (turns : ℕ) → characters_in turns [] ≡ []
unfolding characters_in
nothing_left turns = refl

first_is : (b : ℕ) (bs : Text) → all_characters (b ∷ bs) ≡ (character_at (b ∷ bs)).0 ∷ characters_in (length bs) (drop (character_at (b ∷ bs)).1 (b ∷ bs))
unfolding characters_in
first_is b bs = refl

something : (turns : ℕ) (text : Text) → 0 < turns → 0 < length text → (c : Character) × (cs : List Character) × (characters_in turns text ≡ c ∷ cs)
unfolding characters_in
something zero text t some = absurd (omega arith)
something (suc turns) [] t some = absurd (omega arith)
something (suc turns) (b ∷ bs) t some = (_, _, refl)

pub none : (body : Text) → length body ≡ 0 → Err faults.Lex ≡ only_character (all_characters body)
unfolding characters_in
none [] e = refl
none (b ∷ bs) e = absurd (omega arith)

two : (c d : Character) (cs : List Character) → ◌≡◌ {A = Meaning} (Err wide_character) (only_character (c ∷ d ∷ cs))
two (characters.Byte v) d cs = refl
two characters.Universal d cs = refl
two characters.Wrong d cs = refl

pub several : (body : Text) → 0 < length body → 0 < (character_at body).1 → (character_at body).1 < length body → ◌≡◌ {A = Meaning} (Err wide_character) (only_character (all_characters body))
several [] some len lt = absurd (omega arith)
several (b ∷ bs) some len lt =
    let n = (character_at (b ∷ bs)).1 in
    let left : 0 < length (drop n (b ∷ bs)) = (let e = length-drop n (b ∷ bs) in omega (arith, e, lt)) in
    let more = something (length bs) (drop n (b ∷ bs)) (omega (arith, len, lt)) left in
    let all : all_characters (b ∷ bs) ≡ (character_at (b ∷ bs)).0 ∷ more.0 ∷ more.1 = first_is b bs ∙ ap (λ (cs : List Character). (character_at (b ∷ bs)).0 ∷ cs) more.2 in
    two (character_at (b ∷ bs)).0 more.0 more.1 ∙ ap only_character (sym all)

only : (body : Text) → 0 < length body → length body ≤ (character_at body).1 → all_characters body ≡ (character_at body).0 ∷ []
only [] some le = absurd (omega arith)
only (b ∷ bs) some le =
    let n = (character_at (b ∷ bs)).1 in
    let left : drop n (b ∷ bs) ≡ [] = drop_all n (b ∷ bs) le in
    first_is b bs ∙ ap (λ (cs : List Character). (character_at (b ∷ bs)).0 ∷ cs) (ap (characters_in (length bs)) left ∙ nothing_left (length bs))

pub one_byte : (body : Text) (v : ℕ) → 0 < length body → length body ≤ (character_at body).1 → (character_at body).0 ≡ characters.Byte v → ◌≡◌ {A = Meaning} (Ok (kinds.Character (signed v))) (only_character (all_characters body))
one_byte body v some le e = ap only_character (sym (only body some le ∙ ap (λ (c : Character). c ∷ []) e))

pub one_universal : (body : Text) → 0 < length body → length body ≤ (character_at body).1 → (character_at body).0 ≡ characters.Universal → ◌≡◌ {A = Meaning} (Err wide_character) (only_character (all_characters body))
one_universal body some le e = ap only_character (sym (only body some le ∙ ap (λ (c : Character). c ∷ []) e))

pub one_wrong : (body : Text) → 0 < length body → length body ≤ (character_at body).1 → (character_at body).0 ≡ characters.Wrong → ◌≡◌ {A = Meaning} (Err wide_character) (only_character (all_characters body))
one_wrong body some le e = ap only_character (sym (only body some le ∙ ap (λ (c : Character). c ∷ []) e))
