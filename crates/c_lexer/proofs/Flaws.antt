-- Going through the characters of a literal.
use Rattle.std.proofs.Common.{◌≡◌, ℕ, suc, ◌<◌, Bool, true, false, ◌||◌, eqb, [], ◌∷◌, length, drop, refl, sym, ap, ◌∙◌, arith}
use Rattle.std.specs.List.{list_any}
use Rattle.c_lexer.specs.Bytes.{Text}
use Rattle.c_lexer.specs.computed.Values.{character_at, characters_in}
use Rattle.c_lexer.specs.declared.character.Character.{Character}

or_assoc : (a b c : Bool) → ((a || b) || c) ≡ (a || (b || c))
or_assoc true b c = refl
or_assoc false b c = refl

or_false : (a : Bool) → (a || false) ≡ a
or_false true = refl
or_false false = refl

none_left : (turns : ℕ) (rest : Text) → length rest ≡ 0 → characters_in turns rest ≡ []
unfolding characters_in
none_left turns [] e = refl
none_left turns (b ∷ bs) e = absurd (omega arith)

-- at the end
pub ended : (test : Character → Bool) (before total : Bool) (turns : ℕ) (rest : Text) → length rest ≡ 0 → (before || list_any test (characters_in turns rest)) ≡ total → before ≡ total
ended test before total turns rest e so_far =
    let none : list_any test (characters_in turns rest) ≡ false = ap (list_any test) (none_left turns rest e) in
    sym (or_false before) ∙ ap (λ (b : Bool). before || b) (sym none) ∙ so_far

-- one character more
pub one_more : (test : Character → Bool) (before total : Bool) (turns : ℕ) (rest : Text) → 0 < length rest → (before || list_any test (characters_in (suc turns) rest)) ≡ total
    → ((before || test (character_at rest).0) || list_any test (characters_in turns (drop (character_at rest).1 rest))) ≡ total
unfolding characters_in
one_more test before total turns [] some so_far = absurd (omega arith)
one_more test before total turns (b ∷ bs) some so_far = or_assoc before (test (character_at (b ∷ bs)).0) _ ∙ so_far

pub some_left : (rest : Text) → false ≡ eqb (length rest) 0 → 0 < length rest
some_left [] e = cc
some_left (b ∷ bs) e = omega arith
