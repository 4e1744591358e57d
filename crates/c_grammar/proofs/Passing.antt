-- A limit is passed at one token at most.
use Rattle.std.proofs.Common.{◌≡◌, Bool, List, [], ◌∷◌, ◌++◌, refl, sym, ap, ◌∙◌, subst}
use Rattle.c_tree.specs.declared.lexeme.Lexeme.{Lexeme}
use Rattle.c_grammar.specs.Limits.{IsPassed, Passes}
use Rattle.c_grammar.specs.State.{State}

first_is : (t u : Lexeme) (ts us : List Lexeme) → t ∷ ts ≡ u ∷ us → t ≡ u
first_is t u ts us e = cc

rest_is : (t u : Lexeme) (ts us : List Lexeme) → t ∷ ts ≡ u ∷ us → ts ≡ us
rest_is t u ts us e = cc

-- how two cuts of one list lie to each other, with what stands between them
data Cuts (b : List Lexeme) (t : Lexeme) (us c : List Lexeme) (d : Lexeme) (vs : List Lexeme) : Type 0 where
  same : b ≡ c → t ≡ d → Cuts b t us c d vs
  earlier : (between : List Lexeme) → c ≡ b ++ t ∷ between → us ≡ between ++ d ∷ vs → Cuts b t us c d vs
  later : (between : List Lexeme) → b ≡ c ++ d ∷ between → vs ≡ between ++ t ∷ us → Cuts b t us c d vs

one_further : (x y : Lexeme) (b us c vs : List Lexeme) (t d : Lexeme) → x ≡ y → Cuts b t us c d vs → Cuts (x ∷ b) t us (y ∷ c) d vs
one_further x y b us c vs t d e (Cuts.same p q) = Cuts.same (ap (λ (ts : List Lexeme). x ∷ ts) p ∙ ap (λ (u : Lexeme). u ∷ c) e) q
one_further x y b us c vs t d e (Cuts.earlier between p q) =
    Cuts.earlier between (ap (λ (u : Lexeme). u ∷ c) (sym e) ∙ ap (λ (ts : List Lexeme). x ∷ ts) p) q
one_further x y b us c vs t d e (Cuts.later between p q) =
    Cuts.later between (ap (λ (u : Lexeme). u ∷ b) e ∙ ap (λ (ts : List Lexeme). y ∷ ts) p) q

cuts_of : (b : List Lexeme) (t : Lexeme) (us c : List Lexeme) (d : Lexeme) (vs : List Lexeme) → b ++ t ∷ us ≡ c ++ d ∷ vs
    → Cuts b t us c d vs
cuts_of [] t us [] d vs e = Cuts.same refl (first_is t d us vs e)
cuts_of [] t us (y ∷ c) d vs e =
    Cuts.earlier c (ap (λ (u : Lexeme). u ∷ c) (sym (first_is t y us (c ++ d ∷ vs) e))) (rest_is t y us (c ++ d ∷ vs) e)
cuts_of (x ∷ b) t us [] d vs e =
    Cuts.later b (ap (λ (u : Lexeme). u ∷ b) (first_is x d (b ++ t ∷ us) vs e)) (sym (rest_is x d (b ++ t ∷ us) vs e))
cuts_of (x ∷ b) t us (y ∷ c) d vs e = one_further x y b us c vs t d (first_is x y (b ++ t ∷ us) (c ++ d ∷ vs) e)
    (cuts_of b t us c d vs (rest_is x y (b ++ t ∷ us) (c ++ d ∷ vs) e))

not_earlier : {passed : State → Bool} {b us c vs : List Lexeme} {t d : Lexeme} (between : List Lexeme) → Passes passed b t us
    → Passes passed c d vs → c ≡ b ++ t ∷ between → us ≡ between ++ d ∷ vs → ⊥
not_earlier {passed} {b} {t = t} between p q e f =
    q.not_before b t between e (subst (λ (ts : List Lexeme). IsPassed passed (b ++ t ∷ []) ts) f p.here)

one_place : {passed : State → Bool} {b us c vs : List Lexeme} {t d : Lexeme} → Passes passed b t us → Passes passed c d vs
    → Cuts b t us c d vs → (b ≡ c) × (t ≡ d)
one_place p q (Cuts.same e f) = (e, f)
one_place p q (Cuts.earlier between e f) = absurd (not_earlier between p q e f)
one_place p q (Cuts.later between e f) = absurd (not_earlier between q p e f)

pub passed_at_one : {passed : State → Bool} {b us c vs : List Lexeme} {t d : Lexeme} → Passes passed b t us → Passes passed c d vs
    → b ++ t ∷ us ≡ c ++ d ∷ vs → (b ≡ c) × (t ≡ d)
passed_at_one {b = b} {us = us} {c = c} {vs = vs} {t = t} {d = d} p q e = one_place p q (cuts_of b t us c d vs e)
