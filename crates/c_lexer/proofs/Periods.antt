-- The marks that begin with a period.
use Rattle.std.proofs.Common.{◌≡◌, ℕ, ◌≤◌, ◌-◌, Bool, true, false, eqb, cond, List, [], ◌∷◌, length, get_or, take, drop, Some, refl, sym, ap, ◌∙◌, arith}
use Rattle.std.proofs.lemmas.List.{take_all}
use Rattle.std.specs.List.{starts_with}
use Rattle.c_lexer.specs.computed.Marks.{mark_len}

pub dots : (rest : List ℕ) → mark_len (46 ∷ rest) ≡ cond (starts_with eqb rest (46 ∷ 46 ∷ [])) (Some (33, 3)) (Some (6, 1))
unfolding mark_len
dots [] = refl
dots (b ∷ []) = by (eqb 46 b) refl
  where
    by : (t : Bool) → eqb 46 b ≡ t → mark_len (46 ∷ b ∷ []) ≡ cond (starts_with eqb (b ∷ []) (46 ∷ 46 ∷ [])) (Some (33, 3)) (Some (6, 1))
    by true e = rw e refl
    by false e = rw e refl
dots (b ∷ c ∷ bs) = by (eqb 46 b) refl (eqb 46 c) refl
  where
    by : (t : Bool) → eqb 46 b ≡ t → (u : Bool) → eqb 46 c ≡ u → mark_len (46 ∷ b ∷ c ∷ bs) ≡ cond (starts_with eqb (b ∷ c ∷ bs) (46 ∷ 46 ∷ [])) (Some (33, 3)) (Some (6, 1))
    by true e true f = rw (e, f) refl
    by true e false f = rw (e, f) refl
    by false e u f = rw e refl

pub at_dots : (rest : List ℕ) → true ≡ starts_with eqb rest (46 ∷ 46 ∷ []) → Some (33, 3) ≡ mark_len (46 ∷ rest)
at_dots rest e = sym (dots rest ∙ rw (sym e) refl)

pub at_dot : (rest : List ℕ) → false ≡ starts_with eqb rest (46 ∷ 46 ∷ []) → Some (6, 1) ≡ mark_len (46 ∷ rest)
at_dot rest e = sym (dots rest ∙ rw (sym e) refl)

pub front_is : (text : List ℕ) (b : ℕ) → 1 ≤ length text → get_or text 0 0 ≡ b → b ∷ take (length text - 1) (drop 1 text) ≡ text
front_is [] b some e = absurd (omega arith)
front_is (a ∷ bs) b some e =
    let all : take (length (a ∷ bs) - 1) bs ≡ bs = take_all (length (a ∷ bs) - 1) bs (omega arith) in
    rw all (ap (λ (x : ℕ). x ∷ bs) (sym e))
