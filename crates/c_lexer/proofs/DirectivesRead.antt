-- What a directive sets, as the lexer reads it and as it is defined.
use Rattle.std.proofs.Common.{◌≡◌, ℕ, Bool, true, false, ◌||◌, eqb, cond, [], ◌∷◌, ◌++◌, Option, Some, None, refl, sym, ap, ◌∙◌, subst, inl, inr}
use Rattle.std.proofs.lemmas.Bool.{or_cases, or_parts, or_left, or_right, eqb-true, eq-eqb, ne_eqb, false≢true}
use Rattle.c_lexer.specs.Bytes.{Text}
use Rattle.c_lexer.specs.Directives.{IsNamed}
use Rattle.c_lexer.specs.computed.Settings.{with_bytes, spelled, name_in}

-- ---- names in quotes
some_pair : (bytes : Text) (o : Option (Text × Text)) (name behind : Text) → with_bytes bytes o ≡ Some (name, behind) → (more : Text) × (o ≡ Some (more, behind)) × (bytes ++ more ≡ name)
some_pair bytes None name behind e = absurd cc
some_pair bytes (Some p) name behind e =
    let pair : (bytes ++ p.0, p.1) ≡ (name, behind) = cc in
    (p.0, ap (λ (b : Text). Some (p.0, b)) (ap (λ (q : Text × Text). q.1) pair), ap (λ (q : Text × Text). q.0) pair)

pub named_at : (text name behind : Text) → IsNamed text name behind → name_in false text ≡ Some (name, behind)
named_at text name behind IsNamed.close = refl
named_at (b ∷ bs) name behind (IsNamed.plain no_quote no_backslash h) = rw (ne_eqb b 34 no_quote, ne_eqb b 92 no_backslash, named_at bs _ behind h) refl
named_at (a ∷ b ∷ bs) name behind (IsNamed.escaped is h) =
    let e : ((eqb b 34) || (eqb b 92)) ≡ true = elim is [ inl q ↦ or_left _ _ (eq-eqb b 34 q) | inr q ↦ or_right _ _ (eq-eqb b 92 q) ] in
    rw (e, named_at bs _ behind h) refl
named_at (a ∷ b ∷ bs) name behind (IsNamed.backslash no_quote no_backslash h) = rw (ne_eqb b 34 no_quote, ne_eqb b 92 no_backslash, named_at bs _ behind h) refl

-- behind a backslash or not
abbrev IsNamedIn : Bool → Text → Text → Text → Type 0
IsNamedIn false text name behind = IsNamed text name behind
IsNamedIn true text name behind = IsNamed (92 ∷ text) name behind

escaped_is : (b : ℕ) (bs name behind more : Text) → spelled true b ++ more ≡ name → IsNamed bs more behind → IsNamed (92 ∷ b ∷ bs) name behind
escaped_is b bs name behind more same h = by (eqb b 34 || eqb b 92) refl same
  where
    by : (t : Bool) → (eqb b 34 || eqb b 92) ≡ t → cond t (b ∷ []) (92 ∷ b ∷ []) ++ more ≡ name → IsNamed (92 ∷ b ∷ bs) name behind
    by true e same = subst (λ (n : Text). IsNamed (92 ∷ b ∷ bs) n behind) same (IsNamed.escaped (elim (or_cases _ _ e) [ inl q ↦ inl (eqb-true b 34 q) | inr q ↦ inr (eqb-true b 92 q) ]) h)
    by false e same =
        let p = or_parts (eqb b 34) (eqb b 92) e in
        subst (λ (n : Text). IsNamed (92 ∷ b ∷ bs) n behind) same (IsNamed.backslash (λ q. false≢true (sym p.0 ∙ eq-eqb b 34 q)) (λ q. false≢true (sym p.1 ∙ eq-eqb b 92 q)) h)

plain_is : (b : ℕ) (bs name behind : Text) (t u : Bool) → eqb b 34 ≡ t → eqb b 92 ≡ u → cond t (Some ([], bs)) (cond u (name_in true bs) (with_bytes (b ∷ []) (name_in false bs))) ≡ Some (name, behind)
    → (name_in true bs ≡ Some (name, behind) → IsNamed (92 ∷ bs) name behind) → ((more : Text) → name_in false bs ≡ Some (more, behind) → IsNamed bs more behind) → IsNamed (b ∷ bs) name behind
plain_is b bs name behind true u q w e escaped more =
    let pair : ◌≡◌ {A = Text × Text} ([], bs) (name, behind) = cc in
    let first : [] ≡ name = ap (λ (p : Text × Text). p.0) pair in
    let second : bs ≡ behind = ap (λ (p : Text × Text). p.1) pair in
    subst (λ (n : Text). IsNamed (b ∷ bs) n behind) first (subst (λ (x : ℕ). IsNamed (x ∷ bs) [] behind) (sym (eqb-true b 34 q)) (subst (λ (t : Text). IsNamed (34 ∷ bs) [] t) second IsNamed.close))
plain_is b bs name behind false true q w e escaped more = subst (λ (x : ℕ). IsNamed (x ∷ bs) name behind) (sym (eqb-true b 92 w)) (escaped e)
plain_is b bs name behind false false q w e escaped more =
    let p = some_pair (b ∷ []) (name_in false bs) name behind e in
    subst (λ (n : Text). IsNamed (b ∷ bs) n behind) p.2 (IsNamed.plain (λ is. false≢true (sym q ∙ eq-eqb b 34 is)) (λ is. false≢true (sym w ∙ eq-eqb b 92 is)) (more p.0 p.1))

pub named_is : (escaped : Bool) (text name behind : Text) → name_in escaped text ≡ Some (name, behind) → IsNamedIn escaped text name behind
named_is false [] name behind e = absurd cc
named_is true [] name behind e = absurd cc
named_is true (b ∷ bs) name behind e =
    let p = some_pair (spelled true b) (name_in false bs) name behind e in
    escaped_is b bs name behind p.0 p.2 (named_is false bs p.0 behind p.1)
named_is false (b ∷ bs) name behind e = plain_is b bs name behind (eqb b 34) (eqb b 92) refl refl e (λ f. named_is true bs name behind f) (λ more f. named_is false bs more behind f)
