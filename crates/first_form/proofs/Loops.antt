-- Reading one thing after another, as a loop does.
use Rattle.std.proofs.Common.{◌≡◌, ℕ, suc, ◌-◌, ◌+◌, ◌≤◌, ◌<◌, Bool, true, false, List, [], ◌∷◌, ◌++◌, Option, Some, None, refl, sym, ap, ◌∙◌, append_assoc, arith}
use Rattle.std.proofs.lemmas.List.{append-nil}
use Rattle.first_form.specs.Pieces.{Piece}
use Rattle.c_lexer.specs.computed.Settings.{◌>>=◌}
use Rattle.first_form.specs.computed.Reading.{Fails, many}
use Rattle.first_form.specs.declared.refusal.Refusal.{Refusal}
use Rattle.first_form.specs.declared.refusal.Refusal.TheVariants as refusals

-- the whole fails as its part does
pub fails_too : {Y Z : Type 0} (e : Refusal) (read : Option Y) (total : Option Z) → (read ≡ None → total ≡ None) → Fails e read → Fails e total
fails_too refusals.NotOfForm read total f h = f h
fails_too refusals.NoMemory read total f h = tt

-- what was read before, and what is still read
abbrev pub front_of : {A : Type 0} → List A → Option (List A × List Piece) → Option (List A × List Piece)
front_of front read = read >>= λ x. Some (front ++ x.0, x.1)

regroup : {A : Type 0} (front : List A) (a : A) (read : Option (List A × List Piece)) → front_of front (read >>= λ x. Some (a ∷ x.0, x.1)) ≡ front_of (front ++ a ∷ []) read
regroup front a None = refl
regroup {A} front a (Some x) = ap (λ (xs : List A). Some (xs, x.1)) (simp append_assoc)

module _ {A : Type 0} (stop : List Piece → Bool) (one : List Piece → Option (A × List Piece)) (front : List A) (end counter : ℕ) (ps : List Piece) (total : Option (List A × List Piece)) (so_far : front_of front (many stop one (end - counter) ps) ≡ total) where
  pub stops : counter < end → stop ps ≡ true → total ≡ Some (front, ps)
  unfolding many
  stops lt e =
      let k : end - counter ≡ suc (end - (counter + 1)) = omega arith in
      let at_end : front_of front (many stop one (end - counter) ps) ≡ Some (front, ps) = rw (k, e) (ap (λ (xs : List A). Some (xs, ps)) (append-nil front)) in
      sym so_far ∙ at_end

  pub fails : counter < end → stop ps ≡ false → one ps ≡ None → total ≡ None
  unfolding many
  fails lt e none =
      let k : end - counter ≡ suc (end - (counter + 1)) = omega arith in
      let at_end : front_of front (many stop one (end - counter) ps) ≡ None = rw (k, e, none) refl in
      sym so_far ∙ at_end

  pub goes_on : counter < end → stop ps ≡ false → (a : A) (rest : List Piece) → one ps ≡ Some (a, rest) → front_of (front ++ a ∷ []) (many stop one (end - (counter + 1)) rest) ≡ total
  unfolding many
  goes_on lt e a rest some =
      let k : end - counter ≡ suc (end - (counter + 1)) = omega arith in
      let at_end : front_of front (many stop one (end - counter) ps) ≡ front_of (front ++ a ∷ []) (many stop one (end - (counter + 1)) rest) = rw (k, e, some) (regroup front a (many stop one (end - (counter + 1)) rest)) in
      sym at_end ∙ so_far

  pub runs_out : end ≤ counter → total ≡ None
  unfolding many
  runs_out le =
      let k : end - counter ≡ 0 = omega arith in
      let at_end : front_of front (many stop one (end - counter) ps) ≡ None = rw k refl in
      sym so_far ∙ at_end
