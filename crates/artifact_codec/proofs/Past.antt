-- What is gone past is a value of its kind that meets the demands: sets, constraints, colours and clusters.
use Rattle.std.proofs.Common.{◌≡◌, ℕ, Bool, true, false, cond, ◌&&◌, List, [], ◌∷◌, Option, Some, None, refl, sym, ap, subst, ◌∙◌}
use Rattle.std.specs.Prelude.{nat_lt}
use Rattle.std.specs.List.{list_all}
use Rattle.std.proofs.lemmas.Bool.{and_parts, and_from}
use Rattle.sv_base.specs.declared.colour.Colour.{Colour}
use Rattle.sv_base.specs.declared.ids.SiteId.{SiteId}
use Rattle.core_ir.specs.Constraints.{is_constraint_before}
use Rattle.artifact_codec.specs.Spelling.{number, numbers, counted, constraint, site_colour}
use Rattle.artifact_codec.specs.Demands.{is_short, is_u32, is_after, ascend, is_constraint, constraint_fits, are_constraints, is_set, are_sets, are_colours}
use Rattle.artifact_codec.specs.computed.Reading.{◌>>=◌, site_colour_at}
use Rattle.artifact_codec.specs.computed.Checking.{counted_past, ordered_past, checked, next_constraint, next_number, next_site_colour, set_past}
use Rattle.artifact_codec.proofs.Parts.{guard_some, some_is, first, Takes, IsField, number_field}
use Rattle.artifact_codec.proofs.Rows.{constraint_field, site_colour_field, site_fits}
use Rattle.artifact_codec.proofs.Lists.{IsPast, counted_is_past, IsNext, ordered_is_past, chain_is, list_all_both}

-- ---- the same demands in other words

pub past_same : {A : Type 0} {past : List ℕ → Option (List ℕ)} {spell : A → List ℕ} {good : A → Bool} (better : A → Bool) → ((x : A) → good x ≡ better x) → IsPast past spell good → IsPast past spell better
past_same better e is = record {
  takes = λ bytes rest fits h. let g = is.takes bytes rest fits h in record { value = g.value; takes = g.takes; holds = sym (e g.value) ∙ g.holds };
  again = λ x rest h. is.again x rest (e x ∙ h);
}

pub next_same : {A K : Type 0} {next : Option K → List ℕ → Option (K × List ℕ)} {spell : A → List ℕ} {key : A → K} {good : Option K → A → Bool} (better : Option K → A → Bool) → ((last : Option K) (x : A) → good last x ≡ better last x) → IsNext next spell key good → IsNext next spell key better
next_same better e is = record {
  takes = λ last bytes k rest fits h. let g = is.takes last bytes k rest fits h in record { value = g.value; key_is = g.key_is; takes = g.takes; holds = sym (e last g.value) ∙ g.holds };
  again = λ last x rest h. is.again last x rest (e last x ∙ h);
}

pub list_all_same : {A : Type 0} (p q : A → Bool) → ((x : A) → p x ≡ q x) → (xs : List A) → list_all p xs ≡ list_all q xs
list_all_same p q e [] = refl
list_all_same p q e (x ∷ xs) = ap (λ b. b && list_all p xs) (e x) ∙ ap (λ b. q x && b) (list_all_same p q e xs)

-- ---- fields with a test

pub checked_field : {A : Type 0} {at : List ℕ → Option (A × List ℕ)} {spell : A → List ℕ} {fits : A → Bool} (good : A → Bool) → IsField at spell fits → IsField (λ bytes. checked good (at bytes)) spell (λ x. good x && fits x)
checked_field {at = at} {spell = spell} {fits = fits} good field = record {
  takes = λ bytes x rest small e.
      let f = first field (λ y. cond (good y.0) (Some y) None) bytes (x, rest) small e in
      let g = guard_some (good f.value) (f.value, f.rest) (x, rest) f.then_is in
      subst (λ (p : _ × List ℕ). Takes bytes (spell p.0) p.1 × ((good p.0 && fits p.0) ≡ true)) g.1 (f.takes, and_from (good f.value) (fits f.value) g.0 f.holds);
  again = λ x rest h.
      let p = and_parts (good x) (fits x) h in
      rw (field.again x rest p.1, p.0) refl;
}

-- a field for each value that may stand before, seen as a next value
pub next_field : {A : Type 0} (at : Option A → List ℕ → Option (A × List ℕ)) (spell : A → List ℕ) (good : Option A → A → Bool) → ((last : Option A) → IsField (at last) spell (good last)) → IsNext at spell (λ x. x) good
next_field at spell good field = record {
  takes = λ last bytes k rest fits e.
      let t = (field last).takes bytes k rest fits e in
      record { value = k; key_is = refl; takes = t.0; holds = t.1 };
  again = λ last x rest h. (field last).again x rest h;
}

pub next_keyed : {A K : Type 0} (at : Option K → List ℕ → Option (A × List ℕ)) (spell : A → List ℕ) (key : A → K) (good : Option K → A → Bool) → ((last : Option K) → IsField (at last) spell (good last)) → IsNext (λ last bytes. at last bytes >>= λ x. Some (key x.0, x.1)) spell key good
next_keyed {A} {K} at spell key good field = record {
  takes = λ last bytes k rest fits e.
      let f = first (field last) (λ x. Some (key x.0, x.1)) bytes (k, rest) fits e in
      let same = some_is (key f.value, f.rest) (k, rest) f.then_is in
      record { value = f.value; key_is = ap (λ (p : K × List ℕ). p.0) same; takes = subst (λ r. Takes bytes (spell f.value) r) (ap (λ (p : K × List ℕ). p.1) same) f.takes; holds = f.holds };
  again = λ last x rest h. rw ((field last).again x rest h) refl;
}

pub last_of_three : (a b c : Bool) → ((a && b) && c) ≡ ((a && c) && b)
last_of_three true true true = refl
last_of_three true true false = refl
last_of_three true false true = refl
last_of_three true false false = refl
last_of_three false b c = refl

pub turned : (a b : Bool) → (a && b) ≡ (b && a)
turned true true = refl
turned true false = refl
turned false true = refl
turned false false = refl

pub regroup : (a b c : Bool) → (a && (b && c)) ≡ ((a && b) && c)
regroup true b c = refl
regroup false b c = refl

pub spread : (a b c d : Bool) → (a && ((b && c) && d)) ≡ (((a && b) && d) && c)
spread true true c d = turned c d
spread true false c d = refl
spread false b c d = refl

-- ---- numbers and sets

pub number_next : IsNext next_number number (λ n. n) (λ last n. is_u32 n && is_after nat_lt last n)
unfolding next_number
number_next = next_same (λ last n. is_u32 n && is_after nat_lt last n) (λ last n. turned (is_after nat_lt last n) (is_u32 n))
    (next_field next_number number (λ last n. is_after nat_lt last n && is_u32 n) (λ last. checked_field (λ n. is_after nat_lt last n) number_field))

pub set_is_past : IsPast set_past numbers (λ ns. is_set ns && list_all is_u32 ns)
unfolding set_past
set_is_past = past_same (λ ns. is_set ns && list_all is_u32 ns)
    (λ ns. ap (λ b. is_short ns && b) (chain_is (λ n. n) is_u32 nat_lt None ns ∙ turned (list_all is_u32 ns) (ascend nat_lt ns)) ∙ regroup (is_short ns) (ascend nat_lt ns) (list_all is_u32 ns))
    (ordered_is_past next_number number (λ n. n) (λ last n. is_u32 n && is_after nat_lt last n) number_next)

pub sets_are_past : IsPast (counted_past set_past) (counted numbers) (λ sets. are_sets sets && list_all (list_all is_u32) sets)
sets_are_past = past_same (λ sets. are_sets sets && list_all (list_all is_u32) sets)
    (λ sets. ap (λ b. is_short sets && b) (list_all_both is_set (list_all is_u32) sets) ∙ regroup (is_short sets) (list_all is_set sets) (list_all (list_all is_u32) sets))
    (counted_is_past set_past numbers (λ ns. is_set ns && list_all is_u32 ns) set_is_past)

-- ---- constraints

constraint_next : IsNext next_constraint constraint (λ c. c) (λ last c. (is_constraint c && constraint_fits c) && is_after is_constraint_before last c)
unfolding next_constraint
constraint_next = next_same (λ last c. (is_constraint c && constraint_fits c) && is_after is_constraint_before last c) (λ last c. last_of_three (is_constraint c) (is_after is_constraint_before last c) (constraint_fits c))
    (next_field next_constraint constraint (λ last c. (is_constraint c && is_after is_constraint_before last c) && constraint_fits c) (λ last. checked_field (λ c. is_constraint c && is_after is_constraint_before last c) constraint_field))

pub constraints_are_past : IsPast (ordered_past next_constraint) (counted constraint) (λ cs. are_constraints cs && list_all constraint_fits cs)
constraints_are_past = past_same (λ cs. are_constraints cs && list_all constraint_fits cs)
    (λ cs. ap (λ b. is_short cs && b) (chain_is (λ c. c) (λ c. is_constraint c && constraint_fits c) is_constraint_before None cs ∙ ap (λ b. b && ascend is_constraint_before cs) (list_all_both is_constraint constraint_fits cs)) ∙ spread (is_short cs) (list_all is_constraint cs) (list_all constraint_fits cs) (ascend is_constraint_before cs))
    (ordered_is_past next_constraint constraint (λ c. c) (λ last c. (is_constraint c && constraint_fits c) && is_after is_constraint_before last c) constraint_next)

-- ---- colours

site_next : IsNext next_site_colour site_colour (λ p. p.0.0) (λ last p. site_fits p && is_after nat_lt last p.0.0)
unfolding next_site_colour
site_next = next_same (λ last p. site_fits p && is_after nat_lt last p.0.0) (λ last p. turned (is_after nat_lt last p.0.0) (site_fits p))
    (next_keyed (λ last bytes. checked (λ p. is_after nat_lt last p.0.0) (site_colour_at bytes)) site_colour (λ p. p.0.0) (λ last p. is_after nat_lt last p.0.0 && site_fits p) (λ last. checked_field (λ p. is_after nat_lt last p.0.0) site_colour_field))

pub colours_are_past : IsPast (ordered_past next_site_colour) (counted site_colour) (λ cs. are_colours cs && list_all site_fits cs)
colours_are_past = past_same (λ cs. are_colours cs && list_all site_fits cs)
    (λ cs. ap (λ b. is_short cs && b) (chain_is (λ (p : SiteId × Colour). p.0.0) site_fits nat_lt None cs ∙ turned (list_all site_fits cs) (ascend (λ a b. nat_lt a.0.0 b.0.0) cs)) ∙ regroup (is_short cs) (ascend (λ a b. nat_lt a.0.0 b.0.0) cs) (list_all site_fits cs))
    (ordered_is_past next_site_colour site_colour (λ p. p.0.0) (λ last p. site_fits p && is_after nat_lt last p.0.0) site_next)
