-- The laws of whole spellings.
use Rattle.std.proofs.Common.{◌≡◌, ℕ, Bool, true, false, cond, ◌&&◌, ◌==◌, ◌⊎◌, inl, inr, List, [], ◌∷◌, ◌++◌, length, Option, Some, None, refl, sym, ap, subst, ◌∙◌, append_assoc, arith}
use Rattle.std.specs.Prelude.{IsTrue, is_some, nat_lt, Result, Ok, Err, IfOk, IfSome, IfNone}
use Rattle.std.specs.List.{list_all}
use Rattle.std.proofs.lemmas.Bool.{and_parts, and_from, eqb-true, eq-eqb}
use Rattle.std.proofs.lemmas.List.{append-nil}
use Rattle.core_ir.specs.Plain.{PlainCall, PlainStored, Constraints, Solved, Clusters, Summary, Colours}
use Rattle.artifact_codec.specs.Spelling.{number, numbers, signed, optional, counted, constraint, bounds, matrices, call, write, summary, site_colour, kind_of, content, spelling}
use Rattle.artifact_codec.specs.Demands.{is_short, is_u32, is_entry, is_matrix, are_matrices, is_state, is_call, are_calls, write_fits, is_write, are_writes, is_constraint, constraint_fits, are_constraints, is_set, are_sets, is_cluster, first_of, are_clusters, are_colours, ascend, is_stored, IsSpellingOf}
use Rattle.core_ir.specs.Constraints.{is_constraint_before}
use Rattle.artifact_codec.specs.computed.Reading.{◌>>=◌, entry_at, constraint_at, write_at, site_colour_at, counted_at, numbers_at, bounds_at, matrices_at, state_at, call_at, summary_at, content_at, stored_at, GivesOption}
use Rattle.artifact_codec.specs.computed.Checking.{counted_past, ordered_past, set_past, clusters_past, summary_past, next_constraint, next_site_colour, content_past, is_content, is_spelling, decoded}
use Rattle.artifact_codec.proofs.Parts.{IsBytes, IsBytes-rest, some_is, number_field}
use Rattle.artifact_codec.proofs.Rows.{flag_field, entry_field, constraint_field, write_field, site_colour_field, site_fits}
use Rattle.artifact_codec.proofs.Lists.{Again, items_again, counted_again, good_list, list_all_both}
use Rattle.artifact_codec.proofs.Past.{constraints_are_past, sets_are_past, colours_are_past}
use Rattle.artifact_codec.proofs.Clusters.{guard_then, list_all_then, lists_again, clusters_short, clusters_are_past}
use Rattle.artifact_codec.proofs.Summaries.{entry_in_range, matrix_parts, good_summary, summary_regrouped, summary_is_past}

-- ---- what was written is read again

bounds_read : Again bounds_at bounds is_matrix
unfolding bounds_at
bounds_read b rest h =
    let p = matrix_parts b h in
    let entries = items_again entry_at (optional signed) _ entry_field.again b.entries rest (list_all_then is_entry _ entry_in_range b.entries p.2) in
    rw (← p.1, entries) refl

matrices_read : Again matrices_at matrices are_matrices
matrices_read = counted_again bounds_at bounds is_matrix bounds_read

state_read : Again state_at (optional matrices) is_state
unfolding state_at
state_read None rest h = refl
state_read (Some bs) rest h = rw (matrices_read bs rest h) refl

abbrev call_good : PlainCall → Bool
call_good c = is_call c && is_u32 c.callee

call_read : Again call_at call call_good
unfolding call_at
call_read c rest h =
    let p = and_parts (is_call c) (is_u32 c.callee) h in
    ap call_at (append_assoc (number c.callee) (matrices c.entry) rest) ∙ rw (number_field.again c.callee (matrices c.entry ++ rest) p.1, matrices_read c.entry rest p.0) refl

summary_read : Again summary_at summary good_summary
unfolding summary_at
summary_read a rest h =
    let p = and_parts (((is_state a.context && is_state a.result) && are_calls a.calls) && are_writes a.writes) (list_all (λ c. is_u32 c.callee) a.calls && list_all write_fits a.writes) h in
    let q = and_parts (list_all (λ c. is_u32 c.callee) a.calls) (list_all write_fits a.writes) p.1 in
    let r = and_parts ((is_state a.context && is_state a.result) && are_calls a.calls) (are_writes a.writes) p.0 in
    let s = and_parts (is_state a.context && is_state a.result) (are_calls a.calls) r.0 in
    let t = and_parts (is_state a.context) (is_state a.result) s.0 in
    let k = and_parts (is_short a.calls && list_all is_call a.calls) (ascend (λ x y. nat_lt x.callee y.callee) a.calls) s.1 in
    let l = and_parts (is_short a.calls) (list_all is_call a.calls) k.0 in
    let w = and_parts (is_short a.writes && list_all is_write a.writes) (ascend (λ x y. nat_lt x.class y.class) a.writes) r.1 in
    let v = and_parts (is_short a.writes) (list_all is_write a.writes) w.0 in
    let calls_good = and_from (is_short a.calls) (list_all call_good a.calls) l.0 (list_all_both is_call (λ c. is_u32 c.callee) a.calls ∙ and_from (list_all is_call a.calls) (list_all (λ c. is_u32 c.callee) a.calls) l.1 q.0) in
    let writes_good = and_from (is_short a.writes) (list_all write_fits a.writes) v.0 q.1 in
    let tail3 = counted call a.calls ++ (counted write a.writes ++ rest) in
    ap summary_at (summary_regrouped a rest)
    ∙ rw (
      flag_field.again a.changed (optional matrices a.context ++ (optional matrices a.result ++ tail3)) refl,
      state_read a.context (optional matrices a.result ++ tail3) t.0,
      state_read a.result tail3 t.1,
      counted_again call_at call call_good call_read a.calls (counted write a.writes ++ rest) calls_good,
      counted_again write_at write write_fits write_field.again a.writes rest writes_good,
    ) refl

sets_short : (sets : List (List ℕ)) → (are_sets sets && list_all (list_all is_u32) sets) ≡ true → good_list (good_list is_u32) sets ≡ true
sets_short sets h =
    let p = and_parts (are_sets sets) (list_all (list_all is_u32) sets) h in
    let q = and_parts (is_short sets) (list_all is_set sets) p.0 in
    let short : list_all is_short sets ≡ true = list_all_then is_set is_short (λ ns e. (and_parts (is_short ns) (ascend nat_lt ns) e).0) sets q.1 in
    and_from (is_short sets) (list_all (good_list is_u32) sets) q.0 (list_all_both is_short (list_all is_u32) sets ∙ and_from (list_all is_short sets) (list_all (list_all is_u32) sets) short p.1)

read_nil : {A : Type 0} (at : List ℕ → Option (A × List ℕ)) (spell : A → List ℕ) (good : A → Bool) → Again at spell good → (x : A) → good x ≡ true → at (spell x) ≡ Some (x, [])
read_nil at spell good again x h = ap at (sym (append-nil (spell x))) ∙ again x [] h

pub content_read : (v : PlainStored) → is_stored v ≡ true → content_at (kind_of v) (content v) ≡ Some v
unfolding content_at
content_read (Constraints cs) h =
    let p = and_parts (are_constraints cs) (list_all constraint_fits cs) h in
    let q = and_parts (is_short cs && list_all is_constraint cs) (ascend is_constraint_before cs) p.0 in
    let short = and_parts (is_short cs) (list_all is_constraint cs) q.0 in
    rw (read_nil (counted_at constraint_at) (counted constraint) (good_list constraint_fits) (counted_again constraint_at constraint constraint_fits constraint_field.again) cs (and_from (is_short cs) (list_all constraint_fits cs) short.0 p.1)) refl
content_read (Solved sets) h = rw (read_nil (counted_at numbers_at) (counted numbers) (good_list (good_list is_u32)) lists_again sets (sets_short sets h)) refl
content_read (Clusters cs) h =
    let p = and_parts (are_clusters cs) (list_all (list_all is_u32) cs) h in
    let q = and_parts ((is_short cs && list_all is_cluster cs) && ascend (λ a b. nat_lt (first_of a) (first_of b)) cs) _ p.0 in
    let r = and_parts (is_short cs && list_all is_cluster cs) (ascend (λ a b. nat_lt (first_of a) (first_of b)) cs) q.0 in
    let s = and_parts (is_short cs) (list_all is_cluster cs) r.0 in
    rw (read_nil (counted_at numbers_at) (counted numbers) (good_list (good_list is_u32)) lists_again cs (clusters_short cs s.0 s.1 p.1)) refl
content_read (Summary a) h = rw (read_nil summary_at summary good_summary summary_read a h) refl
content_read (Colours cs) h =
    let p = and_parts (are_colours cs) (list_all site_fits cs) h in
    let q = and_parts (is_short cs) (ascend (λ a b. nat_lt a.0.0 b.0.0) cs) p.0 in
    rw (read_nil (counted_at site_colour_at) (counted site_colour) (good_list site_fits) (counted_again site_colour_at site_colour site_fits site_colour_field.again) cs (and_from (is_short cs) (list_all site_fits cs) q.0 p.1)) refl

-- ---- what is gone past

pub content_again : (v : PlainStored) (rest : List ℕ) → is_stored v ≡ true → content_past (kind_of v) (content v ++ rest) ≡ Some rest
unfolding content_past
content_again (Constraints cs) rest h = constraints_are_past.again cs rest h
content_again (Solved sets) rest h = sets_are_past.again sets rest h
content_again (Clusters cs) rest h = clusters_are_past.again cs rest h
content_again (Summary a) rest h = summary_is_past.again a rest h
content_again (Colours cs) rest h = colours_are_past.again cs rest h

-- bytes behind a kind that spell a value of it, up to a rest
pub record Spelled (kind : ℕ) (bytes rest : List ℕ) : Type 0 where
  pub value : PlainStored
  pub kind_is : kind_of value ≡ kind
  pub parts : bytes ≡ content value ++ rest
  pub holds : is_stored value ≡ true

chosen : {A : Type 0} (b : Bool) (x y z : A) → cond b x y ≡ z → ((b ≡ true) × (x ≡ z)) ⊎ ((b ≡ false) × (y ≡ z))
chosen true x y z e = inl (refl, e)
chosen false x y z e = inr (refl, e)

pub content_spelled : (kind : ℕ) (bytes rest : List ℕ) → IsBytes bytes → content_past kind bytes ≡ Some rest → Spelled kind bytes rest
unfolding content_past
content_spelled kind bytes rest fit e =
    let constraints = ordered_past next_constraint bytes in
    let sets = counted_past set_past bytes in
    let clusters = clusters_past bytes in
    let summaries = summary_past bytes in
    let colours = ordered_past next_site_colour bytes in
    elim (chosen (kind == 1) constraints (cond (kind == 2) sets (cond (kind == 3) clusters (cond (kind == 4) summaries (cond (kind == 5) colours None)))) (Some rest) e) [
      | inl c ↦ let g = constraints_are_past.takes bytes rest fit c.1 in record { value = Constraints g.value; kind_is = sym (eqb-true kind 1 c.0); parts = g.takes.parts; holds = g.holds }
      | inr d ↦ elim (chosen (kind == 2) sets (cond (kind == 3) clusters (cond (kind == 4) summaries (cond (kind == 5) colours None))) (Some rest) d.1) [
        | inl c ↦ let g = sets_are_past.takes bytes rest fit c.1 in record { value = Solved g.value; kind_is = sym (eqb-true kind 2 c.0); parts = g.takes.parts; holds = g.holds }
        | inr d ↦ elim (chosen (kind == 3) clusters (cond (kind == 4) summaries (cond (kind == 5) colours None)) (Some rest) d.1) [
          | inl c ↦ let g = clusters_are_past.takes bytes rest fit c.1 in record { value = Clusters g.value; kind_is = sym (eqb-true kind 3 c.0); parts = g.takes.parts; holds = g.holds }
          | inr d ↦ elim (chosen (kind == 4) summaries (cond (kind == 5) colours None) (Some rest) d.1) [
            | inl c ↦ let g = summary_is_past.takes bytes rest fit c.1 in record { value = Summary g.value; kind_is = sym (eqb-true kind 4 c.0); parts = g.takes.parts; holds = g.holds }
            | inr d ↦ elim (chosen (kind == 5) colours None (Some rest) d.1) [
              | inl c ↦ let g = colours_are_past.takes bytes rest fit c.1 in record { value = Colours g.value; kind_is = sym (eqb-true kind 5 c.0); parts = g.takes.parts; holds = g.holds }
              | inr d ↦ absurd (none_is d.1)
            ]
          ]
        ]
      ]
    ]
  where
    none_is : {rest : List ℕ} → None ≡ Some rest → ⊥
    none_is e = cc

-- ---- all of the bytes

some_then : (r : Option (List ℕ)) → is_some (r >>= λ x. cond (length x == 0) (Some x) None) ≡ true → (x : List ℕ) × (r ≡ Some x) × (x ≡ [])
some_then None e = absurd cc
some_then (Some []) e = ([], refl, refl)
some_then (Some (x ∷ xs)) e = absurd (empty (length (x ∷ xs) == 0) refl e)
  where
    empty : (b : Bool) → (length (x ∷ xs) == 0) ≡ b → is_some (cond b (Some (x ∷ xs)) None) ≡ true → ⊥
    empty true e h = omega (arith, eqb-true (length (x ∷ xs)) 0 e)
    empty false e h = cc

pub spelled_whole : (kind : ℕ) (bytes : List ℕ) → IsBytes bytes → is_content kind bytes ≡ true → Spelled kind bytes []
unfolding is_content
spelled_whole kind bytes fit e =
    let s = some_then (content_past kind bytes) e in
    subst (λ r. Spelled kind bytes r) s.2 (content_spelled kind bytes s.0 fit s.1)

pub whole_again : (v : PlainStored) → is_stored v ≡ true → is_content (kind_of v) (content v) ≡ true
unfolding is_content
whole_again v h = rw (ap (content_past (kind_of v)) (sym (append-nil (content v))) ∙ content_again v [] h) refl

-- ---- the laws

pub stored_read : (v : PlainStored) → is_stored v ≡ true → stored_at (spelling v) ≡ Some v
unfolding stored_at
stored_read v h = content_read v h

pub unique : (v w : PlainStored) → is_stored v ≡ true → is_stored w ≡ true → spelling v ≡ spelling w → v ≡ w
unique v w hv hw e = some_is v w (sym (stored_read v hv) ∙ ap stored_at e ∙ stored_read w hw)

head_is : (a b : ℕ) (xs ys : List ℕ) → a ∷ xs ≡ b ∷ ys → a ≡ b
head_is a b xs ys e = cc

tail_is : (a b : ℕ) (xs ys : List ℕ) → a ∷ xs ≡ b ∷ ys → xs ≡ ys
tail_is a b xs ys e = cc

pub no_rest : (v w : PlainStored) (rest : List ℕ) → is_stored v ≡ true → is_stored w ≡ true → spelling v ++ rest ≡ spelling w → rest ≡ []
no_rest v w rest hv hw e =
    let kinds : kind_of v ≡ kind_of w = head_is (kind_of v) (kind_of w) (content v ++ rest) (content w) e in
    let contents : content v ++ rest ≡ content w = tail_is (kind_of v) (kind_of w) (content v ++ rest) (content w) e in
    some_is rest [] (sym (content_again v rest hv) ∙ ap (content_past (kind_of v)) contents ∙ ap (λ k. content_past k (content w)) kinds ∙ ap (content_past (kind_of w)) (sym (append-nil (content w))) ∙ content_again w [] hw)

pub not_six : (v : PlainStored) → spelling v ≡ 6 ∷ [] → ⊥
not_six (Constraints cs) e = omega (arith, head_is 1 6 _ _ e)
not_six (Solved sets) e = omega (arith, head_is 2 6 _ _ e)
not_six (Clusters cs) e = omega (arith, head_is 3 6 _ _ e)
not_six (Summary a) e = omega (arith, head_is 4 6 _ _ e)
not_six (Colours cs) e = omega (arith, head_is 5 6 _ _ e)

-- ---- what the calls answer

content_of : (v : PlainStored) (kind : ℕ) (rest : List ℕ) → spelling v ≡ kind ∷ rest → (kind_of v ≡ kind) × (content v ≡ rest)
content_of v kind rest e = (head_is (kind_of v) kind (content v) rest e, tail_is (kind_of v) kind (content v) rest e)

is_content_of : (v : PlainStored) (kind : ℕ) (rest : List ℕ) → is_stored v ≡ true → spelling v ≡ kind ∷ rest → is_content kind rest ≡ true
is_content_of v kind rest h e =
    let p = content_of v kind rest e in
    sym (ap (λ k. is_content k (content v)) p.0 ∙ ap (is_content kind) p.1) ∙ whole_again v h

spelled_by : (kind : ℕ) (rest : List ℕ) → IsBytes rest → is_content kind rest ≡ true → (v : PlainStored) × (kind_of v ≡ kind) × IsSpellingOf v (kind ∷ rest)
spelled_by kind rest fit e =
    let s = spelled_whole kind rest fit e in
    (s.value, s.kind_is, (s.holds, ap (λ k. k ∷ content s.value) s.kind_is ∙ ap (λ (t : List ℕ). kind ∷ t) (sym (append-nil (content s.value)) ∙ sym s.parts)))

pub spells_says : (kind : ℕ) (bytes : List ℕ) → IsBytes bytes → is_spelling kind bytes ≡ true → (v : PlainStored) × (kind_of v ≡ kind) × IsSpellingOf v bytes
spells_says kind [] fit e = absurd cc
spells_says kind (first ∷ rest) fit e =
    let p = and_parts (first == kind) (is_content kind rest) e in
    let same = eqb-true first kind p.0 in
    subst (λ k. (v : PlainStored) × (kind_of v ≡ kind) × IsSpellingOf v (k ∷ rest)) (sym same) (spelled_by kind rest (IsBytes-rest first rest fit) p.1)

pub says_spells : (kind : ℕ) (bytes : List ℕ) (v : PlainStored) → kind_of v ≡ kind → IsSpellingOf v bytes → is_spelling kind bytes ≡ true
says_spells kind [] v k s = absurd (no_cell (kind_of v) (content v) s.1)
  where
    no_cell : (n : ℕ) (xs : List ℕ) → n ∷ xs ≡ [] → ⊥
    no_cell n xs e = cc
says_spells kind (first ∷ rest) v k s =
    let p = content_of v first rest s.1 in
    let same : first ≡ kind = sym p.0 ∙ k in
    and_from (first == kind) (is_content kind rest) (eq-eqb first kind same) (subst (λ n. is_content n rest ≡ true) same (is_content_of v first rest s.0 s.1))

pub decoded_some : (bytes : List ℕ) (v : PlainStored) → IsBytes bytes → decoded bytes ≡ Some v → IsSpellingOf v bytes
decoded_some [] v fit e = absurd cc
decoded_some (kind ∷ rest) v fit e =
    let g = guard_then (is_content kind rest) (content_at kind rest) v e in
    let s = spelled_by kind rest (IsBytes-rest kind rest fit) g.0 in
    let p = content_of s.0 kind rest s.2.1 in
    let read : content_at kind rest ≡ Some s.0 = sym (ap (λ k. content_at k (content s.0)) p.0 ∙ ap (content_at kind) p.1) ∙ content_read s.0 s.2.0 in
    subst (λ w. IsSpellingOf w (kind ∷ rest)) (some_is s.0 v (sym read ∙ g.1)) s.2

pub decoded_none : (bytes : List ℕ) (v : PlainStored) → decoded bytes ≡ None → IsSpellingOf v bytes → ⊥
decoded_none [] v e s = no_cell (kind_of v) (content v) s.1
  where
    no_cell : (n : ℕ) (xs : List ℕ) → n ∷ xs ≡ [] → ⊥
    no_cell n xs e = cc
decoded_none (kind ∷ rest) v e s =
    let p = content_of v kind rest s.1 in
    let read : content_at kind rest ≡ Some v = sym (ap (λ k. content_at k (content v)) p.0 ∙ ap (content_at kind) p.1) ∙ content_read v s.0 in
    no_value (is_content kind rest) (content_at kind rest) (is_content_of v kind rest s.0 s.1) read e
  where
    no_value : (b : Bool) (r : Option PlainStored) → b ≡ true → r ≡ Some v → cond b r None ≡ None → ⊥
    no_value true r t some none = cc
    no_value false r t some none = cc

pub answer_found : {A E : Type 0} (view : A → PlainStored) (result : Result (Option A) E) (bytes : List ℕ) → IsBytes bytes → GivesOption view result (decoded bytes) → IfOk result (λ o. IfSome o (λ v. IsSpellingOf (view v) bytes))
answer_found view (Ok (Some v)) bytes fit g = decoded_some bytes (view v) fit g
answer_found view (Ok None) bytes fit g = tt
answer_found view (Err e) bytes fit g = tt

pub answer_none : {A E : Type 0} (view : A → PlainStored) (result : Result (Option A) E) (bytes : List ℕ) → GivesOption view result (decoded bytes) → IfOk result (λ o. IfNone o ((v : PlainStored) → IsSpellingOf v bytes → ⊥))
answer_none view (Ok (Some v)) bytes g = tt
answer_none view (Ok None) bytes g = λ v s. decoded_none bytes v g s
answer_none view (Err e) bytes g = tt

pub true_iff : {X : Type 0} (b c : Bool) → b ≡ c → (c ≡ true → X) → (X → c ≡ true) → (IsTrue b → X) × (X → IsTrue b)
true_iff b c e f g = ((λ t. f (sym e ∙ t)), (λ x. e ∙ g x))
