-- What is gone past is a summary that meets the demands.
use Rattle.std.proofs.Common.{◌≡◌, ℕ, ℤ, pos, negsuc, neg_ℤ, ◌+◌, ◌*◌, ◌-◌, ◌≤◌, ◌^◌, Bool, true, false, cond, ◌&&◌, ◌==◌, List, [], ◌∷◌, ◌++◌, length, Option, Some, None, refl, sym, ap, subst, ◌∙◌, append_assoc, arith}
use Rattle.std.specs.Prelude.{nat_lt, nat_le, int_le}
use Rattle.std.specs.List.{list_all, flat_map}
use Rattle.std.proofs.lemmas.Bool.{and_parts, and_from, leb-true, lt-ltb, eqb-true, eq-eqb}
use Rattle.core_ir.specs.declared.artifacts.WritePart.{WritePart}
use Rattle.core_ir.specs.Plain.{PlainBounds, PlainCall, PlainArtifact}
use Rattle.artifact_codec.specs.Spelling.{number, signed, flag, optional, counted, bounds, matrices, call, write, summary}
use Rattle.artifact_codec.specs.Demands.{is_short, is_u32, is_i128, is_after, ascend, is_bound, is_entry, is_matrix, are_matrices, is_state, is_call, are_calls, is_write, write_fits, are_writes, is_summary}
use Rattle.artifact_codec.specs.computed.Reading.{◌>>=◌, signed_at, write_at}
use Rattle.artifact_codec.specs.computed.Checking.{past_all, ordered_past, checked, next_number, entry_past, bounds_past, matrices_past, state_past, next_call, next_write, summary_past}
use Rattle.artifact_codec.proofs.Parts.{IsBytes, bind_some, some_is, first, Takes, Takes-then, IsField, signed_field}
use Rattle.artifact_codec.proofs.Rows.{byte_field, flag_field, entry_field, good_option, write_field}
use Rattle.artifact_codec.proofs.Lists.{Gone, IsPast, all_gone, all_past_again, counted_is_past, IsNext, ordered_is_past, chain_is, list_all_both}
use Rattle.artifact_codec.proofs.Past.{past_same, next_same, checked_field, next_keyed, number_next, last_of_three, spread}
use Rattle.artifact_codec.proofs.Clusters.{guard_then}

-- ---- entries

pub field_past : {A : Type 0} {at : List ℕ → Option (A × List ℕ)} {spell : A → List ℕ} {good : A → Bool} → IsField at spell good → IsPast (λ bytes. at bytes >>= λ x. Some x.1) spell good
field_past {at = at} {spell = spell} field = record {
  takes = λ bytes rest fits e.
      let f = first field (λ x. Some x.1) bytes rest fits e in
      record { value = f.value; takes = subst (λ r. Takes bytes (spell f.value) r) (some_is f.rest rest f.then_is) f.takes; holds = f.holds };
  again = λ x rest h. rw (field.again x rest h) refl;
}

abbrev entry_fits : Option ℤ → Bool
entry_fits o = good_option signed_at signed is_i128 signed_field o

bound_fits : (z : ℤ) → is_bound z ≡ true → is_i128 z ≡ true
bound_fits (pos n) h =
    let le : n ≤ 2 ^ 81 = leb-true n (2 ^ 81) (and_parts (int_le (neg_ℤ (pos (2 ^ 81))) (pos n)) (int_le (pos n) (pos (2 ^ 81))) h).1 in
    lt-ltb n (2 ^ 127) (omega arith)
bound_fits (negsuc n) h =
    let le : n ≤ 2 ^ 81 - 1 = leb-true n (2 ^ 81 - 1) (and_parts (int_le (neg_ℤ (pos (2 ^ 81))) (negsuc n)) (int_le (negsuc n) (pos (2 ^ 81))) h).0 in
    lt-ltb n (2 ^ 127) (omega arith)

pub entry_in_range : (o : Option ℤ) → is_entry o ≡ true → entry_fits o ≡ true
entry_in_range None h = refl
entry_in_range (Some z) h = bound_fits z h

absorbed : (a b : Bool) → (a ≡ true → b ≡ true) → (a && b) ≡ a
absorbed true b f = f refl
absorbed false b f = refl

entry_is_past : IsPast entry_past (optional signed) is_entry
unfolding entry_past
entry_is_past = past_same is_entry (λ o. absorbed (is_entry o) (entry_fits o) (entry_in_range o)) (field_past (checked_field is_entry entry_field))

-- ---- matrices

abbrev is_size : ℕ → Bool
is_size n = nat_le 1 n && nat_le n 16

bounds_take : (bytes rest : List ℕ) → IsBytes bytes → bounds_past bytes ≡ Some rest → Gone bounds is_matrix bytes rest
unfolding bounds_past
bounds_take bytes rest fits e =
    let inner = λ (size : ℕ × List ℕ). past_all entry_past (size.0 * (size.0 + 1)) size.1 in
    let s = first byte_field (λ size. cond (is_size size.0) (inner size) None) bytes rest fits e in
    let g = guard_then (is_size s.value) (inner (s.value, s.rest)) rest s.then_is in
    let es = all_gone entry_past (optional signed) is_entry entry_is_past (s.value * (s.value + 1)) s.rest rest s.takes.rest_fits g.1 in
    record {
      value = record { size = s.value; entries = es.values };
      takes = Takes-then bytes (s.value ∷ []) s.rest (flat_map (optional signed) es.values) rest s.takes es.takes;
      holds = and_from (is_size s.value && (length es.values == s.value * (s.value + 1))) (list_all is_entry es.values) (and_from (is_size s.value) (length es.values == s.value * (s.value + 1)) g.0 (eq-eqb (length es.values) (s.value * (s.value + 1)) es.count_is)) es.holds;
    }

pub matrix_parts : (b : PlainBounds) → is_matrix b ≡ true → (is_size b.size ≡ true) × (length b.entries ≡ b.size * (b.size + 1)) × (list_all is_entry b.entries ≡ true)
matrix_parts b h =
    let p = and_parts (is_size b.size && (length b.entries == b.size * (b.size + 1))) (list_all is_entry b.entries) h in
    let q = and_parts (is_size b.size) (length b.entries == b.size * (b.size + 1)) p.0 in
    (q.0, eqb-true (length b.entries) (b.size * (b.size + 1)) q.1, p.1)

bounds_again : (b : PlainBounds) (rest : List ℕ) → is_matrix b ≡ true → bounds_past (bounds b ++ rest) ≡ Some rest
unfolding bounds_past
bounds_again b rest h =
    let p = matrix_parts b h in
    rw (p.0, ← p.1) (all_past_again entry_past (optional signed) is_entry entry_is_past b.entries rest p.2)

pub bounds_are_past : IsPast bounds_past bounds is_matrix
bounds_are_past = record { takes = bounds_take; again = bounds_again }

pub matrices_are_past : IsPast matrices_past matrices are_matrices
unfolding matrices_past
matrices_are_past = counted_is_past bounds_past bounds is_matrix bounds_are_past

-- ---- contexts and results

state_gone : (there : Bool) (mid rest bytes : List ℕ) → Takes bytes (flag there) mid → cond there (matrices_past mid) (Some mid) ≡ Some rest → Gone (optional matrices) is_state bytes rest
state_gone false mid rest bytes t e = record { value = None; takes = subst (λ r. Takes bytes (0 ∷ []) r) (some_is mid rest e) t; holds = refl }
state_gone true mid rest bytes t e =
    let g = matrices_are_past.takes mid rest t.rest_fits e in
    record { value = Some g.value; takes = Takes-then bytes (1 ∷ []) mid (matrices g.value) rest t g.takes; holds = g.holds }

state_again : (s : Option (List PlainBounds)) (rest : List ℕ) → is_state s ≡ true → state_past (optional matrices s ++ rest) ≡ Some rest
unfolding state_past
state_again None rest h = refl
state_again (Some bs) rest h = matrices_are_past.again bs rest h

pub state_is_past : IsPast state_past (optional matrices) is_state
unfolding state_past
state_is_past = record {
  takes = λ bytes rest fits e.
      let f = first flag_field (λ there. cond there.0 (matrices_past there.1) (Some there.1)) bytes rest fits e in
      state_gone f.value f.rest rest bytes f.takes f.then_is;
  again = state_again;
}

-- ---- calls

abbrev good_call : Option ℕ → PlainCall → Bool
good_call last c = (is_call c && is_u32 c.callee) && is_after nat_lt last c.callee

call_next : IsNext next_call call (λ c. c.callee) good_call
unfolding next_call
call_next = record {
  takes = λ last bytes k rest fits e.
      let b = bind_some (next_number last bytes) (λ c. matrices_past c.1 >>= λ r. Some (c.0, r)) (k, rest) e in
      let n = number_next.takes last bytes b.0.0 b.0.1 fits b.1 in
      let d = bind_some (matrices_past b.0.1) (λ r. Some (b.0.0, r)) (k, rest) b.2 in
      let g = matrices_are_past.takes b.0.1 d.0 n.takes.rest_fits d.1 in
      let callee = and_parts (is_u32 n.value) (is_after nat_lt last n.value) n.holds in
      record {
        value = record { callee = n.value; entry = g.value };
        key_is = n.key_is ∙ ap (λ (p : ℕ × List ℕ). p.0) (some_is (b.0.0, d.0) (k, rest) d.2);
        takes = subst (λ r. Takes bytes (number n.value ++ matrices g.value) r) (ap (λ (p : ℕ × List ℕ). p.1) (some_is (b.0.0, d.0) (k, rest) d.2)) (Takes-then bytes (number n.value) b.0.1 (matrices g.value) d.0 n.takes g.takes);
        holds = and_from (are_matrices g.value && is_u32 n.value) (is_after nat_lt last n.value) (and_from (are_matrices g.value) (is_u32 n.value) g.holds callee.0) callee.1;
      };
  again = λ last c rest h.
      let p = and_parts (is_call c && is_u32 c.callee) (is_after nat_lt last c.callee) h in
      let q = and_parts (is_call c) (is_u32 c.callee) p.0 in
      ap (next_call last) (append_assoc (number c.callee) (matrices c.entry) rest)
      ∙ rw (number_next.again last c.callee (matrices c.entry ++ rest) (and_from (is_u32 c.callee) (is_after nat_lt last c.callee) q.1 p.1), matrices_are_past.again c.entry rest q.0) refl;
}

pub calls_are_past : IsPast (ordered_past next_call) (counted call) (λ cs. are_calls cs && list_all (λ c. is_u32 c.callee) cs)
calls_are_past = past_same (λ cs. are_calls cs && list_all (λ c. is_u32 c.callee) cs)
    (λ cs. ap (λ b. is_short cs && b) (chain_is (λ (c : PlainCall). c.callee) (λ c. is_call c && is_u32 c.callee) nat_lt None cs ∙ ap (λ b. b && ascend (λ a b. nat_lt a.callee b.callee) cs) (list_all_both is_call (λ c. is_u32 c.callee) cs))
    ∙ spread (is_short cs) (list_all is_call cs) (list_all (λ c. is_u32 c.callee) cs) (ascend (λ a b. nat_lt a.callee b.callee) cs))
    (ordered_is_past next_call call (λ c. c.callee) good_call call_next)

-- ---- writes

write_next : IsNext next_write write (λ w. w.class) (λ last w. (is_write w && write_fits w) && is_after nat_lt last w.class)
unfolding next_write
write_next = next_same (λ last w. (is_write w && write_fits w) && is_after nat_lt last w.class) (λ last w. last_of_three (is_write w) (is_after nat_lt last w.class) (write_fits w))
    (next_keyed (λ last bytes. checked (λ w. is_write w && is_after nat_lt last w.class) (write_at bytes)) write (λ w. w.class) (λ last w. (is_write w && is_after nat_lt last w.class) && write_fits w) (λ last. checked_field (λ w. is_write w && is_after nat_lt last w.class) write_field))

pub writes_are_past : IsPast (ordered_past next_write) (counted write) (λ ws. are_writes ws && list_all write_fits ws)
writes_are_past = past_same (λ ws. are_writes ws && list_all write_fits ws)
    (λ ws. ap (λ b. is_short ws && b) (chain_is (λ (w : WritePart). w.class) (λ w. is_write w && write_fits w) nat_lt None ws ∙ ap (λ b. b && ascend (λ a b. nat_lt a.class b.class) ws) (list_all_both is_write write_fits ws))
    ∙ spread (is_short ws) (list_all is_write ws) (list_all write_fits ws) (ascend (λ a b. nat_lt a.class b.class) ws))
    (ordered_is_past next_write write (λ w. w.class) (λ last w. (is_write w && write_fits w) && is_after nat_lt last w.class) write_next)

-- ---- summaries

-- the first value that was gone past, and what comes behind it
record FirstPast {A B : Type 0} (spell : A → List ℕ) (good : A → Bool) (next : List ℕ → Option B) (bytes : List ℕ) (y : B) : Type 0 where
  pub value : A
  pub rest : List ℕ
  pub then_is : next rest ≡ Some y
  pub takes : Takes bytes (spell value) rest
  pub holds : good value ≡ true

past_first : {A B : Type 0} {past : List ℕ → Option (List ℕ)} {spell : A → List ℕ} {good : A → Bool} → IsPast past spell good → (next : List ℕ → Option B) (bytes : List ℕ) (y : B) → IsBytes bytes → (past bytes >>= next) ≡ Some y → FirstPast spell good next bytes y
past_first {past = past} is next bytes y fits e =
    let b = bind_some (past bytes) next y e in
    let g = is.takes bytes b.0 fits b.1 in
    record { value = g.value; rest = b.0; then_is = b.2; takes = g.takes; holds = g.holds }

abbrev calls_good : List PlainCall → Bool
calls_good cs = are_calls cs && list_all (λ c. is_u32 c.callee) cs

abbrev writes_good : List WritePart → Bool
writes_good ws = are_writes ws && list_all write_fits ws

abbrev pub good_summary : PlainArtifact → Bool
good_summary a = is_summary a && (list_all (λ c. is_u32 c.callee) a.calls && list_all write_fits a.writes)

joined : (bytes b1 b2 b3 b4 b5 : List ℕ) (changed : Bool) (context outcome : Option (List PlainBounds)) (calls : List PlainCall) (writes : List WritePart)
    → Takes bytes (flag changed) b1 → Takes b1 (optional matrices context) b2 → Takes b2 (optional matrices outcome) b3 → Takes b3 (counted call calls) b4 → Takes b4 (counted write writes) b5
    → Takes bytes (summary (record { changed = changed; context = context; result = outcome; calls = calls; writes = writes })) b5
joined bytes b1 b2 b3 b4 b5 changed context outcome calls writes p q r s t =
    Takes-then bytes (((flag changed ++ optional matrices context) ++ optional matrices outcome) ++ counted call calls) b4 (counted write writes) b5
    (Takes-then bytes ((flag changed ++ optional matrices context) ++ optional matrices outcome) b3 (counted call calls) b4
    (Takes-then bytes (flag changed ++ optional matrices context) b2 (optional matrices outcome) b3
    (Takes-then bytes (flag changed) b1 (optional matrices context) b2 p q) r) s) t

sorted : (a b c d e f : Bool) → ((((a && b) && c) && d) && (e && f)) ≡ ((a && b) && ((c && e) && (d && f)))
sorted false b c d e f = refl
sorted true false c d e f = refl
sorted true true false d e f = refl
sorted true true true d true f = refl
sorted true true true true false f = refl
sorted true true true false false f = refl

summary_is : (a : PlainArtifact) → good_summary a ≡ ((is_state a.context && is_state a.result) && (calls_good a.calls && writes_good a.writes))
summary_is a = sorted (is_state a.context) (is_state a.result) (are_calls a.calls) (are_writes a.writes) (list_all (λ c. is_u32 c.callee) a.calls) (list_all write_fits a.writes)

summary_takes : (bytes rest : List ℕ) → IsBytes bytes → summary_past bytes ≡ Some rest → Gone summary good_summary bytes rest
unfolding summary_past
summary_takes bytes rest fits e =
    let a = first flag_field (λ x. state_past x.1 >>= λ c. state_past c >>= λ o. ordered_past next_call o >>= λ k. ordered_past next_write k) bytes rest fits e in
    let c = past_first state_is_past (λ c. state_past c >>= λ o. ordered_past next_call o >>= λ k. ordered_past next_write k) a.rest rest a.takes.rest_fits a.then_is in
    let o = past_first state_is_past (λ o. ordered_past next_call o >>= λ k. ordered_past next_write k) c.rest rest c.takes.rest_fits c.then_is in
    let k = past_first calls_are_past (λ k. ordered_past next_write k) o.rest rest o.takes.rest_fits o.then_is in
    let w = writes_are_past.takes k.rest rest k.takes.rest_fits k.then_is in
    let value : PlainArtifact = record { changed = a.value; context = c.value; result = o.value; calls = k.value; writes = w.value } in
    record {
      value = value;
      takes = joined bytes a.rest c.rest o.rest k.rest rest a.value c.value o.value k.value w.value a.takes c.takes o.takes k.takes w.takes;
      holds = summary_is value ∙ and_from (is_state c.value && is_state o.value) (calls_good k.value && writes_good w.value) (and_from (is_state c.value) (is_state o.value) c.holds o.holds) (and_from (calls_good k.value) (writes_good w.value) k.holds w.holds);
    }

pub summary_regrouped : (a : PlainArtifact) (rest : List ℕ) → summary a ++ rest ≡ flag a.changed ++ (optional matrices a.context ++ (optional matrices a.result ++ (counted call a.calls ++ (counted write a.writes ++ rest))))
summary_regrouped a rest =
    let f = flag a.changed in
    let c = optional matrices a.context in
    let o = optional matrices a.result in
    let k = counted call a.calls in
    let w = counted write a.writes in
    append_assoc (((f ++ c) ++ o) ++ k) w rest ∙ append_assoc ((f ++ c) ++ o) k (w ++ rest) ∙ append_assoc (f ++ c) o (k ++ (w ++ rest)) ∙ append_assoc f c (o ++ (k ++ (w ++ rest)))

summary_again : (a : PlainArtifact) (rest : List ℕ) → good_summary a ≡ true → summary_past (summary a ++ rest) ≡ Some rest
unfolding summary_past
summary_again a rest h =
    let p = and_parts (is_state a.context && is_state a.result) (calls_good a.calls && writes_good a.writes) (sym (summary_is a) ∙ h) in
    let s = and_parts (is_state a.context) (is_state a.result) p.0 in
    let l = and_parts (calls_good a.calls) (writes_good a.writes) p.1 in
    ap summary_past (summary_regrouped a rest)
    ∙ rw (
      flag_field.again a.changed (optional matrices a.context ++ (optional matrices a.result ++ (counted call a.calls ++ (counted write a.writes ++ rest)))) refl,
      state_is_past.again a.context (optional matrices a.result ++ (counted call a.calls ++ (counted write a.writes ++ rest))) s.0,
      state_is_past.again a.result (counted call a.calls ++ (counted write a.writes ++ rest)) s.1,
      calls_are_past.again a.calls (counted write a.writes ++ rest) l.0,
      writes_are_past.again a.writes rest l.1,
    ) refl

pub summary_is_past : IsPast summary_past summary good_summary
summary_is_past = record { takes = summary_takes; again = summary_again }
