-- One call more.
use Rattle.std.proofs.Common.{◌≡◌, ℕ, ◌+◌, ◌≤◌, inl, inr, Bool, true, false, List, [], ◌∷◌, ◌++◌, length, take, drop, refl, sym, ◌∙◌, ap, subst, arith, length-append, length-drop}
use Rattle.std.proofs.lemmas.Bool.{cases_lt}
use Rattle.std.proofs.lemmas.List.{take_all, take-append-le, drop-append-le}
use Rattle.sv_outside.specs.Disk.{Elapses}
use Rattle.disk_memory.specs.Calls.{Op, ops_of, bytes_of, reads, read_after, past_end, all_past_end, left_after, leaves, image, image_since}
use Rattle.disk_memory.specs.Calls.Op.{wrote, cut, synced}
use Rattle.disk_memory.specs.Laws.{length-ops_of}
use Rattle.disk_memory.specs.declared.medium.Call.{Call}
use Rattle.disk_memory.specs.declared.medium.Call.TheVariants.{Write, Cut, Sync}

pub ops_of-sync : (calls : List Call) (store : List ℕ) (done : Bool) → ops_of (calls ++ Sync done ∷ []) store ≡ ops_of calls store ++ synced done ∷ []
ops_of-sync [] store done = refl
ops_of-sync (Write at len d ∷ calls) store done = ap (λ (l : List Op). wrote at (take len store) d ∷ l) (ops_of-sync calls (drop len store) done)
ops_of-sync (Cut len d ∷ calls) store done = ap (λ (l : List Op). cut len d ∷ l) (ops_of-sync calls store done)
ops_of-sync (Sync d ∷ calls) store done = ap (λ (l : List Op). synced d ∷ l) (ops_of-sync calls store done)

pub ops_of-cut : (calls : List Call) (store : List ℕ) (to : ℕ) (done : Bool) → ops_of (calls ++ Cut to done ∷ []) store ≡ ops_of calls store ++ cut to done ∷ []
ops_of-cut [] store to done = refl
ops_of-cut (Write at len d ∷ calls) store to done = ap (λ (l : List Op). wrote at (take len store) d ∷ l) (ops_of-cut calls (drop len store) to done)
ops_of-cut (Cut len d ∷ calls) store to done = ap (λ (l : List Op). cut len d ∷ l) (ops_of-cut calls store to done)
ops_of-cut (Sync d ∷ calls) store to done = ap (λ (l : List Op). synced d ∷ l) (ops_of-cut calls store to done)

pub ops_of-write : (calls : List Call) (store bytes : List ℕ) (at : ℕ) (done : Bool) → bytes_of calls ≡ length store
    → ops_of (calls ++ Write at (length bytes) done ∷ []) (store ++ bytes) ≡ ops_of calls store ++ wrote at bytes done ∷ []
ops_of-write [] [] bytes at done e = ap (λ (l : List ℕ). wrote at l done ∷ []) (take_all (length bytes) bytes (omega arith))
ops_of-write [] (x ∷ store) bytes at done e = absurd (omega arith)
ops_of-write (Write a len d ∷ calls) store bytes at done e =
    let h : len ≤ length store = omega (arith, e) in
    let rest : bytes_of calls ≡ length (drop len store) = omega (arith, e, length-drop len store) in
    let t : take len (store ++ bytes) ≡ take len store = take-append-le len store bytes h in
    let u : drop len (store ++ bytes) ≡ drop len store ++ bytes = drop-append-le len store bytes h in
    rw (t, u) (ap (λ (l : List Op). wrote a (take len store) d ∷ l) (ops_of-write calls (drop len store) bytes at done rest))
ops_of-write (Cut len d ∷ calls) store bytes at done e = ap (λ (l : List Op). cut len d ∷ l) (ops_of-write calls store bytes at done e)
ops_of-write (Sync d ∷ calls) store bytes at done e = ap (λ (l : List Op). synced d ∷ l) (ops_of-write calls store bytes at done e)

pub bytes_of-append : (calls : List Call) (call : Call) → bytes_of (calls ++ call ∷ []) ≡ bytes_of calls + bytes_of (call ∷ [])
bytes_of-append [] call = omega arith
bytes_of-append (Write at len d ∷ calls) call = omega (arith, bytes_of-append calls call)
bytes_of-append (Cut len d ∷ calls) call = omega (arith, bytes_of-append calls call)
bytes_of-append (Sync d ∷ calls) call = omega (arith, bytes_of-append calls call)

pub reads-push : (ops : List Op) (r : List ℕ) (op : Op) → reads r (ops ++ op ∷ []) ≡ read_after (reads r ops) op
reads-push [] r op = refl
reads-push (o ∷ ops) r op = reads-push ops (read_after r o) op

pub all_past_end-push : (ops : List Op) (r : List ℕ) (op : Op) → all_past_end r (ops ++ op ∷ []) ≡ all_past_end r ops + past_end (reads r ops) op
all_past_end-push [] r op = omega arith
all_past_end-push (o ∷ ops) r op = omega (arith, all_past_end-push ops (read_after r o) op)

pub leaves-push : (ops : List Op) (r : List ℕ) (I : List ℕ → Type 0) (op : Op) (c : List ℕ) → leaves r I (ops ++ op ∷ []) c → left_after (reads r ops) (leaves r I ops) op c
leaves-push [] r I op c h = h
leaves-push (o ∷ ops) r I op c h = leaves-push ops (read_after r o) (left_after r I o) op c h

short : (ops : List Op) (op : Op) (k : ℕ) → k ≤ length ops → take k (ops ++ op ∷ []) ≡ take k ops
short ops op k h = rw take-append-le refl

pub elapses_push : (first : List ℕ) (ops : List Op) (op : Op) → Elapses (length ops) (length (ops ++ op ∷ [])) (image_since first ops) (image_since first (ops ++ op ∷ [])) (image first (ops ++ op ∷ []))
elapses_push first ops op = record {
  later = omega (arith, length-append ops (op ∷ []));
  nothing_else = λ t c le s. elim (cases_lt (length ops) s.0) [
    | inl h ↦ inr (let e = take_all s.0 (ops ++ op ∷ []) (omega (arith, length-append ops (op ∷ []), h)) in subst (λ (l : List Op). image first l c) e s.3)
    | inr h ↦ inl (s.0, s.1, h, subst (λ (l : List Op). image first l c) (short ops op s.0 h) s.3)
  ];
  keeps = λ t c le s. (s.0, s.1, omega (arith, s.2, length-append ops (op ∷ [])), subst (λ (l : List Op). image first l c) (sym (short ops op s.0 s.2)) s.3);
}

-- a disk before a call and after it, with the call that it notes
module _ (first store store' : List ℕ) (calls calls' : List Call) (op : Op) (noted : ops_of calls' store' ≡ ops_of calls store ++ op ∷ []) where
  pub noted_crash : (c : List ℕ) → image first (ops_of calls' store') c → left_after (reads first (ops_of calls store)) (image first (ops_of calls store)) op c
  noted_crash c h = leaves-push (ops_of calls store) first (λ x. x ≡ first) op c (subst (λ (o : List Op). image first o c) noted h)

  pub noted_time : Elapses (length calls) (length calls') (image_since first (ops_of calls store)) (image_since first (ops_of calls' store')) (image first (ops_of calls' store'))
  noted_time =
      let n : length (ops_of calls store) ≡ length calls = length-ops_of calls store in
      let m : length (ops_of calls store ++ op ∷ []) ≡ length calls' = sym (ap length noted) ∙ length-ops_of calls' store' in
      rw (noted, ← n, ← m) (elapses_push first (ops_of calls store) op)

  pub noted_placed : all_past_end first (ops_of calls store) ≡ 0 → past_end (reads first (ops_of calls store)) op ≡ 0 → all_past_end first (ops_of calls' store') ≡ 0
  noted_placed e p = rw noted (omega (arith, e, p, all_past_end-push (ops_of calls store) first op))

  pub noted_reads : reads first (ops_of calls' store') ≡ read_after (reads first (ops_of calls store)) op
  noted_reads = rw noted (reads-push (ops_of calls store) first op)

-- what a sync leaves
pub done_left : (r : List ℕ) (I : List ℕ → Type 0) (done : Bool) (c : List ℕ) → left_after r I (synced done) c → done ≡ true → c ≡ r
done_left r I true c h e = h
done_left r I false c h e = cc

pub kept_left : (r : List ℕ) (I : List ℕ → Type 0) (done : Bool) (c : List ℕ) → I r → left_after r I (synced done) c → I c
kept_left r I true c i h = subst I (sym h) i
kept_left r I false c i h = h
