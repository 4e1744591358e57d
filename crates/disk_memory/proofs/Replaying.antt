-- The calls done again one by one, and the list that they make.
use Rattle.std.proofs.Common.{◌≡◌, ℕ, zero, suc, ◌+◌, ◌-◌, ◌<◌, inl, inr, true, List, [], ◌∷◌, ◌++◌, length, get_or, take, drop, refl, sym, ◌∙◌, ap, subst, arith}
use Rattle.std.proofs.lemmas.List.{drop_more, drop-drop}
use Rattle.std.proofs.Math.Seq.{take-add}
use Rattle.disk_memory.specs.Calls.{Op, ops_of, bytes_of, reads, read_after, past_end, all_past_end}
use Rattle.disk_memory.specs.Calls.Op.{wrote, cut, synced}
use Rattle.disk_memory.specs.Listed.{listed_after, listed_by, listed_images}
use Rattle.disk_memory.specs.Replay.{op_with, size_of, IsReplayed, IsSettled}
use Rattle.disk_memory.specs.declared.medium.Call.{Call}
use Rattle.disk_memory.specs.declared.medium.Call.TheVariants.{Write, Cut, Sync}
use Rattle.disk_memory.proofs.Grown.{ops_of-sync, reads-push}

ops_of-first : (call : Call) (calls : List Call) (store : List ℕ) → ops_of (call ∷ calls) store ≡ op_with call (take (size_of call) store) ∷ ops_of calls (drop (size_of call) store)
ops_of-first (Write at len done) calls store = refl
ops_of-first (Cut n done) calls store = refl
ops_of-first (Sync done) calls store = refl

bytes_of-first : (call : Call) (calls : List Call) → bytes_of (call ∷ calls) ≡ size_of call + bytes_of calls
bytes_of-first (Write at len done) calls = refl
bytes_of-first (Cut n done) calls = omega arith
bytes_of-first (Sync done) calls = omega arith

-- the call of that number, with its bytes
module _ (first : List ℕ) (ops : List Op) (calls : List Call) (store : List ℕ) (n : ℕ) (read : List ℕ) (used : ℕ) (d : Call) (inside : n < length calls) (r : IsReplayed first ops calls store n read used) where
  abbrev pub op_at : Op
  op_at = op_with (get_or calls n d) (take (size_of (get_or calls n d)) (drop used store))

  abbrev rest : List Op
  rest = ops_of (drop (n + 1) calls) (drop (used + size_of (get_or calls n d)) store)

  split : drop n calls ≡ get_or calls n d ∷ drop (n + 1) calls
  split = drop_more calls n d inside

  next_rest : ops_of (drop n calls) (drop used store) ≡ op_at ∷ rest
  next_rest = rw (split, ← drop-drop (size_of (get_or calls n d)) used store) (ops_of-first (get_or calls n d) (drop (n + 1) calls) (drop used store))

  pub next_ops : drop n ops ≡ op_at ∷ drop (n + 1) ops
  next_ops =
      let whole : drop n ops ≡ op_at ∷ rest = r.rest ∙ next_rest in
      let tail : drop (n + 1) ops ≡ rest = sym (drop-drop 1 n ops) ∙ ap (λ (l : List Op). drop 1 l) whole in
      whole ∙ ap (λ (l : List Op). op_at ∷ l) (sym tail)

  next_bytes : size_of (get_or calls n d) + bytes_of (drop (n + 1) calls) ≡ length store - used
  next_bytes = sym (bytes_of-first (get_or calls n d) (drop (n + 1) calls)) ∙ (ap bytes_of (sym split) ∙ r.can_go_on.stored)

  next_placed : past_end read op_at + all_past_end (read_after read op_at) rest ≡ 0
  next_placed = subst (λ (l : List Op). all_past_end read l ≡ 0) next_rest r.can_go_on.placed

  next_done : reads first (take (n + 1) ops) ≡ read_after read op_at
  next_done =
      let more : take (n + 1) ops ≡ take n ops ++ op_at ∷ [] = take-add n 1 ops ∙ ap (λ (l : List Op). take n ops ++ take 1 l) next_ops in
      ap (reads first) more ∙ (reads-push (take n ops) first op_at ∙ ap (λ (b : List ℕ). read_after b op_at) (sym r.done))

  pub next : (now : List ℕ) (used' : ℕ) → now ≡ read_after read op_at → used' ≡ used + size_of (get_or calls n d) → IsReplayed first ops calls store (n + 1) now used'
  next now used' e f =
      let tail : drop (n + 1) ops ≡ rest = sym (drop-drop 1 n ops) ∙ ap (λ (l : List Op). drop 1 l) (r.rest ∙ next_rest) in
      rw (e, f) (record {
        can_go_on = record {
          inside = omega (arith, next_bytes, r.can_go_on.inside);
          stored = omega (arith, next_bytes, r.can_go_on.inside);
          placed = omega (arith, next_placed);
        };
        rest = tail;
        done = sym next_done;
      })

  pub next_listed : (listed total : List (List ℕ)) → listed_by read listed (drop n ops) ≡ total → listed_by (read_after read op_at) (listed_after read listed op_at) (drop (n + 1) ops) ≡ total
  next_listed listed total e = subst (λ (l : List Op). listed_by read listed l ≡ total) next_ops e

-- a list of calls in two parts
listed_split : (n : ℕ) (ops : List Op) (r : List ℕ) (listed : List (List ℕ)) → listed_by r listed ops ≡ listed_by (reads r (take n ops)) (listed_by r listed (take n ops)) (drop n ops)
listed_split zero ops r listed = refl
listed_split (suc n) [] r listed = refl
listed_split (suc n) (op ∷ ops) r listed = listed_split n ops (read_after r op) (listed_after r listed op)

pub listed_push : (ops : List Op) (r : List ℕ) (listed : List (List ℕ)) (op : Op) → listed_by r listed (ops ++ op ∷ []) ≡ listed_after (reads r ops) (listed_by r listed ops) op
listed_push [] r listed op = refl
listed_push (o ∷ ops) r listed op = listed_push ops (read_after r o) (listed_after r listed o) op

take-ops_of : (n : ℕ) (calls : List Call) (store : List ℕ) → take n (ops_of calls store) ≡ ops_of (take n calls) store
take-ops_of zero calls store = refl
take-ops_of (suc n) [] store = refl
take-ops_of (suc n) (Write at len done ∷ calls) store = ap (λ (l : List Op). wrote at (take len store) done ∷ l) (take-ops_of n calls (drop len store))
take-ops_of (suc n) (Cut len done ∷ calls) store = ap (λ (l : List Op). cut len done ∷ l) (take-ops_of n calls store)
take-ops_of (suc n) (Sync done ∷ calls) store = ap (λ (l : List Op). synced done ∷ l) (take-ops_of n calls store)

-- after a sync that was done, one image is listed
pub listed_synced : (ops : List Op) (first : List ℕ) → listed_images first (ops ++ synced true ∷ []) ≡ reads first (ops ++ synced true ∷ []) ∷ []
listed_synced ops first = listed_push ops first (first ∷ []) (synced true) ∙ ap (λ (r : List ℕ). r ∷ []) (sym (reads-push ops first (synced true)))

settled : (first : List ℕ) (calls : List Call) (store : List ℕ) (n : ℕ) → IsSettled calls n → listed_images first (take n (ops_of calls store)) ≡ reads first (take n (ops_of calls store)) ∷ []
settled first calls store n (inl none) = rw none refl
settled first calls store n (inr (k, e, last)) =
    let ops : take n (ops_of calls store) ≡ ops_of (take k calls) store ++ synced true ∷ [] = take-ops_of n calls store ∙ (ap (λ (l : List Call). ops_of l store) last ∙ ops_of-sync (take k calls) store true) in
    rw ops (listed_synced (ops_of (take k calls) store) first)

pub listed_settled : (first : List ℕ) (calls : List Call) (store : List ℕ) (n : ℕ) (read : List ℕ) (used : ℕ) → IsSettled calls n → IsReplayed first (ops_of calls store) calls store n read used
    → listed_by read (read ∷ []) (ops_of (drop n calls) (drop used store)) ≡ listed_images first (ops_of calls store)
listed_settled first calls store n read used s r =
    let ops = ops_of calls store in
    let begun : listed_images first (take n ops) ≡ read ∷ [] = settled first calls store n s ∙ ap (λ (b : List ℕ). b ∷ []) (sym r.done) in
    let whole : listed_images first ops ≡ listed_by read (read ∷ []) (drop n ops) =
    listed_split n ops first (first ∷ []) ∙ (ap (λ (b : List ℕ). listed_by b (listed_images first (take n ops)) (drop n ops)) (sym r.done) ∙ ap (λ (l : List (List ℕ)). listed_by read l (drop n ops)) begun) in
    ap (listed_by read (read ∷ [])) (sym r.rest) ∙ sym whole
