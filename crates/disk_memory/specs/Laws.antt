-- The laws of a disk that keeps its calls.
use Rattle.std.specs.Prelude.{◌≡◌, ℕ, ◌+◌, ◌≤◌, true, false, List, [], ◌∷◌, ◌++◌, length, take, drop}
use Rattle.std.proofs.Common.{refl, ◌∙◌, ap, arith, append_assoc, length-append, length-take, length-drop}
use Rattle.std.proofs.lemmas.List.{take_all, take_at, take-take, drop_at}
use Rattle.sv_outside.specs.Disk.{Torn}
use Rattle.disk_memory.specs.Calls.{Op, ops_of, reads, read_after, past_end, all_past_end, left_after, leaves, image, image_since}
use Rattle.disk_memory.specs.Calls.Op.{wrote, cut, synced}
use Rattle.disk_memory.specs.declared.medium.Call.{Call}
use Rattle.disk_memory.specs.declared.medium.Call.TheVariants.{Write, Cut, Sync}

pub length-ops_of : (calls : List Call) (store : List ℕ) → length (ops_of calls store) ≡ length calls
length-ops_of [] store = refl
length-ops_of (Write at len done ∷ calls) store = omega (arith, length-ops_of calls (drop len store))
length-ops_of (Cut len done ∷ calls) store = omega (arith, length-ops_of calls store)
length-ops_of (Sync done ∷ calls) store = omega (arith, length-ops_of calls store)

pub now_counts : (first : List ℕ) (calls : List Call) (store : List ℕ) (t : ℕ) (c : List ℕ) → t ≤ length calls → image first (ops_of calls store) c → image_since first (ops_of calls store) t c
now_counts first calls store t c le now =
    let n = length-ops_of calls store in
    (length calls, le, omega (arith, n), rw (take_all (length calls) (ops_of calls store) (omega (arith, n))) now)

pub now_only : (first : List ℕ) (calls : List Call) (store : List ℕ) (c : List ℕ) → image_since first (ops_of calls store) (length calls) c → image first (ops_of calls store) c
now_only first calls store c (k, le, in', left) =
    let n = length-ops_of calls store in
    rw (take_all k (ops_of calls store) (omega (arith, n, le))) at left

-- a write as it was asked for is one of its torn forms
pub written_torn : (r bytes : List ℕ) (at : ℕ) → at ≤ length r → Torn at (length bytes) r (take at r ++ bytes ++ drop (at + length bytes) r)
written_torn r bytes at le =
    let l : length (take at r) ≡ at = omega (arith, length-take at r) in
    let n : length (take at r ++ bytes) ≡ at + length bytes = omega (arith, l, length-append (take at r) bytes) in
    record {
      before = ap (λ (x : List ℕ). take at x) (append_assoc (take at r) bytes (drop (at + length bytes) r)) ∙ take_at (take at r) (bytes ++ drop (at + length bytes) r) at l;
      after = drop_at (take at r ++ bytes) (drop (at + length bytes) r) (at + length bytes) n;
      no_shorter = omega (arith, n, length-append (take at r ++ bytes) (drop (at + length bytes) r), length-drop (at + length bytes) r);
      no_longer = omega (arith, n, length-append (take at r ++ bytes) (drop (at + length bytes) r), length-drop (at + length bytes) r);
    }

-- one call leaves, among others, what it reads
pub here_after : (op : Op) (r : List ℕ) (I : List ℕ → Type 0) → past_end r op ≡ 0 → I r → left_after r I op (read_after r op)
here_after (wrote at bytes true) r I e i = (r, i, written_torn r bytes at (omega (arith, e)))
here_after (wrote at bytes false) r I e i = (r, i, record { before = refl; after = refl; no_shorter = omega arith; no_longer = omega arith })
here_after (cut n true) r I e i = (r, i, record { no_shorter = omega (arith, e, length-take n r); no_longer = omega (arith, length-take n r); front = take-take n n r (omega arith) })
here_after (cut n false) r I e i = (r, i, record { no_shorter = omega (arith, e); no_longer = omega arith; front = refl })
here_after (synced true) r I e i = refl
here_after (synced false) r I e i = i

reads_left : (ops : List Op) (r : List ℕ) (I : List ℕ → Type 0) → all_past_end r ops ≡ 0 → I r → leaves r I ops (reads r ops)
reads_left [] r I e i = i
reads_left (op ∷ ops) r I e i = reads_left ops (read_after r op) (left_after r I op) (omega (arith, e)) (here_after op r I (omega (arith, e)) i)

pub reads_is_image : (first : List ℕ) (ops : List Op) (bytes : List ℕ) → bytes ≡ reads first ops → all_past_end first ops ≡ 0 → image first ops bytes
reads_is_image first ops bytes e p = rw e (reads_left ops first (λ x. x ≡ first) p refl)
