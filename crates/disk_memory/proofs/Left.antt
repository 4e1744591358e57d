-- Each image that is listed may be left, and what reads is among them.
use Rattle.std.proofs.Common.{◌≡◌, ℕ, ◌+◌, ◌≤◌, true, false, List, [], ◌∷◌, ◌++◌, length, get_or, take, drop, refl, subst, arith}
use Rattle.std.specs.Prelude.{replicate}
use Rattle.std.specs.List.{All, Contains}
use Rattle.std.proofs.lemmas.List.{length-replicate}
use Rattle.std.proofs.lemmas.List.Elements.{All-append, All-push, Contains-append_right}
use Rattle.sv_outside.specs.Disk.{Torn, Cut as CutShort}
use Rattle.disk_memory.specs.Calls.{Op, reads, read_after, past_end, all_past_end, left_after, leaves, image}
use Rattle.disk_memory.specs.Calls.Op.{wrote, cut, synced}
use Rattle.disk_memory.specs.Listed.{filled, listed_after, listed_by, listed_images}
use Rattle.disk_memory.specs.Laws.{written_torn, here_after}

abbrev ones : ℕ → List ℕ
ones n = replicate n 1

filled_torn : (r : List ℕ) (at n : ℕ) → at ≤ length r → Torn at n r (filled r at n)
filled_torn r at n place =
    let long : length (ones n) ≡ n = length-replicate {A = ℕ} n 1 in
    subst (λ (m : ℕ). Torn at m r (take at r ++ ones n ++ drop (at + m) r)) long (written_torn r (ones n) at place)

same_torn : (at n : ℕ) (d : List ℕ) → Torn at n d d
same_torn at n d = record { before = refl; after = refl; no_shorter = omega arith; no_longer = omega arith }

same_cut : (n : ℕ) (d : List ℕ) → CutShort n d d
same_cut n d = record { no_shorter = omega arith; no_longer = omega arith; front = refl }

-- one call
listed_left_after : (op : Op) (r : List ℕ) (I : List ℕ → Type 0) (listed : List (List ℕ)) → past_end r op ≡ 0 → I r → All I listed → All (left_after r I op) (listed_after r listed op)
listed_left_after (wrote at bytes done) r I listed e i all =
    let P : List ℕ → Type 0 = left_after r I (wrote at bytes done) in
    let full : List ℕ = filled r at (length bytes) in
    All-append P listed (full ∷ read_after r (wrote at bytes done) ∷ [])
    (λ k d inside. (get_or listed k d, all k d inside, same_torn at (length bytes) (get_or listed k d)))
    (All-push P (full ∷ []) (read_after r (wrote at bytes done))
    (All-push P [] full (λ k d inside. absurd (omega (arith, inside))) (r, i, filled_torn r at (length bytes) (omega (arith, e))))
    (here_after (wrote at bytes done) r I e i))
listed_left_after (cut n done) r I listed e i all =
    All-push (left_after r I (cut n done)) listed (read_after r (cut n done)) (λ k d inside. (get_or listed k d, all k d inside, same_cut n (get_or listed k d))) (here_after (cut n done) r I e i)
listed_left_after (synced true) r I listed e i all = All-push (λ c. c ≡ r) [] r (λ k d inside. absurd (omega (arith, inside))) refl
listed_left_after (synced false) r I listed e i all = all

listed_left : (ops : List Op) (r : List ℕ) (I : List ℕ → Type 0) (listed : List (List ℕ)) → all_past_end r ops ≡ 0 → I r → All I listed → All (leaves r I ops) (listed_by r listed ops)
listed_left [] r I listed e i all = all
listed_left (o ∷ ops) r I listed e i all =
    listed_left ops (read_after r o) (left_after r I o) (listed_after r listed o) (omega (arith, e)) (here_after o r I (omega (arith, e)) i)
    (listed_left_after o r I listed (omega (arith, e)) i all)

pub each_may_be_left : (first : List ℕ) (ops : List Op) → all_past_end first ops ≡ 0 → All (image first ops) (listed_images first ops)
each_may_be_left first ops e = listed_left ops first (λ x. x ≡ first) (first ∷ []) e refl (All-push (λ c. c ≡ first) [] first (λ k d inside. absurd (omega (arith, inside))) refl)

-- one call
reads_listed_after : (op : Op) (r : List ℕ) (listed : List (List ℕ)) → Contains listed r → Contains (listed_after r listed op) (read_after r op)
reads_listed_after (wrote at bytes done) r listed has =
    let now : List ℕ = read_after r (wrote at bytes done) in
    Contains-append_right listed (filled r at (length bytes) ∷ now ∷ []) now (1, omega arith, refl)
reads_listed_after (cut n done) r listed has = let now : List ℕ = read_after r (cut n done) in Contains-append_right listed (now ∷ []) now (0, omega arith, refl)
reads_listed_after (synced true) r listed has = (0, omega arith, refl)
reads_listed_after (synced false) r listed has = has

reads_listed : (ops : List Op) (r : List ℕ) (listed : List (List ℕ)) → all_past_end r ops ≡ 0 → Contains listed r → Contains (listed_by r listed ops) (reads r ops)
reads_listed [] r listed e has = has
reads_listed (o ∷ ops) r listed e has = reads_listed ops (read_after r o) (listed_after r listed o) (omega (arith, e)) (reads_listed_after o r listed has)

pub what_reads_is_listed : (first : List ℕ) (ops : List Op) → all_past_end first ops ≡ 0 → Contains (listed_images first ops) (reads first ops)
what_reads_is_listed first ops e = reads_listed ops first (first ∷ []) e (0, omega arith, refl)
