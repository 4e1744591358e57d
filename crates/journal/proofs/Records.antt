-- What stands behind a gate.
use Rattle.std.proofs.Common.{◌≡◌, false, inl, inr, ℕ, ◌+◌, ◌-◌, ◌<◌, ◌≤◌, ◌^◌, List, [], ◌∷◌, ◌++◌, length, get_or, take, drop, refl, sym, ◌∙◌, ap, subst, arith, length-append, length-drop, take-append-drop, Result, Ok, Err}
use Rattle.std.proofs.lemmas.List.{drop_more, drop_all, drop-drop}
use Rattle.byteorder.specs.Endian.{big_bytes}
use Rattle.journal.specs.declared.digests.Digests.{Digests}
use Rattle.journal.specs.declared.fault.OpenFault.{OpenFault}
use Rattle.journal.specs.declared.fault.OpenFault.TheVariants.{Disk, NotDatabase, OtherSource, Damaged, NoMemory}
use Rattle.journal.specs.declared.kept.Kept.{Kept}
use Rattle.journal.specs.declared.scan.Scan.{Scan}
use Rattle.journal.specs.declared.scan.Step.{Step}
use Rattle.journal.specs.declared.scan.Step.TheVariants.{Closed, Record, Version}
use Rattle.journal.specs.Damages.{IsCutShort, IsDamaged}
use Rattle.journal.specs.Format.{Entry, bytes_of, IsOpen, IsClosed}
use Rattle.journal.specs.Lists.{is_version}
use Rattle.journal.specs.Scans.{HasRead}
use Rattle.journal.specs.Steps.{entry_of, IsRecordAt, IsRecordAnswer, StepsOn, Accepts, IsAcceptAnswer, StopsAtClosed}
use Rattle.journal.proofs.Numerals.{same_spelling}

pub last_closed : (image : List ℕ) (at : ℕ) → at + 1 ≡ length image → IsClosed (drop at image)
last_closed image at is =
    let whole : drop at image ≡ get_or image at 0 ∷ [] = drop_more image at 0 (omega (arith, is)) ∙ ap (λ (l : List ℕ). get_or image at 0 ∷ l) (drop_all (at + 1) image (omega (arith, is))) in
    subst IsClosed (sym whole) tt

nothing : (list : List ℕ) → length list ≡ 0 → list ≡ []
nothing [] is = refl
nothing (x ∷ xs) is = absurd (omega (arith, is))

-- the length of what stands behind a gate
record_length : (image : List ℕ) (at : ℕ) (entry : Entry) (rest : List ℕ) → drop at image ≡ (1 ∷ bytes_of entry) ++ rest → length image - at ≡ 13 + length entry.body + length rest
record_length image at entry rest is = omega (arith, length-drop at image, ap length is, length-append entry.body rest)

pub no_room : (image : List ℕ) (at : ℕ) → length image - at ≤ 13 → IsCutShort (drop at image)
no_room image at short entry rest sized is = nothing rest (omega (arith, short, record_length image at entry rest is))

-- the numbers that were read are those of the record
pub too_short : (image : List ℕ) (at round task n : ℕ) → n < 2 ^ 32 → big_bytes 4 round ++ big_bytes 4 task ++ big_bytes 4 n ≡ take 12 (drop (at + 1) image) → length image ≤ at + 13 + n → IsCutShort (drop at image)
too_short image at round task n fits numbers short entry rest sized is =
    let behind : drop (at + 1) image ≡ bytes_of entry ++ rest = sym (drop-drop 1 at image) ∙ ap (drop 1) is in
    let same : big_bytes 4 n ≡ big_bytes 4 (length entry.body) = ap (drop 8) (numbers ∙ ap (take 12) behind) in
    let size : n ≡ length entry.body = same_spelling n (length entry.body) fits sized.body same in
    nothing rest (omega (arith, short, size, record_length image at entry rest is))

open_first : (tail : List ℕ) → IsOpen tail → tail ≡ 1 ∷ drop 1 tail
open_first [] never = absurd never
open_first (x ∷ []) never = absurd never
open_first (x ∷ y ∷ rest) one = ap (λ (k : ℕ). k ∷ y ∷ rest) one

pub record_stands : (image : List ℕ) (at round task n : ℕ) (body : List ℕ) → IsOpen (drop at image) → big_bytes 4 round ++ big_bytes 4 task ++ big_bytes 4 n ≡ take 12 (drop (at + 1) image)
    → body ≡ take n (drop (at + 13) image) → n ≡ length body
    → drop at image ≡ (1 ∷ bytes_of (record { round = round; task = task; body = body })) ++ drop (at + 13 + length body) image
record_stands image at round task n body gate numbers is size =
    let first : drop at image ≡ 1 ∷ drop (at + 1) image = open_first (drop at image) gate ∙ ap (λ (l : List ℕ). 1 ∷ l) (drop-drop 1 at image) in
    let end : at + 13 + n ≡ at + 13 + length body = ap (λ (k : ℕ). at + 13 + k) size in
    let after : drop (at + 13) image ≡ body ++ drop (at + 13 + length body) image =
    sym (take-append-drop n (drop (at + 13) image)) ∙ (λ i. (sym is) i ++ (drop-drop n (at + 13) image ∙ ap (λ (k : ℕ). drop k image) end) i) in
    let middle : drop 12 (drop (at + 1) image) ≡ drop (at + 13) image = drop-drop 12 (at + 1) image ∙ ap (λ (k : ℕ). drop k image) (let e : at + 1 + 12 ≡ at + 13 = omega arith in e) in
    let spelled : big_bytes 4 round ++ big_bytes 4 task ++ big_bytes 4 (length body) ≡ take 12 (drop (at + 1) image) = ap (λ (k : ℕ). big_bytes 4 round ++ big_bytes 4 task ++ big_bytes 4 k) (sym size) ∙ numbers in
    let rest : drop (at + 1) image ≡ (big_bytes 4 round ++ big_bytes 4 task ++ big_bytes 4 (length body)) ++ (body ++ drop (at + 13 + length body) image) =
    sym (take-append-drop 12 (drop (at + 1) image)) ∙ (λ i. (sym spelled) i ++ (middle ∙ after) i) in
    first ∙ ap (λ (l : List ℕ). 1 ∷ l) rest

-- what a refusal to read a record says of the step
pub refused_steps : (digests : Digests) (entries : List Entry) (image : List ℕ) (old : Scan) (fault : OpenFault) → HasRead digests entries old image → IsOpen (drop old.at image)
    → IsRecordAnswer old.at (Err fault) → IsRecordAt image old.at (Err fault) → StepsOn digests entries old image old (Err fault)
refused_steps digests entries image old (Damaged at) read gate answer cut =
    (subst (λ (k : ℕ). IsDamaged digests old.version entries image k) (sym answer) (record { front = read.front; fit = read.fit; gate = gate; cause = inr (inl cut) }), answer)
refused_steps digests entries image old Disk read gate answer cut = tt
refused_steps digests entries image old NoMemory read gate answer cut = tt
refused_steps digests entries image old NotDatabase read gate answer cut = tt
refused_steps digests entries image old (OtherSource s w) read gate answer cut = tt

pub accepted_steps : (digests : Digests) (entries : List Entry) (kept : Kept) (image : List ℕ) (old new : Scan) (result : Result Step OpenFault) → HasRead digests entries old image → IsOpen (drop old.at image) → kept.at ≡ old.at
    → Accepts digests entries kept image old new result → StepsOn digests entries old image new result
accepted_steps digests entries kept image old new (Ok Closed) read gate here accepts = absurd accepts
accepted_steps digests entries kept image old new (Ok (Record same)) read gate here accepts =
    let is = sym accepts.0 in
    (subst (λ (k : Kept). HasRead digests (entries ++ entry_of k ∷ []) new image) is accepts.1, subst (λ (k : Kept). is_version (entry_of k) ≡ false) is accepts.2, ap (λ (k : Kept). k.at) accepts.0 ∙ here)
accepted_steps digests entries kept image old new (Ok Version) read gate here accepts = accepts
accepted_steps digests entries kept image old new (Err (Damaged at)) read gate here accepts =
    let is : old.at ≡ at = sym (accepts.1 ∙ here) in
    (subst (λ (k : ℕ). IsDamaged digests old.version entries image k) is (record { front = read.front; fit = read.fit; gate = gate; cause = inr (inr accepts.0) }), sym is)
accepted_steps digests entries kept image old new (Err Disk) read gate here accepts = absurd accepts
accepted_steps digests entries kept image old new (Err NoMemory) read gate here accepts = absurd accepts
accepted_steps digests entries kept image old new (Err NotDatabase) read gate here accepts = absurd accepts
accepted_steps digests entries kept image old new (Err (OtherSource s w)) read gate here accepts = absurd accepts

-- a record that was read is no closed gate
pub never_closed : (old new : Scan) (image : List ℕ) (result : Result Step OpenFault) → IsAcceptAnswer result → StopsAtClosed old image new result
never_closed old new image (Ok Closed) answer = absurd answer
never_closed old new image (Ok (Record kept)) answer = tt
never_closed old new image (Ok Version) answer = tt
never_closed old new image (Err fault) answer = tt
