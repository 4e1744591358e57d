-- The records that were read, with their offsets.
use Rattle.std.proofs.Common.{◌≡◌, ℕ, ◌+◌, Bool, true, false, not, cond, List, [], ◌∷◌, ◌++◌, length, map, filter, refl, sym, ◌∙◌, ap, subst, arith, append_assoc, length-append, Option, Result, Ok, Err, inr, Vec, Global}
use Rattle.std.proofs.lemmas.List.{append-nil, map-append}
use Rattle.std.proofs.lemmas.List.Elements.{filter-append}
use Rattle.journal.specs.declared.digests.Digests.{Digests}
use Rattle.journal.specs.declared.digests.Version.{Version}
use Rattle.journal.specs.declared.fault.OpenFault.{OpenFault}
use Rattle.journal.specs.declared.fault.OpenFault.TheVariants.{Disk, NotDatabase, OtherSource, Damaged, NoMemory}
use Rattle.journal.specs.declared.kept.Kept.{Kept}
use Rattle.journal.specs.declared.scan.Scan.{Scan}
use Rattle.journal.specs.Format.{Entry, bytes_of, opened}
use Rattle.journal.specs.Headers.{header_for, IsKnown}
use Rattle.journal.specs.Lists.{is_version, ordinary, IsDatabase}
use Rattle.journal.specs.Looks.{placed, handed, filled, filled_from, Lists, ReadsAll, Looks}
use Rattle.journal.specs.Nexts.{HandsOut, ComesToEnd, ReadsOn}
use Rattle.journal.specs.Scans.{HasRead}
use Rattle.journal.specs.Keys.{Gains}
use Rattle.journal.specs.Steps.{entry_of, IsStepAnswer}
use Rattle.journal.proofs.Ends.{stands_at}

opened_length : (entry : Entry) (entries : List Entry) → length (opened (entry ∷ entries)) ≡ 13 + length entry.body + length (opened entries)
opened_length entry entries = omega (arith, length-append (1 ∷ bytes_of entry) (opened entries))

placed-append : (at : ℕ) (xs ys : List Entry) → placed at (xs ++ ys) ≡ placed at xs ++ placed (at + length (opened xs)) ys
placed-append at [] ys = ap (λ (k : ℕ). placed k ys) (let e : at ≡ at + 0 = omega arith in e)
placed-append at (x ∷ xs) ys =
    let next : at + 13 + length x.body + length (opened xs) ≡ at + length (opened (x ∷ xs)) = omega (arith, opened_length x xs) in
    ap (λ (l : List (ℕ × Entry)). (at, x) ∷ l) (placed-append (at + 13 + length x.body) xs ys ∙ ap (λ (k : ℕ). placed (at + 13 + length x.body) xs ++ placed k ys) next)

handed-append : (at : ℕ) (xs ys : List Entry) → handed at (xs ++ ys) ≡ handed at xs ++ handed (at + length (opened xs)) ys
handed-append at xs ys = ap (filter (λ (p : ℕ × Entry). not (is_version p.1))) (placed-append at xs ys) ∙ filter-append (λ (p : ℕ × Entry). not (is_version p.1)) (placed at xs) (placed (at + length (opened xs)) ys)

handed_none : (at : ℕ) (xs : List Entry) → ordinary xs ≡ [] → handed at xs ≡ []
handed_none at [] none = refl
handed_none at (x ∷ xs) none = split (is_version x) refl (handed_none (at + 13 + length x.body) xs) none
  where
    rest : List (ℕ × Entry)
    rest = handed (at + 13 + length x.body) xs

    split : (b : Bool) → is_version x ≡ b → (ordinary xs ≡ [] → rest ≡ []) → cond (not (is_version x)) (x ∷ ordinary xs) (ordinary xs) ≡ [] → cond (not (is_version x)) ((at, x) ∷ rest) rest ≡ []
    split true is behind none' = ap (λ (b : Bool). cond (not b) ((at, x) ∷ rest) rest) is ∙ behind (sym (ap (λ (b : Bool). cond (not b) (x ∷ ordinary xs) (ordinary xs)) is) ∙ none')
    split false is behind none' = absurd (let e : x ∷ ordinary xs ≡ [] = sym (ap (λ (b : Bool). cond (not b) (x ∷ ordinary xs) (ordinary xs)) is) ∙ none' in cc)

-- records that were passed over are not handed out
pub handed_passed : (at : ℕ) (entries passed : List Entry) → ordinary passed ≡ [] → handed at (entries ++ passed) ≡ handed at entries
handed_passed at entries passed none =
    handed-append at entries passed ∙ (ap (λ (l : List (ℕ × Entry)). handed at entries ++ l) (handed_none (at + length (opened entries)) passed none) ∙ append-nil (handed at entries))

-- one record more that is handed out
handed_one : (digests : Digests) (entries : List Entry) (version : Version) (kept : Kept) (image : List ℕ) (new : Scan) → (out : HandsOut digests entries version kept image new)
    → handed (length (header_for digests version)) ((entries ++ out.passed) ++ entry_of kept ∷ []) ≡ handed (length (header_for digests version)) entries ++ (kept.at, entry_of kept) ∷ []
handed_one digests entries version kept image new out =
    let start = length (header_for digests version) in
    let all : List Entry = entries ++ out.passed in
    let at : start + length (opened all) ≡ kept.at = sym (length-append (header_for digests version) (opened all)) ∙ out.at in
    let one : handed (start + length (opened all)) (entry_of kept ∷ []) ≡ (kept.at, entry_of kept) ∷ [] =
    ap (λ (b : Bool). cond (not b) ((start + length (opened all), entry_of kept) ∷ []) []) out.plain ∙ ap (λ (k : ℕ). (k, entry_of kept) ∷ []) at in
    handed-append start all (entry_of kept ∷ []) ∙ (λ i. handed_passed start entries out.passed out.no_more i ++ one i)

-- one record more to be filled
filled_more : (given : List Entry) (xs : List Entry) (e : Entry) → filled_from given (xs ++ e ∷ []) ≡ filled_from given xs ++ filled (given ++ filled_from given xs) e ∷ []
filled_more given [] e = ap (λ (l : List Entry). filled l e ∷ []) (sym (append-nil given))
filled_more given (x ∷ xs) e =
    let next : List Entry = given ++ filled given x ∷ [] in
    let rest : List Entry = filled_from next xs in
    ap (λ (l : List Entry). filled given x ∷ l) (filled_more next xs e ∙ ap (λ (l : List Entry). rest ++ filled l e ∷ []) (append_assoc given (filled given x ∷ []) rest))

-- one record more, given
pub lists_more : (digests : Digests) (entries : List Entry) (version : Version) (kept : Kept) (image : List ℕ) (new : Scan) (old now : List Kept) → (out : HandsOut digests entries version kept image new)
    → Lists digests version entries old → Gains old kept now → Lists digests version ((entries ++ out.passed) ++ entry_of kept ∷ []) now
lists_more digests entries version kept image new old now out lists gains =
    let start = length (header_for digests version) in
    let before : List (ℕ × Entry) = handed start entries in
    let all : List Entry = (entries ++ out.passed) ++ entry_of kept ∷ [] in
    let more : handed start all ≡ before ++ (kept.at, entry_of kept) ∷ [] = handed_one digests entries version kept image new out in
    let offsets : map (λ (p : ℕ × Entry). p.0) (handed start all) ≡ map (λ (p : ℕ × Entry). p.0) before ++ kept.at ∷ [] =
    ap (map (λ (p : ℕ × Entry). p.0)) more ∙ map-append (λ (p : ℕ × Entry). p.0) before ((kept.at, entry_of kept) ∷ []) in
    let records : List Entry = map (λ (p : ℕ × Entry). p.1) before in
    let bodies : map (λ (p : ℕ × Entry). p.1) (handed start all) ≡ records ++ entry_of kept ∷ [] =
    ap (map (λ (p : ℕ × Entry). p.1)) more ∙ map-append (λ (p : ℕ × Entry). p.1) before ((kept.at, entry_of kept) ∷ []) in
    let first : map (λ (k : Kept). k.at) now ≡ map (λ (p : ℕ × Entry). p.0) (handed start all) = gains.0 ∙ (ap (λ (l : List ℕ). l ++ kept.at ∷ []) lists.0 ∙ sym offsets) in
    let second : map entry_of now ≡ filled_from [] (map (λ (p : ℕ × Entry). p.1) (handed start all)) =
    gains.1 ∙ (ap (λ (l : List Entry). l ++ filled l (entry_of kept) ∷ []) lists.1 ∙ (sym (filled_more [] records (entry_of kept)) ∙ sym (ap (filled_from []) bodies))) in
    (first, second)

-- at a closed gate all are listed
pub lists_all : (digests : Digests) (entries : List Entry) (version : Version) (image : List ℕ) (new : Scan) (records : Vec Kept Global) → new.version ≡ version → ComesToEnd digests entries image new → Lists digests version entries records.items → ReadsAll digests version image (Ok records)
lists_all digests entries version image new records same end lists =
    let all : List Entry = entries ++ end.passed in
    let database : IsDatabase digests all image new.version = record {
      accepted = end.read.accepted;
      stands = stands_at (header_for digests new.version) all new.at image end.read.front end.closed;
      fit = end.read.fit;
    } in
    let listed : Lists digests version all records.items = subst (λ (l : List (ℕ × Entry)). (map (λ (k : Kept). k.at) records.items ≡ map (λ (p : ℕ × Entry). p.0) l) × (map entry_of records.items ≡ filled_from [] (map (λ (p : ℕ × Entry). p.1) l)))
    (sym (handed_passed (length (header_for digests version)) entries end.passed end.no_more)) lists in
    (all, subst (IsDatabase digests all image) same database, listed)

pub refuses_all : (digests : Digests) (entries : List Entry) (version : Version) (image : List ℕ) (new : Scan) (fault : OpenFault) → ReadsOn digests entries version image new (Err fault) → ReadsAll digests version image (Err fault)
refuses_all digests entries version image new (Damaged at) damage = (entries ++ damage.passed, damage.damaged)
refuses_all digests entries version image new Disk damage = tt
refuses_all digests entries version image new NoMemory damage = tt
refuses_all digests entries version image new NotDatabase damage = tt
refuses_all digests entries version image new (OtherSource s w) damage = tt

pub looks_known : (digests : Digests) (image : List ℕ) (version : Version) (r : Result (Vec Kept Global) OpenFault) → IsKnown digests image version → IsStepAnswer r → ReadsAll digests version image r → Looks digests image r
looks_known digests image version (Ok records) known answer reads = inr (version, known, reads)
looks_known digests image version (Err (Damaged at)) known answer reads = (version, known, reads)
looks_known digests image version (Err Disk) known answer reads = tt
looks_known digests image version (Err NoMemory) known answer reads = tt
looks_known digests image version (Err NotDatabase) known answer reads = absurd answer
looks_known digests image version (Err (OtherSource s w)) known answer reads = absurd answer

-- the same image on the disk as before the records were read
pub again_on : (digests : Digests) (entries : List Entry) (version : Version) (scan new : Scan) (image other : List ℕ) (r : Result (Option Kept) OpenFault) → other ≡ image → HasRead digests entries scan image
    → (HasRead digests entries scan other → ReadsOn digests entries version other new r) → ReadsOn digests entries version image new r
again_on digests entries version scan new image other r same read reads = subst (λ (l : List ℕ). ReadsOn digests entries version l new r) same (reads (subst (HasRead digests entries scan) (sym same) read))
