-- What a crash leaves while a header is written.
use Rattle.std.proofs.Common.{◌≡◌, inl, inr, ℕ, ◌<◌, ◌≤◌, List, [], ◌∷◌, ◌++◌, length, get_or, take, refl, sym, ◌∙◌, ap, arith, length-append, rules}
use Rattle.std.proofs.lemmas.List.{append-nil, get_or-take, take_at}
use Rattle.std.proofs.lemmas.Bool.Decides.{eqb_tells}
use Rattle.sv_outside.specs.Disk.{Torn, Cut}
use Rattle.journal.specs.declared.digests.Digests.{Digests}
use Rattle.journal.specs.declared.digests.Version.TheVariants.{Second}
use Rattle.journal.specs.Headers.{name_of, header_of, IsUnfinished, IsKnown}
use Rattle.journal.specs.Format.{at_rest}
use Rattle.journal.specs.Lists.{HoldsList}

pub byte_torn : (now c : List ℕ) → length now ≤ 1 → Torn 0 1 now c → IsUnfinished c
byte_torn now c short torn = inl (omega (arith, torn.no_longer, short))

-- behind a closed gate a header is not finished
pub header_torn : (n : ℕ) (c : List ℕ) → n ≤ 40 → Torn 1 n (0 ∷ []) c → IsUnfinished c
header_torn n [] le torn = inl (omega arith)
header_torn n (x ∷ rest) le torn =
    let first : x ≡ 0 = cc (torn.before) in
    inr (λ one. omega (arith, first, one), omega (arith, torn.no_longer, le))

pub unfinished_holds : (digests : Digests) (c : List ℕ) → IsUnfinished c → HoldsList digests [] c
unfinished_holds digests c (inl short) = record { short = omega (arith, short); list = inl (inl short, refl) }
unfinished_holds digests c (inr shut) = record { short = omega (arith, shut.1); list = inl (inr shut, refl) }

-- an open header and a closed gate
pub fresh_holds : (digests : Digests) (c : List ℕ) → length c ≤ 41 → c ≡ at_rest (header_of Second digests.current) [] → HoldsList digests [] c
fresh_holds digests c size is = record {
  short = omega (arith, size);
  list = inr (Second, record { accepted = search rules; stands = (0 ∷ [], is, tt); fit = record { sized = tt; versions_fit = refl } });
}

-- while the gate of the header opens
pub opening_torn : (digests : Digests) (bytes c : List ℕ) → length bytes ≡ 40 → bytes ≡ (name_of Second ++ digests.current) ++ 0 ∷ [] → Torn 0 1 (0 ∷ bytes) c → HoldsList digests [] c
opening_torn digests bytes [] long is torn = absurd (omega (arith, torn.no_shorter))
opening_torn digests bytes (x ∷ rest) long is torn =
    let same : rest ≡ bytes = torn.after in
    let size : length rest ≡ 40 = ap length same ∙ long in
    elim (eqb_tells x 1) [
      | inl one ↦ fresh_holds digests (x ∷ rest) (omega (arith, size)) (ap (λ (k : ℕ). k ∷ rest) one.1 ∙ (ap (λ (l : List ℕ). 1 ∷ l) (same ∙ is) ∙ ap (λ (l : List ℕ). l ++ 0 ∷ []) (sym (append-nil (header_of Second digests.current)))))
      | inr other ↦ unfinished_holds digests (x ∷ rest) (inr (other.1, omega (arith, size)))
    ]

-- while an unfinished header is cut away behind its gate
pub cut_torn : (now c : List ℕ) → IsUnfinished now → 1 < length now → Cut 1 now c → IsUnfinished c
cut_torn now c (inl short) long cut = absurd (omega (arith, short, long))
cut_torn now c (inr begun) long cut =
    let here : 0 < 1 = omega arith in
    let same : get_or c 0 0 ≡ get_or now 0 0 = sym (get_or-take 1 c 0 0 here) ∙ (ap (λ (l : List ℕ). get_or l 0 0) cut.front ∙ get_or-take 1 now 0 0 here) in
    inr (λ one. begun.0 (sym same ∙ one), omega (arith, cut.no_longer, begun.1))

-- a fresh journal begins with a header that opening accepts
pub fresh_known : (digests : Digests) (image : List ℕ) → length image ≡ 41 → image ≡ at_rest (header_of Second digests.current) [] → IsKnown digests image Second
fresh_known digests image size is =
    let header : List ℕ = header_of Second digests.current ++ [] in
    let long : length header ≡ 40 = omega (arith, sym size ∙ ap length is, length-append header (0 ∷ [])) in
    record {
      accepted = search rules;
      long = omega (arith, size);
      front = ap (λ (l : List ℕ). take 40 l) is ∙ (take_at header (0 ∷ []) 40 long ∙ append-nil (header_of Second digests.current));
    }
