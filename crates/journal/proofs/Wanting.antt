-- Whether a version record is added, and what stands then.
use Rattle.std.proofs.Common.{◌≡◌, inl, inr, ℕ, ◌+◌, ◌≤◌, ◌<◌, ◌^◌, nat_le, Bool, true, false, if◌then◌else◌, List, [], ◌∷◌, ◌++◌, length, refl, sym, ◌∙◌, ap, subst, arith, length-append}
use Rattle.std.proofs.lemmas.Bool.{cases_Bool}
use Rattle.std.proofs.lemmas.Bool.Decides.{nat_tests}
use Rattle.journal.specs.declared.digests.Digests.{Digests}
use Rattle.journal.specs.declared.digests.Version.{Version}
use Rattle.journal.specs.declared.digests.Version.TheVariants.{First, Second}
use Rattle.journal.specs.Format.{Entry, bytes_of, opened, Rests}
use Rattle.journal.specs.Headers.{header_for}
use Rattle.journal.specs.Lists.{versions, version_entry, IsSized, VersionsFit, AreFit, HoldsList, wants_version}
use Rattle.journal.specs.Settling.{Settled}
use Rattle.journal.proofs.Accepting.{sized_push, versions-more}
use Rattle.journal.proofs.Holding.{holds}

pub wants_yes : (version : Version) (b : Bool) (e : Entry) (found : List Entry) (at : ℕ) → found ≡ (if b then e ∷ [] else []) → (version ≡ First) × (b ≡ false) × (at + 46 ≤ 2 ^ 31) → wants_version version found at ≡ true
wants_yes version b e found at is all =
    let none : found ≡ [] = is ∙ ap (λ c. if c then e ∷ [] else []) all.1 in
    let le = all.2 in
    let fits : nat_le (at + 46) (2 ^ 31) ≡ true = grind (arith, nat_tests) in
    (λ i. wants_version (all.0 i) (none i) at) ∙ fits

not_le : (a b : ℕ) → (a ≤ b → ⊥) → nat_le a b ≡ false
not_le a b ne = elim (cases_Bool (nat_le a b)) [
  | inl less ↦ absurd (ne (grind (arith, nat_tests)))
  | inr shut ↦ shut
]

pub wants_not : (version : Version) (b : Bool) (e : Entry) (found : List Entry) (at : ℕ) → found ≡ (if b then e ∷ [] else []) → ((version ≡ First) × (b ≡ false) × (at + 46 ≤ 2 ^ 31) → ⊥) → wants_version version found at ≡ false
wants_not First false e found at is ne = (λ i. wants_version First (is i) at) ∙ not_le (at + 46) (2 ^ 31) (λ le. ne (refl, refl, le))
wants_not First true e found at is ne = λ i. wants_version First (is i) at
wants_not Second b e found at is ne = refl

pub fit_version : (version : Version) (current : List ℕ) (entries : List Entry) → version ≡ First → versions entries ≡ [] → length current ≡ 32 → AreFit version current entries → AreFit version current (entries ++ version_entry current ∷ [])
fit_version version current entries first none long fit =
    let sized : IsSized (version_entry current) = record { round = omega arith; task = omega arith; body = omega (arith, long) } in
    let all : versions (entries ++ version_entry current ∷ []) ≡ version_entry current ∷ [] = versions-more entries (version_entry current) refl ∙ ap (λ (l : List Entry). l ++ version_entry current ∷ []) none in
    record {
      sized = sized_push entries (version_entry current) fit.sized sized;
      versions_fit = subst (λ (v : Version). VersionsFit v current (versions (entries ++ version_entry current ∷ []))) (sym first) (inr all);
    }

-- an image at rest holds its records
pub rest_holds : (told : Bool) (may_leave : List ℕ → Type 0) (digests : Digests) (version : Version) (entries : List Entry) (gate : ℕ) (image : List ℕ) → gate < 2 ^ 31 → Settled told may_leave digests version entries gate → Rests (header_for digests version) entries image → HoldsList digests entries image
rest_holds told may_leave digests version entries gate image near settled rests =
    holds digests version entries image settled.accepted settled.fit
    (omega (arith, near, settled.gate_is, ap length rests.whole, length-append (header_for digests version ++ opened entries) (rests.last ∷ []))) (rests.last ∷ [], rests.whole, tt)

pub version_long : (current : List ℕ) → length current ≡ 32 → 45 ≡ length (bytes_of (version_entry current) ++ 0 ∷ [])
version_long current long = omega (arith, long, length-append current (0 ∷ []))
