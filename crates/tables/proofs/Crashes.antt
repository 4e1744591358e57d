-- What a crash leaves of a call that makes room and then writes a batch, or writes nothing.
use Rattle.std.proofs.Common.{◌≡◌, ◌⊎◌, ℕ, Bool, true, false, List, [], inl, inr, sym, subst, arith, ◌∙◌}
use Rattle.std.proofs.lemmas.List.{append-nil}
use Rattle.sv_outside.specs.Disk.{IsStill, LeavesOnly}
use Rattle.journal.specs.declared.digests.Digests.{Digests}
use Rattle.journal.specs.declared.digests.Version.{Version}
use Rattle.journal.specs.declared.journal.Journal.{Journal}
use Rattle.journal.specs.Format.{Entry}
use Rattle.journal.specs.Journals.{journal_disk, journal_gate, has_failed, IsSettled}
use Rattle.journal.specs.Settling.{HoldsEither}
use Rattle.tables.specs.Stored.{Lasts, LeftByWriting, AllOrNone}

-- no time has passed
abbrev pub Still : {D : Type 0} → (D → ℕ) → (D → ℕ → List ℕ → Type 0) → (D → List ℕ → Type 0) → D → D → Type 0
Still moment left_since may_leave old new = IsStill (moment old) (moment new) (left_since old) (left_since new) (may_leave old) (may_leave new)

-- the records stay where no time passes and the gate stays
pub settled_still : {D : Type 0} (moment : D → ℕ) (left_since : D → ℕ → List ℕ → Type 0) (may_leave : D → List ℕ → Type 0) (told : Bool) (digests : Digests) (version : Version) (entries : List Entry) (old new : Journal D) →
    Still moment left_since may_leave (journal_disk old) (journal_disk new) → journal_gate new ≡ journal_gate old →
    IsSettled told may_leave digests version entries old → IsSettled told may_leave digests version entries new
settled_still moment left_since may_leave told digests version entries old new still gate s = record {
  accepted = s.accepted;
  fit = s.fit;
  gate_is = s.gate_is ∙ sym gate;
  rests = λ is. (let r = s.rests is in (r.0, r.1, λ c left. r.2 c ((still.images c).0 left)));
}

pub lasts_still : {D : Type 0} (moment : D → ℕ) (left_since : D → ℕ → List ℕ → Type 0) (may_leave : D → List ℕ → Type 0) (told : Bool) (old new : Journal D) →
    Still moment left_since may_leave (journal_disk old) (journal_disk new) → journal_gate new ≡ journal_gate old → Lasts told may_leave [] old new
lasts_still moment left_since may_leave told old new still gate = λ is digests version entries s.
    subst (λ (e : List Entry). IsSettled told may_leave digests version e new) (sym (append-nil entries)) (settled_still moment left_since may_leave told digests version entries old new still gate s)

pub lasts_same : {D : Type 0} (may_leave : D → List ℕ → Type 0) (told : Bool) (journal : Journal D) → Lasts told may_leave [] journal journal
lasts_same may_leave told journal = λ is digests version entries s.
    subst (λ (e : List Entry). IsSettled told may_leave digests version e journal) (sym (append-nil entries)) s

pub lasts_then : {D : Type 0} (moment : D → ℕ) (left_since : D → ℕ → List ℕ → Type 0) (may_leave : D → List ℕ → Type 0) (told : Bool) (batch : List Entry) (old mid new : Journal D) →
    Still moment left_since may_leave (journal_disk old) (journal_disk mid) → journal_gate mid ≡ journal_gate old → Lasts told may_leave batch mid new → Lasts told may_leave batch old new
lasts_then moment left_since may_leave told batch old mid new still gate lasts = λ is digests version entries s.
    lasts is digests version entries (settled_still moment left_since may_leave told digests version entries old mid still gate s)

-- where no time passes a crash leaves what it could leave before
pub none_still : {D : Type 0} (moment : D → ℕ) (left_since : D → ℕ → List ℕ → Type 0) (may_leave : D → List ℕ → Type 0) (only_now : (d : D) (c : List ℕ) → left_since d (moment d) c → may_leave d c) (told : Bool) (batch : List Entry) (old new : Journal D) →
    Still moment left_since may_leave (journal_disk old) (journal_disk new) → AllOrNone told moment left_since may_leave batch old new
none_still moment left_since may_leave only_now told batch old new still = λ is going digests version entries s.
    let at : moment (journal_disk new) ≡ moment (journal_disk old) = still.moment in
    record {
      later = omega arith;
      each = λ c left. inl ((still.images c).0 (only_now (journal_disk new) c (subst (λ (t : ℕ). left_since (journal_disk new) t c) (sym at) left)));
      before = λ t c early left. inl ((still.past_same t c).0 left);
    }

pub none_same : {D : Type 0} (moment : D → ℕ) (left_since : D → ℕ → List ℕ → Type 0) (may_leave : D → List ℕ → Type 0) (only_now : (d : D) (c : List ℕ) → left_since d (moment d) c → may_leave d c) (told : Bool) (batch : List Entry) (journal : Journal D) →
    AllOrNone told moment left_since may_leave batch journal journal
none_same moment left_since may_leave only_now told batch journal = λ is going digests version entries s. record {
  later = omega arith;
  each = λ c left. inl (only_now (journal_disk journal) c left);
  before = λ t c early left. inl left;
}

-- a batch that is written once there is room
pub all_or_none : {D : Type 0} (moment : D → ℕ) (left_since : D → ℕ → List ℕ → Type 0) (may_leave : D → List ℕ → Type 0) (told : Bool) (batch : List Entry) (old mid new : Journal D) →
    Still moment left_since may_leave (journal_disk old) (journal_disk mid) → journal_gate mid ≡ journal_gate old → has_failed mid ≡ has_failed old →
    (told ≡ true → has_failed mid ≡ false → (digests : Digests) (version : Version) (entries : List Entry) → IsSettled told may_leave digests version entries mid → LeavesOnly moment left_since (journal_disk mid) (journal_disk new) (HoldsEither digests entries batch)) →
    AllOrNone told moment left_since may_leave batch old new
all_or_none moment left_since may_leave told batch old mid new still gate failed writes = λ is going digests version entries s.
    let h = writes is (failed ∙ going) digests version entries (settled_still moment left_since may_leave told digests version entries old mid still gate s) in
    let at : moment (journal_disk mid) ≡ moment (journal_disk old) = still.moment in
    record {
      later = omega (arith, h.later);
      each = λ c left. inr (h.each c (subst (λ (t : ℕ). left_since (journal_disk new) t c) (sym at) left));
      before = λ t c early left. elim (h.before t c (omega arith) left) as (λ _. left_since (journal_disk old) t c ⊎ LeftByWriting (may_leave (journal_disk old)) digests entries batch c) [
        | inl past ↦ inl ((still.past_same t c).0 past)
        | inr holds ↦ inr (inr holds)
      ];
    }
