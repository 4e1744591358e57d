use Rattle.std.proofs.Common.{◌≡◌, true, false, if◌then◌else◌, ◌+◌, ◌++◌, ◌∷◌, [], List, ℕ, length, inl, sym, ◌∙◌, ap, subst}
use Rattle.sv_outside.specs.Disk.{Only, LeavesOnly}
use Rattle.journal.specs.declared.digests.Digests.{Digests}
use Rattle.journal.specs.Format.{Entry, at_rest, IsBeforeOrAfter}
use Rattle.journal.specs.Headers.{header_for}
use Rattle.journal.specs.Lists.{versions, version_entry, HoldsList, wants_version, with_version}
use Rattle.journal.specs.Readings.{EndsWith}
use Rattle.journal.specs.Settling.{Settled, HoldsEither}
use Rattle.journal.proofs.Crash.{one_length, gate_after, rests_after}
use Rattle.journal.proofs.Holding.{holds_either}
use Rattle.journal.proofs.Moments.{started, weaker}
use Rattle.journal.proofs.Wanting.{wants_yes, wants_not, fit_version, rest_holds, version_long}
use Rattle.journal.proofs.reader.Reading.into_journal.Goals as goal
use Rattle.journal.proofs.reader.Reading.into_journal.Goals.{After-add_version}
use Rattle.journal.proofs.reader.Reading.into_journal.Given.{Over}

pub returns-then-not-wants_version-clause-settled : goal.returns-then-not-wants_version-clause-settled
returns-then-not-wants_version-clause-settled g c = λ told digests entries ends.
    let scan = c.args.self.scan in
    let images = g.D.Disk.may_leave c.args.self.disk in
    let no' : c.wants_version.result ≡ false = cc in
    let wants : wants_version scan.version (versions entries) scan.at ≡ false =
    wants_not scan.version scan.versioned (version_entry digests.current) (versions entries) scan.at ends.versioned (λ all. let yes' : c.wants_version.result ≡ true = c.wants_version.ensures.1 all in cc) in
    subst (λ b. Settled g.D.Disk.told images digests scan.version (with_version b digests.current entries) scan.at) (sym wants) ends.settled

pub returns-then-not-wants_version-clause-any_moment : goal.returns-then-not-wants_version-clause-any_moment
returns-then-not-wants_version-clause-any_moment g c = λ told digests entries ends.
    let scan = c.args.self.scan in
    let disk = c.args.self.disk in
    let rests = ends.settled.rests told in
    started g.D.Disk.moment g.D.Disk.left_since disk (HoldsEither digests entries (version_entry digests.current ∷ []))
    (λ x left. inl (subst (HoldsList digests entries) (sym (rests.2 x (g.met.D.Disk.only_now disk x left)))
    (rest_holds g.D.Disk.told (g.D.Disk.may_leave disk) digests scan.version entries scan.at rests.0 c.requires.reading.inside.near ends.settled rests.1)))

-- the version record that was added
abbrev added : (g : Over) (c : After-add_version g) (digests : Digests) (entries : List Entry) → Type 0
added g c digests entries = LeavesOnly g.D.Disk.moment g.D.Disk.left_since c.args.self.disk c.add_version.new.disk (HoldsEither digests entries (version_entry digests.current ∷ []))

adds : (g : Over) (c : After-add_version g) → g.D.Disk.told ≡ true → (digests : Digests) (entries : List Entry) → EndsWith g.D.Disk.told g.D.Disk.may_leave digests entries c.args.self → added g c digests entries
adds g c told digests entries ends =
    let scan = c.args.self.scan in
    let disk = c.args.self.disk in
    let new = c.add_version.new.disk in
    let entry : Entry = version_entry digests.current in
    let header : List ℕ = header_for digests scan.version in
    let rests = ends.settled.rests told in
    let may : c.wants_version.result ≡ true = cc in
    let says = c.wants_version.ensures.0 may in
    let none : versions entries ≡ [] = ends.versioned ∙ ap (λ b. if b then entry ∷ [] else []) says.1 in
    let long : length digests.current ≡ 32 = subst (λ (l : List ℕ). length l ≡ 32) ends.current c.add_version.ensures.digest in
    let crash = subst (λ (l : List ℕ). LeavesOnly g.D.Disk.moment g.D.Disk.left_since disk new (IsBeforeOrAfter header entries (version_entry l ∷ []))) ends.current
    (c.add_version.ensures.any_moment told header entries rests.0 ends.settled.gate_is rests.1 rests.2) in
    weaker g.D.Disk.moment g.D.Disk.left_since disk new (IsBeforeOrAfter header entries (entry ∷ [])) (HoldsEither digests entries (entry ∷ [])) crash
    (λ x either. holds_either digests scan.version entries (entry ∷ []) x ends.settled.accepted ends.settled.fit (fit_version scan.version digests.current entries says.0 none long ends.settled.fit) either)

pub returns-in-Ok-clause-settled : goal.returns-in-Ok-clause-settled
returns-in-Ok-clause-settled g c = λ told digests entries ends.
    let scan = c.args.self.scan in
    let new = c.add_version.new.disk in
    let entry : Entry = version_entry digests.current in
    let header : List ℕ = header_for digests scan.version in
    let images = g.D.Disk.may_leave new in
    let may : c.wants_version.result ≡ true = cc in
    let says = c.wants_version.ensures.0 may in
    let none : versions entries ≡ [] = ends.versioned ∙ ap (λ b. if b then entry ∷ [] else []) says.1 in
    let long : length digests.current ≡ 32 = subst (λ (l : List ℕ). length l ≡ 32) ends.current c.add_version.ensures.digest in
    let wants = wants_yes scan.version scan.versioned entry (versions entries) scan.at ends.versioned says in
    subst (λ b. Settled g.D.Disk.told images digests scan.version (with_version b digests.current entries) (scan.at + 45)) (sym wants) (record {
      accepted = ends.settled.accepted;
      fit = fit_version scan.version digests.current entries says.0 none long ends.settled.fit;
      gate_is = gate_after header entries (entry ∷ []) scan.at 45 ends.settled.gate_is (one_length entry ∙ sym (version_long digests.current long));
      rests = λ told'. let rests = ends.settled.rests told in (
        at_rest header (entries ++ entry ∷ []),
        rests_after header entries (entry ∷ []),
        subst (λ (l : List ℕ). Only (at_rest header (entries ++ version_entry l ∷ [])) images) ends.current (c.in-Ok.ensures.appended told header entries rests.0 ends.settled.gate_is rests.1 rests.2),
      );
    })

pub returns-in-Ok-clause-any_moment : goal.returns-in-Ok-clause-any_moment
returns-in-Ok-clause-any_moment g c = adds g (goal.at.returns-in-Ok-clause-any_moment g c).After-add_version

pub returns-in-Err-clause-any_moment : goal.returns-in-Err-clause-any_moment
returns-in-Err-clause-any_moment g c = adds g (goal.at.returns-in-Err-clause-any_moment g c).After-add_version
