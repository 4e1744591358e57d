use Rattle.std.proofs.Common.{◌≡◌, ◌++◌, ◌∷◌, List, ℕ, length, arith, ◌∙◌, ap}
use Rattle.journal.specs.Format.{opened, at_rest, IsBatch, IsBeforeOrAfter}
use Rattle.journal.specs.Headers.{header_for}
use Rattle.journal.specs.Settling.{HoldsEither}
use Rattle.journal.proofs.Accepting.{fit_batch}
use Rattle.journal.proofs.Crash.{batch_length, gate_after, rests_after}
use Rattle.journal.proofs.Holding.{holds_either}
use Rattle.journal.proofs.Moments.{weaker}
use Rattle.journal.proofs.journal.Journal.append.Goals as goal

pub returns-in-Ok-clause-any_moment : goal.returns-in-Ok-clause-any_moment
returns-in-Ok-clause-any_moment g c = λ told going digests version entries batch is plain settled.
    let bytes : IsBatch batch c.deref.result.now = ap (λ (l : List ℕ). 1 ∷ l) c.deref.ensures.value ∙ is in
    let header : List ℕ = header_for digests version in
    let now = settled.rests told in
    weaker g.D.Disk.moment g.D.Disk.left_since c.args.self.now.disk c.append_at.new.disk (IsBeforeOrAfter header entries batch) (HoldsEither digests entries batch)
    (c.append_at.ensures.any_moment told header entries batch now.0 bytes settled.gate_is now.1 now.2)
    (λ x either. holds_either digests version entries batch x settled.accepted settled.fit (fit_batch version digests.current entries batch settled.fit plain) either)

pub returns-in-Err-clause-any_moment : goal.returns-in-Err-clause-any_moment
returns-in-Err-clause-any_moment g c = λ told going digests version entries batch is plain settled.
    let bytes : IsBatch batch c.deref.result.now = ap (λ (l : List ℕ). 1 ∷ l) c.deref.ensures.value ∙ is in
    let header : List ℕ = header_for digests version in
    let now = settled.rests told in
    weaker g.D.Disk.moment g.D.Disk.left_since c.args.self.now.disk c.append_at.new.disk (IsBeforeOrAfter header entries batch) (HoldsEither digests entries batch)
    (c.append_at.ensures.any_moment told header entries batch now.0 bytes settled.gate_is now.1 now.2)
    (λ x either. holds_either digests version entries batch x settled.accepted settled.fit (fit_batch version digests.current entries batch settled.fit plain) either)

pub returns-in-Ok-clause-appended : goal.returns-in-Ok-clause-appended
returns-in-Ok-clause-appended g c = λ told digests version entries batch is plain settled.
    let bytes : IsBatch batch c.deref.result.now = ap (λ (l : List ℕ). 1 ∷ l) c.deref.ensures.value ∙ is in
    let long : length (opened batch) ≡ c.len.result = omega (arith, c.len.ensures, c.deref.ensures.len, batch_length batch c.deref.result.now bytes) in
    let header : List ℕ = header_for digests version in
    record {
      accepted = settled.accepted;
      fit = fit_batch version digests.current entries batch settled.fit plain;
      gate_is = gate_after header entries batch c.args.self.now.gate c.len.result settled.gate_is long;
      rests = λ told'. let now = settled.rests told in (at_rest header (entries ++ batch), rests_after header entries batch, c.in-Ok.ensures.appended told header entries batch now.0 bytes settled.gate_is now.1 now.2);
    }
