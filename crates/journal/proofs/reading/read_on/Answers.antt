use Rattle.std.proofs.Common.{◌≡◌, true, ◌++◌, ◌∷◌, [], List, ℕ, ◌<◌, length, drop, refl, sym, subst, arith, Ok, Err, ◌≤◌}
use Rattle.journal.specs.declared.digests.Digests.{Digests}
use Rattle.journal.specs.declared.scan.Step.{Step}
use Rattle.journal.specs.declared.scan.Step.TheVariants.{Closed, Record}
use Rattle.journal.specs.declared.scan.Scan.{Scan}
use Rattle.journal.specs.Format.{Entry, IsClosed}
use Rattle.journal.specs.Lists.{version_entry}
use Rattle.journal.specs.Scans.{HasRead}
use Rattle.journal.specs.Steps.{StepsOn, StopsAtClosed, GoesFurther}
use Rattle.journal.proofs.Continuing.{hands_out, comes_to_end, comes_to_fault, from_here, read_here, again}
use Rattle.journal.proofs.reading.read_on.Goals as goal
use Rattle.journal.proofs.reading.read_on.Goals.{After-step-2}
use Rattle.journal.proofs.reading.read_on.Given.{Over}

pub returns-in-Ok-Record-clause-reads : goal.returns-in-Ok-Record-clause-reads
returns-in-Ok-Record-clause-reads g c = λ told digests entries read.
    let image = g.D.Disk.seen c.args.disk.now in
    let old = c.args.scan.now in
    let kept = c.in-Ok-Record.kept in
    let steps = subst (λ (s : Step). StepsOn digests entries old image c.step.new.scan (Ok s)) c.in-Ok-Record.field-0-is (c.in-Ok-Record.ensures.steps told digests entries read) in
    hands_out digests entries [] old.version image refl kept old c.step.new.scan refl (omega (arith, c.requires.inside.inside, c.requires.size told)) (read_here digests entries old image read)
    (from_here digests entries old c.step.new.scan image (Ok (Record kept)) steps)

pub returns-in-Ok-Closed-clause-reads : goal.returns-in-Ok-Closed-clause-reads
returns-in-Ok-Closed-clause-reads g c = λ told digests entries read.
    let image = g.D.Disk.seen c.args.disk.now in
    let old = c.args.scan.now in
    let steps = subst (λ (s : Step). StepsOn digests entries old image c.step.new.scan (Ok s)) c.in-Ok-Closed.field-0-is (c.in-Ok-Closed.ensures.steps told digests entries read) in
    comes_to_end digests entries [] old.version image refl old c.step.new.scan (read_here digests entries old image read)
    (from_here digests entries old c.step.new.scan image (Ok Closed) steps)

pub returns-in-Err-clause-reads : goal.returns-in-Err-clause-reads
returns-in-Err-clause-reads g c = λ told digests entries read.
    let image = g.D.Disk.seen c.args.disk.now in
    let old = c.args.scan.now in
    comes_to_fault digests entries [] old.version image refl c.in-Err.fault old c.step.new.scan refl
    (from_here digests entries old c.step.new.scan image (Err c.in-Err.fault) (c.in-Err.ensures.steps told digests entries read))

-- the version record was read
past : (g : Over) (c : After-step-2 g) → g.D.Disk.told ≡ true → (digests : Digests) (entries : List Entry) → HasRead digests entries c.args.scan.now (g.D.Disk.seen c.args.disk.now) → HasRead digests (entries ++ version_entry digests.current ∷ []) c.step.new.scan (g.D.Disk.seen c.args.disk.now)
past g c told digests entries read =
    let steps = subst (λ (s : Step). StepsOn digests entries c.args.scan.now (g.D.Disk.seen c.args.disk.now) c.step.new.scan (Ok s)) c.in-Ok-Version.field-0-is (c.in-Ok-Version.ensures.steps told digests entries read) in
    steps.0

pub returns-in-Ok-Record-step-clause-reads : goal.returns-in-Ok-Record-step-clause-reads
returns-in-Ok-Record-step-clause-reads g c = λ told digests entries read.
    let image = g.D.Disk.seen c.args.disk.now in
    let mid = c.step.new.scan in
    let new = c.step-2.new.scan in
    let kept = c.in-Ok-Record-step.kept in
    let passed : List Entry = version_entry digests.current ∷ [] in
    let behind = past g (goal.at.returns-in-Ok-Record-step-clause-reads g c).After-step-2 told digests entries read in
    let size : mid.size ≡ length image = behind.size in
    let steps = again digests (entries ++ passed) mid new image (g.D.Disk.seen c.step.new.disk) (Ok c.in-Ok-Record-step.field-0) c.step.ensures.seen behind (c.in-Ok-Record-step.ensures.steps told digests (entries ++ passed)) in
    hands_out digests entries passed c.args.scan.now.version image refl kept mid new c.step.ensures.same.1 (omega (arith, c.step.ensures.inside.inside, size)) behind
    (subst (λ (s : Step). StepsOn digests (entries ++ passed) mid image new (Ok s)) c.in-Ok-Record-step.field-0-is steps)

pub returns-in-Ok-Closed-step-clause-reads : goal.returns-in-Ok-Closed-step-clause-reads
returns-in-Ok-Closed-step-clause-reads g c = λ told digests entries read.
    let image = g.D.Disk.seen c.args.disk.now in
    let mid = c.step.new.scan in
    let new = c.step-2.new.scan in
    let passed : List Entry = version_entry digests.current ∷ [] in
    let behind = past g (goal.at.returns-in-Ok-Closed-step-clause-reads g c).After-step-2 told digests entries read in
    let steps = again digests (entries ++ passed) mid new image (g.D.Disk.seen c.step.new.disk) (Ok c.in-Ok-Closed-step.field-0) c.step.ensures.seen behind (c.in-Ok-Closed-step.ensures.steps told digests (entries ++ passed)) in
    comes_to_end digests entries passed c.args.scan.now.version image refl mid new behind
    (subst (λ (s : Step). StepsOn digests (entries ++ passed) mid image new (Ok s)) c.in-Ok-Closed-step.field-0-is steps)

pub returns-in-Err-step-clause-reads : goal.returns-in-Err-step-clause-reads
returns-in-Err-step-clause-reads g c = λ told digests entries read.
    let image = g.D.Disk.seen c.args.disk.now in
    let mid = c.step.new.scan in
    let new = c.step-2.new.scan in
    let passed : List Entry = version_entry digests.current ∷ [] in
    let behind = past g (goal.at.returns-in-Err-step-clause-reads g c).After-step-2 told digests entries read in
    let steps = again digests (entries ++ passed) mid new image (g.D.Disk.seen c.step.new.disk) (Err c.in-Err-step.fault) c.step.ensures.seen behind (c.in-Err-step.ensures.steps told digests (entries ++ passed)) in
    comes_to_fault digests entries passed c.args.scan.now.version image refl c.in-Err-step.fault mid new c.step.ensures.same.1 steps

pub returns-in-Ok-Closed-clause-ended : goal.returns-in-Ok-Closed-clause-ended
returns-in-Ok-Closed-clause-ended g c = λ told.
    let image = g.D.Disk.seen c.args.disk.now in
    let stops = subst (λ (s : Step). StopsAtClosed c.args.scan.now image c.step.new.scan (Ok s)) c.in-Ok-Closed.field-0-is (c.in-Ok-Closed.ensures.closed told) in
    subst (λ (s : Scan). IsClosed (drop s.at image)) (sym stops.1) stops.0

pub returns-in-Ok-Closed-step-clause-ended : goal.returns-in-Ok-Closed-step-clause-ended
returns-in-Ok-Closed-step-clause-ended g c = λ told.
    let image = g.D.Disk.seen c.args.disk.now in
    let stops = subst (λ (s : Step). StopsAtClosed c.step.new.scan (g.D.Disk.seen c.step.new.disk) c.step-2.new.scan (Ok s)) c.in-Ok-Closed-step.field-0-is (c.in-Ok-Closed-step.ensures.closed told) in
    let closed : IsClosed (drop c.step.new.scan.at image) = subst (λ (l : List ℕ). IsClosed (drop c.step.new.scan.at l)) c.step.ensures.seen stops.0 in
    subst (λ (s : Scan). IsClosed (drop s.at image)) (sym stops.1) closed

pub returns-in-Ok-Record-clause-further : goal.returns-in-Ok-Record-clause-further
returns-in-Ok-Record-clause-further g c =
    let read = subst (λ (s : Step). GoesFurther c.args.scan.now c.step.new.scan (Ok s)) c.in-Ok-Record.field-0-is c.in-Ok-Record.ensures.further in
    (omega (arith, read.0), read.1)

pub returns-in-Ok-Record-step-clause-further : goal.returns-in-Ok-Record-step-clause-further
returns-in-Ok-Record-step-clause-further g c =
    let one : c.args.scan.now.at < c.step.new.scan.at = subst (λ (s : Step). GoesFurther c.args.scan.now c.step.new.scan (Ok s)) c.in-Ok-Version.field-0-is c.in-Ok-Version.ensures.further in
    let two = subst (λ (s : Step). GoesFurther c.step.new.scan c.step-2.new.scan (Ok s)) c.in-Ok-Record-step.field-0-is c.in-Ok-Record-step.ensures.further in
    (omega (arith, one, two.0), two.1)

pub returns-in-Ok-Closed-clause-further : goal.returns-in-Ok-Closed-clause-further
returns-in-Ok-Closed-clause-further g c = subst (λ (s : Step). GoesFurther c.args.scan.now c.step.new.scan (Ok s)) c.in-Ok-Closed.field-0-is c.in-Ok-Closed.ensures.further

pub returns-in-Ok-Closed-step-clause-further : goal.returns-in-Ok-Closed-step-clause-further
returns-in-Ok-Closed-step-clause-further g c =
    let one : c.args.scan.now.at < c.step.new.scan.at = subst (λ (s : Step). GoesFurther c.args.scan.now c.step.new.scan (Ok s)) c.in-Ok-Version.field-0-is c.in-Ok-Version.ensures.further in
    let two : c.step.new.scan.at ≤ c.step-2.new.scan.at = subst (λ (s : Step). GoesFurther c.step.new.scan c.step-2.new.scan (Ok s)) c.in-Ok-Closed-step.field-0-is c.in-Ok-Closed-step.ensures.further in
    omega (arith, one, two)
