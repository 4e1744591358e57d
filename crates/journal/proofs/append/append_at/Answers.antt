use Rattle.std.proofs.Common.{◌≡◌, ℕ, ◌+◌, ◌++◌, ◌∷◌, [], List, length, true, ◌∙◌, ap, subst, inl, OnOk, Result, Ok, Err}
use Rattle.sv_outside.specs.Disk.{Only, Torn, Holds}
use Rattle.journal.proofs.Moments.{weaker, then_on}
use Rattle.journal.specs.Format.{Entry, opened, at_rest, Rests, IsBeforeOrAfter}
use Rattle.journal.proofs.Crash.{torn_behind, behind_short, torn_gate, gate_short, written_behind, written_gate, staged, behind, before_or_after, after_only}
use Rattle.journal.proofs.append.append_at.Goals as goal
use Rattle.journal.proofs.append.append_at.Goals.{After-write_synced-2}
use Rattle.journal.proofs.append.append_at.Given.{Over}

pub returns-in_err-write_synced-clause-any_moment : goal.returns-in_err-write_synced-clause-any_moment
returns-in_err-write_synced-clause-any_moment g c = λ told header entries batch now is size rests only.
    let front : List ℕ = header ++ opened entries in
    let n = length c.args.bytes.now in
    let only' : Only (front ++ rests.last ∷ []) (g.D.Disk.may_leave c.args.disk.now) = subst (λ (l : List ℕ). Only l (g.D.Disk.may_leave c.args.disk.now)) rests.whole only in
    weaker g.D.Disk.moment g.D.Disk.left_since c.args.disk.now c.write_synced.new.disk (Torn (c.args.gate + 1) n (front ++ rests.last ∷ [])) (IsBeforeOrAfter header entries batch)
    (c.write_synced.ensures.any_moment told (front ++ rests.last ∷ []) only')
    (λ x t. (behind_short front c.args.gate rests.last rests.shut size n x c.requires.room.not_full t, inl (torn_behind front c.args.gate rests.last rests.shut size n x t)))

-- after the first step the record stands behind the closed gate
mid_only : (g : Over) (c : After-write_synced-2 g) → g.D.Disk.told ≡ true → (header : List ℕ) (entries : List Entry) (body now : List ℕ) → c.args.bytes.now ≡ body ++ 0 ∷ [] → length (header ++ opened entries) ≡ c.args.gate → (rests : Rests header entries now) → Only now (g.D.Disk.may_leave c.args.disk.now)
    → Only (staged (header ++ opened entries) rests.last body) (g.D.Disk.may_leave c.write_synced.new.disk)
mid_only g c told header entries body now is size rests only x left =
    let front : List ℕ = header ++ opened entries in
    let seen_is : g.D.Disk.seen c.args.disk.now ≡ front ++ rests.last ∷ [] = only _ (g.met.D.Disk.reads_image c.args.disk.now told) ∙ rests.whole in
    let holds = c.in_ok-write_synced.ensures.written told in
    let holds' : Holds (front ++ rests.last ∷ []) (c.args.gate + 1) (body ++ 0 ∷ []) (g.D.Disk.seen c.write_synced.new.disk) = subst (λ (b : List ℕ). Holds (front ++ rests.last ∷ []) (c.args.gate + 1) b (g.D.Disk.seen c.write_synced.new.disk)) is (subst (λ (o : List ℕ). Holds o (c.args.gate + 1) c.args.bytes.now (g.D.Disk.seen c.write_synced.new.disk)) seen_is holds) in
    c.in_ok-write_synced.ensures.durable x left ∙ written_behind front c.args.gate rests.last rests.shut size body (g.D.Disk.seen c.write_synced.new.disk) holds'

pub returns-clause-any_moment : goal.returns-clause-any_moment
returns-clause-any_moment g c = λ told header entries batch now is size rests only.
    let front : List ℕ = header ++ opened entries in
    let b = behind batch c.args.bytes.now is in
    let body : List ℕ = b.body in
    let gate = c.args.gate in
    let n = length c.args.bytes.now in
    let last = rests.last in
    let only' : Only (front ++ last ∷ []) (g.D.Disk.may_leave c.args.disk.now) = subst (λ (l : List ℕ). Only l (g.D.Disk.may_leave c.args.disk.now)) rests.whole only in
    let first = c.write_synced.ensures.any_moment told (front ++ last ∷ []) only' in
    let middle : Only (staged front last body) (g.D.Disk.may_leave c.write_synced.new.disk) = mid_only g c told header entries body now b.whole size rests only in
    then_on g.D.Disk.moment g.D.Disk.left_since c.args.disk.now c.write_synced.new.disk c.write_synced-2.new.disk
    (Torn (gate + 1) n (front ++ last ∷ [])) (Torn gate 1 (staged front last body)) (IsBeforeOrAfter header entries batch)
    first (c.write_synced-2.ensures.any_moment told (staged front last body) middle)
    (λ x t. (behind_short front gate last rests.shut size n x c.requires.room.not_full t, inl (torn_behind front gate last rests.shut size n x t)))
    (λ x t. before_or_after header entries batch body x b.gated (gate_short front gate last rests.shut size body x n (ap length b.whole) c.requires.room.not_full t) (torn_gate front gate last rests.shut size body x t))

both : {E : Type 0} (A B C : Type 0) (r : Result (Unit {0}) E) → OnOk r A → OnOk r B → (A → B → C) → OnOk r C
both A B C (Ok x) a b f = f a b
both A B C (Err e) a b f = tt

pub returns-clause-appended : goal.returns-clause-appended
returns-clause-appended g c = λ told header entries batch now is size rests only.
    let front : List ℕ = header ++ opened entries in
    let last = rests.last in
    let b = behind batch c.args.bytes.now is in
    let body : List ℕ = b.body in
    let middle : Only (staged front last body) (g.D.Disk.may_leave c.write_synced.new.disk) = mid_only g (goal.at.returns-clause-appended g c).After-write_synced-2 told header entries body now b.whole size rests only in
    let seen_is : g.D.Disk.seen c.write_synced.new.disk ≡ staged front last body = middle _ (g.met.D.Disk.reads_image c.write_synced.new.disk told) in
    both (Holds (g.D.Disk.seen c.write_synced.new.disk) c.args.gate (1 ∷ []) (g.D.Disk.seen c.write_synced-2.new.disk)) (Only (g.D.Disk.seen c.write_synced-2.new.disk) (g.D.Disk.may_leave c.write_synced-2.new.disk)) (Only (at_rest header (entries ++ batch)) (g.D.Disk.may_leave c.write_synced-2.new.disk))
    c.write_synced-2.result (c.write_synced-2.ensures.written told) c.write_synced-2.ensures.durable
    (λ holds durable x left. durable x left ∙ after_only header entries batch body (g.D.Disk.seen c.write_synced-2.new.disk) b.gated (written_gate front c.args.gate last rests.shut size body (g.D.Disk.seen c.write_synced-2.new.disk) (subst (λ (o : List ℕ). Holds o c.args.gate (1 ∷ []) (g.D.Disk.seen c.write_synced-2.new.disk)) seen_is holds)))
