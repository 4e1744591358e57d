use Rattle.std.proofs.Common.{◌≡◌, ℕ, ◌++◌, ◌∷◌, [], List, refl, sym, ◌∙◌, ap, subst, arith}
use Rattle.disk_memory.specs.Calls.{ops_of, bytes_of, image, reads, left_after}
use Rattle.disk_memory.specs.Calls.Op.{synced}
use Rattle.disk_memory.specs.Laws.{reads_is_image}
use Rattle.disk_memory.specs.declared.medium.Call.TheVariants.{Sync}
use Rattle.disk_memory.proofs.Grown.{ops_of-sync, bytes_of-append, noted_crash, noted_time, noted_placed, noted_reads, done_left, kept_left}
use Rattle.disk_memory.proofs.medium.Medium.sync.Goals as goal
use Rattle.disk_memory.proofs.medium.Medium.sync.Goals.{After-push_reserved}

noted : (c : After-push_reserved) → ops_of c.push_reserved.new.self.items c.args.self.now.store.items ≡ ops_of c.args.self.now.calls.items c.args.self.now.store.items ++ synced c.args.done ∷ []
noted c = rw c.push_reserved.ensures.items (ops_of-sync c.args.self.now.calls.items c.args.self.now.store.items c.args.done)

pub invariant_of-self : goal.invariant_of-self
invariant_of-self c =
    let d = c.args.self.now in
    record {
      stored = omega (arith, d.stored, ap bytes_of c.push_reserved.ensures.items, bytes_of-append d.calls.items (Sync c.args.done));
      placed = noted_placed d.first.items d.store.items d.store.items d.calls.items c.push_reserved.new.self.items (synced c.args.done) (noted c) d.placed refl;
      replays = d.replays ∙ sym (noted_reads d.first.items d.store.items d.store.items d.calls.items c.push_reserved.new.self.items (synced c.args.done) (noted c));
    }

crashes : (c : After-push_reserved) (x : List ℕ) → image c.args.self.now.first.items (ops_of c.push_reserved.new.self.items c.args.self.now.store.items) x
    → left_after (reads c.args.self.now.first.items (ops_of c.args.self.now.calls.items c.args.self.now.store.items)) (image c.args.self.now.first.items (ops_of c.args.self.now.calls.items c.args.self.now.store.items)) (synced c.args.done) x
crashes c = let d = c.args.self.now in noted_crash d.first.items d.store.items d.store.items d.calls.items c.push_reserved.new.self.items (synced c.args.done) (noted c)

pub returns-clause-durable : goal.returns-clause-durable
returns-clause-durable c = λ done x h.
    let d = c.args.self.now in
    let ops = ops_of d.calls.items d.store.items in
    done_left (reads d.first.items ops) (image d.first.items ops) c.args.done x (crashes (goal.at.returns-clause-durable c).After-push_reserved x h) done ∙ sym d.replays

pub returns-clause-crash : goal.returns-clause-crash
returns-clause-crash c = λ x h.
    let d = c.args.self.now in
    let ops = ops_of d.calls.items d.store.items in
    kept_left (reads d.first.items ops) (image d.first.items ops) c.args.done x
    (subst (image d.first.items ops) d.replays (reads_is_image d.first.items ops d.bytes.items d.replays d.placed)) (crashes (goal.at.returns-clause-crash c).After-push_reserved x h)

pub returns-clause-time : goal.returns-clause-time
returns-clause-time c = let d = c.args.self.now in
    noted_time d.first.items d.store.items d.store.items d.calls.items c.push_reserved.new.self.items (synced c.args.done) (noted (goal.at.returns-clause-time c).After-push_reserved)

pub returns-clause-noted : goal.returns-clause-noted
returns-clause-noted c = noted (goal.at.returns-clause-noted c).After-push_reserved
