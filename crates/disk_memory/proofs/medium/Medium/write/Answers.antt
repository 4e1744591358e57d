use Rattle.std.proofs.Common.{◌≡◌, ℕ, ◌++◌, ◌∷◌, [], List, length, sym, ◌∙◌, ap, arith, length-append}
use Rattle.disk_memory.specs.Calls.{Op, ops_of, bytes_of, read_after}
use Rattle.disk_memory.specs.Calls.Op.{wrote}
use Rattle.disk_memory.specs.declared.medium.Call.TheVariants.{Write}
use Rattle.disk_memory.proofs.Grown.{ops_of-write, bytes_of-append, noted_crash, noted_time, noted_placed, noted_reads}
use Rattle.disk_memory.proofs.medium.Medium.write.Goals as goal
use Rattle.disk_memory.proofs.medium.Medium.write.Goals.{After-push_reserved}

noted : (c : After-push_reserved) → ops_of c.push_reserved.new.self.items c.extend_from_slice.new.self.items ≡ ops_of c.args.self.now.calls.items c.args.self.now.store.items ++ wrote c.args.at c.args.bytes.now c.args.done ∷ []
noted c =
    let d = c.args.self.now in
    rw (c.push_reserved.ensures.items, c.in-Ok.ensures.items) (ops_of-write d.calls.items d.store.items c.args.bytes.now c.args.at c.args.done d.stored)

pub invariant_of-self : goal.invariant_of-self
invariant_of-self c =
    let d = c.args.self.now in
    let op : Op = wrote c.args.at c.args.bytes.now c.args.done in
    record {
      stored = omega (arith, d.stored, ap bytes_of c.push_reserved.ensures.items, bytes_of-append d.calls.items (Write c.args.at (length c.args.bytes.now) c.args.done), ap length c.in-Ok.ensures.items, length-append d.store.items c.args.bytes.now);
      placed = noted_placed d.first.items d.store.items c.extend_from_slice.new.self.items d.calls.items c.push_reserved.new.self.items op (noted c) d.placed (omega (arith, c.requires.place, ap length d.replays));
      replays = c.put_if.ensures.written ∙ (ap (λ (b : List ℕ). read_after b op) d.replays ∙ sym (noted_reads d.first.items d.store.items c.extend_from_slice.new.self.items d.calls.items c.push_reserved.new.self.items op (noted c)));
    }

pub returns-clause-crash : goal.returns-clause-crash
returns-clause-crash c = let d = c.args.self.now in
    noted_crash d.first.items d.store.items c.extend_from_slice.new.self.items d.calls.items c.push_reserved.new.self.items (wrote c.args.at c.args.bytes.now c.args.done) (noted (goal.at.returns-clause-crash c).After-push_reserved)

pub returns-clause-time : goal.returns-clause-time
returns-clause-time c = let d = c.args.self.now in
    noted_time d.first.items d.store.items c.extend_from_slice.new.self.items d.calls.items c.push_reserved.new.self.items (wrote c.args.at c.args.bytes.now c.args.done) (noted (goal.at.returns-clause-time c).After-push_reserved)

pub returns-clause-noted : goal.returns-clause-noted
returns-clause-noted c = noted (goal.at.returns-clause-noted c).After-push_reserved
