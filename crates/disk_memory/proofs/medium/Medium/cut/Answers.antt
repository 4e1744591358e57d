use Rattle.std.proofs.Common.{◌≡◌, ℕ, ◌++◌, ◌∷◌, [], List, length, sym, ◌∙◌, ap, arith}
use Rattle.disk_memory.specs.Calls.{ops_of, bytes_of, read_after}
use Rattle.disk_memory.specs.Calls.Op.{cut}
use Rattle.disk_memory.specs.declared.medium.Call.TheVariants.{Cut}
use Rattle.disk_memory.proofs.Grown.{ops_of-cut, bytes_of-append, noted_crash, noted_time, noted_placed, noted_reads}
use Rattle.disk_memory.proofs.medium.Medium.cut.Goals as goal
use Rattle.disk_memory.proofs.medium.Medium.cut.Goals.{After-push_reserved}

noted : (c : After-push_reserved) → ops_of c.push_reserved.new.self.items c.args.self.now.store.items ≡ ops_of c.args.self.now.calls.items c.args.self.now.store.items ++ cut c.args.to c.args.done ∷ []
noted c = rw c.push_reserved.ensures.items (ops_of-cut c.args.self.now.calls.items c.args.self.now.store.items c.args.to c.args.done)

pub invariant_of-self : goal.invariant_of-self
invariant_of-self c =
    let d = c.args.self.now in
    record {
      stored = omega (arith, d.stored, ap bytes_of c.push_reserved.ensures.items, bytes_of-append d.calls.items (Cut c.args.to c.args.done));
      placed = noted_placed d.first.items d.store.items d.store.items d.calls.items c.push_reserved.new.self.items (cut c.args.to c.args.done) (noted c) d.placed (omega (arith, c.requires.place, ap length d.replays));
      replays = c.cut_if.ensures.cut ∙ (ap (λ (b : List ℕ). read_after b (cut c.args.to c.args.done)) d.replays ∙ sym (noted_reads d.first.items d.store.items d.store.items d.calls.items c.push_reserved.new.self.items (cut c.args.to c.args.done) (noted c)));
    }

pub returns-clause-crash : goal.returns-clause-crash
returns-clause-crash c = let d = c.args.self.now in
    noted_crash d.first.items d.store.items d.store.items d.calls.items c.push_reserved.new.self.items (cut c.args.to c.args.done) (noted (goal.at.returns-clause-crash c).After-push_reserved)

pub returns-clause-time : goal.returns-clause-time
returns-clause-time c = let d = c.args.self.now in
    noted_time d.first.items d.store.items d.store.items d.calls.items c.push_reserved.new.self.items (cut c.args.to c.args.done) (noted (goal.at.returns-clause-time c).After-push_reserved)

pub returns-clause-noted : goal.returns-clause-noted
returns-clause-noted c = noted (goal.at.returns-clause-noted c).After-push_reserved
