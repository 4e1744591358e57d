use Rattle.std.proofs.Common.{ℕ, Vec, refl}
use Rattle.std.specs.declared.alloc.Global.{Global}
use Rattle.sv_base.proofs.NameLists.{inserted_last, distinct_names}
use Rattle.sv_base.proofs.names.Names.append.Goals as goal

pub returns-in_err-insert-clause-distinct : goal.returns-in_err-insert-clause-distinct
returns-in_err-insert-clause-distinct c = distinct_names {V = Vec ℕ Global} (λ k. k.items) c.insert.new.self.keys c.insert.ensures.unique

pub returns-clause-ok : goal.returns-clause-ok
returns-clause-ok c =
    rw (c.in_ok-insert.ensures.keys, ← c.self.view_is)
    (inserted_last {V = Vec ℕ Global} (λ k. k.items) c.args.name.items c.self.inside.set.keys c.args.name refl
    (rw c.self.view_is c.requires.new))

pub returns-clause-distinct : goal.returns-clause-distinct
returns-clause-distinct c = distinct_names {V = Vec ℕ Global} (λ k. k.items) c.insert.new.self.keys c.insert.ensures.unique
