use Rattle.std.proofs.Common.{ℕ, Vec}
use Rattle.std.specs.declared.alloc.Global.{Global}
use Rattle.sv_base.proofs.NameLists.{number_found, name_known, name_new, text_found, next_number, distinct_names}
use Rattle.sv_base.proofs.names.Names.place_of.Goals as goal

pub returns-clause-number : goal.returns-clause-number
returns-clause-number c = rw (← c.self.view_is) (number_found {V = Vec ℕ Global} (λ k. k.items) c.args.text.now c.self.inside.set.keys c.get_index_of.result c.get_index_of.ensures.index)

pub returns-clause-known : goal.returns-clause-known
returns-clause-known c = rw (← c.self.view_is) (name_known {V = Vec ℕ Global} (λ k. k.items) c.args.text.now c.self.inside.set.keys c.get_index_of.result c.get_index_of.ensures.found)

pub returns-clause-new : goal.returns-clause-new
returns-clause-new c = rw (← c.self.view_is) (name_new {V = Vec ℕ Global} (λ k. k.items) c.args.text.now c.self.inside.set.keys c.get_index_of.result c.get_index_of.ensures.found)

pub returns-clause-text : goal.returns-clause-text
returns-clause-text c = rw (← c.self.view_is) (text_found {V = Vec ℕ Global} (λ k. k.items) c.args.text.now c.self.inside.set.keys c.get_index_of.result c.get_index_of.ensures.index)

pub returns-clause-next : goal.returns-clause-next
returns-clause-next c = rw (← c.self.view_is) (next_number {V = Vec ℕ Global} (λ k. k.items) c.args.text.now c.self.inside.set.keys c.get_index_of.result c.get_index_of.ensures.index)

pub returns-clause-distinct : goal.returns-clause-distinct
returns-clause-distinct c = rw (← c.self.view_is) (distinct_names {V = Vec ℕ Global} (λ k. k.items) c.self.inside.set.keys c.self.invariant.0)
