use Rattle.std.proofs.Common.{◌≡◌, refl, sym, ◌∙◌, subst, arith, get_or}
use Rattle.points_to.proofs.Taken.{taken, first_waits}
use Rattle.points_to.proofs.progress.Progress.next.Goals as goal

pub index_mut-requires : goal.index_mut-requires
index_mut-requires c = omega (arith, c.args.self.now.todo.ok.0, first_waits c.args.self.now c.in-Some.node c.pop_front.new.self.items c.requires c.in-Some.ensures.items)

pub index_mut-requires-in-Some : goal.index_mut-requires-in-Some
index_mut-requires-in-Some c = omega (arith, c.args.self.now.done.ok.0, c.requires.todo_size, first_waits c.args.self.now c.in-Some.node c.pop_front.new.self.items c.requires c.in-Some.ensures.items)

pub returns-in-Some : goal.returns-in-Some
returns-in-Some c =
    let p = c.args.self.now in
    let e = c.replace-delta.ensures.value in
    taken p _ c.in-Some.node c.pop_front.new.self.items c.index_mut-in-Some.result.now c.replace-delta.result c.unite.new.self c.replace-delta.new.dest
    c.requires c.in-Some.ensures.items refl refl (c.replace-delta.ensures.after ∙ c.new.ensures) refl refl
    (subst (λ xs. xs ≡ get_or p.todo.items c.in-Some.node xs) (sym e) c.index_mut.ensures.value) c.index_mut-in-Some.ensures.value
    c.in_ok-unite-in-Some.ensures.members c.in_ok-unite-in-Some.field-0 c.in_ok-unite-in-Some.ensures.grew c.in_ok-unite-in-Some.ensures.same c.unite.ensures.set
