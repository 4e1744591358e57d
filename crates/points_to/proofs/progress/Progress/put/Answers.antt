use Rattle.std.proofs.Common.{◌≡◌, ◌<◌, ◌==◌, length, refl, sym, ap, ◌∙◌, eqb-true, arith}
use Rattle.points_to.proofs.Found.{same_at, some_length}
use Rattle.points_to.proofs.Steps.{added, stood_same, stood_waiting, stood_first}
use Rattle.points_to.proofs.progress.Progress.put.Goals as goal

pub returns-then-not-branch-clause-met : goal.returns-then-not-branch-clause-met
returns-then-not-branch-clause-met c =
    let p = c.args.self.now in
    added p _ c.args.node c.index_mut.result.now c.unite.new.self c.args.news.now c.requires.stands c.requires.node refl refl refl c.index_mut.ensures.value c.in_ok-unite.ensures.members c.requires.fresh
    (stood_same p _ c.args.node c.index_mut.result.now c.unite.new.self c.args.news.now c.requires.stands c.requires.node refl refl refl c.index_mut.ensures.value c.in_ok-unite.ensures.members c.requires.fresh
    refl (c.in_ok-unite.ensures.same c.if-not-branch.true))

pub returns-then-not-first-clause-met : goal.returns-then-not-first-clause-met
returns-then-not-first-clause-met c =
    let p = c.args.self.now in
    let before = c.index_mut.result.now in
    let within : c.args.node < length p.todo.items = omega (arith, c.requires.stands.todo_size, c.requires.node) in
    let same : c.index.result.now ≡ before = same_at p.todo.items c.args.node c.index.result.now before within c.index.ensures c.index_mut.ensures.value in
    added p _ c.args.node before c.unite.new.self c.args.news.now c.requires.stands c.requires.node refl refl refl c.index_mut.ensures.value c.in_ok-unite.ensures.members c.requires.fresh
    (stood_waiting p _ c.args.node before c.unite.new.self c.args.news.now c.requires.stands c.requires.node refl refl refl c.index_mut.ensures.value c.in_ok-unite.ensures.members c.requires.fresh
    refl (some_length before (sym (ap (λ xs. length xs == 0) same) ∙ sym c.if-not-first.ensures)))

pub returns-clause-met : goal.returns-clause-met
returns-clause-met c =
    let p = c.args.self.now in
    let before = c.index_mut.result.now in
    let within : c.args.node < length p.todo.items = omega (arith, c.requires.stands.todo_size, c.requires.node) in
    let same : c.index.result.now ≡ before = same_at p.todo.items c.args.node c.index.result.now before within c.index.ensures c.index_mut.ensures.value in
    let empty : length before ≡ 0 = eqb-true (length before) 0 (sym (ap (λ xs. length xs == 0) same) ∙ sym c.if-not-first.ensures) in
    let more : length before < length c.unite.new.self = c.in_ok-unite.ensures.grew.0 c.if-not-branch.false in
    added p _ c.args.node before c.unite.new.self c.args.news.now c.requires.stands c.requires.node refl refl refl c.index_mut.ensures.value c.in_ok-unite.ensures.members c.requires.fresh
    (stood_first p _ c.args.node before c.unite.new.self c.args.news.now c.requires.stands c.requires.node refl refl refl c.index_mut.ensures.value c.in_ok-unite.ensures.members c.requires.fresh
    c.in_ok-push_back.ensures.items (sym empty) (omega (arith, more)))
