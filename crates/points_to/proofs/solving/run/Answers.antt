use Rattle.std.proofs.Common.{List, [], get_or, subst}
use Rattle.core_ir.specs.declared.artifacts.Constraint.{Constraint}
use Rattle.points_to.specs.declared.rule.Side.TheVariants as sides
use Rattle.points_to.specs.computed.Progress.{IsTaken, IsMet}
use Rattle.points_to.specs.computed.Readers.{constraint_lists}
use Rattle.points_to.specs.computed.Solving.{IsAsked}
use Rattle.points_to.proofs.Running.{run_start, run_more, run_less, run_done, next_taken, next_idle, list_is, list_within, targets_read, sources_read, node_within}
use Rattle.points_to.proofs.solving.run.Goals as goal

pub loop-node-init : goal.loop-node-init
loop-node-init c = run_start c.args.classes.now c.args.all.now c.args.found.now c.requires.stands c.requires.flowed c.requires.ruled

pub loop-node-preserved : goal.loop-node-preserved
loop-node-preserved c =
    let taken : IsTaken c.in-Some.node c.in-Some.delta c.loop-node.found c.next.new.self = next_taken c.in_ok-node.field-0 c.in-Some.node c.in-Some.delta c.loop-node.found c.next.new.self (cc c.in-Some.is) c.in_ok-node.ensures in
    let targets_are = list_is c.args.classes.now c.args.all.now c.args.found.now c.loop-node.found c.next.new.self c.in-Some.node c.in-Some.delta c.loop-node.invariant taken sides.Target c.args.targets.now c.index-targets-node.result c.deref.result.now c.requires.targets c.index-targets-node.is c.deref.ensures.value in
    let sources_are = list_is c.args.classes.now c.args.all.now c.args.found.now c.loop-node.found c.next.new.self c.in-Some.node c.in-Some.delta c.loop-node.invariant taken sides.Source c.args.sources.now c.index-sources-node.result c.deref-in-Some.result.now c.requires.sources c.index-sources-node.is c.deref-in-Some.ensures.value in
    let met = subst (λ (list : List Constraint). IsMet (IsAsked c.args.classes.now c.next.new.self (get_or (constraint_lists c.args.targets.now) c.in-Some.node []) list c.in-Some.node c.in-Some.delta) c.next.new.self c.visit.new.found) sources_are
    (subst (λ (list : List Constraint). IsMet (IsAsked c.args.classes.now c.next.new.self list c.deref-in-Some.result.now c.in-Some.node c.in-Some.delta) c.next.new.self c.visit.new.found) targets_are c.in_ok-visit.ensures.met) in
    run_more c.args.classes.now c.args.all.now c.args.found.now c.loop-node.found c.next.new.self c.visit.new.found c.in-Some.node c.in-Some.delta (constraint_lists c.args.targets.now) (constraint_lists c.args.sources.now) c.loop-node.invariant taken c.requires.targets c.requires.sources met c.in_ok-visit.ensures.flowed

pub loop-node-smaller : goal.loop-node-smaller
loop-node-smaller c =
    let taken : IsTaken c.in-Some.node c.in-Some.delta c.loop-node.found c.next.new.self = next_taken c.in_ok-node.field-0 c.in-Some.node c.in-Some.delta c.loop-node.found c.next.new.self (cc c.in-Some.is) c.in_ok-node.ensures in
    let targets_are = list_is c.args.classes.now c.args.all.now c.args.found.now c.loop-node.found c.next.new.self c.in-Some.node c.in-Some.delta c.loop-node.invariant taken sides.Target c.args.targets.now c.index-targets-node.result c.deref.result.now c.requires.targets c.index-targets-node.is c.deref.ensures.value in
    let sources_are = list_is c.args.classes.now c.args.all.now c.args.found.now c.loop-node.found c.next.new.self c.in-Some.node c.in-Some.delta c.loop-node.invariant taken sides.Source c.args.sources.now c.index-sources-node.result c.deref-in-Some.result.now c.requires.sources c.index-sources-node.is c.deref-in-Some.ensures.value in
    let met = subst (λ (list : List Constraint). IsMet (IsAsked c.args.classes.now c.next.new.self (get_or (constraint_lists c.args.targets.now) c.in-Some.node []) list c.in-Some.node c.in-Some.delta) c.next.new.self c.visit.new.found) sources_are
    (subst (λ (list : List Constraint). IsMet (IsAsked c.args.classes.now c.next.new.self list c.deref-in-Some.result.now c.in-Some.node c.in-Some.delta) c.next.new.self c.visit.new.found) targets_are c.in_ok-visit.ensures.met) in
    run_less c.args.classes.now c.args.all.now c.args.found.now c.loop-node.found c.next.new.self c.visit.new.found c.in-Some.node c.in-Some.delta (constraint_lists c.args.targets.now) (constraint_lists c.args.sources.now) c.loop-node.invariant taken c.requires.targets c.requires.sources met c.in_ok-visit.ensures.flowed

pub visit-requires-clause-stands : goal.visit-requires-clause-stands
visit-requires-clause-stands c =
    let taken : IsTaken c.in-Some.node c.in-Some.delta c.loop-node.found c.next.new.self = next_taken c.in_ok-node.field-0 c.in-Some.node c.in-Some.delta c.loop-node.found c.next.new.self (cc c.in-Some.is) c.in_ok-node.ensures in
    taken.stands

pub visit-requires-clause-node : goal.visit-requires-clause-node
visit-requires-clause-node c =
    let taken : IsTaken c.in-Some.node c.in-Some.delta c.loop-node.found c.next.new.self = next_taken c.in_ok-node.field-0 c.in-Some.node c.in-Some.delta c.loop-node.found c.next.new.self (cc c.in-Some.is) c.in_ok-node.ensures in
    node_within c.args.classes.now c.args.all.now c.args.found.now c.loop-node.found c.next.new.self c.in-Some.node c.in-Some.delta c.loop-node.invariant taken

pub visit-requires-clause-targets_within : goal.visit-requires-clause-targets_within
visit-requires-clause-targets_within c =
    let taken : IsTaken c.in-Some.node c.in-Some.delta c.loop-node.found c.next.new.self = next_taken c.in_ok-node.field-0 c.in-Some.node c.in-Some.delta c.loop-node.found c.next.new.self (cc c.in-Some.is) c.in_ok-node.ensures in
    list_within c.args.classes.now c.args.all.now c.args.found.now c.loop-node.found c.next.new.self c.in-Some.node c.in-Some.delta c.loop-node.invariant taken sides.Target (constraint_lists c.args.targets.now) c.deref.result.now c.requires.targets (list_is c.args.classes.now c.args.all.now c.args.found.now c.loop-node.found c.next.new.self c.in-Some.node c.in-Some.delta c.loop-node.invariant taken sides.Target c.args.targets.now c.index-targets-node.result c.deref.result.now c.requires.targets c.index-targets-node.is c.deref.ensures.value) c.requires.fits

pub visit-requires-clause-sources_within : goal.visit-requires-clause-sources_within
visit-requires-clause-sources_within c =
    let taken : IsTaken c.in-Some.node c.in-Some.delta c.loop-node.found c.next.new.self = next_taken c.in_ok-node.field-0 c.in-Some.node c.in-Some.delta c.loop-node.found c.next.new.self (cc c.in-Some.is) c.in_ok-node.ensures in
    list_within c.args.classes.now c.args.all.now c.args.found.now c.loop-node.found c.next.new.self c.in-Some.node c.in-Some.delta c.loop-node.invariant taken sides.Source (constraint_lists c.args.sources.now) c.deref-in-Some.result.now c.requires.sources (list_is c.args.classes.now c.args.all.now c.args.found.now c.loop-node.found c.next.new.self c.in-Some.node c.in-Some.delta c.loop-node.invariant taken sides.Source c.args.sources.now c.index-sources-node.result c.deref-in-Some.result.now c.requires.sources c.index-sources-node.is c.deref-in-Some.ensures.value) c.requires.fits

pub visit-requires-clause-targets_read : goal.visit-requires-clause-targets_read
visit-requires-clause-targets_read c =
    let taken : IsTaken c.in-Some.node c.in-Some.delta c.loop-node.found c.next.new.self = next_taken c.in_ok-node.field-0 c.in-Some.node c.in-Some.delta c.loop-node.found c.next.new.self (cc c.in-Some.is) c.in_ok-node.ensures in
    targets_read c.args.classes.now c.args.all.now c.args.found.now c.loop-node.found c.next.new.self c.in-Some.node c.in-Some.delta c.loop-node.invariant taken (constraint_lists c.args.targets.now) c.deref.result.now c.requires.targets (list_is c.args.classes.now c.args.all.now c.args.found.now c.loop-node.found c.next.new.self c.in-Some.node c.in-Some.delta c.loop-node.invariant taken sides.Target c.args.targets.now c.index-targets-node.result c.deref.result.now c.requires.targets c.index-targets-node.is c.deref.ensures.value)

pub visit-requires-clause-sources_read : goal.visit-requires-clause-sources_read
visit-requires-clause-sources_read c =
    let taken : IsTaken c.in-Some.node c.in-Some.delta c.loop-node.found c.next.new.self = next_taken c.in_ok-node.field-0 c.in-Some.node c.in-Some.delta c.loop-node.found c.next.new.self (cc c.in-Some.is) c.in_ok-node.ensures in
    sources_read c.args.classes.now c.args.all.now c.args.found.now c.loop-node.found c.next.new.self c.in-Some.node c.in-Some.delta c.loop-node.invariant taken (constraint_lists c.args.sources.now) c.deref-in-Some.result.now c.requires.sources (list_is c.args.classes.now c.args.all.now c.args.found.now c.loop-node.found c.next.new.self c.in-Some.node c.in-Some.delta c.loop-node.invariant taken sides.Source c.args.sources.now c.index-sources-node.result c.deref-in-Some.result.now c.requires.sources c.index-sources-node.is c.deref-in-Some.ensures.value)

pub returns : goal.returns
returns c =
    run_done c.args.classes.now c.args.all.now c.args.found.now c.loop-node.found c.next.new.self c.loop-node.invariant
    (next_idle c.in_ok-node.field-0 c.loop-node.found c.next.new.self c.in_default.is c.in_ok-node.ensures)
