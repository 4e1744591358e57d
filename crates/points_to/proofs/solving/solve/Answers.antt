use Rattle.std.proofs.Common.{ℕ, List, ◌∙◌, length, ap, sym, subst}
use Rattle.points_to.specs.declared.rule.Side.TheVariants as sides
use Rattle.points_to.specs.Sets.{IsSet}
use Rattle.points_to.specs.Families.{Has, family_of}
use Rattle.points_to.specs.Rules.{IsClosed}
use Rattle.points_to.specs.computed.RuleParts.{Each}
use Rattle.points_to.specs.Fits.{Fits}
use Rattle.points_to.specs.computed.Readers.{AreReaders, constraint_lists}
use Rattle.points_to.proofs.Running.{targets_within, sources_within, start_stands, opened_size, opened_flowed, opened_ruled, opened_within, lists_length}
use Rattle.points_to.proofs.Naming.{named_closed}
use Rattle.points_to.proofs.solving.solve.Goals as goal

pub readers-requires : goal.readers-requires
readers-requires c = targets_within c.args.classes.now c.args.all.now c.args.nodes c.requires

pub readers-requires-2 : goal.readers-requires-2
readers-requires-2 c = sources_within c.args.classes.now c.args.all.now c.args.nodes c.requires

pub open_all-requires-clause-stands : goal.open_all-requires-clause-stands
open_all-requires-clause-stands c = start_stands c.args.nodes c.in_ok-found.found c.in_ok-found.ensures

pub open_all-requires-clause-fits : goal.open_all-requires-clause-fits
open_all-requires-clause-fits c = subst (λ n. Fits n c.args.all.now c.args.classes.now) (sym c.in_ok-found.ensures.done.size) c.requires

pub run-requires-clause-stands : goal.run-requires-clause-stands
run-requires-clause-stands c = c.in_ok-open_all.ensures.kept.stands

pub run-requires-clause-fits : goal.run-requires-clause-fits
run-requires-clause-fits c =
    subst (λ n. Fits n c.args.all.now c.args.classes.now) (sym (opened_size c.args.classes.now c.args.all.now c.args.nodes c.in_ok-found.found c.open_all.new.found c.in_ok-found.ensures c.in_ok-open_all.ensures)) c.requires

pub run-requires-clause-targets : goal.run-requires-clause-targets
run-requires-clause-targets c =
    subst (λ n. AreReaders sides.Target n c.args.all.now (constraint_lists c.deref.result.now)) (sym (opened_size c.args.classes.now c.args.all.now c.args.nodes c.in_ok-found.found c.open_all.new.found c.in_ok-found.ensures c.in_ok-open_all.ensures))
    (subst (λ vecs. AreReaders sides.Target c.args.nodes c.args.all.now (constraint_lists vecs)) (sym c.deref.ensures.value) c.in_ok-targets.ensures)

pub run-requires-clause-sources : goal.run-requires-clause-sources
run-requires-clause-sources c =
    subst (λ n. AreReaders sides.Source n c.args.all.now (constraint_lists c.deref-2.result.now)) (sym (opened_size c.args.classes.now c.args.all.now c.args.nodes c.in_ok-found.found c.open_all.new.found c.in_ok-found.ensures c.in_ok-open_all.ensures))
    (subst (λ vecs. AreReaders sides.Source c.args.nodes c.args.all.now (constraint_lists vecs)) (sym c.deref-2.ensures.value) c.in_ok-sources.ensures)

pub run-requires-clause-flowed : goal.run-requires-clause-flowed
run-requires-clause-flowed c = opened_flowed c.args.classes.now c.args.all.now c.args.nodes c.in_ok-found.found c.open_all.new.found c.in_ok-found.ensures c.in_ok-open_all.ensures

pub run-requires-clause-ruled : goal.run-requires-clause-ruled
run-requires-clause-ruled c = opened_ruled c.args.classes.now c.args.all.now c.args.nodes c.in_ok-found.found c.open_all.new.found c.in_ok-found.ensures c.in_ok-open_all.ensures

pub returns-clause-nodes : goal.returns-clause-nodes
returns-clause-nodes c =
    sym (lists_length c.in_ok-sets.sets.items) ∙ ap length (c.in_ok-sets.ensures.lists ∙ c.deref-3.ensures.value) ∙ c.in_ok-run.ensures.size ∙ opened_size c.args.classes.now c.args.all.now c.args.nodes c.in_ok-found.found c.open_all.new.found c.in_ok-found.ensures c.in_ok-open_all.ensures

pub returns-clause-closed : goal.returns-clause-closed
returns-clause-closed c =
    subst (λ (sets : List (List ℕ)). IsClosed c.args.classes.now c.args.all.now (family_of sets)) (sym (c.in_ok-sets.ensures.lists ∙ c.deref-3.ensures.value)) c.in_ok-run.ensures.closed

pub returns-clause-least : goal.returns-clause-least
returns-clause-least c = λ family closed node member h.
    c.in_ok-run.ensures.within family closed (opened_within c.args.classes.now c.args.all.now c.args.nodes c.in_ok-found.found c.open_all.new.found c.in_ok-found.ensures c.in_ok-open_all.ensures family closed) node member
    (subst (λ (sets : List (List ℕ)). Has (family_of sets) node member) (c.in_ok-sets.ensures.lists ∙ c.deref-3.ensures.value) h)

pub returns-clause-members : goal.returns-clause-members
returns-clause-members c = λ test named node member h.
    c.in_ok-run.ensures.within (λ n m. test m) (named_closed test c.args.classes.now c.args.all.now named)
    (opened_within c.args.classes.now c.args.all.now c.args.nodes c.in_ok-found.found c.open_all.new.found c.in_ok-found.ensures c.in_ok-open_all.ensures (λ n m. test m) (named_closed test c.args.classes.now c.args.all.now named)) node member
    (subst (λ (sets : List (List ℕ)). Has (family_of sets) node member) (c.in_ok-sets.ensures.lists ∙ c.deref-3.ensures.value) h)

pub returns-clause-sets : goal.returns-clause-sets
returns-clause-sets c = subst (λ (sets : List (List ℕ)). Each sets IsSet) (sym c.in_ok-sets.ensures.lists) c.in_ok-sets.ensures.sets
