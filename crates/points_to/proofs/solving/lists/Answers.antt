use Rattle.std.proofs.Common.{ℕ, List, ◌∙◌, ◌++◌, ◌∷◌, [], ap, sym, subst, add-one, take, arith}
use Rattle.core_ir.specs.Plain.{lists_of}
use Rattle.points_to.specs.Sets.{IsSet}
use Rattle.points_to.proofs.Each.{each_more, got_within}
use Rattle.points_to.proofs.Running.{lists_push, taken_more, taken_all}
use Rattle.points_to.proofs.solving.lists.Goals as goal

pub loop-set-preserved : goal.loop-set-preserved
loop-set-preserved c =
    let sets = c.args.sets.now in
    let i = c.loop-set.set-index in
    let set = c.set-item.result in
    record {
      lists =
          ap lists_of c.in_ok-push.ensures.items ∙ lists_push c.loop-set.lists.items c.in_ok-members.field-0
          ∙ ap (λ (xs : List (List ℕ)). xs ++ c.in_ok-members.field-0.items ∷ []) c.loop-set.invariant.lists
          ∙ ap (λ (x : List ℕ). take i sets ++ x ∷ []) c.in_ok-members.ensures.members
          ∙ taken_more sets i set c.loop-set-test.true c.set-item.is ∙ ap (λ (n : ℕ). take n sets) (sym (add-one i));
      sets = each_more IsSet sets i set c.loop-set-test.true c.loop-set.invariant.sets (subst IsSet c.set-item.is c.in_ok-members.ensures.set);
    }

pub returns-clause-lists : goal.returns-clause-lists
returns-clause-lists c = c.loop-set.invariant.lists ∙ taken_all c.args.sets.now c.loop-set.set-index c.loop-set-test.false

pub returns-clause-sets : goal.returns-clause-sets
returns-clause-sets c = λ k x e. c.loop-set.invariant.sets k x (omega (arith, c.loop-set-test.false, got_within c.args.sets.now k x e)) e
