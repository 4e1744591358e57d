-- An object takes what another one has, leaf by leaf: as the demand of a copy says it, and as the code goes through it.
use Rattle.std.proofs.Common.{ℕ}
use Rattle.core_ir.specs.declared.classes.ClassTable.{ClassTable}
use Rattle.points_to.specs.Families.{Relation}
use Rattle.points_to.specs.Rules.{IsCopied}
use Rattle.points_to.specs.computed.RuleParts.{TakesLeaf, TakesLike, TakesLayouts, TakesObject}

pub copied_one : (t : ClassTable) (flows : Relation) (layout x y to from : ℕ) → TakesObject t flows layout x y → IsCopied t layout x y to from → flows from to
unfolding TakesObject TakesLayouts TakesLike TakesLeaf
copied_one t flows layout x y to from h m =
    h m.from_place m.from_part m.from_found m.from_type m.to_place m.to_part m.to_found m.to_type m.leaf_place m.to_leaf m.from_leaf m.to_leaf_found m.from_leaf_found to m.to_node from m.from_node

pub copied_all : (t : ClassTable) (flows : Relation) (layout x y : ℕ) → ((to from : ℕ) → IsCopied t layout x y to from → flows from to) → TakesObject t flows layout x y
unfolding TakesObject TakesLayouts TakesLike TakesLeaf
copied_all t flows layout x y all a source source_found source_type d target target_found target_type k to_leaf from_leaf to_found from_found to to_node from from_node = all to from (record {
  to_place = d;
  to_part = target;
  to_found = target_found;
  to_type = target_type;
  from_place = a;
  from_part = source;
  from_found = source_found;
  from_type = source_type;
  leaf_place = k;
  to_leaf = to_leaf;
  to_leaf_found = to_found;
  to_node = to_node;
  from_leaf = from_leaf;
  from_leaf_found = from_found;
  from_node = from_node;
})
