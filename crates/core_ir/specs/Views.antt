-- What the analysis of a function reads, as plain values: each Vec is the list of its items.
use Rattle.std.specs.Prelude.{ℕ, ℤ, Bool, List, map, Option}
use Rattle.core_ir.specs.declared.artifacts.WritePart.{WritePart}
use Rattle.core_ir.specs.declared.steps.Leaf.{Leaf}
use Rattle.core_ir.specs.declared.views.CalleePart.{CalleePart}
use Rattle.core_ir.specs.declared.views.ClassPart.{ClassPart}
use Rattle.core_ir.specs.declared.views.Facts.{Facts}
use Rattle.core_ir.specs.declared.views.LeafPart.{LeafPart}
use Rattle.core_ir.specs.declared.views.View.{View}
use Rattle.core_ir.specs.Plain.{lists_of, PlainBounds, some_bounds}
use Rattle.core_ir.specs.Programs.{PlainLayout, layout_of}

pub record PlainCallee : Type 0 where
  pub callee : ℕ
  pub kind : ℕ
  pub external : Bool
  pub parameters : ℕ
  pub ranges : List (ℤ × ℤ)
  pub result_register : Option ℕ
  pub clusters : List (List ℕ)
  pub result : Option (List PlainBounds)

abbrev pub callee_of : CalleePart → PlainCallee
callee_of c = record {
  callee = c.callee;
  kind = c.kind;
  external = c.external;
  parameters = c.parameters;
  ranges = c.ranges.items;
  result_register = c.result_register;
  clusters = lists_of c.clusters.items;
  result = some_bounds c.result;
}

pub record PlainLeaf : Type 0 where
  pub class : ℕ
  pub leaf : Leaf
  pub rivals : List (ℕ × Leaf)

abbrev pub leaf_of : LeafPart → PlainLeaf
leaf_of l = record { class = l.class; leaf = l.leaf; rivals = l.rivals.items }

pub record PlainClass : Type 0 where
  pub class : ℕ
  pub length : ℕ
  pub leaves : List PlainLeaf
  pub layouts : List PlainLayout

abbrev pub class_of : ClassPart → PlainClass
class_of c = record { class = c.class; length = c.length; leaves = map leaf_of c.leaves.items; layouts = map layout_of c.layouts.items }

pub record PlainView : Type 0 where
  pub context : Option (List PlainBounds)
  pub sets : List (List ℕ)
  pub clusters : List (List ℕ)
  pub callees : List PlainCallee
  pub leaves : List WritePart
  pub classes : List PlainClass

abbrev pub view_of : View → PlainView
view_of v = record {
  context = some_bounds v.context;
  sets = lists_of v.sets.items;
  clusters = lists_of v.clusters.items;
  callees = map callee_of v.callees.items;
  leaves = v.leaves.items;
  classes = map class_of v.classes.items;
}

pub record PlainFacts : Type 0 where
  pub sets : List (List ℕ)
  pub callees : List PlainCallee
  pub leaves : List WritePart
  pub classes : List PlainClass
  pub rising : Bool

abbrev pub facts_of : Facts → PlainFacts
facts_of x = record {
  sets = lists_of x.sets.items;
  callees = map callee_of x.callees.items;
  leaves = x.leaves.items;
  classes = map class_of x.classes.items;
  rising = x.rising;
}
