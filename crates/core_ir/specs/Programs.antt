-- Programs of the core as plain values: each Vec is the list of its items.
use Rattle.std.specs.Prelude.{ℕ, ℤ, List, map, Option}
use Rattle.core_ir.specs.declared.classes.ClassTable.{ClassTable}
use Rattle.core_ir.specs.declared.classes.FunctionNodes.{FunctionNodes}
use Rattle.core_ir.specs.declared.classes.LayoutPart.{LayoutPart}
use Rattle.core_ir.specs.declared.classes.PartClass.{PartClass}
use Rattle.core_ir.specs.declared.classes.RegionClass.{RegionClass}
use Rattle.core_ir.specs.declared.program.CoreProgram.{CoreProgram}
use Rattle.core_ir.specs.declared.program.CoreSite.{CoreSite}
use Rattle.core_ir.specs.declared.program.ExternalName.{ExternalName}
use Rattle.core_ir.specs.declared.program.Function.{Function}
use Rattle.core_ir.specs.declared.program.Register.{Register}
use Rattle.core_ir.specs.declared.shapes.Part.{Part}
use Rattle.core_ir.specs.declared.shapes.Shape.{Shape}
use Rattle.core_ir.specs.declared.steps.Leaf.{Leaf}
use Rattle.core_ir.specs.Plain.{lists_of}
use Rattle.core_ir.specs.Shapes.{PlainShape, shape_of}
use Rattle.core_ir.specs.Statics.{PlainStatic, PlainUnion, static_of, union_of}
use Rattle.core_ir.specs.Steps.{PlainSteps, steps_of}

pub record PlainFunction : Type 0 where
  pub name : List ℕ
  pub kind : ℕ
  pub parameters : ℕ
  pub registers : List Register
  pub result : Option ℕ
  pub body : PlainSteps

abbrev pub function_of : Function → PlainFunction
function_of f = record { name = f.name.items; kind = f.kind; parameters = f.parameters; registers = f.registers.items; result = f.result; body = steps_of f.body.items }

-- ---- the class table

pub record PlainLayout : Type 0 where
  pub layout : ℕ
  pub leaves : List ℕ

abbrev pub layout_of : LayoutPart → PlainLayout
layout_of l = record { layout = l.layout; leaves = l.leaves.items }

pub record PlainRegion : Type 0 where
  pub length : ℕ
  pub leaves : List ℕ
  pub parts : List PartClass
  pub layouts : List PlainLayout

abbrev pub region_of : RegionClass → PlainRegion
region_of r = record { length = r.length; leaves = r.leaves.items; parts = r.parts.items; layouts = map layout_of r.layouts.items }

pub record PlainNodes : Type 0 where
  pub entries : List ℕ
  pub result : Option ℕ

abbrev pub nodes_of : FunctionNodes → PlainNodes
nodes_of n = record { entries = n.entries.items; result = n.result }

pub record PlainClasses : Type 0 where
  pub registers : ℕ
  pub regions : List PlainRegion
  pub leaves : List Leaf
  pub rivals : List (List ℕ)
  pub nodes : List PlainNodes

abbrev pub classes_of : ClassTable → PlainClasses
classes_of c = record { registers = c.registers; regions = map region_of c.regions.items; leaves = c.leaves.items; rivals = lists_of c.rivals.items; nodes = map nodes_of c.nodes.items }

-- ---- the program

pub record PlainExternal : Type 0 where
  pub name : List ℕ
  pub kind : ℕ

abbrev pub external_of : ExternalName → PlainExternal
external_of e = record { name = e.name.items; kind = e.kind }

pub record PlainProgram : Type 0 where
  pub functions : List PlainFunction
  pub entries : List ℕ
  pub objects : List PlainShape
  pub parts : List Part
  pub classes : PlainClasses
  pub statics : List PlainStatic
  pub unions : List PlainUnion
  pub leaf_starts : List (Option (ℤ × ℤ))
  pub pointer_starts : List (List ℕ)
  pub sites : List CoreSite
  pub externals : List PlainExternal

abbrev pub object_of : Shape → PlainShape
object_of s = shape_of s.layout s.region s.form

abbrev pub program_of : CoreProgram → PlainProgram
program_of p = record {
  functions = map function_of p.functions.items;
  entries = map (λ f. f.0) p.entries.items;
  objects = map object_of p.objects.items;
  parts = p.parts.items;
  classes = classes_of p.classes;
  statics = map static_of p.statics.items;
  unions = map union_of p.unions.items;
  leaf_starts = p.leaf_starts.items;
  pointer_starts = lists_of p.pointer_starts.items;
  sites = p.sites.items;
  externals = map external_of p.externals.items;
}
