-- The initial values of static objects as plain values.
use Rattle.std.specs.Prelude.{ℕ, ℤ, List}
use Rattle.core_ir.specs.declared.statics.StaticLeaf.{StaticLeaf}
use Rattle.core_ir.specs.declared.statics.StaticUnion.{StaticUnion}
use Rattle.core_ir.specs.declared.statics.StaticValue.{StaticValue}
use Rattle.core_ir.specs.declared.statics.StaticValue.TheVariants as values

pub data PlainValue : Type 0 where
  Int : (number : ℤ) → PlainValue
  Place : (object : ℕ) (path : List ℕ) (offset : ℤ) → PlainValue
  Function : (number : ℕ) → PlainValue

abbrev pub value_of : StaticValue → PlainValue
value_of (values.Int number) = Int number
value_of (values.Place object path offset) = Place object path.items offset
value_of (values.Function number) = Function number

pub record PlainStatic : Type 0 where
  pub object : ℕ
  pub path : List ℕ
  pub value : PlainValue

abbrev pub static_of : StaticLeaf → PlainStatic
static_of s = record { object = s.object; path = s.path.items; value = value_of s.value }

pub record PlainUnion : Type 0 where
  pub object : ℕ
  pub path : List ℕ
  pub member : ℕ

abbrev pub union_of : StaticUnion → PlainUnion
union_of u = record { object = u.object; path = u.path.items; member = u.member }
