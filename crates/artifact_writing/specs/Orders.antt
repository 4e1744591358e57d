-- Orders of the parts of artifacts, by their numbers.
use Rattle.std.specs.Prelude.{Bool, nat_lt}
use Rattle.sv_base.specs.declared.colour.Colour.{Colour}
use Rattle.sv_base.specs.declared.ids.SiteId.{SiteId}
use Rattle.core_ir.specs.declared.artifacts.WritePart.{WritePart}
use Rattle.core_ir.specs.Plain.{PlainCall}

abbrev pub is_site_before : SiteId × Colour → SiteId × Colour → Bool
is_site_before a b = nat_lt a.0.0 b.0.0

abbrev pub is_callee_before : PlainCall → PlainCall → Bool
is_callee_before a b = nat_lt a.callee b.callee

abbrev pub is_class_before : WritePart → WritePart → Bool
is_class_before a b = nat_lt a.class b.class
