use Rattle.core_ir.proofs.FactsFitting.{class_wanted, address_wanted, object_wanted, classes_ascend, region_class_known, length_kept, leaf_wanted, rivals_wanted, layout_wanted}
use Rattle.core_ir.proofs.part_laws.another_class_breaks_facts.Goals as goal

pub returns-clause-copied : goal.returns-clause-copied
returns-clause-copied c = class_wanted

pub returns-clause-loaded : goal.returns-clause-loaded
returns-clause-loaded c = address_wanted

pub returns-clause-object : goal.returns-clause-object
returns-clause-object c = object_wanted

pub returns-clause-order : goal.returns-clause-order
returns-clause-order c = classes_ascend

pub returns-clause-region : goal.returns-clause-region
returns-clause-region c = region_class_known

pub returns-clause-length : goal.returns-clause-length
returns-clause-length c = length_kept

pub returns-clause-leaves : goal.returns-clause-leaves
returns-clause-leaves c = leaf_wanted

pub returns-clause-rivals : goal.returns-clause-rivals
returns-clause-rivals c = rivals_wanted

pub returns-clause-layouts : goal.returns-clause-layouts
returns-clause-layouts c = layout_wanted
