-- Programs, and plans over them, may be shared among threads. Steps hold steps, and shapes forms that hold shapes, so each is shown by its layer: where
-- what it holds may be shared, so may it.
use Prim.Native.Nat.{ℕ}
use mathlib.Core.List.{[], ◌∷◌}
use mathlib.Core.Path.{subst}
use denote.Builtin.{u32, u64}
use denote.Hole.{as_row}
use denote.Hole.Fix.{holes}
use denote.Hole.FixSend.{Syncs, fix_sync}
use denote.Param.Send.{IsSync, Common, sendable}
use denote.Param.SendFields.{variants_sync, declared_sync, as_row_sync}
use denote.RattleType.{RattleType}
use denote.Struct.Field.{Field, row_field, u32-field, u64-field, i64-field, bool-field}
use denote.Struct.Tuple.{Tuple}
use Rattle.std.proofs.Crossing.{crosses}
use Rattle.std.specs.contracts.alloc.Global as GlobalOf
use Rattle.std.specs.contracts.boxed.Box as BoxOf
use Rattle.std.specs.contracts.impls.GlobalAllocator.TheImpl as HeapOf
use Rattle.std.specs.contracts.option.Option as OptionOf
use Rattle.std.specs.contracts.vec.Vec as VecOf
use Rattle.sv_base.specs.contracts.ids.SiteId as SiteIdOf
use Rattle.core_ir.specs.contracts.program.CoreProgram as ProgramOf
use Rattle.core_ir.specs.contracts.program.Function as FunctionOf
use Rattle.core_ir.specs.contracts.shapes.Shape as ShapeOf
use Rattle.core_ir.specs.contracts.shapes.ShapeForm as FormOf
use Rattle.core_ir.specs.contracts.shapes.ShapeForm.TheKnot as FormKnot
use Rattle.core_ir.specs.contracts.steps.Callee as CalleeOf
use Rattle.core_ir.specs.contracts.steps.Cond as CondOf
use Rattle.core_ir.specs.contracts.steps.Leaf as LeafOf
use Rattle.core_ir.specs.contracts.steps.Operand as OperandOf
use Rattle.core_ir.specs.contracts.steps.Step as StepOf
use Rattle.core_ir.specs.contracts.steps.Step.TheKnot as StepKnot
use Rattle.core_ir.specs.contracts.steps.Value as ValueOf
use Rattle.round_plan.specs.contracts.plan.Plan as PlanOf
use Rattle.round_tasks.specs.contracts.analysed.Analysis as AnalysisOf

option_sync : (R : RattleType) → IsSync R → IsSync (OptionOf.the_row R)
option_sync R s = search sendable depth 40

vec_sync : (R : RattleType) → IsSync R → IsSync (VecOf.the_row R GlobalOf.the_row HeapOf.ghosts)
vec_sync R s = search (sendable, crosses) depth 40

pair_sync : (R : RattleType) → IsSync R → IsSync (Tuple (u64 ∷ R ∷ []))
pair_sync R s = search sendable depth 40

-- ---- fields of a layer, those that hold no member of the ring
abbrev Held : Field → Type 0
Held F = IsSync (as_row (row_field (as_row F)))

held : (F : Field) → IsSync (as_row F) → Held F
held F s = as_row_sync (row_field (as_row F)) s

number : Held u32-field
number = held u32-field (search sendable)

wide : Held u64-field
wide = held u64-field (search sendable)

signed : Held i64-field
signed = held i64-field (search sendable)

flag : Held bool-field
flag = held bool-field (search sendable)

value : Held ValueOf.the_field
value = held ValueOf.the_field (search sendable depth 40 fits 20000)

operand_sync : IsSync OperandOf.the_row
operand_sync = search sendable depth 40

operand : Held OperandOf.the_field
operand = held OperandOf.the_field operand_sync

leaf : Held LeafOf.the_field
leaf = held LeafOf.the_field (search sendable depth 40)

callee : Held CalleeOf.the_field
callee = held CalleeOf.the_field (search sendable depth 40)

condition : Held CondOf.the_field
condition = held CondOf.the_field (search sendable depth 40)

site : Held SiteIdOf.the_field
site = held SiteIdOf.the_field (search sendable depth 40)

maybe : Held (OptionOf.the_field u32)
maybe = held (OptionOf.the_field u32) (option_sync u32 (search sendable))

returned : Held (OptionOf.the_field OperandOf.the_row)
returned = held (OptionOf.the_field OperandOf.the_row) (option_sync OperandOf.the_row operand_sync)

operands : Held (VecOf.the_field OperandOf.the_row GlobalOf.the_row HeapOf.ghosts)
operands = held (VecOf.the_field OperandOf.the_row GlobalOf.the_row HeapOf.ghosts) (vec_sync OperandOf.the_row operand_sync)

-- ---- fields of a layer that hold members of the ring
list : (R : RattleType) → IsSync R → IsSync (as_row (row_field (VecOf.the_row R GlobalOf.the_row HeapOf.ghosts)))
list R s = as_row_sync (row_field (VecOf.the_row R GlobalOf.the_row HeapOf.ghosts)) (vec_sync R s)

boxed : (R : RattleType) → IsSync R → IsSync (as_row (row_field (BoxOf.the_row R GlobalOf.the_row HeapOf.ghosts)))
boxed R s = as_row_sync (row_field (BoxOf.the_row R GlobalOf.the_row HeapOf.ghosts)) (search (sendable, crosses) depth 40)

-- ---- steps, variant by variant
step_layer : Syncs StepOf.the_ring StepOf.the_member
step_layer = record {
  sync = λ h all. let R = h StepOf.the_member in let steps = list R (all StepOf.the_member) in
      variants_sync (StepKnot.type-Step R R R R) (
        (number, (value, tt)),
        (
          (number, (number, (operand, (signed, tt)))),
          (
            (site, (number, (wide, tt))),
            (
              (number, (number, (number, tt))),
              (
                (number, (number, (leaf, (flag, tt)))),
                (
                  (number, (operand, (leaf, tt))),
                  (
                    (number, (number, (number, tt))),
                    (
                      (number, (flag, tt)),
                      (
                        (maybe, (callee, (operands, tt))),
                        (
                          (condition, (steps, (steps, tt))),
                          (
                            (steps, tt),
                            (
                              (steps, tt),
                              (
                                (number, tt),
                                ((returned, tt), tt),
                              ),
                            ),
                          ),
                        ),
                      ),
                    ),
                  ),
                ),
              ),
            ),
          ),
        ),
      );
}

step_holes : (i : StepKnot.the_members) → IsSync (holes StepOf.the_ring i)
step_holes = fix_sync StepOf.the_ring (StepOf.by_members (Syncs StepOf.the_ring) step_layer)

step_sync : IsSync StepOf.the_row
step_sync = record { shared = λ d. subst (λ s. (b o : ℕ) → Common (s b o)) (StepOf.shr_is d) ((step_holes StepOf.the_member).shared d) }

-- ---- shapes and their forms
form_layer : Syncs FormOf.the_ring FormOf.the_member
form_layer = record {
  sync = λ h all. let R = h ShapeOf.the_member in let s = all ShapeOf.the_member in
      variants_sync (FormKnot.type-ShapeForm R R) (
        (leaf, (number, tt)),
        (
          (wide, (wide, (boxed R s, tt))),
          ((flag, (list (Tuple (u64 ∷ R ∷ [])) (pair_sync R s), tt)), tt),
        ),
      );
}

shape_layer : Syncs FormOf.the_ring ShapeOf.the_member
shape_layer = record {
  sync = λ h all. let R = h FormOf.the_member in
      declared_sync (FormKnot.type-Shape R) (number, (maybe, (as_row_sync (row_field R) (all FormOf.the_member), tt)));
}

shape_holes : (i : FormKnot.the_members) → IsSync (holes FormOf.the_ring i)
shape_holes = fix_sync FormOf.the_ring (FormOf.by_members (Syncs FormOf.the_ring) form_layer shape_layer)

shape_sync : IsSync ShapeOf.the_row
shape_sync = record { shared = λ d. subst (λ s. (b o : ℕ) → Common (s b o)) (ShapeOf.shr_is d) ((shape_holes ShapeOf.the_member).shared d) }

-- ---- programs
function_sync : IsSync FunctionOf.the_row
function_sync = search (sendable, crosses, step_sync) depth 40 fits 20000

pub program_sync : IsSync ProgramOf.the_row
program_sync = search (sendable, crosses, function_sync, shape_sync) depth 40 fits 20000

-- ---- plans
analysis_sync : IsSync AnalysisOf.the_row
analysis_sync = declared_sync AnalysisOf.the_type (program_sync, (search sendable, (search sendable, tt)))

pub plan_sync : IsSync PlanOf.the_row
plan_sync = declared_sync PlanOf.the_type (analysis_sync, tt)
