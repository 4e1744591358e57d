-- A worked program that fits, and what becomes of it by one change. It is the core of
--
--     int a[4];
--     union u { int i; char c; } x = { .c = 5 };
--     int *q = &a[1];
--     struct s { int *p; int k[2]; } s1, s2;
--     int (*fp)(int);
--     int ext(int *);
--     int pick(int n) { int t; t = n; ext(&t); return t; }
--     int main(void) {
--         int i; int *p;
--         i = 0; p = q;
--         while (i < 4) { a[pick(3)] = i; i = i + 1; }
--         s1 = s2; s1.k[1] = 2; fp = pick; p = s1.p; *p = fp(i);
--         return 0;
--     }
use Rattle.std.specs.Prelude.{ℕ, ◌+◌, true, false, pos, neg_ℤ, List, [], ◌∷◌, ◌++◌, replicate, Some, None}
use Rattle.c_values.specs.declared.int_type.IntType.TheVariants as types
use Rattle.c_values.specs.declared.operator.Op.TheVariants as ops
use Rattle.c_values.specs.declared.operator.Cmp.TheVariants as compares
use Rattle.core_ir.specs.declared.program.CoreSite.{CoreSite}
use Rattle.core_ir.specs.declared.program.Register.{Register}
use Rattle.core_ir.specs.declared.steps.Callee.TheVariants.{Direct, Through, External}
use Rattle.core_ir.specs.declared.steps.Cond.TheVariants as conditions
use Rattle.core_ir.specs.declared.steps.Leaf.TheVariants as leaves
use Rattle.core_ir.specs.declared.steps.Operand.TheVariants.{Reg, Const}
use Rattle.core_ir.specs.declared.steps.Value.TheVariants as values
use Rattle.core_ir.specs.Programs.{PlainClasses, PlainExternal, PlainFunction, PlainProgram}
use Rattle.core_ir.specs.Shapes as members
use Rattle.core_ir.specs.Shapes.{PlainShape, Scalar, Array, Members, member}
use Rattle.core_ir.specs.Statics as starts
use Rattle.core_ir.specs.Steps.{PlainStep, PlainSteps, Set, Sum, Check, Sub, Load, Store, CopyObject, Begin, Call, If, Block, Loop, Exit, Return, ended, ◌⨾◌}

abbrev number : Register
number = record { leaf = leaves.Int types.Int; named = false }

abbrev pointer : Register
pointer = record { leaf = leaves.Pointer; named = false }

abbrev named : Register → Register
named r = record r { named = true }

abbrev site : CoreSite
site = record { place = record { file = record { 0 = 0 }; line = 1; col = 1 }; function = record { 0 = 1 } }

abbrev pub pick_steps : PlainSteps
pick_steps =
    Set 1 (values.Copy (Reg 0))
    ⨾ Block (Begin 12 false ⨾ Set 3 (values.Address 12) ⨾ Store 3 (Reg 1) (leaves.Int types.Int) ⨾ Set 4 (values.Address 12) ⨾ Call None (External 0) ((Reg 4) ∷ []) ⨾ Set 5 (values.Address 12) ⨾ Load 6 5 (leaves.Int types.Int) false ⨾ Return (Some (Reg 6)) ⨾ ended)
    ⨾ ended

abbrev pub pick : PlainFunction
pick = record {
  name = 112 ∷ 105 ∷ 99 ∷ 107 ∷ [];
  kind = 0;
  parameters = 1;
  registers = (number ∷ named number ∷ number ∷ pointer ∷ pointer ∷ pointer ∷ number ∷ []);
  result = Some 2;
  body = pick_steps;
}

abbrev pub loop_body : PlainSteps
loop_body = Block (
    Set 6 (values.Address 0)
    ⨾ Call (Some 7) (Direct (record { 0 = 0 })) ((Const (pos 3)) ∷ [])
    ⨾ Sum 8 6 (Reg 7) (pos 4)
    ⨾ Check 0 8 4
    ⨾ Store 8 (Reg 0) (leaves.Int types.Int)
    ⨾ Set 9 (values.Binary ops.Add types.Int (Reg 0) (Const (pos 1)))
    ⨾ Set 0 (values.Copy (Reg 9))
    ⨾ ended) ⨾ ended

abbrev pub main_steps : PlainSteps
main_steps =
    Set 3 (values.Null)
    ⨾ Set 0 (values.ToInt types.Int 3)
    ⨾ Set 1 (values.FromInt (Const (pos 1)))
    ⨾ Set 0 (values.Copy (Const (pos 0)))
    ⨾ Set 4 (values.Address 4)
    ⨾ Load 5 4 leaves.Pointer false
    ⨾ Set 1 (values.Copy (Reg 5))
    ⨾ Block (Loop (If (conditions.Ints compares.Lt (Reg 0) (Const (pos 4))) loop_body (Exit 0 ⨾ ended) ⨾ ended) ⨾ ended)
    ⨾ Set 10 (values.Address 5)
    ⨾ Set 11 (values.Address 8)
    ⨾ CopyObject 10 11 5
    ⨾ Set 12 (values.Address 5)
    ⨾ Sub 13 12 0
    ⨾ Sum 14 13 (Const (pos 1)) (pos 4)
    ⨾ Check 1 14 4
    ⨾ Store 14 (Const (pos 2)) (leaves.Int types.Int)
    ⨾ Set 15 (values.Address 11)
    ⨾ Set 16 (values.Function 0)
    ⨾ Store 15 (Reg 16) leaves.Pointer
    ⨾ Set 17 (values.Address 5)
    ⨾ Sub 18 17 1
    ⨾ Load 19 18 leaves.Pointer false
    ⨾ Set 1 (values.Copy (Reg 19))
    ⨾ Check 2 1 4
    ⨾ Set 20 (values.Address 11)
    ⨾ Load 21 20 leaves.Pointer false
    ⨾ Call (Some 22) (Through 21 0) ((Reg 0) ∷ [])
    ⨾ Store 1 (Reg 22) (leaves.Int types.Int)
    ⨾ Return (Some (Const (pos 0)))
    ⨾ Return (Some (Const (pos 0)))
    ⨾ ended

abbrev pub main : PlainFunction
main = record {
  name = 109 ∷ 97 ∷ 105 ∷ 110 ∷ [];
  kind = 1;
  parameters = 0;
  registers = (named number ∷ named pointer ∷ number ∷ pointer ∷ pointer ∷ pointer ∷ pointer ∷ number ∷ pointer ∷ number ∷ pointer ∷ pointer ∷ pointer ∷ pointer ∷ pointer ∷ pointer ∷ pointer ∷ pointer ∷ pointer ∷ pointer ∷ pointer ∷ pointer ∷ number ∷ []);
  result = Some 2;
  body = main_steps;
}

abbrev pub objects : List PlainShape
objects =
    Array 0 (Some 0) 4 4 (Scalar 1 None (leaves.Int types.Int) 0)
    ∷ Members 2 (Some 1) true (member 0 (Scalar 1 (Some 2) (leaves.Int types.Int) 1) (member 0 (Scalar 3 (Some 3) (leaves.Int types.Char) 2) members.ended))
    ∷ Scalar 4 (Some 4) leaves.Pointer 3
    ∷ Members 5 (Some 5) false (member 0 (Scalar 4 (Some 6) leaves.Pointer 4) (member 4 (Array 6 (Some 7) 2 4 (Scalar 1 None (leaves.Int types.Int) 5)) members.ended))
    ∷ Members 5 (Some 8) false (member 0 (Scalar 4 (Some 9) leaves.Pointer 6) (member 4 (Array 6 (Some 10) 2 4 (Scalar 1 None (leaves.Int types.Int) 7)) members.ended))
    ∷ Scalar 4 (Some 11) leaves.Pointer 8
    ∷ Scalar 1 (Some 12) (leaves.Int types.Int) 9
    ∷ []

abbrev pub classes : PlainClasses
classes = record {
  registers = 30;
  regions = record { length = 16; leaves = (0 ∷ []); parts = []; layouts = [] }
      ∷ record { length = 4; leaves = (1 ∷ 2 ∷ []); parts = []; layouts = [] }
      ∷ record { length = 4; leaves = (1 ∷ []); parts = []; layouts = [] }
      ∷ record { length = 1; leaves = (2 ∷ []); parts = []; layouts = [] }
      ∷ record { length = 4; leaves = (3 ∷ []); parts = []; layouts = [] }
      ∷ record { length = 12; leaves = (4 ∷ 5 ∷ []); parts = ((record { part = 0; class = 7 }) ∷ (record { part = 1; class = 6 }) ∷ []); layouts = ((record { layout = 5; leaves = (4 ∷ 5 ∷ []) }) ∷ []) }
      ∷ record { length = 4; leaves = (4 ∷ []); parts = []; layouts = [] }
      ∷ record { length = 8; leaves = (5 ∷ []); parts = []; layouts = [] }
      ∷ record { length = 12; leaves = (6 ∷ 7 ∷ []); parts = ((record { part = 0; class = 10 }) ∷ (record { part = 1; class = 9 }) ∷ []); layouts = ((record { layout = 5; leaves = (6 ∷ 7 ∷ []) }) ∷ []) }
      ∷ record { length = 4; leaves = (6 ∷ []); parts = []; layouts = [] }
      ∷ record { length = 8; leaves = (7 ∷ []); parts = []; layouts = [] }
      ∷ record { length = 4; leaves = (8 ∷ []); parts = []; layouts = [] }
      ∷ record { length = 4; leaves = (9 ∷ []); parts = []; layouts = [] }
      ∷ [];
  leaves = ((leaves.Int types.Int) ∷ (leaves.Int types.Int) ∷ (leaves.Int types.Char) ∷ leaves.Pointer ∷ leaves.Pointer ∷ (leaves.Int types.Int) ∷ leaves.Pointer ∷ (leaves.Int types.Int) ∷ leaves.Pointer ∷ (leaves.Int types.Int) ∷ []);
  rivals = ([] ∷ ((2 ∷ [])) ∷ ((1 ∷ [])) ∷ [] ∷ [] ∷ [] ∷ [] ∷ [] ∷ [] ∷ [] ∷ []);
  nodes = ((record { entries = (0 ∷ []); result = Some 2 }) ∷ (record { entries = []; result = Some 9 }) ∷ []);
}

abbrev pub worked : PlainProgram
worked = record {
  functions = pick ∷ main ∷ [];
  entries = (1 ∷ []);
  objects = objects;
  parts = ((record { layout = 5; member = Some 1 }) ∷ (record { layout = 5; member = Some 0 }) ∷ []);
  classes = classes;
  statics = ((record { object = 1; path = (1 ∷ []); value = starts.Int (pos 5) }) ∷ (record { object = 4; path = []; value = starts.Place 0 [] (pos 4) }) ∷ []);
  unions = ((record { object = 1; path = []; member = 1 }) ∷ []);
  leaf_starts = ((Some (pos 0, pos 0)) ∷ (Some (neg_ℤ (pos 2147483648), pos 2147483647)) ∷ (Some (pos 5, pos 5)) ∷ (Some (pos 4, pos 4)) ∷ (Some (pos 0, pos 0)) ∷ (Some (pos 0, pos 0)) ∷ (Some (pos 0, pos 0)) ∷ (Some (pos 0, pos 0)) ∷ (Some (pos 0, pos 0)) ∷ None ∷ []);
  pointer_starts = ([] ∷ [] ∷ [] ∷ ((0 ∷ [])) ∷ [] ∷ [] ∷ [] ∷ [] ∷ [] ∷ [] ∷ []);
  sites = (site ∷ site ∷ site ∷ []);
  externals = ((record { name = (101 ∷ 120 ∷ 116 ∷ []); kind = 2 }) ∷ []);
}

-- ---- one change

-- one more step, at the start of a function
abbrev pub with_pick : PlainStep → PlainProgram
with_pick x = record worked { functions = record pick { body = x ⨾ pick_steps } ∷ main ∷ [] }

abbrev pub with_main : PlainStep → PlainProgram
with_main x = record worked { functions = pick ∷ record main { body = x ⨾ main_steps } ∷ [] }

-- an argument is overwritten
abbrev pub into_an_entry_register : PlainStep
into_an_entry_register = Set 0 (values.Copy (Const (pos 0)))

-- a result takes the place of its own argument
abbrev pub result_over_argument : PlainStep
result_over_argument = Call (Some 7) (Direct (record { 0 = 0 })) (Reg 7 ∷ [])

abbrev pub call_without_argument : PlainStep
call_without_argument = Call None (Direct (record { 0 = 0 })) []

-- no block is there
abbrev pub exit_of_nothing : PlainStep
exit_of_nothing = Exit 0

-- no value of the register's type
abbrev pub number_too_large : PlainStep
number_too_large = Set 0 (values.Copy (Const (pos 2147483648)))

abbrev pub type_too_large : PlainStep
type_too_large = Load 7 3 (leaves.Int types.LongLong) false

abbrev pub number_for_a_pointer : PlainStep
number_for_a_pointer = Set 3 (values.Copy (Reg 0))

abbrev pub number_stored_as_pointer : PlainStep
number_stored_as_pointer = Store 4 (Const (pos 1)) leaves.Pointer

abbrev pub elements_of_no_size : PlainStep
elements_of_no_size = Sum 8 6 (Reg 7) (pos 0)

-- the object of the other function
abbrev pub foreign_object : PlainStep
foreign_object = Set 3 (values.Address 12)

-- another table
abbrev pub with_classes : PlainClasses → PlainProgram
with_classes table = record worked { classes = table }

abbrev pub one_register_less : PlainClasses
one_register_less = record classes { registers = 29 }

abbrev pub without_rivals : PlainClasses
without_rivals = record classes { rivals = [] ∷ [] ∷ [] ∷ [] ∷ [] ∷ [] ∷ [] ∷ [] ∷ [] ∷ [] ∷ [] }

-- all begins with zero or null
abbrev pub all_zero : PlainProgram
all_zero = record worked { leaf_starts = replicate 9 (Some (pos 0, pos 0)) ++ None ∷ [] }

-- other objects, under the same table
abbrev pub with_objects : List PlainShape → PlainProgram
with_objects list = record worked { objects = list }

abbrev objects_from : PlainShape → PlainShape → PlainShape → PlainShape → PlainShape → List PlainShape
objects_from first second third fourth last = first ∷ second ∷ Scalar 4 (Some 4) leaves.Pointer 3 ∷ third ∷ fourth ∷ Scalar 4 (Some 11) leaves.Pointer 8 ∷ last ∷ []

abbrev numbers : ℕ → ℕ → PlainShape
numbers count stride = Array 0 (Some 0) count stride (Scalar 1 None (leaves.Int types.Int) 0)

-- a union whose second member lies so many bytes behind its start
abbrev choice : ℕ → PlainShape
choice offset = Members 2 (Some 1) true (member 0 (Scalar 1 (Some 2) (leaves.Int types.Int) 1) (member offset (Scalar 3 (Some 3) (leaves.Int types.Char) 2) members.ended))

-- a structure with its members at these offsets, with its classes from these on
abbrev pair : ℕ → ℕ → ℕ → ℕ → PlainShape
pair pointer_at numbers_at region class = Members 5 (Some region) false (member pointer_at (Scalar 4 (Some (region + 1)) leaves.Pointer class) (member numbers_at (Array 6 (Some (region + 2)) 2 4 (Scalar 1 None (leaves.Int types.Int) (class + 1))) members.ended))

-- of a type by its number
abbrev variable : ℕ → PlainShape
variable layout = Scalar layout (Some 12) (leaves.Int types.Int) 9

-- the last object is a number of the type that pointers have
abbrev pub two_trees_of_a_type : PlainProgram
two_trees_of_a_type = with_objects (objects_from (numbers 4 4) (choice 0) (pair 0 4 5 4) (pair 0 4 8 6) (variable 4))

abbrev pub elements_with_gaps : PlainProgram
elements_with_gaps = with_objects (objects_from (numbers 2 8) (choice 0) (pair 0 4 5 4) (pair 0 4 8 6) (variable 1))

abbrev pub no_elements : PlainProgram
no_elements = with_objects (objects_from (numbers 0 4) (choice 0) (pair 0 4 5 4) (pair 0 4 8 6) (variable 1))

abbrev pub union_with_a_gap : PlainProgram
union_with_a_gap = with_objects (objects_from (numbers 4 4) (choice 1) (pair 0 4 5 4) (pair 0 4 8 6) (variable 1))

abbrev pub members_out_of_order : PlainProgram
members_out_of_order = with_objects (objects_from (numbers 4 4) (choice 0) (pair 8 0 5 4) (pair 8 0 8 6) (variable 1))

abbrev pub no_members : PlainProgram
no_members = with_objects (objects_from (numbers 4 4) (choice 0) (pair 0 4 5 4) (pair 0 4 8 6) (Members 1 (Some 12) false members.ended))

abbrev pub with_functions : List PlainFunction → PlainProgram
with_functions list = record worked { functions = list }

abbrev pub with_externals : List PlainExternal → PlainProgram
with_externals list = record worked { externals = list }
