-- The constraints on points-to sets that a function gives, by its steps in the order of the text. The rules are those of
-- inclusion-based points-to analysis: Lars Ole Andersen, "Program Analysis and Specialization for the C Programming Language", 1994.
use Rattle.std.specs.Prelude.{ℕ, ◌+◌, ◌==◌, if◌then◌else◌, List, [], ◌∷◌, ◌++◌, flat_map, slice_get, Option, Some, None}
use Rattle.core_ir.specs.declared.artifacts.Constraint.{Constraint}
use Rattle.core_ir.specs.declared.program.CoreProgram.{CoreProgram}
use Rattle.core_ir.specs.declared.program.Function.{Function}
use Rattle.core_ir.specs.declared.steps.Callee.{Callee}
use Rattle.core_ir.specs.declared.steps.Callee.TheVariants.{Direct, Through, External}
use Rattle.core_ir.specs.declared.steps.Leaf.{Leaf}
use Rattle.core_ir.specs.declared.steps.Operand.{Operand}
use Rattle.core_ir.specs.declared.steps.Step as s
use Rattle.core_ir.specs.declared.steps.Step.{Step}
use Rattle.core_ir.specs.declared.steps.Value.{Value}
use Rattle.core_ir.specs.declared.steps.Value.TheVariants as values
use Rattle.core_ir.specs.Order.{text_order}
use Rattle.core_ir.specs.Plain.{lists_of}
use Rattle.pt_facts.specs.Nodes.{node_if_pointer, node_of, node_of_some, operand_node, member_of, base_of, registers_of, function_count}

-- a constraint of a rule, where its target and its source are there
abbrev pub made : ℕ → Option ℕ → Option ℕ → ℕ → List Constraint
made rule (Some target) (Some source) third = record { rule = rule; target = target; source = source; third = third } ∷ []
made rule _ _ third = []

-- In what follows `base` is the node of the first register of the function f whose steps these are, and `count` the number of functions.

-- rules 1 and 2: a register gets an address, a function, or what another register has
abbrev pub set_facts : ℕ → ℕ → Function → ℕ → Value → List Constraint
set_facts count base f to (values.Address object) = made 1 (node_of base f to) (Some object) 0
set_facts count base f to (values.Function g) = made 1 (node_of base f to) (member_of count g) 0
set_facts count base f to (values.Copy a) = made 2 (node_of base f to) (operand_node base f a) 0
set_facts count base f to _ = []

-- rule 2: an argument for each entry register of the called function, from register i on; `entry` is the node of its first register
abbrev pub passed_facts : ℕ → Function → ℕ → Function → ℕ → List Operand → List Constraint
passed_facts base f entry callee i [] = []
passed_facts base f entry callee i (a ∷ rest) = made 2 (node_of entry callee i) (operand_node base f a) 0 ++ passed_facts base f entry callee (i + 1) rest

-- rule 7: an argument for whatever the register's pointer leads to, from argument i on
abbrev pub argument_facts : ℕ → Function → ℕ → ℕ → List Operand → List Constraint
argument_facts base f register i [] = []
argument_facts base f register i (a ∷ rest) = made 7 (node_of base f register) (operand_node base f a) i ++ argument_facts base f register (i + 1) rest

-- a direct call: the arguments, and the result by rule 2
abbrev pub direct_facts : ℕ → Function → Option ℕ → ℕ → Option Function → List Operand → List Constraint
direct_facts base f to entry None args = []
direct_facts base f to entry (Some callee) args =
    passed_facts base f entry callee 0 args ++ made 2 (node_of_some base f to) (node_of_some entry callee callee.result) 0

-- a call through a register: the arguments, and the result by rule 8
abbrev pub through_facts : ℕ → Function → Option ℕ → ℕ → List Operand → List Constraint
through_facts base f to register args = argument_facts base f register 0 args ++ made 8 (node_of_some base f to) (node_of base f register) 0

-- an external call gives nothing
abbrev pub call_facts : List Function → ℕ → Function → Option ℕ → Callee → List Operand → List Constraint
call_facts functions base f to (Direct g) args = direct_facts base f to (base_of functions g.0) (slice_get functions g.0) args
call_facts functions base f to (Through register kind) args = through_facts base f to register args
call_facts functions base f to (External e) args = []

-- rule 2: what is returned goes to the result
abbrev pub return_facts : ℕ → Function → Option Operand → List Constraint
return_facts base f None = []
return_facts base f (Some a) = made 2 (node_of_some base f f.result) (operand_node base f a) 0

-- what a step itself gives
abbrev pub step_facts : List Function → ℕ → ℕ → Function → Step → List Constraint
step_facts functions count base f (s.Set to value) = set_facts count base f to value
step_facts functions count base f (s.Sum to pointer index size) = made 2 (node_of base f to) (node_of base f pointer) 0
step_facts functions count base f (s.Load to address leaf volatile) = made 3 (node_of base f to) (node_of base f address) 0
step_facts functions count base f (s.Store address value leaf) = made 4 (node_of base f address) (operand_node base f value) 0
step_facts functions count base f (s.Sub to address part) = made 5 (node_of base f to) (node_of base f address) part
step_facts functions count base f (s.CopyObject to from layout) = made 6 (node_of base f to) (node_of base f from) layout
step_facts functions count base f (s.Call to callee args) = call_facts functions base f to callee args.items
step_facts functions count base f (s.Return value) = return_facts base f value
step_facts functions count base f _ = []

abbrev pub body_facts : List Function → ℕ → ℕ → Option Function → List Constraint
body_facts functions count base None = []
body_facts functions count base (Some f) = flat_map (step_facts functions count base f) (text_order f.body.items)

-- rule 1: what static initialisers give leaf class c
unfoldable pub class_facts : List Leaf → ℕ → ℕ → List ℕ → List Constraint
class_facts leaves registers c targets = flat_map (λ target. made 1 (node_if_pointer (registers + c) (slice_get leaves c)) (Some target) 0) targets

-- what they give each leaf class, from class c on
abbrev pub start_facts : List Leaf → ℕ → ℕ → List (List ℕ) → List Constraint
start_facts leaves registers c [] = []
start_facts leaves registers c (targets ∷ rest) = class_facts leaves registers c targets ++ start_facts leaves registers (c + 1) rest

-- the first function has those of the static initialisers too
abbrev pub initial_facts : CoreProgram → ℕ → List Constraint
initial_facts p i = if i == 0 then start_facts p.classes.leaves.items (registers_of p.functions.items) 0 (lists_of p.pointer_starts.items) else []

-- all that function i of a program gives
abbrev pub facts_of : CoreProgram → ℕ → List Constraint
facts_of p i = body_facts p.functions.items (function_count p) (base_of p.functions.items i) (slice_get p.functions.items i) ++ initial_facts p i
