-- What the analysis asks of the steps of a function. A program is one that fits only where all its steps do.
use Rattle.std.specs.Prelude.{◌≡◌, ◌≢◌, ℕ, suc, ◌+◌, ◌<◌, ◌≤◌, ◌^◌, ⊤, Bool, true, false, ℤ, pos, List, [], ◌∷◌, length, option_map, option_and_then, Option, Some, None, slice_get, eqb}
use Rattle.std.specs.List.{AllByRecursion, list_any}
use Rattle.c_values.specs.declared.int_type.IntType.{IntType}
use Rattle.c_values.specs.declared.int_type.IntType.TheVariants as types
use Rattle.c_values.specs.Operators.{is_shift}
use Rattle.core_ir.specs.declared.steps.Callee.{Callee}
use Rattle.core_ir.specs.declared.steps.Callee.TheVariants.{Direct, Through, External}
use Rattle.core_ir.specs.declared.steps.Cond.{Cond}
use Rattle.core_ir.specs.declared.steps.Cond.TheVariants as conditions
use Rattle.core_ir.specs.declared.steps.Leaf.{Leaf}
use Rattle.core_ir.specs.declared.steps.Leaf.TheVariants.{Int, Pointer}
use Rattle.core_ir.specs.declared.steps.Operand.{Operand}
use Rattle.core_ir.specs.declared.steps.Operand.TheVariants.{Reg, Const}
use Rattle.core_ir.specs.declared.steps.Value.{Value}
use Rattle.core_ir.specs.declared.steps.Value.TheVariants as values
use Rattle.core_ir.specs.Programs.{PlainFunction, PlainProgram}
use Rattle.core_ir.specs.Ranges.{Range, within, type_range, Includes}
use Rattle.core_ir.specs.Shapes.{is_whole_region}
use Rattle.core_ir.specs.Steps.{PlainStep, PlainSteps, Set, Sum, Check, Sub, Load, Store, CopyObject, Begin, Call, If, Block, Loop, Exit, Return, ended, ◌⨾◌}

-- ---- what registers hold

-- what a register of the function holds, if the function has it
abbrev pub leaf_at : PlainFunction → ℕ → Option Leaf
leaf_at f r = option_map (λ x. x.leaf) (slice_get f.registers r)

-- integers alone, each in a range
abbrev pub HoldsWithin : Range → Option Leaf → Type 0
HoldsWithin range (Some (Int t)) = Includes range (type_range t)
HoldsWithin range _ = ⊥

-- integers alone, and each in a range may be put there
abbrev pub HoldsAll : Range → Option Leaf → Type 0
HoldsAll range (Some (Int t)) = Includes (type_range t) range
HoldsAll range _ = ⊥

-- what one holds may be put into the other: pointers into a place for pointers, integers into one whose range has theirs
abbrev pub MayHold : Option Leaf → Option Leaf → Type 0
MayHold (Some Pointer) (Some Pointer) = ⊤
MayHold (Some (Int t)) from = HoldsWithin (type_range t) from
MayHold _ _ = ⊥

-- an integer in a range: a constant in it, or a register whose range lies in it
abbrev pub IntegerIn : PlainFunction → Range → Operand → Type 0
IntegerIn f range (Const c) = Includes range (c, c)
IntegerIn f range (Reg r) = HoldsWithin range (leaf_at f r)

-- any integer; constants are numbers that some type of C could hold, or nearly
abbrev pub AnInteger : PlainFunction → Operand → Type 0
AnInteger f a = IntegerIn f (within (pos (2 ^ 64))) a

-- a value of some integer type
abbrev pub OfSomeType : PlainFunction → Operand → Type 0
OfSomeType f a = (t : IntType) × IntegerIn f (type_range t) a

abbrev pub APointer : PlainFunction → ℕ → Type 0
APointer f r = leaf_at f r ≡ Some Pointer

-- a register that holds anything, or any integer
abbrev pub AnOperand : PlainFunction → Operand → Type 0
AnOperand f (Const c) = AnInteger f (Const c)
AnOperand f (Reg r) = r < length f.registers

-- an operand may be put where this is held
abbrev pub MayTake : PlainFunction → Option Leaf → Operand → Type 0
MayTake f (Some (Int t)) a = IntegerIn f (type_range t) a
MayTake f to (Const c) = ⊥
MayTake f to (Reg r) = MayHold to (leaf_at f r)

-- ---- what a step puts into a register. An entry register keeps its argument as long as the call lasts, so that what is known of
-- ---- a function's result for an argument is known of what was passed

pub record PutsIntegers (f : PlainFunction) (range : Range) (to : ℕ) : Type 0 where
  pub no_entry : f.parameters ≤ to
  pub lies_in : HoldsAll range (leaf_at f to)

pub record PutsPointer (f : PlainFunction) (to : ℕ) : Type 0 where
  pub no_entry : f.parameters ≤ to
  pub pointer : APointer f to

pub record PutsOperand (f : PlainFunction) (to : ℕ) (a : Operand) : Type 0 where
  pub no_entry : f.parameters ≤ to
  pub takes : MayTake f (leaf_at f to) a

-- what is read under a type of access
abbrev pub PutsLeaf : PlainFunction → Leaf → ℕ → Type 0
PutsLeaf f (Int t) to = PutsIntegers f (type_range t) to
PutsLeaf f Pointer to = PutsPointer f to

abbrev pub truth_range : Range
truth_range = (pos 0, pos 1)

-- the size of an element; it is negative where an index is subtracted
pub record IsSize (size : ℤ) : Type 0 where
  pub some : size ≢ pos 0
  pub bounded : Includes (within (pos (2 ^ 30))) (size, size)

-- the right operand of a shift is a value of some type, every other operand one of the operator's type
abbrev pub RightOperand : PlainFunction → Bool → IntType → Operand → Type 0
RightOperand f true t b = OfSomeType f b
RightOperand f false t b = IntegerIn f (type_range t) b

-- a function of the program, of which the external ones come last
abbrev pub function_count : PlainProgram → ℕ
function_count p = length p.functions + length p.externals

-- an object by the class of its whole region
abbrev pub IsObject : PlainProgram → ℕ → Type 0
IsObject p class = list_any (is_whole_region class) p.objects ≡ true

abbrev pub SetFits : PlainProgram → PlainFunction → ℕ → Value → Type 0
SetFits p f to (values.Copy a) = PutsOperand f to a
SetFits p f to (values.Convert t a) = AnInteger f a × PutsIntegers f (type_range t) to
SetFits p f to (values.Unary op t a) = IntegerIn f (type_range t) a × PutsIntegers f (type_range t) to
SetFits p f to (values.Binary op t a b) = IntegerIn f (type_range t) a × RightOperand f (is_shift op) t b × PutsIntegers f (type_range t) to
SetFits p f to (values.Compare c a b) = AnInteger f a × AnInteger f b × PutsIntegers f truth_range to
SetFits p f to (values.Address object) = IsObject p object × PutsPointer f to
SetFits p f to (values.Function g) = (g < function_count p) × PutsPointer f to
SetFits p f to values.Null = PutsPointer f to
SetFits p f to (values.FromInt a) = AnInteger f a × PutsPointer f to
SetFits p f to (values.ToInt t r) = APointer f r × PutsIntegers f (type_range t) to
SetFits p f to (values.Minus a b size) = APointer f a × APointer f b × IsSize (pos size) × PutsIntegers f (type_range types.Int) to
SetFits p f to (values.PointerCompare c a b) = APointer f a × APointer f b × PutsIntegers f truth_range to

-- a pointer is stored from a register or is null, an integer from a register of integers or a constant
abbrev pub StoredFits : PlainFunction → Leaf → Operand → Type 0
StoredFits f Pointer (Const c) = c ≡ pos 0
StoredFits f Pointer (Reg r) = APointer f r
StoredFits f (Int t) a = AnInteger f a

abbrev pub ConditionFits : PlainFunction → Cond → Type 0
ConditionFits f (conditions.Ints c a b) = AnInteger f a × AnInteger f b
ConditionFits f (conditions.Pointers c a b) = APointer f a × APointer f b
ConditionFits f (conditions.NotNull r) = APointer f r

-- ---- calls

-- arguments for entry registers, from the one with number i on
abbrev pub ArgumentsFit : PlainFunction → PlainFunction → ℕ → List Operand → Type 0
ArgumentsFit f g i [] = i ≡ g.parameters
ArgumentsFit f g i (a ∷ rest) = MayTake f (leaf_at g i) a × ArgumentsFit f g (suc i) rest

-- what the result of a function is, if it has one
abbrev pub result_leaf : PlainFunction → Option Leaf
result_leaf g = option_and_then (leaf_at g) g.result

-- a result that is kept is there, and its register may hold it
abbrev pub ResultFits : PlainFunction → PlainFunction → Option ℕ → Type 0
ResultFits f g None = ⊤
ResultFits f g (Some to) = MayHold (leaf_at f to) (result_leaf g)

-- a call of a defined function, with as many arguments as it has parameters
pub record CallsFunction (f g : PlainFunction) (to : Option ℕ) (args : List Operand) : Type 0 where
  pub arguments : ArgumentsFit f g 0 args
  pub result : ResultFits f g to

abbrev pub CallsSome : PlainFunction → Option ℕ → List Operand → Option PlainFunction → Type 0
CallsSome f to args None = ⊥
CallsSome f to args (Some g) = CallsFunction f g to args

-- a pointer may lead to each function of the called type
abbrev pub CalleeFits : PlainProgram → PlainFunction → Option ℕ → List Operand → Callee → Type 0
CalleeFits p f to args (Direct g) = CallsSome f to args (slice_get p.functions g.0)
CalleeFits p f to args (Through r kind) = APointer f r × AllByRecursion (λ g. g.kind ≡ kind → CallsFunction f g to args) p.functions
CalleeFits p f to args (External e) = e < length p.externals

abbrev pub is_register : ℕ → Operand → Bool
is_register r (Reg q) = eqb q r
is_register r (Const c) = false

-- a result's register is none of the arguments, so that bounds of the result with an argument are of two registers
pub record ResultApart (f : PlainFunction) (args : List Operand) (to : ℕ) : Type 0 where
  pub no_entry : f.parameters ≤ to
  pub there : to < length f.registers
  pub no_argument : list_any (is_register to) args ≡ false

abbrev pub ResultKept : PlainFunction → List Operand → Option ℕ → Type 0
ResultKept f args None = ⊤
ResultKept f args (Some to) = ResultApart f args to

pub record CallFits (p : PlainProgram) (f : PlainFunction) (to : Option ℕ) (callee : Callee) (args : List Operand) : Type 0 where
  pub operands : AllByRecursion (AnOperand f) args
  pub kept : ResultKept f args to
  pub callees : CalleeFits p f to args callee

-- ---- the steps

-- the number of the function that has the site
abbrev pub site_function : PlainProgram → ℕ → Option ℕ
site_function p site = option_map (λ s. s.function.0) (slice_get p.sites site)

abbrev pub ReturnFits : PlainFunction → Option Operand → Type 0
ReturnFits f None = ⊤
ReturnFits f (Some a) = MayTake f (result_leaf f) a

-- steps of function i, with so many blocks around them
module _ (p : PlainProgram) (i : ℕ) (f : PlainFunction) where
  abbrev mutual
    pub StepFits : ℕ → PlainStep → Type 0
    StepFits blocks (Set to value) = SetFits p f to value
    StepFits blocks (Sum to base index size) = APointer f base × OfSomeType f index × IsSize size × PutsPointer f to
    StepFits blocks (Check site address width) = (site_function p site ≡ Some i) × APointer f address
    StepFits blocks (Sub to address part) = APointer f address × (part < length p.parts) × PutsPointer f to
    StepFits blocks (Load to address leaf volatile) = APointer f address × PutsLeaf f leaf to
    StepFits blocks (Store address value leaf) = APointer f address × StoredFits f leaf value
    -- any type: one of which no object has a part copies nothing of the program, and a run that comes there ends undefined
    StepFits blocks (CopyObject to from layout) = APointer f to × APointer f from
    StepFits blocks (Begin object initialised) = IsObject p object
    StepFits blocks (Call to callee args) = CallFits p f to callee args
    StepFits blocks (If condition first second) = ConditionFits f condition × StepsFit blocks first × StepsFit blocks second
    StepFits blocks (Block body) = StepsFit (suc blocks) body
    StepFits blocks (Loop body) = StepsFit blocks body
    StepFits blocks (Exit block) = block < blocks
    StepFits blocks (Return value) = ReturnFits f value

    pub StepsFit : ℕ → PlainSteps → Type 0
    StepsFit blocks ended = ⊤
    StepsFit blocks (x ⨾ rest) = StepFits blocks x × StepsFit blocks rest

-- ---- the function

abbrev pub ResultRegister : PlainFunction → Option ℕ → Type 0
ResultRegister f None = ⊤
ResultRegister f (Some r) = (f.parameters ≤ r) × (r < length f.registers)

-- function i of a program fits
pub record FunctionFits (p : PlainProgram) (i : ℕ) (f : PlainFunction) : Type 0 where
  pub entries : f.parameters ≤ length f.registers
  pub result : ResultRegister f f.result
  pub body : StepsFit p i f 0 f.body
