-- Steps as plain values: each Vec is the list of its items, and the steps inside a step are a list of their own.
use Rattle.std.specs.Prelude.{ℕ, Bool, ℤ, List, [], ◌∷◌, ◌++◌, Option}
use Rattle.core_ir.specs.declared.steps.Callee.{Callee}
use Rattle.core_ir.specs.declared.steps.Cond.{Cond}
use Rattle.core_ir.specs.declared.steps.Leaf.{Leaf}
use Rattle.core_ir.specs.declared.steps.Operand.{Operand}
use Rattle.core_ir.specs.declared.steps.Step as s
use Rattle.core_ir.specs.declared.steps.Step.{Step}
use Rattle.core_ir.specs.declared.steps.Value.{Value}

infixr 45 ◌⨾◌
mutual
  pub data PlainStep : Type 0 where
    Set : (to : ℕ) (value : Value) → PlainStep
    Sum : (to base : ℕ) (index : Operand) (size : ℤ) → PlainStep
    Check : (site address width : ℕ) → PlainStep
    Sub : (to address part : ℕ) → PlainStep
    Load : (to address : ℕ) (leaf : Leaf) (volatile : Bool) → PlainStep
    Store : (address : ℕ) (value : Operand) (leaf : Leaf) → PlainStep
    CopyObject : (to from layout : ℕ) → PlainStep
    Begin : (object : ℕ) (initialised : Bool) → PlainStep
    Call : (to : Option ℕ) (callee : Callee) (args : List Operand) → PlainStep
    If : (condition : Cond) (first second : PlainSteps) → PlainStep
    Block : (body : PlainSteps) → PlainStep
    Loop : (body : PlainSteps) → PlainStep
    Exit : (block : ℕ) → PlainStep
    Return : (value : Option Operand) → PlainStep

  pub data PlainSteps : Type 0 where
    ended : PlainSteps
    ◌⨾◌ : (step : PlainStep) (rest : PlainSteps) → PlainSteps

abbrev mutual
  pub step_of : Step → PlainStep
  step_of (s.Set to value) = Set to value
  step_of (s.Sum to base index size) = Sum to base index size
  step_of (s.Check site address width) = Check site.0 address width
  step_of (s.Sub to address part) = Sub to address part
  step_of (s.Load to address leaf volatile) = Load to address leaf volatile
  step_of (s.Store address value leaf) = Store address value leaf
  step_of (s.CopyObject to from layout) = CopyObject to from layout
  step_of (s.Begin object initialised) = Begin object initialised
  step_of (s.Call to callee args) = Call to callee args.items
  step_of (s.If' condition n first m second) = If condition (row_steps first) (row_steps second)
  step_of (s.Block' n body) = Block (row_steps body)
  step_of (s.Loop' n body) = Loop (row_steps body)
  step_of (s.Exit block) = Exit block
  step_of (s.Return value) = Return value

  pub row_steps : {n : _} → s.Row_of-Step n → PlainSteps
  row_steps s.end_of-Step = ended
  row_steps (s.more_of-Step x rest) = step_of x ⨾ row_steps rest

-- the steps of a Vec
abbrev pub steps_of : List Step → PlainSteps
steps_of [] = ended
steps_of (x ∷ rest) = step_of x ⨾ steps_of rest

-- the steps in the order of the text, each before those inside it
abbrev mutual
  pub in_step : PlainStep → List PlainStep
  in_step (If condition first second) = in_order first ++ in_order second
  in_step (Block body) = in_order body
  in_step (Loop body) = in_order body
  in_step _ = []

  pub in_order : PlainSteps → List PlainStep
  in_order ended = []
  in_order (x ⨾ rest) = x ∷ in_step x ++ in_order rest
