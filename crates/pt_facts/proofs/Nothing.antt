-- A function that is not there gives nothing.
use Rattle.std.proofs.Common.{◌≡◌, ℕ, List, ◌++◌, Option, Some, None, sym, append-nil}
use Rattle.core_ir.specs.declared.artifacts.Constraint.{Constraint}
use Rattle.core_ir.specs.declared.program.Function.{Function}
use Rattle.core_ir.specs.declared.steps.Operand.{Operand}
use Rattle.pt_facts.specs.Facts.{direct_facts, body_facts}

some_none : {A B : Type 0} (x : A) → Some x ≡ None → B
some_none x e = absurd (cc)

pub no_callee : (xs : List Constraint) (base : ℕ) (f : Function) (to : Option ℕ) (entry : ℕ) (o : Option Function) (args : List Operand) → o ≡ None → xs ≡ xs ++ direct_facts base f to entry o args
no_callee xs base f to entry None args e = sym (append-nil xs)
no_callee xs base f to entry (Some g) args e = some_none g e

pub no_body : (xs : List Constraint) (functions : List Function) (count base : ℕ) (o : Option Function) → o ≡ None → xs ≡ xs ++ body_facts functions count base o
no_body xs functions count base None e = sym (append-nil xs)
no_body xs functions count base (Some f) e = some_none f e
