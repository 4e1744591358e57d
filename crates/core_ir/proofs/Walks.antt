-- The steps that a walk has left.
use Rattle.std.proofs.Common.{◌≡◌, List, [], ◌∷◌, ◌++◌, length, suc-ne-zero, Vec, Global, refl, sym, ap, ◌∙◌, append_assoc, append-nil}
use mathlib.Core.Former.{Count}
use Rattle.std.specs.Borrow.{Bor}
use Rattle.core_ir.specs.declared.steps.Cond.{Cond}
use Rattle.core_ir.specs.declared.steps.Step as s
use Rattle.core_ir.specs.declared.steps.Step.{Step, items-the_row-Step, items_hidden-the_row-Step-0}
use Rattle.core_ir.specs.Order.{steps_in, row_order, text_order}
use Rattle.core_ir.specs.Walk.{pending}

pub pending_push : (xs : List (Bor (List Step))) (steps : Bor (List Step)) → pending (xs ++ steps ∷ []) ≡ steps.now ++ pending xs
pending_push [] steps = sym (append-nil steps.now)
pending_push (x ∷ xs) steps = ap (λ z. z ++ x.now) (pending_push xs steps) ∙ append_assoc steps.now (pending xs) x.now

pub order_append : (xs ys : List Step) → text_order (xs ++ ys) ≡ text_order xs ++ text_order ys
order_append [] ys = refl
order_append (x ∷ xs) ys =
    ap (λ z. x ∷ steps_in x ++ z) (order_append xs ys) ∙ ap (λ z. x ∷ z) (sym (append_assoc (steps_in x) (text_order xs) (text_order ys)))

row_items : (n : _) (row : s.Row_of-Step n) → row_order row ≡ text_order (items-the_row-Step n row)
row_items n s.end_of-Step = refl
row_items n (s.more_of-Step x rest) = ap (λ z. x ∷ steps_in x ++ z) (row_items _ rest)

-- the rows of a step, which have no name of their own
abbrev first_row : Step → (n : Count) × s.Row_of-Step n
first_row (s.Block' _ row) = (_, row)
first_row _ = (_, s.end_of-Step)

row_of_vec : (v : Vec Step Global) → row_order (first_row (s.Block v)).1 ≡ text_order v.items
row_of_vec v = let row = first_row (s.Block v) in row_items row.0 row.1 ∙ ap text_order (items_hidden-the_row-Step-0 v)

pub block_of : (v : Vec Step Global) → steps_in (s.Block v) ≡ text_order v.items
block_of v = row_of_vec v

pub loop_of : (v : Vec Step Global) → steps_in (s.Loop v) ≡ text_order v.items
loop_of v = row_of_vec v

pub if_of : (cond : Cond) (v u : Vec Step Global) → steps_in (s.If cond v u) ≡ text_order v.items ++ text_order u.items
if_of cond v u = ap (λ z. z ++ row_order (first_row (s.Block u)).1) (row_of_vec v) ∙ ap (λ z. text_order v.items ++ z) (row_of_vec u)

-- lists that come before all others
pub entered : (xs : List (Bor (List Step))) (steps : Bor (List Step)) → text_order (pending (xs ++ steps ∷ [])) ≡ text_order steps.now ++ text_order (pending xs)
entered xs steps = ap text_order (pending_push xs steps) ∙ order_append steps.now (pending xs)

entered_one : (x : Step) (inside : List Step) (before after : List (Bor (List Step))) (steps : Bor (List Step)) → steps_in x ≡ text_order inside → steps.now ≡ inside → after ≡ before ++ steps ∷ [] → text_order (pending after) ≡ steps_in x ++ text_order (pending before)
entered_one x inside before after steps is now more = ap (λ z. text_order (pending z)) more ∙ entered before steps ∙ ap (λ z. text_order z ++ text_order (pending before)) now ∙ ap (λ z. z ++ text_order (pending before)) (sym is)

pub entered_block : (x : Step) (v : Vec Step Global) (before after : List (Bor (List Step))) (steps : Bor (List Step)) → x ≡ s.Block v → steps.now ≡ v.items → after ≡ before ++ steps ∷ [] → text_order (pending after) ≡ steps_in x ++ text_order (pending before)
entered_block x v before after steps is = entered_one x v.items before after steps (ap steps_in is ∙ block_of v)

pub entered_loop : (x : Step) (v : Vec Step Global) (before after : List (Bor (List Step))) (steps : Bor (List Step)) → x ≡ s.Loop v → steps.now ≡ v.items → after ≡ before ++ steps ∷ [] → text_order (pending after) ≡ steps_in x ++ text_order (pending before)
entered_loop x v before after steps is = entered_one x v.items before after steps (ap steps_in is ∙ loop_of v)

pub entered_if : (x : Step) (cond : Cond) (v u : Vec Step Global) (before between after : List (Bor (List Step))) (first second : Bor (List Step)) → x ≡ s.If cond v u → second.now ≡ u.items → between ≡ before ++ second ∷ [] → first.now ≡ v.items → after ≡ between ++ first ∷ [] → text_order (pending after) ≡ steps_in x ++ text_order (pending before)
entered_if x cond v u before between after first second is second_now then_second first_now then_first =
    ap (λ z. text_order (pending z)) then_first
    ∙ entered between first
    ∙ ap (λ z. text_order z ++ text_order (pending between)) first_now
    ∙ ap (λ z. text_order v.items ++ text_order (pending z)) then_second
    ∙ ap (λ z. text_order v.items ++ z) (entered before second)
    ∙ ap (λ z. text_order v.items ++ (text_order z ++ text_order (pending before))) second_now
    ∙ sym (append_assoc (text_order v.items) (text_order u.items) (text_order (pending before)))
    ∙ ap (λ z. z ++ text_order (pending before)) (sym (ap steps_in is ∙ if_of cond v u))

-- a list that was taken out
popped : (start whole rest : List (Bor (List Step))) (steps : Bor (List Step)) → pending whole ≡ pending start → whole ≡ rest ++ steps ∷ [] → pending start ≡ steps.now ++ pending rest
popped start whole rest steps same is = sym same ∙ ap pending is ∙ pending_push rest steps

-- an empty one is passed over
pub passed_over : (start whole rest : List (Bor (List Step))) (steps : Bor (List Step)) → pending whole ≡ pending start → whole ≡ rest ++ steps ∷ [] → steps.now ≡ [] → pending rest ≡ pending start
passed_over start whole rest steps same is empty = sym (popped start whole rest steps same is ∙ ap (λ z. z ++ pending rest) empty)

-- the first step of another
pub first_taken : (start whole rest after : List (Bor (List Step))) (steps behind : Bor (List Step)) (x : Step) → pending whole ≡ pending start → whole ≡ rest ++ steps ∷ [] → steps.now ≡ x ∷ behind.now → after ≡ rest ++ behind ∷ [] → pending start ≡ x ∷ pending after
first_taken start whole rest after steps behind x same is split more =
    popped start whole rest steps same is ∙ ap (λ z. z ++ pending rest) split ∙ ap (λ z. x ∷ z) (sym (ap pending more ∙ pending_push rest behind))

pub empty_of : {A : Type 0} (xs : List A) → length xs ≡ 0 → xs ≡ []
empty_of [] h = refl
empty_of (x ∷ xs) h = absurd (suc-ne-zero (length xs) h)

-- what stands in a loop, as the code sees it
abbrev pub loop_row : Step → List Step
loop_row (s.Loop' n body) = row_order body
loop_row _ = []

pub loop_row_of : (v : Vec Step Global) → loop_row (s.Loop v) ≡ text_order v.items
loop_row_of v = row_of_vec v
