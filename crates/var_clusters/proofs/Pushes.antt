-- What a loop adds to the pairs.
use Rattle.std.proofs.Common.{◌≡◌, ℕ, List, ◌++◌, Option, None, OnOk, Result, Vec, Global, sym, ap, subst, ◌∙◌}
use Rattle.std.specs.Bool.{⊤}
use Rattle.core_ir.specs.declared.program.Register.{Register}
use Rattle.core_ir.specs.declared.steps.Step as s
use Rattle.core_ir.specs.declared.steps.Step.{Step}
use Rattle.core_ir.specs.Order.{text_order}
use Rattle.var_clusters.specs.Pairs.{Pair, assigned, neighbours_after, step_pairs}
use Rattle.core_ir.proofs.Walks.{loop_row_of}

pub loop_pairs_of : (registers : List Register) (result : Option ℕ) (x : Step) (v : Vec Step Global) → x ≡ s.Loop v → neighbours_after None (assigned registers (text_order v.items)) ≡ step_pairs registers result x
loop_pairs_of registers result x v is = sym (ap (step_pairs registers result) is ∙ ap (λ z. neighbours_after None (assigned registers z)) (loop_row_of v))

pub loop_pushed : {E : Type 0} (done : Result ⊤ E) (new old : List Pair) (registers seen : List Register) (result : Option ℕ) (x : Step) (v : Vec Step Global) (body : List Step) → x ≡ s.Loop v → seen ≡ registers → body ≡ v.items → OnOk done (new ≡ old ++ neighbours_after None (assigned seen (text_order body))) → OnOk done (new ≡ old ++ step_pairs registers result x)
loop_pushed done new old registers seen result x v body is same inside pushed =
    subst (λ z. OnOk done (new ≡ old ++ z)) (ap (λ z. neighbours_after None (assigned z (text_order body))) same ∙ ap (λ z. neighbours_after None (assigned registers (text_order z))) inside ∙ loop_pairs_of registers result x v is) pushed
