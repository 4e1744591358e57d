use Rattle.c_grammar.proofs.Unique.{one_file, one_tree, one_end}
use Rattle.c_grammar.proofs.laws.trees_are_unique.Goals as goal

pub returns-clause-one : goal.returns-clause-one
returns-clause-one c = λ tokens xs ys f g. one_file tokens xs ys f g

pub returns-clause-tree : goal.returns-clause-tree
returns-clause-tree c = λ n left b d s tokens end other f g. one_tree n left b d s tokens end other f g

pub returns-clause-state : goal.returns-clause-state
returns-clause-state c = λ n left b d s tokens end other f g. one_end n left b d s tokens end other f g
