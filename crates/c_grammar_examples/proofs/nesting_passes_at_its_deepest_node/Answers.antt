use Rattle.c_grammar_examples.proofs.Tied.{tied}
use Rattle.c_grammar_examples.proofs.nesting_passes_at_its_deepest_node.Goals as goal

pub returns : goal.returns
returns c = λ tokens left s r. tied tokens left s r
