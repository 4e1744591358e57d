use Rattle.c_grammar_examples.proofs.ArrayStore as array_store
use Rattle.c_grammar_examples.proofs.Cast as cast
use Rattle.c_grammar_examples.proofs.Designator as designator
use Rattle.c_grammar_examples.proofs.FunctionOfFunctions as function_of_functions
use Rattle.c_grammar_examples.proofs.NearestIf as nearest_if
use Rattle.c_grammar_examples.proofs.Structure as structure
use Rattle.c_grammar_examples.proofs.TypedefAnew as typedefs_anew
use Rattle.c_grammar_examples.proofs.files_with_their_trees.Goals as goal

pub returns-clause-array_store : goal.returns-clause-array_store
returns-clause-array_store c = record { end = array_store.last; derives = array_store.derived }

pub returns-clause-cast : goal.returns-clause-cast
returns-clause-cast c = record { end = cast.last; derives = cast.derived }

pub returns-clause-function_of_functions : goal.returns-clause-function_of_functions
returns-clause-function_of_functions c = record { end = function_of_functions.last; derives = function_of_functions.derived }

pub returns-clause-nearest_if : goal.returns-clause-nearest_if
returns-clause-nearest_if c = record { end = nearest_if.last; derives = nearest_if.derived }

pub returns-clause-structure : goal.returns-clause-structure
returns-clause-structure c = record { end = structure.last; derives = structure.derived }

pub returns-clause-designator : goal.returns-clause-designator
returns-clause-designator c = record { end = designator.last; derives = designator.derived }

pub returns-clause-typedefs_anew : goal.returns-clause-typedefs_anew
returns-clause-typedefs_anew c = record { end = typedefs_anew.last; derives = typedefs_anew.derived }
