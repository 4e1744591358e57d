use Rattle.c_parser.proofs.inside.+inside.Given as goal

abbrev pub decreases-expression : goal.decreases-expression
decreases-expression l = l.depth

abbrev pub decreases-constant : goal.decreases-constant
decreases-constant l = l.depth

abbrev pub decreases-type_name : goal.decreases-type_name
decreases-type_name l = l.depth

abbrev pub decreases-specifiers : goal.decreases-specifiers
decreases-specifiers l = l.depth

abbrev pub decreases-declarator : goal.decreases-declarator
decreases-declarator l = l.depth
