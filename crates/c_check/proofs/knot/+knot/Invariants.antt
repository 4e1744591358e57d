use Rattle.c_check.proofs.knot.+knot.Given as goal

abbrev pub decreases-type_name : goal.decreases-type_name
decreases-type_name l = l.depth

abbrev pub decreases-value_inside : goal.decreases-value_inside
decreases-value_inside l = l.depth

abbrev pub decreases-record_inside : goal.decreases-record_inside
decreases-record_inside l = l.depth
