use Rattle.std.proofs.Common.{Some, refl}
use Rattle.survey_check.proofs.Rows.{ends_refused, ends_unopened, ends_concluded}
use Rattle.survey_check.proofs.top.check_alone.Goals as goal

pub returns-in-Err-clause-ends : goal.returns-in-Err-clause-ends
returns-in-Err-clause-ends g c = ends_refused (Some (tt {0})) (record { what = tt {0}; asks = refl }) c.in-Err.ending _ _ _ _ _ c.in-Err.ensures

pub returns-in-Err-open_tables-clause-ends : goal.returns-in-Err-open_tables-clause-ends
returns-in-Err-open_tables-clause-ends g c =
    ends_unopened (Some (tt {0})) (record { what = tt {0}; asks = refl }) c.in-Err-open_tables.refused.1 _ _ _ _ _ _ _
    c.in-Err-open_tables.ensures.refused c.in-Err-open_tables.ensures.all_opened c.open_tables.ensures.counted

pub returns-clause-ends : goal.returns-clause-ends
returns-clause-ends g c =
    ends_concluded (Some (tt {0})) (record { what = tt {0}; asks = refl }) c.conclude_as-disk.result.1 _ _ _ _ _ _ _ _ _
    c.conclude_as-disk.ensures.ends c.open_tables.ensures.counted c.in-Ok-open_tables.ensures.opened
