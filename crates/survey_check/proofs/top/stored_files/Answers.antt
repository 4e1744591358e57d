use Rattle.std.proofs.Common.{Some, refl}
use Rattle.survey_check.specs.computed.Endings.{wanting}
use Rattle.survey_check.proofs.Rows.{ends_early, ends_loaded}
use Rattle.survey_check.proofs.top.stored_files.Goals as goal

pub returns-in-Err-clause-ends : goal.returns-in-Err-clause-ends
returns-in-Err-clause-ends g c = ends_early (Some (wanting c.args.request.now)) (record { what = wanting c.args.request.now; asks = refl }) _ _ c.in-Err.ending _ _ _ _ _ _ _ _ c.in-Err.ensures.stops

pub returns-clause-ends : goal.returns-clause-ends
returns-clause-ends g c =
    ends_loaded (Some (wanting c.args.request.now)) (record { what = wanting c.args.request.now; asks = refl }) _ _ _ _ _ _ _ _ _ _ c.in-Ok.ensures.all_read c.check_alone.result.1 c.check_alone.ensures.ends
