use Rattle.std.proofs.Common.{ℕ, Some, refl, ap, ◌∙◌, subst, inr}
use Rattle.round_plan.proofs.Crosses.{plan_sync}
use Rattle.sv_outside.specs.Outside.{Rose}
use Rattle.survey_check.specs.computed.Endings.{wanting}
use Rattle.survey_check.proofs.Rows.{ends_early, ends_refused, ends_unopened, ends_concluded}
use Rattle.survey_crew.proofs.top.check_files.Goals as goal

-- workers share the plan
pub work_together-tables-requires-sync-W : goal.work_together-tables-requires-sync-W
work_together-tables-requires-sync-W g c κs within = record { shared = plan_sync.shared }

pub returns-in-Err-clause-ends : goal.returns-in-Err-clause-ends
returns-in-Err-clause-ends g c = ends_early (Some (wanting c.args.request.now)) (record { what = wanting c.args.request.now; asks = refl }) _ _ c.in-Err.ending _ _ _ _ _ _ _ _ c.in-Err.ensures.stops

pub returns-in-Err-prepare-clause-ends : goal.returns-in-Err-prepare-clause-ends
returns-in-Err-prepare-clause-ends g c =
    rw c.in-Ok.ensures.all_read (ends_refused (Some (wanting c.args.request.now)) (record { what = wanting c.args.request.now; asks = refl }) c.in-Err-prepare.ending _ _ _ _ _ c.in-Err-prepare.ensures)

pub returns-in-Err-open_tables-clause-ends : goal.returns-in-Err-open_tables-clause-ends
returns-in-Err-open_tables-clause-ends g c =
    rw c.in-Ok.ensures.all_read (ends_unopened (Some (wanting c.args.request.now)) (record { what = wanting c.args.request.now; asks = refl }) c.in-Err-open_tables.refused.1 _ _ _ _ _ _ _
    c.in-Err-open_tables.ensures.refused c.in-Err-open_tables.ensures.all_opened c.open_tables.ensures.counted)

pub returns-clause-ends : goal.returns-clause-ends
returns-clause-ends g c =
    rw c.in-Ok.ensures.all_read (ends_concluded (Some (wanting c.args.request.now)) (record { what = wanting c.args.request.now; asks = refl }) c.conclude-disk.result.1 _ _ _ _ _ _ _ _ _
    c.conclude-disk.ensures.ends c.open_tables.ensures.counted c.in-Ok-open_tables.ensures.opened)

pub returns-clause-failed : goal.returns-clause-failed
returns-clause-failed g c = λ failed.
    let opened = ap (λ o. g.M.D.Disk.faults o.disk.value) c.work_together-tables.ensures.opening ∙ (c.in-Ok-open_tables.ensures.faults ∙ ap (g.M.Disks.faults_of c.args.disks.now) c.as_str.ensures.value) in
    inr (subst (λ (n : ℕ). Rose n (g.M.D.Disk.faults c.conclude-disk.result.0)) opened (c.conclude-disk.ensures.failed failed))
