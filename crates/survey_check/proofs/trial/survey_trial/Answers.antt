use Rattle.survey_check.proofs.Rows.{statuses, reports, cut_off, untouched, usage, other_words, unread_text, unwritten, all_written, all_opened, disk_failed, opens, complains}
use Rattle.survey_check.proofs.trial.survey_trial.Goals as goal

pub returns-clause-statuses : goal.returns-clause-statuses
returns-clause-statuses g c = rw c.status_of-status.ensures (statuses c.trial_words-said.result.1 c.trial_words-said.ensures.ends)

pub returns-clause-report : goal.returns-clause-report
returns-clause-report g c = rw c.status_of-status.ensures (reports c.trial_words-said.result.1 c.trial_words-said.ensures.ends)

pub returns-clause-cut_off : goal.returns-clause-cut_off
returns-clause-cut_off g c = rw c.status_of-status.ensures (cut_off c.trial_words-said.result.1 c.trial_words-said.ensures.ends)

pub returns-clause-untouched : goal.returns-clause-untouched
returns-clause-untouched g c = rw c.status_of-status.ensures (untouched c.trial_words-said.result.1 c.trial_words-said.ensures.ends)

pub returns-clause-usage : goal.returns-clause-usage
returns-clause-usage g c = rw c.status_of-status.ensures (usage c.trial_words-said.result.1 c.trial_words-said.ensures.ends)

pub returns-clause-other_words : goal.returns-clause-other_words
returns-clause-other_words g c = rw c.status_of-status.ensures (other_words c.trial_words-said.result.1 c.trial_words-said.ensures.ends)

pub returns-clause-unread : goal.returns-clause-unread
returns-clause-unread g c = rw c.status_of-status.ensures (λ z. (unread_text c.trial_words-said.result.1 c.trial_words-said.ensures.ends z).1)

pub returns-clause-unwritten : goal.returns-clause-unwritten
returns-clause-unwritten g c = rw c.status_of-status.ensures (unwritten c.trial_words-said.result.1 c.trial_words-said.ensures.ends)

pub returns-clause-all_written : goal.returns-clause-all_written
returns-clause-all_written g c = rw c.status_of-status.ensures (all_written c.trial_words-said.result.1 c.trial_words-said.ensures.ends)

pub returns-clause-all_opened : goal.returns-clause-all_opened
returns-clause-all_opened g c = rw c.status_of-status.ensures (all_opened c.trial_words-said.result.1 c.trial_words-said.ensures.ends)

pub returns-clause-failed : goal.returns-clause-failed
returns-clause-failed g c = rw c.status_of-status.ensures (λ five. c.trial_words-said.ensures.failed (disk_failed c.trial_words-said.result.1 c.trial_words-said.ensures.ends five))

pub returns-clause-opens : goal.returns-clause-opens
returns-clause-opens g c = rw c.status_of-status.ensures (opens c.trial_words-said.result.1 c.trial_words-said.ensures.ends)

pub returns-clause-told : goal.returns-clause-told
returns-clause-told g c = rw c.status_of-status.ensures (complains _ c.trial_words-said.result.1 c.trial_words-said.ensures.ends c.tell.ensures)
