use Rattle.survey.proofs.Rows.{statuses, reports, exact, reports_sound, usage, other_words, refused, refuses, unread, unwritten, all_read, all_written, untouched, loads, complete, complains}
use Rattle.survey.proofs.top.survey_alone.Goals as goal

pub returns-clause-statuses : goal.returns-clause-statuses
returns-clause-statuses g c = rw c.status_number.ensures (statuses c.survey_words-ending.result c.survey_words-ending.ensures)

pub returns-clause-report : goal.returns-clause-report
returns-clause-report g c = rw c.status_number.ensures (reports c.survey_words-ending.result c.survey_words-ending.ensures)

pub returns-clause-sound : goal.returns-clause-sound
returns-clause-sound g c = rw c.status_number.ensures (reports_sound c.survey_words-ending.result c.survey_words-ending.ensures)

pub returns-clause-exact : goal.returns-clause-exact
returns-clause-exact g c = rw c.status_number.ensures (exact c.survey_words-ending.result c.survey_words-ending.ensures)

pub returns-clause-usage : goal.returns-clause-usage
returns-clause-usage g c = rw c.status_number.ensures (usage c.survey_words-ending.result c.survey_words-ending.ensures)

pub returns-clause-other_words : goal.returns-clause-other_words
returns-clause-other_words g c = rw c.status_number.ensures (other_words c.survey_words-ending.result c.survey_words-ending.ensures)

pub returns-clause-refused : goal.returns-clause-refused
returns-clause-refused g c = rw c.status_number.ensures (refused c.survey_words-ending.result c.survey_words-ending.ensures)

pub returns-clause-refuses : goal.returns-clause-refuses
returns-clause-refuses g c = rw c.status_number.ensures (refuses c.survey_words-ending.result c.survey_words-ending.ensures)

pub returns-clause-unread : goal.returns-clause-unread
returns-clause-unread g c = rw c.status_number.ensures (unread c.survey_words-ending.result c.survey_words-ending.ensures)

pub returns-clause-all_read : goal.returns-clause-all_read
returns-clause-all_read g c = rw c.status_number.ensures (all_read c.survey_words-ending.result c.survey_words-ending.ensures)

pub returns-clause-all_written : goal.returns-clause-all_written
returns-clause-all_written g c = rw c.status_number.ensures (all_written c.survey_words-ending.result c.survey_words-ending.ensures)

pub returns-clause-untouched : goal.returns-clause-untouched
returns-clause-untouched g c = rw c.status_number.ensures (untouched c.survey_words-ending.result c.survey_words-ending.ensures)

pub returns-clause-loads : goal.returns-clause-loads
returns-clause-loads g c = rw c.status_number.ensures (loads c.survey_words-ending.result c.survey_words-ending.ensures)

pub returns-clause-complete : goal.returns-clause-complete
returns-clause-complete g c = rw c.status_number.ensures (complete c.survey_words-ending.result c.survey_words-ending.ensures)

pub returns-clause-unwritten : goal.returns-clause-unwritten
returns-clause-unwritten g c = rw c.status_number.ensures (λ e. (unwritten c.survey_words-ending.result c.survey_words-ending.ensures e).1)

pub returns-clause-cut_off : goal.returns-clause-cut_off
returns-clause-cut_off g c = rw c.status_number.ensures (λ e. (unwritten c.survey_words-ending.result c.survey_words-ending.ensures e).0.0)

pub returns-clause-cut_exact : goal.returns-clause-cut_exact
returns-clause-cut_exact g c = rw c.status_number.ensures (λ name program f e. (unwritten c.survey_words-ending.result c.survey_words-ending.ensures e).0.1 name program f)

pub returns-clause-told : goal.returns-clause-told
returns-clause-told g c = rw c.status_number.ensures (complains _ c.survey_words-ending.result c.survey_words-ending.ensures c.tell.ensures)
