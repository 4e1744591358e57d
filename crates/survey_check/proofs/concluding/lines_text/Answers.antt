use Rattle.survey_check.proofs.concluding.lines_text.Goals as goal

pub returns-in-Some : goal.returns-in-Some
returns-in-Some c = rw c.in-Some.is c.totals.ensures

pub returns-in-None : goal.returns-in-None
returns-in-None c = rw c.in-None.is c.whole.ensures
