use Rattle.view_words.proofs.Entered.{refused_by, taken_by}
use Rattle.view_words.proofs.words.read_words.Goals as goal

pub returns-in-Ok : goal.returns-in-Ok
returns-in-Ok c = record { answer = taken_by _ _ _ _ _ _ c.in_ok-view_command.ensures c.in-Ok.ensures.kinds c.in-Ok.ensures.matches c.wanted_at.ensures }

pub returns-in-Err : goal.returns-in-Err
returns-in-Err c = record { answer = refused_by _ _ c.in-Err.error _ c.in_ok-view_command.ensures c.in-Err.ensures.kinds c.refusal_of.ensures }
