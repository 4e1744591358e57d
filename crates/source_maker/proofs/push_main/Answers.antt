use Rattle.std.proofs.Common.{append_assoc}
use Rattle.source_maker.specs.Source.{main_text}
use Rattle.source_maker.proofs.push_main.Goals as goal

pub returns : goal.returns
unfolding main_text
returns c = rw (c.in_ok-extend_from_slice-2.ensures.items, c.in_ok-push_calls.ensures, c.in_ok-extend_from_slice.ensures.items) (simp append_assoc)
