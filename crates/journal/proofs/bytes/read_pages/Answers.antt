use Rattle.std.proofs.Common.{◌≡◌, ◌-◌, ◌+◌, length, take, drop, sym, ◌∙◌, ap, arith, rules, length-drop}
use Rattle.std.proofs.lemmas.List.{length-take-le, drop-drop}
use borrow.Rule.Slice.PartMut.{same_len_mid}
use Rattle.journal.proofs.Pages.{read_more}
use Rattle.journal.proofs.bytes.read_pages.Goals as goal
use Rattle.journal.proofs.bytes.read_pages.Goals.{In_ok-read_at}
use Rattle.journal.proofs.bytes.read_pages.Given.{Over}

part_long : (g : Over) (c : In_ok-read_at g) → length c.read_at.new.into ≡ c.min-end.result - c.loop-done.done
part_long g c =
    let done = c.loop-done.done in
    let end = c.min-end.result in
    let old : length (take (end - done) (drop done c.loop-done.into)) ≡ end - done = length-take-le (end - done) (drop done c.loop-done.into) (omega (arith, c.min-end.ensures, length-drop done c.loop-done.into)) in
    c.read_at.auto.into ∙ old

pub loop-done-preserved : goal.loop-done-preserved
loop-done-preserved g c =
    let done = c.loop-done.done in
    let end = c.min-end.result in
    let into = c.loop-done.into in
    let part = c.read_at.new.into in
    let image = g.D.Disk.seen c.args.disk.now in
    record {
      within = omega (arith, c.min-end.ensures, same_len_mid done (end - done) into part c.read_at.auto.into);
      read = λ told.
          let size : length (take (end - done) (drop done into)) ≡ end - done = sym c.read_at.auto.into ∙ part_long g c in
          let from : drop (c.args.at + done) (g.D.Disk.seen c.loop-done.disk) ≡ drop done (drop c.args.at image) = ap (drop (c.args.at + done)) c.loop-done.invariant.seen ∙ sym (drop-drop done c.args.at image) in
          let back : part ≡ take (end - done) (drop done (drop c.args.at image)) = c.in_ok-read_at.ensures.read told ∙ (λ k. take (size k) (from k)) in
          read_more (drop c.args.at image) into part done end (omega (arith, c.min-end.ensures)) c.loop-done.invariant.within (part_long g c) (c.loop-done.invariant.read told) back;
      seen = search rules;
      still = search rules;
      faults = search rules;
      room = search rules;
    }
