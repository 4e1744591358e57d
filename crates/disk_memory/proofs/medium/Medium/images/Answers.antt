use Rattle.std.proofs.Common.{◌≡◌, ◌-◌, ◌∙◌, List, [], ◌∷◌, ℕ, length, take, drop, ap, sym, subst, arith, length-drop}
use Rattle.std.specs.List.{All, Contains}
use Rattle.std.proofs.lemmas.List.{take_all}
use Rattle.disk_memory.specs.Calls.{reads}
use Rattle.disk_memory.specs.Listed.{listed_images}
use Rattle.disk_memory.specs.Replay.{contents}
use Rattle.disk_memory.specs.Media.{medium_first, medium_seen, medium_record, medium_images}
use Rattle.disk_memory.proofs.Replaying.{listed_settled, listed_synced}
use Rattle.disk_memory.proofs.Left.{each_may_be_left, what_reads_is_listed}
use Rattle.disk_memory.proofs.medium.Medium.images.Goals as goal
use Rattle.disk_memory.proofs.medium.Medium.images.Goals.{In_ok-images}

whole : (c : In_ok-images) → contents c.in_ok-images.images.items ≡ listed_images (medium_first c.args.self.now) (medium_record c.args.self.now)
whole c =
    let d = c.args.self.now in
    let until = c.calls_until_sync-until.result in
    let settled = rw c.deref.ensures.value at c.calls_until_sync-until.ensures.synced in
    let replayed = rw (c.deref-2.ensures.value, c.deref-3.ensures.value, c.deref-4.ensures.value) at c.in_ok-replay.ensures in
    let all = listed_settled d.first.items d.calls.items d.store.items until c.in_ok-replay.replay.read.items c.in_ok-replay.replay.used settled replayed in
    let rest : take (length d.calls.items - until) (drop until d.calls.items) ≡ drop until d.calls.items = take_all (length d.calls.items - until) (drop until d.calls.items) (omega (arith, length-drop until d.calls.items)) in
    rw (c.deref-5.ensures.value, c.deref-6.ensures.value, rest, all) at c.in_ok-images.ensures

pub returns : goal.returns
returns c =
    let d = c.args.self.now in
    let first = medium_first d in
    let ops = medium_record d in
    record {
      listed = whole c;
      left = subst (All (medium_images d)) (sym (whole c)) (each_may_be_left first ops d.placed);
      reads = subst (λ (l : List (List ℕ)). Contains l (medium_seen d)) (sym (whole c))
          (subst (λ (b : List ℕ). Contains (listed_images first ops) b) (sym d.replays) (what_reads_is_listed first ops d.placed));
      settled = λ before e. whole c ∙ (ap (listed_images first) e ∙ (listed_synced before first ∙ ap (λ (b : List ℕ). b ∷ []) (ap (reads first) (sym e) ∙ sym d.replays)));
    }
