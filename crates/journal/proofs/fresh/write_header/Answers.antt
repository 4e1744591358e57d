use Rattle.std.proofs.Common.{◌≡◌, ◌≤◌, ℕ, ◌∷◌, [], List, length, subst, arith, ap, ◌∙◌}
use Rattle.std.proofs.lemmas.List.{drop_all}
use Rattle.sv_outside.specs.Disk.{Only, Torn}
use Rattle.journal.specs.Headers.{IsUnfinished}
use Rattle.journal.proofs.Moments.{weaker, then_on}
use Rattle.journal.proofs.Beginnings.{byte_torn, header_torn}
use Rattle.journal.proofs.fresh.write_header.Goals as goal

pub returns-in_err-write_synced-clause-any_moment : goal.returns-in_err-write_synced-clause-any_moment
returns-in_err-write_synced-clause-any_moment g c = λ told now only.
    let short : length now ≤ 1 = subst (λ (l : List ℕ). length l ≤ 1) (only (g.D.Disk.seen c.args.disk.now) (g.met.D.Disk.reads_image c.args.disk.now told)) (c.requires.place told) in
    weaker g.D.Disk.moment g.D.Disk.left_since c.args.disk.now c.write_synced.new.disk (Torn 0 1 now) IsUnfinished
    (c.write_synced.ensures.any_moment told now only) (λ x t. byte_torn now x short t)

pub returns-clause-any_moment : goal.returns-clause-any_moment
returns-clause-any_moment g c = λ told now only.
    let old = c.args.disk.now in
    let mid = c.write_synced.new.disk in
    let short : length now ≤ 1 = subst (λ (l : List ℕ). length l ≤ 1) (only (g.D.Disk.seen old) (g.met.D.Disk.reads_image old told)) (c.requires.place told) in
    let shut : g.D.Disk.seen mid ≡ 0 ∷ [] = c.in_ok-write_synced.ensures.written told ∙ ap (λ (l : List ℕ). 0 ∷ l) (drop_all 1 (g.D.Disk.seen old) (c.requires.place told)) in
    let only' : Only (0 ∷ []) (g.D.Disk.may_leave mid) = subst (λ (l : List ℕ). Only l (g.D.Disk.may_leave mid)) shut c.in_ok-write_synced.ensures.durable in
    then_on g.D.Disk.moment g.D.Disk.left_since old mid c.write_synced-2.new.disk (Torn 0 1 now) (Torn 1 (length c.args.bytes.now) (0 ∷ [])) IsUnfinished
    (c.write_synced.ensures.any_moment told now only) (c.write_synced-2.ensures.any_moment told (0 ∷ []) only')
    (λ x t. byte_torn now x short t) (λ x t. header_torn (length c.args.bytes.now) x (omega (arith, c.told-bytes)) t)
