-- A crash as one `keep` after another.
use Rattle.std.proofs.Common.{◌≡◌, ℕ, ◌+◌, ◌<◌, true, false, None, List, [], ◌∷◌, length, set, replicate, refl, sym, ◌∙◌, ap, arith, inl, inr, get_or-set_same, get_or-set_other}
use Rattle.std.proofs.lemmas.Bool.{cases_eq, eq-eqb}
use Rattle.std.proofs.lemmas.Option.{slice_get_within}
use Rattle.std.proofs.lemmas.List.{length-set, length-replicate, get_or-replicate}
use Rattle.std.specs.Prelude.{slice_index}
use Rattle.lease_table.specs.declared.standing.Standing.TheVariants.{Free, Done}
use Rattle.lease_table.specs.Standings.{standing_at}
use Rattle.lease_table.specs.Machine.{Machine, started, Keeps, Advances}
use Rattle.lease_table.specs.Runs.{Publication, is_key, place_of, newest_round, kept_standing, IsReopened, IsInRoundOrder}
use Rattle.lease_table.proofs.Runs.{other_round, other_task}

pub start : (tasks : ℕ) (rounds : List ℕ) → IsReopened (tasks ∷ rounds) [] (started tasks)
start tasks rounds = record {
  going = refl;
  round = refl;
  next_ticket = refl;
  count = length-replicate tasks Free;
  tasks = λ task inside. get_or-replicate tasks task Free Free (rw (length-replicate tasks Free) at inside);
}

-- one more publication, of a machine whose standings are those of the publications before it in its round
one_more : (rounds : List ℕ) (published : List Publication) (old : Machine) (task : ℕ) (artifact : List ℕ) → old.ended ≡ false → old.next_ticket ≡ length published → length old.tasks ≡ slice_index rounds old.round → ((other : ℕ) → other < length old.tasks → standing_at old.tasks other ≡ kept_standing (place_of published old.round other)) → task < length old.tasks → IsReopened rounds (record { round = old.round; task = task; artifact = artifact } ∷ published) (record old { next_ticket = old.next_ticket + 1; tasks = set old.tasks task (Done old.next_ticket) })
one_more rounds published old task artifact going next count tasks within =
    let p : Publication = record { round = old.round; task = task; artifact = artifact } in
    let here : is_key p old.round task ≡ true = rw (eq-eqb old.round old.round refl, eq-eqb task task refl) refl in
    record {
      going = going;
      round = refl;
      next_ticket = omega arith;
      count = length-set old.tasks task (Done old.next_ticket) ∙ count;
      tasks = λ other inside. elim (cases_eq other task) [
        | inl same ↦ rw (same, here, get_or-set_same old.tasks task (Done old.next_ticket) Free within) (ap Done next)
        | inr differs ↦ rw (other_task p old.round other (λ e. differs (sym e)), get_or-set_other old.tasks task other (Done old.next_ticket) Free differs) (tasks other (rw (length-set old.tasks task (Done old.next_ticket)) at inside))
      ];
    }

pub keep : (rounds : List ℕ) (published : List Publication) (old new : Machine) (task : ℕ) (artifact : List ℕ) → IsReopened rounds published old → Keeps task old new → IsReopened rounds (record { round = old.round; task = task; artifact = artifact } ∷ published) new
keep rounds published old new task artifact r k =
    rw k.1 (one_more rounds published old task artifact r.going r.next_ticket r.count r.tasks (slice_get_within old.tasks task Free k.0))

-- nothing is published for a round after the newest
ahead : (published : List Publication) (round task : ℕ) → IsInRoundOrder published → newest_round published < round → place_of published round task ≡ None
ahead [] round task order later = refl
ahead (p ∷ earlier) round task order later =
    rw (other_round p round task (λ same. omega arith)) (ahead earlier round task order.1 (omega (arith, order.0)))

pub next_round : (rounds : List ℕ) (published : List Publication) (old mid new : Machine) (task : ℕ) (artifact : List ℕ) → IsInRoundOrder published → IsReopened rounds published old → Advances (slice_index rounds (old.round + 1)) old mid → Keeps task mid new → IsReopened rounds (record { round = mid.round; task = task; artifact = artifact } ∷ published) new
next_round rounds published old mid new task artifact order r a k =
    let count : ℕ = slice_index rounds (old.round + 1) in
    let round : mid.round ≡ old.round + 1 = ap (λ m. m.round) a.2 in
    let tasks : mid.tasks ≡ replicate count Free = ap (λ m. m.tasks) a.2 in
    let long : length mid.tasks ≡ count = ap length tasks ∙ length-replicate count Free in
    rw k.1 (one_more rounds published mid task artifact
    (ap (λ m. m.ended) a.2 ∙ r.going)
    (ap (λ m. m.next_ticket) a.2 ∙ r.next_ticket)
    (long ∙ ap (slice_index rounds) (sym round))
    (λ other inside.
    let free : standing_at mid.tasks other ≡ Free = rw tasks (get_or-replicate count other Free Free (rw long at inside)) in
    let none : place_of published mid.round other ≡ None = ahead published mid.round other order (omega (arith, r.round)) in
    free ∙ ap kept_standing (sym none))
    (slice_get_within mid.tasks task Free k.0))
