-- The first waiting node, and what its members are then.
use Rattle.std.proofs.Common.{◌≡◌, ℕ, zero, suc, ◌<◌, ◌==◌, ◌&&◌, ◌||◌, Bool, true, false, List, [], ◌∷◌, length, get_or, set, refl, sym, ap, ◌∙◌, subst, inl, inr, eq-eqb, ne_eqb, arith, length-set, ◌↔◌, IsTrue}
use Rattle.std.proofs.lemmas.Bool.{cases_eq, or_left, or_right, true≢false}
use Rattle.points_to.specs.declared.progress.Progress.{Progress}
use Rattle.points_to.specs.Sets.{has, IsSet}
use Rattle.points_to.specs.Families.{Has, family_of}
use Rattle.points_to.specs.computed.Progress.{Stands, IsTaken, IsOnce, done_of, todo_of, known_of, room}
use Rattle.points_to.proofs.Logic.{or_false}
use Rattle.points_to.proofs.Found.{added_has, here_has, other_has, within_list, set_small, room_less}
use Rattle.points_to.proofs.Steps.{at_here}

get_default : (sets : List (List ℕ)) (node : ℕ) (x : List ℕ) → node < length sets → x ≡ get_or sets node x → get_or sets node [] ≡ x
get_default [] node x h e = absurd (omega arith)
get_default (y ∷ sets) zero x h e = sym e
get_default (y ∷ sets) (suc node) x h e = get_default sets node x (omega arith) e

module _ (p q : Progress) (node : ℕ) (rest before delta after emptied : List ℕ) (stands : Stands p)
    (queue : p.queue.items ≡ node ∷ rest) (rests : q.queue.items ≡ rest) (todo : q.todo.items ≡ set p.todo.items node emptied) (empty : emptied ≡ [])
    (done : q.done.items ≡ set p.done.items node after) (edges : q.edges.items ≡ p.edges.items)
    (delta_is : delta ≡ get_or p.todo.items node delta) (before_is : before ≡ get_or p.done.items node before)
    (members : (m : ℕ) → has after m ≡ (has before m || has delta m)) (grew : Bool) (grows : IsTrue grew ↔ (length before < length after))
    (same : grew ≡ false → after ≡ before) (set_is : IsSet after) where
  waits : has p.queue.items node ≡ true
  waits = ap (λ xs. has xs node) queue ∙ or_left (node == node) (has rest node) (eq-eqb node node refl)

  at_todo : node < length p.todo.items
  at_todo = let r = stands.waiting node waits in within_list p.todo.items node r.0 r.1

  at_done : node < length p.done.items
  at_done = omega (arith, at_todo, stands.todo_size)

  delta_has : (m : ℕ) → todo_of p node m ≡ has delta m
  delta_has m = at_here p.todo.items node delta m at_todo delta_is

  before_has : (m : ℕ) → done_of p node m ≡ has before m
  before_has m = at_here p.done.items node before m at_done before_is

  done_is : (n m : ℕ) → done_of q n m ≡ (done_of p n m || ((n == node) && has delta m))
  done_is n m =
      ap (λ sets. family_of sets n m) done
      ∙ added_has p.done.items node after (has delta) at_done (λ k. members k ∙ ap (λ s. s || has delta k) (sym (before_has k))) n m

  done_there : (n m : ℕ) → (n ≡ node → ⊥) → done_of q n m ≡ done_of p n m
  done_there n m ne = ap (λ sets. family_of sets n m) done ∙ other_has p.done.items node n after m ne

  todo_here : (m : ℕ) → todo_of q node m ≡ false
  todo_here m = ap (λ sets. family_of sets node m) todo ∙ here_has p.todo.items node emptied m at_todo ∙ ap (λ xs. has xs m) empty

  todo_there : (n m : ℕ) → (n ≡ node → ⊥) → todo_of q n m ≡ todo_of p n m
  todo_there n m ne = ap (λ sets. family_of sets n m) todo ∙ other_has p.todo.items node n emptied m ne

  away : (n m : ℕ) → Has (todo_of q) n m → n ≡ node → ⊥
  away n m h e = true≢false (sym h ∙ ap (λ k. todo_of q k m) e ∙ todo_here m)

  known_is : (n m : ℕ) → known_of q n m ≡ known_of p n m
  known_is n m = elim (cases_eq n node) [
    | inl e ↦
        let one : known_of q node m ≡ known_of p node m =
        ap (λ s. done_of q node m || s) (todo_here m) ∙ or_false (done_of q node m) ∙ done_is node m
        ∙ ap (λ s. done_of p node m || (s && has delta m)) (eq-eqb node node refl) ∙ ap (λ s. done_of p node m || s) (sym (delta_has m)) in
        subst (λ k. known_of q k m ≡ known_of p k m) (sym e) one
    | inr ne ↦ ap (λ s. s || todo_of q n m) (done_there n m ne) ∙ ap (λ s. done_of p n m || s) (todo_there n m ne)
  ]

  once : IsOnce (node ∷ rest)
  once = subst IsOnce queue stands.once

  stood : Stands q
  stood = record {
    small = omega (arith, stands.small, ap length done, length-set p.done.items node after);
    todo_size = ap length todo ∙ length-set p.todo.items node emptied ∙ stands.todo_size ∙ sym (ap length done ∙ length-set p.done.items node after);
    edges_size = ap length edges ∙ stands.edges_size ∙ sym (ap length done ∙ length-set p.done.items node after);
    edges_within = λ from to e. omega (arith, stands.edges_within from to (ap (λ sets. family_of sets from to) (sym edges) ∙ e), ap length done, length-set p.done.items node after);
    fresh = λ n m h. let ne = away n m h in done_there n m ne ∙ stands.fresh n m (sym (todo_there n m ne) ∙ h);
    queued = λ n m h.
        let ne = away n m h in
        let found : has (node ∷ rest) n ≡ true = ap (λ xs. has xs n) (sym queue) ∙ stands.queued n m (sym (todo_there n m ne) ∙ h) in
        ap (λ xs. has xs n) rests ∙ ap (λ s. s || has rest n) (sym (ne_eqb node n (λ e. ne (sym e)))) ∙ found;
    waiting = λ n h.
        let later : has rest n ≡ true = ap (λ xs. has xs n) (sym rests) ∙ h in
        let r = stands.waiting n (ap (λ xs. has xs n) queue ∙ or_right (node == n) (has rest n) later) in
        (r.0, todo_there n r.0 (λ e. true≢false (sym later ∙ ap (has rest) e ∙ once.0)) ∙ r.1);
    once = subst IsOnce (sym rests) once.1;
  }

  longer : (b : Bool) → grew ≡ b → length before < length after
  longer true e = grows.0 e
  longer false e =
      let r = stands.waiting node waits in
      let lacks : has before r.0 ≡ false = sym (before_has r.0) ∙ stands.fresh node r.0 r.1 in
      let gets : has after r.0 ≡ true = members r.0 ∙ or_right (has before r.0) (has delta r.0) (sym (delta_has r.0) ∙ r.1) in
      absurd (true≢false (sym gets ∙ ap (λ xs. has xs r.0) (same e) ∙ lacks))

  pub taken : IsTaken node delta p q
  taken = record {
    stands = stood;
    within = at_done;
    size = ap length done ∙ length-set p.done.items node after;
    edges = edges;
    members = λ m h. or_right (done_of p node m) (todo_of p node m) (delta_has m ∙ h);
    done = done_is;
    known = known_is;
    less = subst (λ sets. room sets < room p.done.items) (sym done) (room_less p.done.items node after at_done
        (subst (λ xs. length xs < length after) (sym (get_default p.done.items node before at_done before_is)) (longer grew refl)) (set_small after set_is));
  }

-- where a queue begins
pub first_waits : (p : Progress) (node : ℕ) (rest : List ℕ) → Stands p → p.queue.items ≡ node ∷ rest → node < length p.todo.items
first_waits p node rest stands queue =
    let r = stands.waiting node (ap (λ xs. has xs node) queue ∙ or_left (node == node) (has rest node) (eq-eqb node node refl)) in
    within_list p.todo.items node r.0 r.1
