-- Steps of a solver, one after another.
use Rattle.std.proofs.Common.{◌≡◌, ℕ, zero, suc, ◌+◌, ◌<◌, ◌≤◌, ◌==◌, ◌&&◌, ◌||◌, Bool, true, false, Some, List, [], ◌∷◌, ◌++◌, length, get_or, set, slice_get, refl, sym, ap, ◌∙◌, subst, inl, inr, ◌⊎◌, eqb-true, eq-eqb, arith, length-set}
use Rattle.std.proofs.lemmas.Bool.{or_cases, or_left, or_right, true≢false}
use Rattle.core_ir.specs.declared.classes.ClassTable.{ClassTable}
use Rattle.core_ir.specs.declared.artifacts.Constraint.{Constraint}
use Rattle.points_to.specs.declared.progress.Progress.{Progress}
use Rattle.points_to.specs.Sets.{has}
use Rattle.points_to.specs.Families.{Relation, Has, Flows, family_of}
use Rattle.points_to.specs.computed.Progress.{Stands, Kept, IsMet, done_of, todo_of, known_of, edges_of, IsOnce}
use Rattle.points_to.specs.computed.RuleParts.{Each}
use Rattle.points_to.specs.Fits.{IsTableWithin, IsConstraintWithin}
use Rattle.points_to.proofs.Each.{each_more, got_at, got_within, has_place, place_has}
use Rattle.points_to.proofs.Found.{added_has, some_of, none_of, has_push, push_keeps, push_has, push_once}

pub and_cases : (x y : Bool) → (x && y) ≡ true → (x ≡ true) × (y ≡ true)
and_cases true y h = (refl, h)
and_cases false y h = absurd (true≢false (sym h))

pub and_both : (x y : Bool) → x ≡ true → y ≡ true → (x && y) ≡ true
and_both x y g h = ap (λ s. s && y) g ∙ h

pub kept_same : (p : Progress) → Stands p → Kept p p
kept_same p stands = record { stands = stands; done = refl; edges = λ from to e. e; known = λ n m k. k; flowed = λ base sub f. f }

pub kept_after : (p q r : Progress) → Kept p q → Kept q r → Kept p r
kept_after p q r a b = record {
  stands = b.stands;
  done = b.done ∙ a.done;
  edges = λ from to e. b.edges from to (a.edges from to e);
  known = λ n m k. b.known n m (a.known n m k);
  flowed = λ base sub f. b.flowed base (λ n m h. ap (λ sets. family_of sets n m) a.done ∙ sub n m h) (a.flowed base sub f);
}

-- nothing is asked, or nothing more
pub idle : (asked : Relation → Relation → Type 0) (p : Progress) → Stands p → asked (Has (edges_of p)) (Has (known_of p)) → IsMet asked p p
idle asked p stands met = record { kept = kept_same p stands; met = met; within = λ family w a. w }

-- what stays met where more is found
abbrev pub Lasts : (Relation → Relation → Type 0) → Type 0
Lasts asked = (p q : Progress) → Kept p q → asked (Has (edges_of p)) (Has (known_of p)) → asked (Has (edges_of q)) (Has (known_of q))

-- what is asked of each of the first elements of a list
abbrev pub Front : {A : Type 0} → List A → ℕ → (A → Relation → Relation → Type 0) → Relation → Relation → Type 0
Front {A} xs i asked flows gets = (k : ℕ) (x : A) → k < i → slice_get xs k ≡ Some x → asked x flows gets

pub front_none : {A : Type 0} (asked : A → Relation → Relation → Type 0) (xs : List A) (p : Progress) → Stands p → IsMet (Front xs 0 asked) p p
front_none asked xs p stands = idle (Front xs 0 asked) p stands (λ k x l e. absurd (omega (arith, l)))

same_some : {A : Type 0} (x y : A) → Some x ≡ Some y → x ≡ y
same_some x y e = cc

pub front_more : {A : Type 0} (asked : A → Relation → Relation → Type 0) (lasts : (x : A) → Lasts (asked x)) (xs : List A) (i : ℕ) (d x : A) (p q r : Progress)
    → i < length xs → x ≡ get_or xs i d → IsMet (Front xs i asked) p q → IsMet (asked x) q r → IsMet (Front xs (i + 1) asked) p r
front_more asked lasts xs i d x p q r h is front one = record {
  kept = kept_after p q r front.kept one.kept;
  met = each_more (λ y. asked y (Has (edges_of r)) (Has (known_of r))) xs i d h (λ k y l e. lasts y q r one.kept (front.met k y l e))
      (subst (λ y. asked y (Has (edges_of r)) (Has (known_of r))) is one.met);
  within = λ family w a. one.within family (front.within family w (λ k y l e. a k y (omega (arith, l)) e)) (a i x (omega arith) (got_at xs i d h ∙ ap Some (sym is)));
}

pub front_all : {A : Type 0} (asked : A → Relation → Relation → Type 0) (xs : List A) (i : ℕ) (p q : Progress) → length xs ≤ i → IsMet (Front xs i asked) p q
    → IsMet (λ flows gets. Each xs (λ x. asked x flows gets)) p q
front_all asked xs i p q h front = record {
  kept = front.kept;
  met = λ k x e. front.met k x (omega (arith, got_within xs k x e)) e;
  within = λ family w a. front.within family w (λ k x l e. a k x e);
}

-- another way to say what is asked
pub asked_as : (asked other : Relation → Relation → Type 0) (p q : Progress)
    → ((flows gets : Relation) → asked flows gets → other flows gets) → ((flows gets : Relation) → other flows gets → asked flows gets) → IsMet asked p q → IsMet other p q
asked_as asked other p q f g m = record { kept = m.kept; met = f (Has (edges_of q)) (Has (known_of q)) m.met; within = λ family w a. m.within family w (g (Flows family) (Has family) a) }

pub done_after : (p q : Progress) → Kept p q → length q.done.items ≡ length p.done.items
done_after p q kept = ap length kept.done

-- what is below the number of nodes
pub node_after : (p q : Progress) (node : ℕ) → Kept p q → node < length p.done.items → node < length q.done.items
node_after p q node kept h = omega (arith, h, done_after p q kept)

pub table_after : (p q : Progress) (t : ClassTable) → Kept p q → IsTableWithin (length p.done.items) t → IsTableWithin (length q.done.items) t
table_after p q t kept h = subst (λ n. IsTableWithin n t) (sym (done_after p q kept)) h

pub constraint_after : (p q : Progress) (t : ClassTable) (c : Constraint) → Kept p q → IsConstraintWithin (length p.done.items) t c → IsConstraintWithin (length q.done.items) t c
constraint_after p q t c kept h = subst (λ n. IsConstraintWithin n t c) (sym (done_after p q kept)) h

-- ---- members that come to the set of a node

pub at_here : (sets : List (List ℕ)) (node : ℕ) (x : List ℕ) (m : ℕ) → node < length sets → x ≡ get_or sets node x → family_of sets node m ≡ has x m
at_here [] node x m h e = absurd (omega arith)
at_here (y ∷ sets) zero x m h e = ap (λ s. has s m) (sym e)
at_here (y ∷ sets) (suc node) x m h e = at_here sets node x m (omega arith) e

module _ (p q : Progress) (node : ℕ) (before after news : List ℕ) (stands : Stands p) (within : node < length p.done.items)
    (done : q.done.items ≡ p.done.items) (edges : q.edges.items ≡ p.edges.items) (todo : q.todo.items ≡ set p.todo.items node after)
    (is : before ≡ get_or p.todo.items node before) (members : (m : ℕ) → has after m ≡ (has before m || has news m))
    (fresh : (m : ℕ) → has news m ≡ true → done_of p node m ≡ false) where
  at_todo : node < length p.todo.items
  at_todo = omega (arith, stands.todo_size)

  todo_is : (n m : ℕ) → todo_of q n m ≡ (todo_of p n m || ((n == node) && has news m))
  todo_is n m =
      ap (λ sets. family_of sets n m) todo
      ∙ added_has p.todo.items node after (has news) at_todo (λ k. members k ∙ ap (λ s. s || has news k) (sym (at_here p.todo.items node before k at_todo is))) n m

  todo_from : (n m : ℕ) → Has (todo_of q) n m → Has (todo_of p) n m ⊎ ((n ≡ node) × (has news m ≡ true))
  todo_from n m h = elim (or_cases (todo_of p n m) ((n == node) && has news m) (sym (todo_is n m) ∙ h)) [
    | inl t ↦ inl t
    | inr t ↦ let r = and_cases (n == node) (has news m) t in inr (eqb-true n node r.0, r.1)
  ]

  todo_stays : (n m : ℕ) → Has (todo_of p) n m → Has (todo_of q) n m
  todo_stays n m h = todo_is n m ∙ or_left (todo_of p n m) ((n == node) && has news m) h

  todo_comes : (m : ℕ) → has news m ≡ true → Has (todo_of q) node m
  todo_comes m h = todo_is node m ∙ or_right (todo_of p node m) ((node == node) && has news m) (and_both (node == node) (has news m) (eq-eqb node node refl) h)

  done_is : (n m : ℕ) → done_of q n m ≡ done_of p n m
  done_is n m = ap (λ sets. family_of sets n m) done

  edges_is : (n m : ℕ) → edges_of q n m ≡ edges_of p n m
  edges_is n m = ap (λ sets. family_of sets n m) edges

  known_stays : (n m : ℕ) → Has (known_of p) n m → Has (known_of q) n m
  known_stays n m h = elim (or_cases (done_of p n m) (todo_of p n m) h) [
    | inl d ↦ or_left (done_of q n m) (todo_of q n m) (done_is n m ∙ d)
    | inr t ↦ or_right (done_of q n m) (todo_of q n m) (todo_stays n m t)
  ]

  known_from : (n m : ℕ) → Has (known_of q) n m → Has (known_of p) n m ⊎ ((n ≡ node) × (has news m ≡ true))
  known_from n m h = elim (or_cases (done_of q n m) (todo_of q n m) h) [
    | inl d ↦ inl (or_left (done_of p n m) (todo_of p n m) (sym (done_is n m) ∙ d))
    | inr t ↦ elim (todo_from n m t) [ inl o ↦ inl (or_right (done_of p n m) (todo_of p n m) o) | inr o ↦ inr o ]
  ]

  -- the parts of `Stands` that do not speak of the queue
  stood : ((n m : ℕ) → Has (todo_of q) n m → has q.queue.items n ≡ true) → ((n : ℕ) → has q.queue.items n ≡ true → (m : ℕ) × Has (todo_of q) n m) → IsOnce q.queue.items → Stands q
  stood queued waiting once = record {
    small = omega (arith, stands.small, ap length done);
    todo_size = ap length todo ∙ length-set p.todo.items node after ∙ stands.todo_size ∙ sym (ap length done);
    edges_size = ap length edges ∙ stands.edges_size ∙ sym (ap length done);
    edges_within = λ from to e. omega (arith, stands.edges_within from to (sym (edges_is from to) ∙ e), ap length done);
    fresh = λ n m h. done_is n m ∙ elim (todo_from n m h) [ inl t ↦ stands.fresh n m t | inr r ↦ ap (λ k. done_of p k m) r.0 ∙ fresh m r.1 ];
    queued = queued;
    waiting = waiting;
    once = once;
  }

  pub added : Stands q → IsMet (λ flows gets. (m : ℕ) → has news m ≡ true → gets node m) p q
  added still = record {
    kept = record {
      stands = still;
      done = done;
      edges = λ from to e. edges_is from to ∙ e;
      known = known_stays;
      flowed = λ base sub f from to m e b. known_stays to m (f from to m (sym (edges_is from to) ∙ e) b);
    };
    met = λ m h. or_right (done_of q node m) (todo_of q node m) (todo_comes m h);
    within = λ family w a. record {
      members = λ n m h. elim (known_from n m h) [ inl k ↦ w.members n m k | inr r ↦ subst (λ k. Has family k m) (sym r.0) (a m r.1) ];
      edges = λ from to e. w.edges from to (sym (edges_is from to) ∙ e);
    };
  }

  -- the set is as it was
  pub stood_same : q.queue.items ≡ p.queue.items → after ≡ before → Stands q
  stood_same queue same = stood
      (λ n m h. ap (λ xs. has xs n) queue ∙ elim (todo_from n m h) [
        | inl t ↦ stands.queued n m t
        | inr r ↦ ap (λ k. has p.queue.items k) r.0 ∙ stands.queued node m (at_here p.todo.items node before m at_todo is ∙ ap (λ s. has s m) (sym same) ∙ members m ∙ or_right (has before m) (has news m) r.1)
      ])
      (λ n h. let r = stands.waiting n (ap (λ xs. has xs n) (sym queue) ∙ h) in (r.0, todo_stays n r.0 r.1))
      (subst IsOnce (sym queue) stands.once)

  -- the node was waiting already
  pub stood_waiting : q.queue.items ≡ p.queue.items → 0 < length before → Stands q
  stood_waiting queue some =
      let first = some_of before some in
      let waits : has p.queue.items node ≡ true = stands.queued node first.0 (at_here p.todo.items node before first.0 at_todo is ∙ first.1) in
      stood
      (λ n m h. ap (λ xs. has xs n) queue ∙ elim (todo_from n m h) [ inl t ↦ stands.queued n m t | inr r ↦ ap (λ k. has p.queue.items k) r.0 ∙ waits ])
      (λ n h. let r = stands.waiting n (ap (λ xs. has xs n) (sym queue) ∙ h) in (r.0, todo_stays n r.0 r.1))
      (subst IsOnce (sym queue) stands.once)

  lacks : 0 ≡ length before → has p.queue.items node ≡ false
  lacks empty = not_true (has p.queue.items node) (λ h.
      let r = stands.waiting node h in
      true≢false (sym r.1 ∙ at_here p.todo.items node before r.0 at_todo is ∙ none_of before empty r.0))
    where
      not_true : (b : Bool) → (b ≡ true → ⊥) → b ≡ false
      not_true true f = absurd (f refl)
      not_true false f = refl

  -- the node waits now
  pub stood_first : q.queue.items ≡ p.queue.items ++ node ∷ [] → 0 ≡ length before → 0 < length after → Stands q
  stood_first queue empty some =
      let first = some_of after some in
      let one : has news first.0 ≡ true = elim (or_cases (has before first.0) (has news first.0) (sym (members first.0) ∙ first.1)) [
        | inl b ↦ absurd (true≢false (sym b ∙ none_of before empty first.0))
        | inr b ↦ b
      ] in
      stood
      (λ n m h. ap (λ xs. has xs n) queue ∙ elim (todo_from n m h) [
        | inl t ↦ push_keeps p.queue.items node n (stands.queued n m t)
        | inr r ↦ subst (λ k. has (p.queue.items ++ node ∷ []) k ≡ true) (sym r.0) (push_has p.queue.items node)
      ])
      (λ n h. elim (has_push p.queue.items node n (ap (λ xs. has xs n) (sym queue) ∙ h)) [
        | inl k ↦ let r = stands.waiting n k in (r.0, todo_stays n r.0 r.1)
        | inr e ↦ (first.0, subst (λ k. Has (todo_of q) k first.0) (sym e) (todo_comes first.0 one))
      ])
      (subst IsOnce (sym queue) (push_once p.queue.items node stands.once (lacks empty)))

-- members that go to each node of a list go along the edges that it lists
pub along_edges : (edges : List (List ℕ)) (node : ℕ) (x nexts : List ℕ) (P : ℕ → Relation → Relation → Type 0) (p q : Progress) → node < length edges → x ≡ get_or edges node x → nexts ≡ x
    → IsMet (λ flows gets. Each nexts (λ to. P to flows gets)) p q → IsMet (λ flows gets. (to : ℕ) → Has (family_of edges) node to → P to flows gets) p q
along_edges edges node x nexts P p q h is same =
    let is_has = λ (to : ℕ). at_here edges node x to h is ∙ ap (λ s. has s to) (sym same) in
    asked_as (λ flows gets. Each nexts (λ to. P to flows gets)) (λ flows gets. (to : ℕ) → Has (family_of edges) node to → P to flows gets) p q
    (λ flows gets each to e. let r = has_place nexts to (sym (is_has to) ∙ e) in each r.0 to r.1)
    (λ flows gets all k to e. all to (is_has to ∙ place_has nexts k to e))

-- a node that an edge leads to
pub next_within : (p : Progress) (node : ℕ) (x nexts : List ℕ) (k : ℕ) → Stands p → node < length p.edges.items → x ≡ get_or p.edges.items node x → nexts ≡ x → k < length nexts
    → get_or nexts k 0 < length p.done.items
next_within p node x nexts k stands h is same l =
    stands.edges_within node (get_or nexts k 0) (at_here p.edges.items node x (get_or nexts k 0) h is ∙ ap (λ s. has s (get_or nexts k 0)) (sym same) ∙ place_has nexts k (get_or nexts k 0) (got_at nexts k 0 l))
