-- A run of a solver, from its start to its end.
use Rattle.std.proofs.Common.{◌≡◌, ℕ, zero, suc, ◌<◌, ◌≤◌, ◌==◌, ◌&&◌, true, Option, None, Some, List, [], ◌∷◌, ◌++◌, length, get_or, take, slice_get, refl, sym, ap, ◌∙◌, subst, inl, inr, ◌⊎◌, eqb-true, arith}
use Rattle.std.proofs.lemmas.Bool.{or_cases, or_left, true≢false}
use Rattle.std.specs.Global.{Vec}
use Rattle.core_ir.specs.Plain.{lists_of}
use Rattle.core_ir.specs.declared.classes.ClassTable.{ClassTable}
use Rattle.core_ir.specs.declared.artifacts.Constraint.{Constraint}
use Rattle.points_to.specs.declared.rule.Rule.{Rule}
use Rattle.points_to.specs.declared.rule.Rule.TheVariants as rules
use Rattle.points_to.specs.declared.rule.Side.{Side}
use Rattle.points_to.specs.declared.rule.Side.TheVariants as sides
use Rattle.points_to.specs.declared.progress.Progress.{Progress}
use Rattle.points_to.specs.Sets.{has}
use Rattle.points_to.specs.Families.{Family, Relation, Has, Flows, family_of}
use Rattle.points_to.specs.Rules.{Demands, IsClosed, rule_of}
use Rattle.points_to.specs.computed.RuleParts.{Each}
use Rattle.points_to.specs.Fits.{Fits, IsConstraintWithin, has_source}
use Rattle.points_to.specs.computed.Progress.{Kept, Stands, IsMet, IsWithin, Flowed, IsTaken, IsIdle, IsNext, IsStart, IsOnce, done_of, todo_of, known_of, edges_of, room}
use Rattle.points_to.specs.computed.Readers.{constraint_lists, AreReaders, reads_target, reads_source, read_node}
use Rattle.points_to.specs.computed.Solving.{Opens, IsAsked, HasMore, HandsOn, AreRuled, IsRun, IsDone}
use Rattle.points_to.proofs.Steps.{Lasts, kept_after, and_cases}
use Rattle.points_to.proofs.Demanding.{demands_fewer}
use Rattle.points_to.proofs.Lists.{items_at, target_read, source_read, target_reads, source_reads}

-- ---- what constraints ask at once

pub opens_last : (r : Rule) (c : Constraint) → Lasts (Opens r c)
opens_last rules.Address c p q kept h = kept.known c.target c.source h
opens_last rules.Copy c p q kept h = kept.edges c.source c.target h
opens_last rules.Load c p q kept h = tt
opens_last rules.Store c p q kept h = tt
opens_last rules.SubObject c p q kept h = tt
opens_last rules.ObjectCopy c p q kept h = tt
opens_last rules.Argument c p q kept h = tt
opens_last rules.Result c p q kept h = tt
opens_last rules.Unknown c p q kept h = tt

pub opens_other : (r : Rule) (c : Constraint) (f g : Relation) → (r ≡ rules.Address → ⊥) → (r ≡ rules.Copy → ⊥) → Opens r c f g
opens_other rules.Address c f g a b = absurd (a refl)
opens_other rules.Copy c f g a b = absurd (b refl)
opens_other rules.Load c f g a b = tt
opens_other rules.Store c f g a b = tt
opens_other rules.SubObject c f g a b = tt
opens_other rules.ObjectCopy c f g a b = tt
opens_other rules.Argument c f g a b = tt
opens_other rules.Result c f g a b = tt
opens_other rules.Unknown c f g a b = tt

pub opens_as : (r : Rule) (c : Constraint) (p q : Progress) → r ≡ rule_of c.rule → IsMet (Opens r c) p q → IsMet (Opens (rule_of c.rule) c) p q
opens_as r c p q e = subst (λ z. IsMet (Opens z c) p q) e

-- the demands where the sets have no members, and what all demands have
opened : (t : ClassTable) (r : Rule) (c : Constraint) (T S : ℕ → Type 0) (f g : Relation) → ((x : ℕ) → T x → ⊥) → ((y : ℕ) → S y → ⊥) → Opens r c f g → Demands t r c T S f g
opened t rules.Address c T S f g nt ns h = h
opened t rules.Copy c T S f g nt ns h = h
opened t rules.Load c T S f g nt ns h = λ x k leaf node s l n. absurd (ns x s)
opened t rules.Store c T S f g nt ns h = λ x k leaf node s l n. absurd (nt x s)
opened t rules.SubObject c T S f g nt ns h = λ x k part s l n. absurd (ns x s)
opened t rules.ObjectCopy c T S f g nt ns h = λ x y to from s l m. absurd (nt x s)
opened t rules.Argument c T S f g nt ns h = λ x node s n. absurd (nt x s)
opened t rules.Result c T S f g nt ns h = λ x node s n. absurd (ns x s)
opened t rules.Unknown c T S f g nt ns h = tt

opens_of : (t : ClassTable) (r : Rule) (c : Constraint) (T S : ℕ → Type 0) (f g : Relation) → Demands t r c T S f g → Opens r c f g
opens_of t rules.Address c T S f g h = h
opens_of t rules.Copy c T S f g h = h
opens_of t rules.Load c T S f g h = tt
opens_of t rules.Store c T S f g h = tt
opens_of t rules.SubObject c T S f g h = tt
opens_of t rules.ObjectCopy c T S f g h = tt
opens_of t rules.Argument c T S f g h = tt
opens_of t rules.Result c T S f g h = tt
opens_of t rules.Unknown c T S f g h = tt

-- ---- members of one node more

extended : (t : ClassTable) (r : Rule) (c : Constraint) (node : ℕ) (delta : List ℕ) (T S T' S' : ℕ → Type 0) (f g : Relation)
    → ((x : ℕ) → T' x → T x ⊎ ((c.target ≡ node) × (has delta x ≡ true))) → ((y : ℕ) → S' y → S y ⊎ ((c.source ≡ node) × (has delta y ≡ true)))
    → (reads_target r ≡ true → c.target ≡ node → Demands t r c (λ x. has delta x ≡ true) S' f g)
    → (reads_source r ≡ true → c.source ≡ node → Demands t r c T' (λ y. has delta y ≡ true) f g)
    → Demands t r c T S f g → Demands t r c T' S' f g
extended t rules.Address c node delta T S T' S' f g mt ms bt bs h = h
extended t rules.Copy c node delta T S T' S' f g mt ms bt bs h = h
extended t rules.Load c node delta T S T' S' f g mt ms bt bs h = λ x k leaf n s l e. elim (ms x s) [ inl o ↦ h x k leaf n o l e | inr m ↦ bs refl m.0 x k leaf n m.1 l e ]
extended t rules.Store c node delta T S T' S' f g mt ms bt bs h = λ x k leaf n s l e. elim (mt x s) [ inl o ↦ h x k leaf n o l e | inr m ↦ bt refl m.0 x k leaf n m.1 l e ]
extended t rules.SubObject c node delta T S T' S' f g mt ms bt bs h = λ x k part s l e. elim (ms x s) [ inl o ↦ h x k part o l e | inr m ↦ bs refl m.0 x k part m.1 l e ]
extended t rules.ObjectCopy c node delta T S T' S' f g mt ms bt bs h = λ x y to from a b m. elim (mt x a) [
  | inr i ↦ bt refl i.0 x y to from i.1 b m
  | inl o ↦ elim (ms y b) [ inl w ↦ h x y to from o w m | inr i ↦ bs refl i.0 x y to from a i.1 m ]
]
extended t rules.Argument c node delta T S T' S' f g mt ms bt bs h = λ x n s e. elim (mt x s) [ inl o ↦ h x n o e | inr m ↦ bt refl m.0 x n m.1 e ]
extended t rules.Result c node delta T S T' S' f g mt ms bt bs h = λ x n s e. elim (ms x s) [ inl o ↦ h x n o e | inr m ↦ bs refl m.0 x n m.1 e ]
extended t rules.Unknown c node delta T S T' S' f g mt ms bt bs h = tt

-- ---- a visit

abbrev pub Handed : Progress → ℕ → List ℕ → Relation → Relation → Type 0
Handed p node delta flows gets = (to : ℕ) → Has (edges_of p) node to → (m : ℕ) → has delta m ≡ true → gets to m

abbrev pub ByTarget : ClassTable → List (List ℕ) → List Constraint → List ℕ → Relation → Relation → Type 0
ByTarget t done targets members flows gets = Each targets (λ c. Demands t (rule_of c.rule) c (λ x. has members x ≡ true) (Has (family_of done) c.source) flows gets)

abbrev pub BySource : ClassTable → List (List ℕ) → List Constraint → List ℕ → Relation → Relation → Type 0
BySource t done sources members flows gets = Each sources (λ c. Demands t (rule_of c.rule) c (Has (family_of done) c.target) (λ y. has members y ≡ true) flows gets)

module _ (t : ClassTable) (p a b q : Progress) (targets sources : List Constraint) (node : ℕ) (delta members : List ℕ) (same : members ≡ delta)
    (first : IsMet (Handed p node delta) p a) (edges : a.edges.items ≡ p.edges.items)
    (second : IsMet (ByTarget t a.done.items targets members) a b) (third : IsMet (BySource t b.done.items sources members) b q) where
  second_is : IsMet (ByTarget t p.done.items targets delta) a b
  second_is = subst (λ xs. IsMet (ByTarget t p.done.items targets xs) a b) same (subst (λ sets. IsMet (ByTarget t sets targets members) a b) first.kept.done second)

  third_is : IsMet (BySource t p.done.items sources delta) b q
  third_is = subst (λ xs. IsMet (BySource t p.done.items sources xs) b q) same (subst (λ sets. IsMet (BySource t sets sources members) b q) (second.kept.done ∙ first.kept.done) third)

  rest : Kept a q
  rest = kept_after a b q second.kept third.kept

  pub visited : IsMet (IsAsked t p targets sources node delta) p q
  visited = record {
    kept = kept_after p a q first.kept rest;
    met = record {
      handed = λ to e m h. rest.known to m (first.met to e m h);
      by_target = λ k c e. demands_fewer t (rule_of c.rule) c (λ x. has delta x ≡ true) (Has (done_of p) c.source) (λ x. has delta x ≡ true) (Has (done_of p) c.source)
          (Has (edges_of b)) (Has (known_of b)) (Has (edges_of q)) (Has (known_of q)) (λ x h. h) (λ y h. h) third.kept.edges third.kept.known (second_is.met k c e);
      by_source = third_is.met;
    };
    within = λ family w asked. third_is.within family (second_is.within family (first.within family w asked.handed) asked.by_target) asked.by_source;
  }

  pub hands_on : HandsOn node delta p q
  hands_on base flowed more =
      let here : Flowed (done_of p) a = (λ from to m e h.
      let before : Has (edges_of p) from to = ap (λ sets. family_of sets from to) (sym edges) ∙ e in
      elim (more from m h) [
        | inl o ↦ first.kept.known to m (flowed from to m before o)
        | inr i ↦ first.met to (subst (λ n. Has (edges_of p) n to) i.0 before) m i.1
      ]) in
      let there : Flowed (done_of p) q = rest.flowed (done_of p) (λ n m h. ap (λ sets. family_of sets n m) first.kept.done ∙ h) here in
      λ from to m e h. there from to m e (ap (λ sets. family_of sets from m) (sym (rest.done ∙ first.kept.done)) ∙ h)

-- ---- a run

pub run_start : (t : ClassTable) (all : List Constraint) (p : Progress) → Stands p → Flowed (done_of p) p → AreRuled t all p → IsRun t all p p
run_start t all p stands flowed ruled = record { stands = stands; size = refl; flowed = flowed; ruled = ruled; within = λ family closed w. w }

more_done : (p q : Progress) (node : ℕ) (delta : List ℕ) → IsTaken node delta p q → HasMore (done_of p) node delta (done_of q)
more_done p q node delta taken n m h = elim (or_cases (done_of p n m) ((n == node) && has delta m) (sym (taken.done n m) ∙ h)) [
  | inl o ↦ inl o
  | inr i ↦ let r = and_cases (n == node) (has delta m) i in inr (eqb-true n node r.0, r.1)
]

module _ (t : ClassTable) (all : List Constraint) (start p q r : Progress) (node : ℕ) (delta : List ℕ) (targets sources : List (List Constraint))
    (run : IsRun t all start p) (taken : IsTaken node delta p q)
    (target_lists : AreReaders sides.Target (length start.done.items) all targets) (source_lists : AreReaders sides.Source (length start.done.items) all sources)
    (met : IsMet (IsAsked t q (get_or targets node []) (get_or sources node []) node delta) q r) (hands : HandsOn node delta q r) where
  edges_stay : (from to : ℕ) → Has (edges_of p) from to → Has (edges_of r) from to
  edges_stay from to e = met.kept.edges from to (ap (λ sets. family_of sets from to) taken.edges ∙ e)

  known_stays : (n m : ℕ) → Has (known_of p) n m → Has (known_of r) n m
  known_stays n m h = met.kept.known n m (taken.known n m ∙ h)

  done_back : (n m : ℕ) → Has (done_of r) n m → Has (done_of q) n m
  done_back n m h = ap (λ sets. family_of sets n m) (sym met.kept.done) ∙ h

  more : HasMore (done_of p) node delta (done_of r)
  more n m h = more_done p q node delta taken n m (done_back n m h)

  flowed_still : Flowed (done_of p) q
  flowed_still from to m e h = taken.known to m ∙ run.flowed from to m (ap (λ sets. family_of sets from to) (sym taken.edges) ∙ e) h

  ruled : AreRuled t all r
  ruled k c e =
      extended t (rule_of c.rule) c node delta (Has (done_of p) c.target) (Has (done_of p) c.source) (Has (done_of r) c.target) (Has (done_of r) c.source) (Has (edges_of r)) (Has (known_of r))
      (λ x h. more c.target x h) (λ y h. more c.source y h)
      (λ reads at.
      let list = target_lists.each node c (k, e) (target_reads c reads ∙ ap Some at) in
      demands_fewer t (rule_of c.rule) c (λ x. has delta x ≡ true) (Has (done_of q) c.source) (λ x. has delta x ≡ true) (Has (done_of r) c.source) (Has (edges_of r)) (Has (known_of r)) (Has (edges_of r)) (Has (known_of r))
      (λ x h. h) (λ y h. done_back c.source y h) (λ x y h. h) (λ x y h. h) (met.met.by_target list.0 c list.1))
      (λ reads at.
      let list = source_lists.each node c (k, e) (source_reads c reads ∙ ap Some at) in
      demands_fewer t (rule_of c.rule) c (Has (done_of q) c.target) (λ y. has delta y ≡ true) (Has (done_of r) c.target) (λ y. has delta y ≡ true) (Has (edges_of r)) (Has (known_of r)) (Has (edges_of r)) (Has (known_of r))
      (λ x h. done_back c.target x h) (λ y h. h) (λ x y h. h) (λ x y h. h) (met.met.by_source list.0 c list.1))
      (demands_fewer t (rule_of c.rule) c (Has (done_of p) c.target) (Has (done_of p) c.source) (Has (done_of p) c.target) (Has (done_of p) c.source) (Has (edges_of p)) (Has (known_of p)) (Has (edges_of r)) (Has (known_of r))
      (λ x h. h) (λ y h. h) edges_stay known_stays (run.ruled k c e))

  within : (family : Family) → IsClosed t all family → IsWithin family start → IsWithin family r
  unfolding IsClosed
  within family closed w =
      let before = run.within family closed w in
      let now : IsWithin family q = record {
        members = λ n m h. before.members n m (sym (taken.known n m) ∙ h);
        edges = λ from to e. before.edges from to (ap (λ sets. family_of sets from to) (sym taken.edges) ∙ e);
      } in
      let done_in = λ (n m : ℕ) (h : Has (done_of q) n m). now.members n m (or_left (done_of q n m) (todo_of q n m) h) in
      let delta_in = λ (m : ℕ) (h : has delta m ≡ true). before.members node m (taken.members m h) in
      met.within family now (record {
        handed = λ to e m h. now.edges node to e m (delta_in m h);
        by_target = λ k c e.
            let o = target_lists.only node c (k, e) in
            let is_node = (target_read c node o.0).1 in
            demands_fewer t (rule_of c.rule) c (Has family c.target) (Has family c.source) (λ x. has delta x ≡ true) (Has (done_of q) c.source) (Flows family) (Has family) (Flows family) (Has family)
            (λ x h. ap (λ n. family n x) is_node ∙ delta_in x h) (λ y h. done_in c.source y h) (λ x y h. h) (λ x y h. h) (closed o.1.0 c o.1.1);
        by_source = λ k c e.
            let o = source_lists.only node c (k, e) in
            let is_node = (source_read c node o.0).1 in
            demands_fewer t (rule_of c.rule) c (Has family c.target) (Has family c.source) (Has (done_of q) c.target) (λ y. has delta y ≡ true) (Flows family) (Has family) (Flows family) (Has family)
            (λ x h. done_in c.target x h) (λ y h. ap (λ n. family n y) is_node ∙ delta_in y h) (λ x y h. h) (λ x y h. h) (closed o.1.0 c o.1.1);
      })

  pub run_more : IsRun t all start r
  run_more = record {
    stands = met.kept.stands;
    size = ap length met.kept.done ∙ taken.size ∙ run.size;
    flowed = hands (done_of p) flowed_still (more_done p q node delta taken);
    ruled = ruled;
    within = within;
  }

  pub run_less : room r.done.items < room p.done.items
  run_less = subst (λ sets. room sets < room p.done.items) (sym met.kept.done) taken.less

pub run_done : (t : ClassTable) (all : List Constraint) (start p q : Progress) → IsRun t all start p → IsIdle p q → IsDone t all start q
unfolding IsClosed
run_done t all start p q run idle =
    let back = λ (n m : ℕ) (h : Has (done_of q) n m). ap (λ sets. family_of sets n m) (sym idle.same_done) ∙ h in
    record {
      size = ap length idle.same_done ∙ run.size;
      closed = λ k c e.
          demands_fewer t (rule_of c.rule) c (Has (done_of p) c.target) (Has (done_of p) c.source) (Has (done_of q) c.target) (Has (done_of q) c.source) (Has (edges_of p)) (Has (known_of p)) (Flows (done_of q)) (Has (done_of q))
          (λ x h. back c.target x h) (λ y h. back c.source y h) (λ from to edge m h. idle.known to m (run.flowed from to m edge (back from m h))) (λ n m h. idle.known n m h) (run.ruled k c e);
      within = λ family closed w n m h. (run.within family closed w).members n m (or_left (done_of p n m) (todo_of p n m) (back n m h));
    }

-- ---- lists of readers

constraints_length : (vecs : List (Vec Constraint)) → length (constraint_lists vecs) ≡ length vecs
constraints_length [] = refl
constraints_length (x ∷ vecs) = ap suc (constraints_length vecs)

module _ (t : ClassTable) (all : List Constraint) (start p q : Progress) (node : ℕ) (delta : List ℕ) (run : IsRun t all start p) (taken : IsTaken node delta p q) where
  pub node_within : node < length q.done.items
  node_within = omega (arith, taken.within, taken.size)

  pub place_within : (side : Side) (vecs : List (Vec Constraint)) → AreReaders side (length start.done.items) all (constraint_lists vecs) → node < length vecs
  place_within side vecs readers = omega (arith, taken.within, run.size, readers.size, constraints_length vecs)

  pub list_is : (side : Side) (vecs : List (Vec Constraint)) (v : Vec Constraint) (list : List Constraint) → AreReaders side (length start.done.items) all (constraint_lists vecs) → v ≡ get_or vecs node v → list ≡ v.items
      → list ≡ get_or (constraint_lists vecs) node []
  list_is side vecs v list readers is items = items ∙ sym (items_at vecs node v (place_within side vecs readers) is)

  pub list_within : (side : Side) (lists : List (List Constraint)) (list : List Constraint) → AreReaders side (length start.done.items) all lists → list ≡ get_or lists node [] → Fits (length start.done.items) all t
      → Each list (IsConstraintWithin (length q.done.items) t)
  list_within side lists list readers is fits k c e =
      let r = readers.only node c (k, ap (λ xs. slice_get xs k) (sym is) ∙ e) in
      subst (λ n. IsConstraintWithin n t c) (sym (taken.size ∙ run.size)) (fits r.1.0 c r.1.1)

  pub targets_read : (lists : List (List Constraint)) (list : List Constraint) → AreReaders sides.Target (length start.done.items) all lists → list ≡ get_or lists node [] → Each list (λ c. reads_target (rule_of c.rule) ≡ true)
  targets_read lists list readers is k c e = (target_read c node (readers.only node c (k, ap (λ xs. slice_get xs k) (sym is) ∙ e)).0).0

  pub sources_read : (lists : List (List Constraint)) (list : List Constraint) → AreReaders sides.Source (length start.done.items) all lists → list ≡ get_or lists node [] → Each list (λ c. reads_source (rule_of c.rule) ≡ true)
  sources_read lists list readers is k c e = (source_read c node (readers.only node c (k, ap (λ xs. slice_get xs k) (sym is) ∙ e)).0).0

pub next_taken : (o : Option (ℕ × List ℕ)) (node : ℕ) (delta : List ℕ) (p q : Progress) → o ≡ Some (node, delta) → IsNext o p q → IsTaken node delta p q
next_taken o node delta p q e = subst (λ z. IsNext z p q) e

reads_has : (r : Rule) → reads_source r ≡ true → has_source r ≡ true
reads_has rules.Address e = e
reads_has rules.Copy e = refl
reads_has rules.Load e = refl
reads_has rules.Store e = refl
reads_has rules.SubObject e = refl
reads_has rules.ObjectCopy e = refl
reads_has rules.Argument e = refl
reads_has rules.Result e = refl
reads_has rules.Unknown e = e

pub targets_within : (t : ClassTable) (all : List Constraint) (nodes : ℕ) → Fits nodes all t → Each all (λ c. (node : ℕ) → read_node sides.Target c ≡ Some node → node < nodes)
targets_within t all nodes fits k c e node h = subst (λ n. n < nodes) (target_read c node h).1 (fits k c e).target

pub sources_within : (t : ClassTable) (all : List Constraint) (nodes : ℕ) → Fits nodes all t → Each all (λ c. (node : ℕ) → read_node sides.Source c ≡ Some node → node < nodes)
sources_within t all nodes fits k c e node h = let r = source_read c node h in subst (λ n. n < nodes) r.1 ((fits k c e).source (reads_has (rule_of c.rule) r.0))

-- ---- the start

start_done : (nodes : ℕ) (p : Progress) → IsStart nodes p → (n m : ℕ) → Has (done_of p) n m → ⊥
start_done nodes p s n m h = true≢false (sym h ∙ ap (λ xs. has xs m) (s.done.empty n))

start_todo : (nodes : ℕ) (p : Progress) → IsStart nodes p → (n m : ℕ) → Has (todo_of p) n m → ⊥
start_todo nodes p s n m h = true≢false (sym h ∙ ap (λ xs. has xs m) (s.todo.empty n))

start_edges : (nodes : ℕ) (p : Progress) → IsStart nodes p → (n m : ℕ) → Has (edges_of p) n m → ⊥
start_edges nodes p s n m h = true≢false (sym h ∙ ap (λ xs. has xs m) (s.edges.empty n))

pub start_stands : (nodes : ℕ) (p : Progress) → IsStart nodes p → Stands p
start_stands nodes p s = record {
  small = omega (arith, s.small, s.done.size);
  todo_size = s.todo.size ∙ sym s.done.size;
  edges_size = s.edges.size ∙ sym s.done.size;
  edges_within = λ from to e. absurd (start_edges nodes p s from to e);
  fresh = λ n m h. absurd (start_todo nodes p s n m h);
  queued = λ n m h. absurd (start_todo nodes p s n m h);
  waiting = λ n h. absurd (true≢false (sym h ∙ ap (λ xs. has xs n) s.queue));
  once = subst IsOnce (sym s.queue) tt;
}

pub start_within : (nodes : ℕ) (p : Progress) (family : Family) → IsStart nodes p → IsWithin family p
start_within nodes p family s = record {
  members = λ n m h. elim (or_cases (done_of p n m) (todo_of p n m) h) [ inl d ↦ absurd (start_done nodes p s n m d) | inr d ↦ absurd (start_todo nodes p s n m d) ];
  edges = λ from to e. absurd (start_edges nodes p s from to e);
}

module _ (t : ClassTable) (all : List Constraint) (nodes : ℕ) (p q : Progress) (s : IsStart nodes p) (met : IsMet (λ flows gets. Each all (λ c. Opens (rule_of c.rule) c flows gets)) p q) where
  none_done : (n m : ℕ) → Has (done_of q) n m → ⊥
  none_done n m h = start_done nodes p s n m (ap (λ sets. family_of sets n m) (sym met.kept.done) ∙ h)

  pub opened_size : length q.done.items ≡ nodes
  opened_size = ap length met.kept.done ∙ s.done.size

  pub opened_flowed : Flowed (done_of q) q
  opened_flowed from to m e h = absurd (none_done from m h)

  pub opened_ruled : AreRuled t all q
  opened_ruled k c e =
      opened t (rule_of c.rule) c (Has (done_of q) c.target) (Has (done_of q) c.source) (Has (edges_of q)) (Has (known_of q)) (λ x h. none_done c.target x h) (λ y h. none_done c.source y h) (met.met k c e)

  pub opened_within : (family : Family) → IsClosed t all family → IsWithin family q
  unfolding IsClosed
  opened_within family closed = met.within family (start_within nodes p family s) (λ k c e. opens_of t (rule_of c.rule) c (Has family c.target) (Has family c.source) (Flows family) (Has family) (closed k c e))

-- ---- sets as lists

pub lists_push : (vecs : List (Vec ℕ)) (v : Vec ℕ) → lists_of (vecs ++ v ∷ []) ≡ lists_of vecs ++ v.items ∷ []
lists_push [] v = refl
lists_push (x ∷ vecs) v = ap (λ zs. x.items ∷ zs) (lists_push vecs v)

pub lists_length : (vecs : List (Vec ℕ)) → length (lists_of vecs) ≡ length vecs
lists_length [] = refl
lists_length (x ∷ vecs) = ap suc (lists_length vecs)

pub taken_more : (xs : List (List ℕ)) (i : ℕ) (x : List ℕ) → i < length xs → x ≡ get_or xs i x → take i xs ++ x ∷ [] ≡ take (suc i) xs
taken_more [] i x h e = absurd (omega arith)
taken_more (y ∷ xs) zero x h e = ap (λ z. z ∷ []) e
taken_more (y ∷ xs) (suc i) x h e = ap (λ zs. y ∷ zs) (taken_more xs i x (omega arith) e)

pub taken_all : (xs : List (List ℕ)) (i : ℕ) → length xs ≤ i → take i xs ≡ xs
taken_all [] zero h = refl
taken_all [] (suc i) h = refl
taken_all (y ∷ xs) zero h = absurd (omega arith)
taken_all (y ∷ xs) (suc i) h = ap (λ zs. y ∷ zs) (taken_all xs i (omega arith))

pub next_idle : (o : Option (ℕ × List ℕ)) (p q : Progress) → o ≡ None → IsNext o p q → IsIdle p q
next_idle o p q e = subst (λ z. IsNext z p q) e
