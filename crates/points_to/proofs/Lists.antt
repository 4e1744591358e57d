-- Lists of lists that begin empty, and lists of constraints by node.
use Rattle.std.proofs.Common.{◌≡◌, ℕ, zero, suc, ◌+◌, ◌<◌, ◌≤◌, Bool, true, false, cond, Option, Some, None, List, [], ◌∷◌, ◌++◌, length, get_or, set, slice_get, refl, sym, ap, ◌∙◌, inl, inr, ◌⊎◌, arith, length-append, length-set}
use Rattle.std.proofs.lemmas.Bool.{cases_eq, cases_lt}
use Rattle.std.specs.Global.{Vec}
use Rattle.core_ir.specs.declared.artifacts.Constraint.{Constraint}
use Rattle.points_to.specs.declared.rule.Side.{Side}
use Rattle.points_to.specs.declared.rule.Side.TheVariants as sides
use Rattle.points_to.specs.Rules.{rule_of}
use Rattle.points_to.specs.computed.Progress.{AreEmpty}
use Rattle.points_to.specs.computed.Readers.{Listed, AreReaders, constraint_lists, read_node, entered, reads_target, reads_source}
use Rattle.points_to.proofs.Each.{got_within}

empty_push : {A : Type 0} (xs : List (List A)) → ((k : ℕ) → get_or xs k [] ≡ []) → (k : ℕ) → get_or (xs ++ [] ∷ []) k [] ≡ []
empty_push [] h zero = refl
empty_push [] h (suc k) = refl
empty_push (x ∷ xs) h zero = h 0
empty_push (x ∷ xs) h (suc k) = empty_push xs (λ j. h (suc j)) k

pub none_empty : {A : Type 0} → AreEmpty {A = A} 0 []
none_empty {A} = record { size = refl; empty = λ k. refl }

pub empty_pushed : {A : Type 0} (n : ℕ) (xs ys : List (List A)) (y : List A) → AreEmpty n xs → ys ≡ xs ++ y ∷ [] → y ≡ [] → AreEmpty (n + 1) ys
empty_pushed {A} n xs ys y empty pushed is =
    let e : ys ≡ xs ++ [] ∷ [] = pushed ∙ ap (λ z. xs ++ z ∷ []) is in
    record {
      size = ap length e ∙ length-append xs ([] ∷ []) ∙ ap (λ k. k + 1) empty.size;
      empty = λ k. ap (λ zs. get_or zs k []) e ∙ empty_push xs empty.empty k;
    }

pub lists_push : (vecs : List (Vec Constraint)) (v : Vec Constraint) → constraint_lists (vecs ++ v ∷ []) ≡ constraint_lists vecs ++ v.items ∷ []
lists_push [] v = refl
lists_push (x ∷ vecs) v = ap (λ zs. x.items ∷ zs) (lists_push vecs v)

pub items_at : (vecs : List (Vec Constraint)) (node : ℕ) (v : Vec Constraint) → node < length vecs → v ≡ get_or vecs node v → get_or (constraint_lists vecs) node [] ≡ v.items
items_at [] node v h e = absurd (omega arith)
items_at (x ∷ vecs) zero v h e = ap (λ z. z.items) (sym e)
items_at (x ∷ vecs) (suc node) v h e = items_at vecs node v (omega arith) e

pub items_set : (vecs : List (Vec Constraint)) (node : ℕ) (v : Vec Constraint) → constraint_lists (set vecs node v) ≡ set (constraint_lists vecs) node v.items
items_set [] node v = refl
items_set (x ∷ vecs) zero v = refl
items_set (x ∷ vecs) (suc node) v = ap (λ zs. x.items ∷ zs) (items_set vecs node v)

set_here : {A : Type 0} (lists : List (List A)) (node : ℕ) (s : List A) → node < length lists → get_or (set lists node s) node [] ≡ s
set_here [] node s h = absurd (omega arith)
set_here (x ∷ lists) zero s h = refl
set_here (x ∷ lists) (suc node) s h = set_here lists node s (omega arith)

set_there : {A : Type 0} (lists : List (List A)) (node n : ℕ) (s : List A) → (n ≡ node → ⊥) → get_or (set lists node s) n [] ≡ get_or lists n []
set_there [] node n s ne = refl
set_there (x ∷ lists) zero zero s ne = absurd (ne refl)
set_there (x ∷ lists) zero (suc n) s ne = refl
set_there (x ∷ lists) (suc node) zero s ne = refl
set_there (x ∷ lists) (suc node) (suc n) s ne = set_there lists node n s (λ e. ne (ap suc e))

same_some : {A : Type 0} (x y : A) → Some x ≡ Some y → x ≡ y
same_some x y e = cc

listed_push : (xs : List Constraint) (c d : Constraint) (k : ℕ) → slice_get (xs ++ c ∷ []) k ≡ Some d → Listed xs d ⊎ (d ≡ c)
listed_push [] c d zero e = inr (sym (same_some c d e))
listed_push [] c d (suc k) e = absurd (cc)
listed_push (x ∷ xs) c d zero e = inl (0, e)
listed_push (x ∷ xs) c d (suc k) e = elim (listed_push xs c d k e) [ inl r ↦ inl (suc r.0, r.1) | inr r ↦ inr r ]

push_listed : (xs : List Constraint) (c d : Constraint) (k : ℕ) → slice_get xs k ≡ Some d → Listed (xs ++ c ∷ []) d
push_listed [] c d k e = absurd (cc)
push_listed (x ∷ xs) c d zero e = (0, e)
push_listed (x ∷ xs) c d (suc k) e = let r = push_listed xs c d k e in (suc r.0, r.1)

push_last : (xs : List Constraint) (c : Constraint) → Listed (xs ++ c ∷ []) c
push_last [] c = (0, refl)
push_last (x ∷ xs) c = let r = push_last xs c in (suc r.0, r.1)

-- ---- the constraints that read the set of a node, among the first ones

pub record AreReadersOf (side : Side) (nodes : ℕ) (all : List Constraint) (i : ℕ) (lists : List (List Constraint)) : Type 0 where
  pub size : length lists ≡ nodes
  pub only : (node : ℕ) (c : Constraint) → Listed (get_or lists node []) c → (read_node side c ≡ Some node) × Listed all c
  pub each : (node k : ℕ) (c : Constraint) → k < i → slice_get all k ≡ Some c → read_node side c ≡ Some node → Listed (get_or lists node []) c

pub readers_none : (side : Side) (nodes : ℕ) (all : List Constraint) (lists : List (List Constraint)) → AreEmpty nodes lists → AreReadersOf side nodes all 0 lists
readers_none side nodes all lists empty = record {
  size = empty.size;
  only = λ node c l. absurd (nothing_listed c l.0 (ap (λ xs. slice_get xs l.0) (sym (empty.empty node)) ∙ l.1));
  each = λ node k c l e r. absurd (omega (arith, l));
}
  where
    nothing_listed : (c : Constraint) (k : ℕ) → slice_get [] k ≡ Some c → ⊥
    nothing_listed c k e = cc

not_none : (node : ℕ) → None ≡ Some node → ⊥
not_none node e = cc

same_node : (a b : ℕ) → Some a ≡ Some b → a ≡ b
same_node a b e = cc

pub readers_more : (side : Side) (nodes : ℕ) (all : List Constraint) (i : ℕ) (c : Constraint) (lists : List (List Constraint)) (o : Option ℕ) → o ≡ read_node side c → ((n : ℕ) → o ≡ Some n → n < nodes)
    → slice_get all i ≡ Some c → AreReadersOf side nodes all i lists → AreReadersOf side nodes all (i + 1) (entered o c lists)
readers_more side nodes all i c lists None is within at a = record {
  size = a.size;
  only = a.only;
  each = λ node k d l e r. elim (cases_lt k i) [
    | inl less ↦ a.each node k d less e r
    | inr more ↦
        let here : k ≡ i = omega arith in
        let same : d ≡ c = same_some d c (sym e ∙ ap (slice_get all) here ∙ at) in
        absurd (not_none node (is ∙ ap (read_node side) (sym same) ∙ r))
  ];
}
readers_more side nodes all i c lists (Some n) is within at a =
    let list = get_or lists n [] in
    let inside : n < length lists = omega (arith, within n refl, a.size) in
    let here : get_or (set lists n (list ++ c ∷ [])) n [] ≡ list ++ c ∷ [] = set_here lists n (list ++ c ∷ []) inside in
    record {
      size = length-set lists n (list ++ c ∷ []) ∙ a.size;
      only = λ node d l. elim (cases_eq node n) [
        | inl e ↦ elim (listed_push list c d l.0 (ap (λ xs. slice_get xs l.0) (sym here ∙ ap (λ j. get_or (set lists n (list ++ c ∷ [])) j []) (sym e)) ∙ l.1)) [
          | inl r ↦ a.only node d (r.0, ap (λ j. slice_get (get_or lists j []) r.0) e ∙ r.1)
          | inr r ↦ (ap (read_node side) r ∙ sym is ∙ ap Some (sym e), (i, at ∙ ap Some (sym r)))
        ]
        | inr ne ↦ a.only node d (l.0, ap (λ xs. slice_get xs l.0) (sym (set_there lists n node (list ++ c ∷ []) ne)) ∙ l.1)
      ];
      each = λ node k d l e r. elim (cases_eq node n) [
        | inl same ↦ elim (cases_lt k i) [
          | inl less ↦
              let old = a.each node k d less e r in
              let pushed = push_listed list c d old.0 (ap (λ j. slice_get (get_or lists j []) old.0) (sym same) ∙ old.1) in
              (pushed.0, ap (λ xs. slice_get xs pushed.0) (ap (λ j. get_or (set lists n (list ++ c ∷ [])) j []) same ∙ here) ∙ pushed.1)
          | inr more ↦
              let at_i : k ≡ i = omega arith in
              let is_c : c ≡ d = same_some c d (sym at ∙ ap (slice_get all) (sym at_i) ∙ e) in
              let last = push_last list c in
              (last.0, ap (λ xs. slice_get xs last.0) (ap (λ j. get_or (set lists n (list ++ c ∷ [])) j []) same ∙ here) ∙ last.1 ∙ ap Some is_c)
        ]
        | inr ne ↦ elim (cases_lt k i) [
          | inl less ↦ let old = a.each node k d less e r in (old.0, ap (λ xs. slice_get xs old.0) (set_there lists n node (list ++ c ∷ []) ne) ∙ old.1)
          | inr more ↦
              let at_i : k ≡ i = omega arith in
              let is_c : d ≡ c = same_some d c (sym e ∙ ap (slice_get all) at_i ∙ at) in
              absurd (ne (same_node node n (sym r ∙ ap (read_node side) is_c ∙ sym is)))
        ]
      ];
    }

pub readers_all : (side : Side) (nodes : ℕ) (all : List Constraint) (i : ℕ) (lists : List (List Constraint)) → length all ≤ i → AreReadersOf side nodes all i lists → AreReaders side nodes all lists
readers_all side nodes all i lists h a = record {
  size = a.size;
  only = a.only;
  each = λ node c l r. a.each node l.0 c (omega (arith, got_within all l.0 c l.1)) l.1 r;
}

-- ---- what it is to read a set

read_true : (b : Bool) (n node : ℕ) → cond b (Some n) None ≡ Some node → (b ≡ true) × (n ≡ node)
read_true true n node e = (refl, same_node n node e)
read_true false n node e = absurd (not_none node e)

pub target_read : (c : Constraint) (node : ℕ) → read_node sides.Target c ≡ Some node → (reads_target (rule_of c.rule) ≡ true) × (c.target ≡ node)
target_read c node e = read_true (reads_target (rule_of c.rule)) c.target node e

pub source_read : (c : Constraint) (node : ℕ) → read_node sides.Source c ≡ Some node → (reads_source (rule_of c.rule) ≡ true) × (c.source ≡ node)
source_read c node e = read_true (reads_source (rule_of c.rule)) c.source node e

pub target_reads : (c : Constraint) → reads_target (rule_of c.rule) ≡ true → read_node sides.Target c ≡ Some c.target
target_reads c e = ap (λ b. cond b (Some c.target) None) e

pub source_reads : (c : Constraint) → reads_source (rule_of c.rule) ≡ true → read_node sides.Source c ≡ Some c.source
source_reads c e = ap (λ b. cond b (Some c.source) None) e
