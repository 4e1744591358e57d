-- What fits a program meets the demands.
use Rattle.std.proofs.Common.{◌≡◌, ℕ, zero, suc, ◌+◌, ◌*◌, ◌^◌, ◌<◌, ◌≤◌, Bool, true, false, cond, not, ◌&&◌, ◌||◌, ◌==◌, T, eqb, nat_le, nat_lt, int_le, ℤ, pos, neg_ℤ, List, [], ◌∷◌, ◌++◌, length, map, filter, find, flat_map, sum, count_by, option_map, Option, Some, None, slice_get, refl, sym, ap, subst, ◌∙◌, arith}
use Rattle.std.specs.List.{AllByRecursion, list_all, list_any, concat}
use Rattle.std.proofs.lemmas.Bool.{and_from, lt-ltb, ltb-true, le-leb, eq-eqb, eqb-true}
use Rattle.std.proofs.lemmas.List.{length-map, length-append}
use Rattle.std.proofs.lemmas.List.Sums.{length-filter, count_by-le-length, sum_by-cons}
use Rattle.std.proofs.lemmas.Option.{none-some, slice_get_within}
use Rattle.core_ir.specs.declared.artifacts.WritePart.{WritePart}
use Rattle.core_ir.specs.declared.steps.Leaf.{Leaf}
use Rattle.core_ir.specs.BoundsFit.{BoundsFit, BoundWithin, AllBoundsFit, SomeBoundsFit, ClusterFits, ClustersFit, first_of, has_items, register_range, ranges_of, is_entry, is_result}
use Rattle.core_ir.specs.Classes.{scalars_in, leaves_in}
use Rattle.core_ir.specs.Lists.{IsAscending}
use Rattle.core_ir.specs.Plain.{PlainArtifact, PlainBounds, PlainCall}
use Rattle.core_ir.specs.Programs.{PlainFunction, PlainProgram}
use Rattle.core_ir.specs.ProgramsFit.{ProgramFits}
use Rattle.core_ir.specs.Ranges.{Range, within}
use Rattle.core_ir.specs.Shapes.{PlainShape}
use Rattle.core_ir.specs.Views.{PlainCallee, PlainView}
use Rattle.core_ir.specs.ViewsFit.{CalleePartFits, CalleePartFitsBy, CallPartFits, EntryFits, DefinedFits, IsDefined, clusters_in, IsInterval, IntervalsFit, leaf_of_class, ArtifactFits, ViewFits}
use Rattle.artifact_codec.specs.Demands.{ascend, ascend_from, are_distinct, is_short, is_cluster, are_clusters, is_bound, is_entry as is_bound_or_none, is_matrix, are_matrices, is_state, is_call, are_calls, is_write, are_writes, is_summary}

held : (b : Bool) → T b → b ≡ true
held true h = refl
held false h = absurd h

-- ---- lists that ascend

module _ {A : Type 0} (key : A → ℕ) where
  ascends_after : (x : A) (xs : List A) → IsAscending (map key (x ∷ xs)) → ascend_from (λ a b. nat_lt (key a) (key b)) (Some x) xs ≡ true
  ascends_after x [] h = refl
  ascends_after x (y ∷ ys) h = and_from (nat_lt (key x) (key y)) (ascend_from (λ a b. nat_lt (key a) (key b)) (Some y) ys) (lt-ltb (key x) (key y) h.0.0) (ascends_after y ys h.1)

  ascends : (xs : List A) → IsAscending (map key xs) → ascend (λ a b. nat_lt (key a) (key b)) xs ≡ true
  ascends [] h = refl
  ascends (x ∷ xs) h = ascends_after x xs h

numbers_ascend_after : (x : ℕ) (xs : List ℕ) → IsAscending (x ∷ xs) → ascend_from nat_lt (Some x) xs ≡ true
numbers_ascend_after x [] h = refl
numbers_ascend_after x (y ∷ ys) h = and_from (nat_lt x y) (ascend_from nat_lt (Some y) ys) (lt-ltb x y h.0.0) (numbers_ascend_after y ys h.1)

numbers_ascend : (xs : List ℕ) → IsAscending xs → ascend nat_lt xs ≡ true
numbers_ascend [] h = refl
numbers_ascend (x ∷ xs) h = numbers_ascend_after x xs h

-- an ascending list of numbers below n has n members at most
room_after : (n x : ℕ) (xs : List ℕ) → IsAscending (x ∷ xs) → AllByRecursion (λ y. y < n) (x ∷ xs) → suc x + length xs ≤ n
room_after n x [] h low = omega (arith, low.0)
room_after n x (y ∷ ys) h low = omega (arith, h.0.0, room_after n y ys h.1 low.1)

room : (n : ℕ) (xs : List ℕ) → IsAscending xs → AllByRecursion (λ y. y < n) xs → length xs ≤ n
room n [] h low = omega arith
room n (x ∷ xs) h low = omega (arith, room_after n x xs h low)

short : {A : Type 0} (xs : List A) → length xs < 2 ^ 32 → is_short xs ≡ true
short xs h = lt-ltb (length xs) (2 ^ 32) h

-- ---- matrices

bounds_meet : (entries : List (Option ℤ)) → AllByRecursion (BoundWithin (within (pos (2 ^ 81)))) entries → list_all is_bound_or_none entries ≡ true
bounds_meet [] h = refl
bounds_meet (None ∷ rest) h = bounds_meet rest h.1
bounds_meet (Some z ∷ rest) h =
    let low = held (int_le (neg_ℤ (pos (2 ^ 81))) z) h.0.low.le in
    let high = held (int_le z (pos (2 ^ 81))) h.0.high.le in
    and_from (is_bound z) (list_all is_bound_or_none rest) (and_from (int_le (neg_ℤ (pos (2 ^ 81))) z) (int_le z (pos (2 ^ 81))) low high) (bounds_meet rest h.1)

-- from 1 to 16 variables
abbrev IsSized : List Range → Type 0
IsSized ranges = (1 ≤ length ranges) × (length ranges ≤ 16)

matrix_meets : (ranges : List Range) (b : PlainBounds) → IsSized ranges → BoundsFit ranges b → is_matrix b ≡ true
matrix_meets ranges b sized h =
    let some = le-leb 1 b.size (omega (arith, h.size, sized.0)) in
    let few = le-leb b.size 16 (omega (arith, h.size, sized.1)) in
    let counted = eq-eqb (length b.entries) (b.size * (b.size + 1)) h.entries in
    let size = and_from (nat_le 1 b.size) (nat_le b.size 16) some few in
    and_from (nat_le 1 b.size && nat_le b.size 16 && (length b.entries == b.size * (b.size + 1))) (list_all is_bound_or_none b.entries) (and_from (nat_le 1 b.size && nat_le b.size 16) (length b.entries == b.size * (b.size + 1)) size counted) (bounds_meet b.entries h.magnitudes)

record Meet (ranges : List (List Range)) (bs : List PlainBounds) : Type 0 where
  count : length bs ≡ length ranges
  each : list_all is_matrix bs ≡ true

matrices_meet : (ranges : List (List Range)) (bs : List PlainBounds) → AllByRecursion IsSized ranges → AllBoundsFit ranges bs → Meet ranges bs
matrices_meet [] [] sized h = record { count = refl; each = refl }
matrices_meet [] (b ∷ bs) sized h = absurd h
matrices_meet (r ∷ rs) [] sized h = absurd h
matrices_meet (r ∷ rs) (b ∷ bs) sized h =
    let rest = matrices_meet rs bs sized.1 h.1 in
    record { count = ap suc rest.count; each = and_from (is_matrix b) (list_all is_matrix bs) (matrix_meets r b sized.0 h.0) rest.each }

-- ---- clusters

record AreSized (clusters : List (List ℕ)) (ranges : List (List Range)) : Type 0 where
  few : length ranges ≤ length clusters
  each : AllByRecursion IsSized ranges

module _ (n : ℕ) (f : PlainFunction) (test : ℕ → Bool) where
  sized_if : (c : List ℕ) (cs : List (List ℕ)) → ClusterFits n c → AreSized cs (ranges_of f test cs) → (b : Bool) → has_items (filter test c) ≡ b → AreSized (c ∷ cs) (map (map (register_range f)) (cond b (filter test c ∷ filter has_items (map (filter test) cs)) (filter has_items (map (filter test) cs))))
  sized_if c cs h rest true e =
      let long = length-map (filter test c) (register_range f) in
      let some = ltb-true 0 (length (filter test c)) e in
      let few = count_by-le-length test c in
      record { few = omega (arith, rest.few); each = ((omega (arith, long, some), omega (arith, long, length-filter test c, few, h.size)), rest.each) }
  sized_if c cs h rest false e = record { few = omega (arith, rest.few); each = rest.each }

  sized : (cs : List (List ℕ)) → AllByRecursion (ClusterFits n) cs → AreSized cs (ranges_of f test cs)
  sized [] h = record { few = omega arith; each = tt }
  sized (c ∷ cs) h = sized_if c cs h.0 (sized cs h.1) (has_items (filter test c)) refl

module _ (n : ℕ) where
  firsts_below : (cs : List (List ℕ)) → AllByRecursion (ClusterFits n) cs → AllByRecursion (λ x. x < n) (map first_of cs)
  firsts_below [] h = tt
  firsts_below ([] ∷ cs) h = absurd (omega (arith, h.0.some))
  firsts_below ((x ∷ xs) ∷ cs) h = (h.0.registers_below.0, firsts_below cs h.1)

  clusters_counted : (cs : List (List ℕ)) → ClustersFit n cs → length cs ≤ n
  clusters_counted cs h = omega (arith, room n (map first_of cs) h.order (firsts_below cs h.each), length-map cs first_of)

  -- matrices of a function, over those of its registers that pass a test
  matrices_of : (f : PlainFunction) (test : ℕ → Bool) (cs : List (List ℕ)) (bs : List PlainBounds) → n < 2 ^ 32 → ClustersFit n cs → AllBoundsFit (ranges_of f test cs) bs → are_matrices bs ≡ true
  matrices_of f test cs bs small h fits =
      let ranges = sized n f test cs h.each in
      let meet = matrices_meet (ranges_of f test cs) bs ranges.each fits in
      and_from (is_short bs) (list_all is_matrix bs) (short bs (omega (arith, meet.count, ranges.few, clusters_counted cs h, small))) meet.each

  state_of : (f : PlainFunction) (test : ℕ → Bool) (cs : List (List ℕ)) (state : Option (List PlainBounds)) → n < 2 ^ 32 → ClustersFit n cs → SomeBoundsFit (ranges_of f test cs) state → is_state state ≡ true
  state_of f test cs None small h fits = refl
  state_of f test cs (Some bs) small h fits = matrices_of f test cs bs small h fits

-- ---- a program

registers_small : (fs : List PlainFunction) (i : ℕ) (f : PlainFunction) → slice_get fs i ≡ Some f → length f.registers ≤ sum (map (λ f. length f.registers) fs)
registers_small [] i f e = absurd (none-some f e)
registers_small (g ∷ gs) zero f e = subst (λ h. length h.registers ≤ sum (map (λ f. length f.registers) (g ∷ gs))) (in_some g f e) (omega (arith, sum_by-cons (λ n. n) (length g.registers) (map (λ f. length f.registers) gs)))
  where
    in_some : (a b : PlainFunction) → Some a ≡ Some b → a ≡ b
    in_some a b same = cc
registers_small (g ∷ gs) (suc i) f e = omega (arith, registers_small gs i f e, sum_by-cons (λ n. n) (length g.registers) (map (λ f. length f.registers) gs))

leaves_counted : (objects : List PlainShape) → length (flat_map leaves_in objects) ≡ length (flat_map scalars_in objects)
leaves_counted [] = refl
leaves_counted (o ∷ os) =
    length-append (leaves_in o) (flat_map leaves_in os) ∙ (ap (λ k. k + length (flat_map leaves_in os)) (length-map (scalars_in o) (λ x. x.0)) ∙ (ap (λ k. length (scalars_in o) + k) (leaves_counted os) ∙ sym (length-append (scalars_in o) (flat_map scalars_in os))))

module _ (p : PlainProgram) (fits : ProgramFits p) where
  leaves_small : length p.classes.leaves < 2 ^ 32
  leaves_small =
      let same : length p.classes.leaves ≡ length (map (λ x. x.1) (flat_map scalars_in p.objects)) = ap (λ c. length c.leaves) fits.classes in
      omega (arith, fits.node_room, same, length-map (flat_map scalars_in p.objects) (λ x. x.1), leaves_counted p.objects)

  function_small : (i : ℕ) (f : PlainFunction) → slice_get p.functions i ≡ Some f → length f.registers < 2 ^ 32
  function_small i f e = omega (arith, fits.node_room, registers_small p.functions i f e)

  -- ---- contributions to callees

  record HasPart (callees : List PlainCallee) (callee : ℕ) (clusters : List (List ℕ)) : Type 0 where
    part : PlainCallee
    fits_it : CalleePartFits p part
    callee_is : part.callee ≡ callee
    clusters_are : part.clusters ≡ clusters

  part_if : (c : PlainCallee) (cs : List PlainCallee) (callee : ℕ) (clusters : List (List ℕ)) → CalleePartFits p c → (clusters_in cs callee ≡ Some clusters → HasPart cs callee clusters) → (b : Bool) → eqb c.callee callee ≡ b → option_map (λ part. part.clusters) (cond b (Some c) (find (λ part. part.callee == callee) cs)) ≡ Some clusters → HasPart (c ∷ cs) callee clusters
  part_if c cs callee clusters h later true t e = record { part = c; fits_it = h; callee_is = eqb-true c.callee callee t; clusters_are = in_some c.clusters clusters e }
    where
      in_some : (a b : List (List ℕ)) → Some a ≡ Some b → a ≡ b
      in_some a b same = cc
  part_if c cs callee clusters h later false t e =
      let found = later e in
      record { part = found.part; fits_it = found.fits_it; callee_is = found.callee_is; clusters_are = found.clusters_are }

  part_of : (callees : List PlainCallee) (callee : ℕ) (clusters : List (List ℕ)) → AllByRecursion (CalleePartFits p) callees → clusters_in callees callee ≡ Some clusters → HasPart callees callee clusters
  part_of [] callee clusters h e = absurd (none-some clusters e)
  part_of (c ∷ cs) callee clusters h e = part_if c cs callee clusters h.0 (part_of cs callee clusters h.1) (c.callee == callee) refl e

  defined : (part : PlainCallee) (g : PlainFunction) → slice_get p.functions part.callee ≡ Some g → CalleePartFits p part → DefinedFits part g
  defined part g e h =
      let known = lt-ltb part.callee (length p.functions) (slice_get_within p.functions part.callee g e) in
      let is : IsDefined part (slice_get p.functions part.callee) = subst (CalleePartFitsBy p part) known h in
      subst (IsDefined part) e is

  clusters_known : (callees : List PlainCallee) (callee : ℕ) (g : PlainFunction) (clusters : List (List ℕ)) → AllByRecursion (CalleePartFits p) callees → slice_get p.functions callee ≡ Some g → clusters_in callees callee ≡ Some clusters → ClustersFit (length g.registers) clusters
  clusters_known callees callee g clusters h e c =
      let found = part_of callees callee clusters h c in
      subst (ClustersFit (length g.registers)) found.clusters_are (defined found.part g (ap (slice_get p.functions) found.callee_is ∙ e) found.fits_it).clusters

  record CallMeets (call : PlainCall) : Type 0 where
    known : call.callee < length p.functions
    entry : are_matrices call.entry ≡ true

  module _ (callees : List PlainCallee) (parts : AllByRecursion (CalleePartFits p) callees) where
    call_meets : (call : PlainCall) (g : Option PlainFunction) (clusters : Option (List (List ℕ))) → slice_get p.functions call.callee ≡ g → clusters_in callees call.callee ≡ clusters → EntryFits g clusters call → CallMeets call
    call_meets call None clusters e c h = absurd h
    call_meets call (Some g) None e c h = absurd h
    call_meets call (Some g) (Some clusters) e c h = record {
      known = slice_get_within p.functions call.callee g e;
      entry = matrices_of (length g.registers) g (is_entry g) clusters call.entry (function_small call.callee g e) (clusters_known callees call.callee g clusters parts e c) h;
    }

    calls_known : (calls : List PlainCall) → AllByRecursion (CallPartFits p callees) calls → AllByRecursion (λ k. k < length p.functions) (map (λ call. call.callee) calls)
    calls_known [] h = tt
    calls_known (x ∷ xs) h = ((call_meets x _ _ refl refl h.0).known, calls_known xs h.1)

    calls_meet : (calls : List PlainCall) → AllByRecursion (CallPartFits p callees) calls → list_all is_call calls ≡ true
    calls_meet [] h = refl
    calls_meet (x ∷ xs) h = and_from (is_call x) (list_all is_call xs) (call_meets x _ _ refl refl h.0).entry (calls_meet xs h.1)

    all_calls_meet : (calls : List PlainCall) → IsAscending (map (λ call. call.callee) calls) → AllByRecursion (CallPartFits p callees) calls → are_calls calls ≡ true
    all_calls_meet calls order h =
        let few = room (length p.functions) (map (λ call. call.callee) calls) order (calls_known calls h) in
        let is_few = short calls (omega (arith, few, length-map calls (λ call. call.callee), fits.function_room)) in
        and_from (is_short calls && list_all is_call calls) (ascend (λ a b. nat_lt a.callee b.callee) calls) (and_from (is_short calls) (list_all is_call calls) is_few (calls_meet calls h)) (ascends (λ call. call.callee) calls order)

  -- ---- contributions to leaf classes

  record WriteMeets (w : WritePart) : Type 0 where
    known : w.class < length p.classes.leaves
    ends : is_write w ≡ true

  write_meets : (w : WritePart) (leaf : Option Leaf) → leaf_of_class p w.class ≡ leaf → IsInterval w leaf → WriteMeets w
  write_meets w None e h = absurd h
  write_meets w (Some leaf) e h = record { known = slice_get_within p.classes.leaves w.class leaf e; ends = held (int_le w.low w.high) h.ends.le }

  writes_known : (writes : List WritePart) → AllByRecursion (λ w. IsInterval w (leaf_of_class p w.class)) writes → AllByRecursion (λ k. k < length p.classes.leaves) (map (λ w. w.class) writes)
  writes_known [] h = tt
  writes_known (w ∷ ws) h = ((write_meets w _ refl h.0).known, writes_known ws h.1)

  writes_meet : (writes : List WritePart) → AllByRecursion (λ w. IsInterval w (leaf_of_class p w.class)) writes → list_all is_write writes ≡ true
  writes_meet [] h = refl
  writes_meet (w ∷ ws) h = and_from (is_write w) (list_all is_write ws) (write_meets w _ refl h.0).ends (writes_meet ws h.1)

  all_writes_meet : (writes : List WritePart) → IntervalsFit p writes → are_writes writes ≡ true
  all_writes_meet writes h =
      let few = room (length p.classes.leaves) (map (λ w. w.class) writes) h.order (writes_known writes h.each) in
      let is_few = short writes (omega (arith, few, length-map writes (λ w. w.class), leaves_small)) in
      and_from (is_short writes && list_all is_write writes) (ascend (λ a b. nat_lt a.class b.class) writes) (and_from (is_short writes) (list_all is_write writes) is_few (writes_meet writes h.each)) (ascends (λ w. w.class) writes h.order)

  -- ---- artifacts

  pub artifact_meets : (i : ℕ) (f : PlainFunction) (view : PlainView) (a : PlainArtifact) → slice_get p.functions i ≡ Some f → ViewFits p f view → ArtifactFits p f view a → is_summary a ≡ true
  artifact_meets i f view a e v h =
      let small = function_small i f e in
      let context = state_of (length f.registers) f (is_entry f) view.clusters a.context small v.clusters h.context in
      let result = state_of (length f.registers) f (λ r. is_entry f r || is_result f.result r) view.clusters a.result small v.clusters h.result in
      let calls = all_calls_meet view.callees v.parts.callees_fit a.calls h.contributions.order h.contributions.each in
      let writes = all_writes_meet a.writes h.contributions.writes_fit in
      and_from (is_state a.context && is_state a.result && are_calls a.calls) (are_writes a.writes) (and_from (is_state a.context && is_state a.result) (are_calls a.calls) (and_from (is_state a.context) (is_state a.result) context result) calls) writes

-- ---- clusters alone

flat : (cs : List (List ℕ)) → flat_map (λ c. c) cs ≡ concat cs
flat [] = refl
flat (c ∷ cs) = ap (λ rest. c ++ rest) (flat cs)

none_if : (test : ℕ → Bool) (xs : List ℕ) → (count_by test xs ≡ 0 → list_any test xs ≡ false) → (b : Bool) → cond b 1 0 + count_by test xs ≡ 0 → (b || list_any test xs) ≡ false
none_if test xs later true e = absurd (omega (arith, e))
none_if test xs later false e = later (omega (arith, e))

is_none : (test : ℕ → Bool) (xs : List ℕ) → count_by test xs ≡ 0 → list_any test xs ≡ false
is_none test [] h = refl
is_none test (x ∷ xs) h = none_if test xs (is_none test xs) (test x) (sym (sum_by-cons (λ y. cond (test y) 1 0) x xs) ∙ h)

negated : (b : Bool) → b ≡ false → not b ≡ true
negated true h = absurd cc
negated false h = refl

module _ (n : ℕ) where
  distinct : (xs : List ℕ) → AllByRecursion (λ r. r < n) xs → ((r : ℕ) → r < n → count_by (λ q. eqb q r) xs ≤ 1) → are_distinct xs ≡ true
  distinct [] low once = refl
  distinct (x ∷ xs) low once =
      let here : count_by (λ q. eqb q x) (x ∷ xs) ≡ 1 + count_by (λ q. eqb q x) xs = sum_by-cons (λ q. cond (eqb q x) 1 0) x xs ∙ ap (λ b. cond b 1 0 + count_by (λ q. eqb q x) xs) (eq-eqb x x refl) in
      let none : count_by (λ q. eqb q x) xs ≡ 0 = omega (arith, once x low.0, here) in
      let later : (r : ℕ) → r < n → count_by (λ q. eqb q r) xs ≤ 1 = λ r below. omega (arith, once r below, sum_by-cons (λ q. cond (eqb q r) 1 0) x xs) in
      and_from (not (list_any (λ m. m == x) xs)) (are_distinct xs) (negated (list_any (λ m. m == x) xs) (is_none (λ m. m == x) xs none)) (distinct xs low.1 later)

  joined_below : (xs ys : List ℕ) → AllByRecursion (λ r. r < n) xs → AllByRecursion (λ r. r < n) ys → AllByRecursion (λ r. r < n) (xs ++ ys)
  joined_below [] ys low rest = rest
  joined_below (x ∷ xs) ys low rest = (low.0, joined_below xs ys low.1 rest)

  all_below : (cs : List (List ℕ)) → AllByRecursion (ClusterFits n) cs → AllByRecursion (λ r. r < n) (concat cs)
  all_below [] h = tt
  all_below (c ∷ cs) h = joined_below c (concat cs) h.0.registers_below (all_below cs h.1)

  each_meets : (cs : List (List ℕ)) → AllByRecursion (ClusterFits n) cs → list_all is_cluster cs ≡ true
  each_meets [] h = refl
  each_meets (c ∷ cs) h =
      let size = and_from (nat_le 1 (length c)) (nat_le (length c) 16) (le-leb 1 (length c) h.0.some) (le-leb (length c) 16 h.0.size) in
      and_from (is_cluster c) (list_all is_cluster cs) (and_from (nat_le 1 (length c) && nat_le (length c) 16) (ascend nat_lt c) size (numbers_ascend c h.0.ascending)) (each_meets cs h.1)

  pub clusters_meet : (cs : List (List ℕ)) → n < 2 ^ 32 → ClustersFit n cs → are_clusters cs ≡ true
  clusters_meet cs small h =
      let few = short cs (omega (arith, small, clusters_counted n cs h)) in
      let order = ascends first_of cs h.order in
      let once : (r : ℕ) → r < n → count_by (λ q. eqb q r) (concat cs) ≤ 1 = λ r below. omega (arith, h.once r below, ap (count_by (λ q. eqb q r)) (flat cs)) in
      let in_order : List ℕ → List ℕ → Bool = λ a b. nat_lt (first_of a) (first_of b) in
      and_from (is_short cs && list_all is_cluster cs && ascend in_order cs) (are_distinct (concat cs)) (and_from (is_short cs && list_all is_cluster cs) (ascend in_order cs) (and_from (is_short cs) (list_all is_cluster cs) few (each_meets cs h.each)) order) (distinct (concat cs) (all_below cs h.each) once)
