-- The colours are true of every run.
use Rattle.std.proofs.Common.{◌≡◌, ◌≢◌, ℕ, zero, suc, ◌+◌, ◌*◌, ◌<◌, true, false, ltb, leb, List, [], ◌∷◌, ◌++◌, map, Option, Some, None, refl, sym, ap, ◌∙◌, subst, inl, inr, arith, add-zero, zero-add}
use Rattle.std.specs.Prelude.{slice_get, ℤ, pos}
use Rattle.std.specs.Option.{option_map, option_map_or}
use Rattle.std.specs.List.{AllByRecursion}
use Rattle.std.proofs.lemmas.List.{append-nil}
use Rattle.std.proofs.lemmas.Bool.{cases_lt, lt-ltb, le-ltb, le-leb, lt-leb}
use lib.Signed.{le_z_yes}
use lib.Dec.{le→leb}
use Rattle.sv_base.specs.declared.colour.Colour.{Colour}
use Rattle.sv_base.specs.declared.colour.Colour.TheVariants as colours
use Rattle.first_form.specs.declared.program.Array.{Array}
use Rattle.first_form.specs.declared.program.Store.{Store}
use Rattle.first_form.specs.declared.program.Program.{Program}
use Rattle.first_form.specs.Objects.{Shape, Int, ArrayOf, size_of, Leaf, Value, Number, Pointer, Object, State, region_length, with_leaf, with_written, zeros, start}
use Rattle.first_form.specs.Runs.{Visit, IsInside, End, Finished, Outside, Left, Goes, Ends, Part, goes, after, next, then_do, dereference, written, put_objects, write, element, store, stores, calls, end_of, run}
use Rattle.report.specs.declared.line.Line.{Line}
use Rattle.survey.specs.Colours as c
use Rattle.survey.specs.Colours.{size_at, line_of, lines_from, lines_of}
use Rattle.survey.specs.Sound.{colour_at, GreenIsInside, RedEnds, EndsAwayFrom, IsTrueOf, IsSound}

-- ---- the shapes of the objects stay

abbrev shapes_of : List Object → List Shape
shapes_of objects = map (λ (o : Object). o.shape) objects

kept_by : (o : Object) (objects : List Object) (leaves : Option (List Leaf)) (new : List Object) → option_map (λ (ls : List Leaf). record { shape = o.shape; leaves = ls } ∷ objects) leaves ≡ Some new → shapes_of new ≡ shapes_of (o ∷ objects)
kept_by o objects None new e = absurd cc
kept_by o objects (Some ls) new e = ap shapes_of (let same : new ≡ record { shape = o.shape; leaves = ls } ∷ objects = cc in same)

kept_behind : (o : Object) (objects : List Object) (rest : Option (List Object)) (new : List Object) → ((more : List Object) → rest ≡ Some more → shapes_of more ≡ shapes_of objects) → option_map (λ (more : List Object). o ∷ more) rest ≡ Some new → shapes_of new ≡ shapes_of (o ∷ objects)
kept_behind o objects None new h e = absurd cc
kept_behind o objects (Some more) new h e = ap shapes_of (let same : new ≡ o ∷ more = cc in same) ∙ ap (λ (shapes : List Shape). o.shape ∷ shapes) (h more refl)

shapes_written : (objects : List Object) (n : ℕ) (offset : ℤ) (v : Value) (new : List Object) → with_written objects n offset v ≡ Some new → shapes_of new ≡ shapes_of objects
shapes_written [] n offset v new e = absurd cc
shapes_written (o ∷ objects) zero offset v new e = kept_by o objects (with_leaf offset v o.leaves) new e
shapes_written (o ∷ objects) (suc n) offset v new e = kept_behind o objects (with_written objects n offset v) new (λ more is. shapes_written objects n offset v more is) e

-- ---- parts of runs of which the colours are true

-- a part that goes on leaves these shapes
abbrev Keeps : {A : Type 0} → List Shape → Left A → Type 0
Keeps shapes (Goes a s) = shapes_of s.objects ≡ shapes
Keeps shapes (Ends e) = Unit {0}

-- the end of a part, where it has one
abbrev ending : {A : Type 0} → Left A → Option End
ending (Goes a s) = None
ending (Ends e) = Some e

abbrev IsOutside : Option End → ℕ → Type 0
IsOutside None site = ⊥
IsOutside (Some e) site = e ≡ Outside site

abbrev RedLast : (ℕ → Option Colour) → Option End → List Visit → Type 0
RedLast colour e [] = Unit {0}
RedLast colour e (v ∷ visits) = (colour v.site ≡ Some colours.Red → (visits ≡ []) × IsOutside e v.site) × RedLast colour e visits

abbrev EndsAway : (ℕ → Option Colour) → Option End → Type 0
EndsAway colour None = Unit {0}
EndsAway colour (Some e) = EndsAwayFrom colour colours.Unreachable e

abbrev Reached : (ℕ → Option Colour) → Visit → Type 0
Reached colour v = colour v.site ≢ Some colours.Unreachable

record Good {A : Type 0} (colour : ℕ → Option Colour) (shapes : List Shape) (visits : List Visit) (left : Left A) : Type 0 where
  pub green : AllByRecursion (GreenIsInside colour) visits
  pub red : RedLast colour (ending left) visits
  pub unreachable : AllByRecursion (Reached colour) visits
  pub away : EndsAway colour (ending left)
  pub kept : Keeps shapes left

abbrev GoodPart : {A : Type 0} → (ℕ → Option Colour) → List Shape → Part A → Type 0
GoodPart colour shapes p = Good colour shapes p.visits p.left

module _ (colour : ℕ → Option Colour) (shapes : List Shape) where
  all_joined : (P : Visit → Type 0) (xs ys : List Visit) → AllByRecursion P xs → AllByRecursion P ys → AllByRecursion P (xs ++ ys)
  all_joined P [] ys h k = k
  all_joined P (x ∷ xs) ys h k = (h.0, all_joined P xs ys h.1 k)

  -- behind visits of a part that goes on
  red_joined : (e : Option End) (xs ys : List Visit) → RedLast colour None xs → RedLast colour e ys → RedLast colour e (xs ++ ys)
  red_joined e [] ys h k = k
  red_joined e (x ∷ xs) ys h k = ((λ is. absurd (h.0 is).1), red_joined e xs ys h.1 k)

  red_same : (e : Option End) (xs : List Visit) → RedLast colour e xs → RedLast colour e (xs ++ [])
  red_same e xs h = subst (RedLast colour e) (sym (append-nil xs)) h

  then_good_by : {A B : Type 0} (visits : List Visit) (left : Left A) (f : A → State → Part B) → Good colour shapes visits left → ((a : A) (s : State) → shapes_of s.objects ≡ shapes → GoodPart colour shapes (f a s)) → GoodPart colour shapes (after visits (next left f))
  then_good_by visits (Goes a s) f h k =
      let more = k a s h.kept in
      record {
        green = all_joined (GreenIsInside colour) visits (f a s).visits h.green more.green;
        red = red_joined (ending (f a s).left) visits (f a s).visits h.red more.red;
        unreachable = all_joined (Reached colour) visits (f a s).visits h.unreachable more.unreachable;
        away = more.away;
        kept = more.kept;
      }
  then_good_by visits (Ends e) f h k = record {
    green = all_joined (GreenIsInside colour) visits [] h.green tt;
    red = red_same (Some e) visits h.red;
    unreachable = all_joined (Reached colour) visits [] h.unreachable tt;
    away = h.away;
    kept = tt;
  }

  then_good : {A B : Type 0} (p : Part A) (f : A → State → Part B) → GoodPart colour shapes p → ((a : A) (s : State) → shapes_of s.objects ≡ shapes → GoodPart colour shapes (f a s)) → GoodPart colour shapes (then_do p f)
  then_good p f h k = then_good_by p.visits p.left f h k

  goes_good : {A : Type 0} (a : A) (s : State) → shapes_of s.objects ≡ shapes → GoodPart colour shapes (goes a s)
  goes_good a s h = record { green = tt; red = tt; unreachable = tt; away = tt; kept = h }

  -- ---- a store

  written_good : (s : State) (objects : Option (List Object)) → ((new : List Object) → objects ≡ Some new → shapes_of new ≡ shapes) → GoodPart colour shapes (written (put_objects s objects))
  written_good s None h = record { green = tt; red = tt; unreachable = tt; away = tt; kept = tt }
  written_good s (Some new) h = goes_good tt _ (h new refl)

  write_good : (place v : Value) (s : State) → shapes_of s.objects ≡ shapes → GoodPart colour shapes (write place v s)
  write_good (Pointer object offset) v s h = written_good s (with_written s.objects object offset v) (λ new e. shapes_written s.objects object offset v new e ∙ h)
  write_good (Number i) v s h = record { green = tt; red = tt; unreachable = tt; away = tt; kept = tt }

  -- an access at a green site, which lies inside
  green_good : (v : Visit) (place : Value) (s : State) → colour v.site ≡ Some colours.Green → IsInside v → shapes_of s.objects ≡ shapes → Good colour shapes (v ∷ []) (Goes place s)
  green_good v place s is inside h = record {
    green = ((λ e. inside), tt);
    red = ((λ e. absurd (let bad : Some colours.Green ≡ Some colours.Red = sym is ∙ e in cc)), tt);
    unreachable = ((λ e. let bad : Some colours.Green ≡ Some colours.Unreachable = sym is ∙ e in cc), tt);
    away = tt;
    kept = h;
  }

  -- an access at a red site, which ends the run
  red_good : (v : Visit) → colour v.site ≡ Some colours.Red → Good {A = Value} colour shapes (v ∷ []) (Ends (Outside v.site))
  red_good v is = record {
    green = ((λ e. absurd (let bad : Some colours.Red ≡ Some colours.Green = sym is ∙ e in cc)), tt);
    red = ((λ e. (refl, refl)), tt);
    unreachable = ((λ e. let bad : Some colours.Red ≡ Some colours.Unreachable = sym is ∙ e in cc), tt);
    away = tt;
    kept = tt;
  }

  -- ---- all stores

  at_first : (site : ℕ) (l : Line) (lines : List Line) → ((i : ℕ) → colour (site + i) ≡ colour_at (l ∷ lines) i) → colour site ≡ Some l.colour
  at_first site l lines h = subst (λ (k : ℕ). colour k ≡ Some l.colour) (add-zero site) (h 0)

  at_rest : (site : ℕ) (l : Line) (lines : List Line) → ((i : ℕ) → colour (site + i) ≡ colour_at (l ∷ lines) i) → (i : ℕ) → colour (suc site + i) ≡ colour_at lines i
  at_rest site l lines h i = subst (λ (k : ℕ). colour k ≡ colour_at lines i) (let e : site + suc i ≡ suc site + i = omega arith in e) (h (suc i))

abbrev array_shape : Array → Shape
array_shape a = ArrayOf a.size Int

shapes_at_start : (arrays : List Array) → shapes_of (map zeros arrays) ≡ map array_shape arrays
shapes_at_start [] = refl
shapes_at_start (a ∷ arrays) = ap (λ (shapes : List Shape). ArrayOf a.size Int ∷ shapes) (shapes_at_start arrays)

shape_at : (objects : List Object) (n : ℕ) → option_map (λ (o : Object). o.shape) (slice_get objects n) ≡ slice_get (shapes_of objects) n
shape_at [] n = refl
shape_at (o ∷ objects) zero = refl
shape_at (o ∷ objects) (suc n) = shape_at objects n

size_is : (arrays : List Array) (n : ℕ) → option_map_or size_of (slice_get (map array_shape arrays) n) 0 ≡ size_at arrays n * 4
size_is [] n = refl
size_is (a ∷ arrays) zero = refl
size_is (a ∷ arrays) (suc n) = size_is arrays n

region_is : (arrays : List Array) (s : State) (n : ℕ) → shapes_of s.objects ≡ map array_shape arrays → region_length s n ≡ size_at arrays n * 4
region_is arrays s n h =
    ap (λ (o : Option Shape). option_map_or size_of o 0) (shape_at s.objects n) ∙ ap (λ (shapes : List Shape). option_map_or size_of (slice_get shapes n) 0) h ∙ size_is arrays n

-- the access of an `int` is inside exactly where the subscript is below the size
inside_is : (subscript size : ℕ) → leb (subscript * 4 + 4) (size * 4) ≡ ltb subscript size
inside_is subscript size =
    elim (cases_lt subscript size) [
      | inl lt ↦ le-leb _ _ (omega arith) ∙ sym (lt-ltb _ _ lt)
      | inr le ↦ lt-leb _ _ (omega arith) ∙ sym (le-ltb _ _ le)
    ]

inside_fact : (site subscript size : ℕ) → subscript < size → IsInside (record { site = site; length = size * 4; offset = pos (subscript * 4); width = 4 })
inside_fact site subscript size lt = record {
  low = le_z_yes (le→leb 0 (subscript * 4) (omega arith));
  high = le_z_yes (le→leb (subscript * 4 + 4) (size * 4) (omega arith));
}

module _ (colour : ℕ → Option Colour) (name : List ℕ) (arrays : List Array) where
  stores_good : (sts : List Store) (site : ℕ) (s : State) → shapes_of s.objects ≡ map array_shape arrays → ((i : ℕ) → colour (site + i) ≡ colour_at (lines_from name arrays sts) i) → GoodPart colour (map array_shape arrays) (stores site sts s)
  stores_good [] site s h lines = goes_good colour (map array_shape arrays) tt s h
  stores_good (st ∷ sts) site s h lines =
      let size = size_at arrays st.array in
      let length_is : region_length s st.array ≡ size * 4 = region_is arrays s st.array h in
      let low : leb 0 (st.subscript * 4) ≡ true = le-leb _ _ (omega arith) in
      elim (cases_lt st.subscript size) [
        | inl lt ↦ (
            let test : leb (st.subscript * 4 + 4) (size * 4) ≡ true = inside_is st.subscript size ∙ lt-ltb _ _ lt in
            let is_green : c.is_inside arrays st ≡ true = lt-ltb _ _ lt in
            let lines' : (i : ℕ) → colour (site + i) ≡ colour_at (line_of name st colours.Green ∷ lines_from name arrays sts) i = λ i. rw is_green at (lines i) in
            let is : colour site ≡ Some colours.Green = at_first colour (map array_shape arrays) site _ _ lines' in
            let accessed : GoodPart colour (map array_shape arrays) (dereference site (element st.array st.subscript) (size_of Int) s) =
            (rw (length_is, low, test) (green_good colour (map array_shape arrays) (record { site = site; length = size * 4; offset = pos (st.subscript * 4); width = 4 }) (Pointer st.array (pos (st.subscript * 4))) s is (inside_fact site st.subscript size lt) h)) in
            let stored : GoodPart colour (map array_shape arrays) (store site st s) =
            then_good colour (map array_shape arrays) (dereference site (element st.array st.subscript) (size_of Int) s) (λ place s. write place (Number (pos st.value)) s) accessed (λ place s' h'. write_good colour (map array_shape arrays) place (Number (pos st.value)) s' h') in
            then_good colour (map array_shape arrays) (store site st s) (λ _ s. stores (suc site) sts s) stored (λ _ s' h'. stores_good sts (suc site) s' h' (at_rest colour (map array_shape arrays) site _ _ lines')))
        | inr le ↦ (
            let test : leb (st.subscript * 4 + 4) (size * 4) ≡ false = inside_is st.subscript size ∙ le-ltb _ _ le in
            let is_red : c.is_inside arrays st ≡ false = le-ltb _ _ le in
            let lines' : (i : ℕ) → colour (site + i) ≡ colour_at (line_of name st colours.Red ∷ map (λ t. line_of name t colours.Unreachable) sts) i = λ i. rw is_red at (lines i) in
            let is : colour site ≡ Some colours.Red = at_first colour (map array_shape arrays) site _ _ lines' in
            let red = red_good colour (map array_shape arrays) (record { site = site; length = size * 4; offset = pos (st.subscript * 4); width = 4 }) is in
            rw (length_is, low, test) (record { green = red.green; red = red.red; unreachable = red.unreachable; away = red.away; kept = red.kept }))
      ]

  calls_good : (p : Program) → p.arrays ≡ arrays → ((i : ℕ) → colour i ≡ colour_at (lines_from name arrays p.stores) i) → (n : ℕ) (s : State) → shapes_of s.objects ≡ map array_shape arrays → GoodPart colour (map array_shape arrays) (calls p n s)
  calls_good p is lines zero s h = goes_good colour (map array_shape arrays) tt s h
  calls_good p is lines (suc n) s h =
      then_good colour (map array_shape arrays) (stores 0 p.stores s) (λ _ s. calls p n s) (stores_good p.stores 0 s h (λ i. ap colour (zero-add i) ∙ lines i)) (λ _ s' h'. calls_good p is lines n s' h')

-- ---- whole runs

red_goes : (colour : ℕ → Option Colour) (visits : List Visit) → RedLast colour None visits → RedEnds colour Finished visits
red_goes colour [] h = tt
red_goes colour (v ∷ visits) h = ((λ e. absurd (h.0 e).1), red_goes colour visits h.1)

red_ends : (colour : ℕ → Option Colour) (e : End) (visits : List Visit) → RedLast colour (Some e) visits → RedEnds colour e visits
red_ends colour e [] h = tt
red_ends colour e (v ∷ visits) h = (h.0, red_ends colour e visits h.1)

true_of_good : {A : Type 0} (colour : ℕ → Option Colour) (shapes : List Shape) (visits : List Visit) (left : Left A) → Good colour shapes visits left → IsTrueOf colour (record { visits = visits; end = end_of left })
true_of_good colour shapes visits (Goes a s) h = record { green = h.green; red = red_goes colour visits h.red; unreachable = h.unreachable; unreached = tt }
true_of_good colour shapes visits (Ends e) h = record { green = h.green; red = red_ends colour e visits h.red; unreachable = h.unreachable; unreached = h.away }

pub sound : (name : List ℕ) (p : Program) → IsSound p (lines_of name p)
unfolding run
sound name p count bound words =
    true_of_good (colour_at (lines_of name p)) (map array_shape p.arrays) (calls p count (start p words)).visits (calls p count (start p words)).left
    (calls_good (colour_at (lines_of name p)) name p.arrays p refl (λ i. refl) count (start p words) (shapes_at_start p.arrays))
