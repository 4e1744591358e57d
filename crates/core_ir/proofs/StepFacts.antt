-- A view that fits has facts that fit each step of its function.
use Rattle.std.proofs.Common.{◌≡◌, ℕ, zero, suc, Bool, true, List, [], ◌∷◌, ◌++◌, map, filter_map, flat_map, Option, Some, None, slice_get, subst}
use Rattle.std.specs.List.{AllByRecursion, cons_option}
use Rattle.std.proofs.lemmas.Option.{none-some}
use Rattle.core_ir.specs.Classes.{copied_by}
use Rattle.core_ir.specs.Lists.{has}
use Rattle.core_ir.specs.Programs.{PlainFunction, PlainProgram, PlainRegion}
use Rattle.core_ir.specs.Starts.{begun_by}
use Rattle.core_ir.specs.Steps.{PlainStep, in_order}
use Rattle.core_ir.specs.Views.{PlainClass, PlainView}
use Rattle.core_ir.specs.ViewsFit.{called_by, region_classes, IsRegion, PartsFit, classes_at, addresses_of, ViewFits, FactsFit, facts_in}

module _ {A : Type 0} (P : A → Type 0) where
  all_left : (xs ys : List A) → AllByRecursion P (xs ++ ys) → AllByRecursion P xs
  all_left [] ys h = tt
  all_left (x ∷ xs) ys h = (h.0, all_left xs ys h.1)

  all_right : (xs ys : List A) → AllByRecursion P (xs ++ ys) → AllByRecursion P ys
  all_right [] ys h = h
  all_right (x ∷ xs) ys h = all_right xs ys h.1

  all_joined : (xs ys : List A) → AllByRecursion P xs → AllByRecursion P ys → AllByRecursion P (xs ++ ys)
  all_joined [] ys h k = k
  all_joined (x ∷ xs) ys h k = (h.0, all_joined xs ys h.1 k)

  all_weaker : (Q : A → Type 0) → ((x : A) → P x → Q x) → (xs : List A) → AllByRecursion P xs → AllByRecursion Q xs
  all_weaker Q f [] h = tt
  all_weaker Q f (x ∷ xs) h = (f x h.0, all_weaker Q f xs h.1)

module _ {B : Type 0} (P : B → Type 0) where
  some_left : (o : Option B) (rest : List B) → AllByRecursion P (cons_option o rest) → AllByRecursion P (cons_option o [])
  some_left None rest h = tt
  some_left (Some y) rest h = (h.0, tt)

  some_right : (o : Option B) (rest : List B) → AllByRecursion P (cons_option o rest) → AllByRecursion P rest
  some_right None rest h = h
  some_right (Some y) rest h = h.1

module _ {A B : Type 0} (P : B → Type 0) where
  -- what holds of all that a list gives, holds of what one of its items gives
  all_of_one : (g : A → List B) (xs : List A) (k : ℕ) (x : A) → slice_get xs k ≡ Some x → AllByRecursion P (flat_map g xs) → AllByRecursion P (flat_map g (x ∷ []))
  all_of_one g [] k x e h = absurd (none-some x e)
  all_of_one g (y ∷ xs) zero x e h = all_joined P (g x) [] (subst (λ z. AllByRecursion P (g z)) (in_some y x e) (all_left P (g y) (flat_map g xs) h)) tt
    where
      in_some : (a b : A) → Some a ≡ Some b → a ≡ b
      in_some a b same = cc
  all_of_one g (y ∷ xs) (suc k) x e h = all_of_one g xs k x e (all_right P (g y) (flat_map g xs) h)

  all_of_some : (g : A → Option B) (xs : List A) (k : ℕ) (x : A) → slice_get xs k ≡ Some x → AllByRecursion P (filter_map g xs) → AllByRecursion P (filter_map g (x ∷ []))
  all_of_some g [] k x e h = absurd (none-some x e)
  all_of_some g (y ∷ xs) zero x e h = subst (λ z. AllByRecursion P (cons_option (g z) [])) (in_some y x e) (some_left P (g y) (filter_map g xs) h)
    where
      in_some : (a b : A) → Some a ≡ Some b → a ≡ b
      in_some a b same = cc
  all_of_some g (y ∷ xs) (suc k) x e h = all_of_some g xs k x e (some_right P (g y) (filter_map g xs) h)

-- ---- classes

region_of_step : (p : PlainProgram) (steps : List PlainStep) (k : ℕ) (step : PlainStep) → slice_get steps k ≡ Some step → (part : PlainClass) (region : Option PlainRegion) → IsRegion p (filter_map copied_by steps) part region → IsRegion p (filter_map copied_by (step ∷ [])) part region
region_of_step p steps k step e part None h = h
region_of_step p steps k step e part (Some region) h = record { length_is = h.length_is; leaves = h.leaves; layouts = all_of_some _ copied_by steps k step e h.layouts }

module _ (P : ℕ → Type 0) where
  at_register : (sets : List (List ℕ)) (r : ℕ) → AllByRecursion P (flat_map region_classes sets) → AllByRecursion P (classes_at sets r)
  at_register [] r h = tt
  at_register (set ∷ sets) zero h = all_left P (region_classes set) (flat_map region_classes sets) h
  at_register (set ∷ sets) (suc r) h = at_register sets r (all_right P (region_classes set) (flat_map region_classes sets) h)

  at_registers : (sets : List (List ℕ)) (rs : List ℕ) → AllByRecursion P (flat_map region_classes sets) → AllByRecursion P (flat_map (classes_at sets) rs)
  at_registers sets [] h = tt
  at_registers sets (r ∷ rs) h = all_joined P (classes_at sets r) (flat_map (classes_at sets) rs) (at_register sets r h) (at_registers sets rs h)

-- ---- a view

parts_of_step : (p : PlainProgram) (f : PlainFunction) (view : PlainView) (k : ℕ) (step : PlainStep) → slice_get (in_order f.body) k ≡ Some step → PartsFit p f (in_order f.body) view.sets view.callees view.leaves view.classes → PartsFit p f (step ∷ []) view.sets view.callees view.leaves view.classes
parts_of_step p f view k step e h = record {
  sets_fit = h.sets_fit;
  callee_order = h.callee_order;
  callees_fit = h.callees_fit;
  callees_there = all_of_one _ (called_by p view.sets) (in_order f.body) k step e h.callees_there;
  leaves_fit = h.leaves_fit;
  class_order = h.class_order;
  classes_fit = all_weaker _ _ (λ part. region_of_step p (in_order f.body) k step e part (slice_get p.classes.regions part.class)) view.classes h.classes_fit;
}

pub view_has_facts : (p : PlainProgram) (f : PlainFunction) (view : PlainView) (rising : Bool) (k : ℕ) (step : PlainStep) → slice_get (in_order f.body) k ≡ Some step → ViewFits p f view → FactsFit p f step (facts_in view rising)
view_has_facts p f view rising k step e h =
    let There : ℕ → Type 0 = λ class. has (map (λ part. part.class) view.classes) class ≡ true in
    let of_sets = all_left There (flat_map region_classes view.sets) (filter_map begun_by (in_order f.body)) h.classes_there in
    let of_objects = all_right There (flat_map region_classes view.sets) (filter_map begun_by (in_order f.body)) h.classes_there in
    record {
      parts = parts_of_step p f view k step e h.parts;
      classes_there = all_joined There (flat_map (classes_at view.sets) (addresses_of step)) (filter_map begun_by (step ∷ [])) (at_registers There view.sets (addresses_of step) of_sets) (all_of_some There begun_by (in_order f.body) k step e of_objects);
    }
