-- An object that stands in a list is an object of the program.
use Rattle.std.proofs.Common.{◌≡◌, ℕ, zero, suc, Bool, true, false, ◌||◌, List, [], ◌∷◌, map, Option, Some, slice_get, option_to_list, eqb, refl, sym, ap, ◌∙◌, true≢false}
use Rattle.std.specs.List.{list_any}
use Rattle.std.proofs.lemmas.Bool.{eq-eqb}
use Rattle.std.proofs.lemmas.Option.{none-some}
use Rattle.core_ir.specs.declared.shapes.Shape.{Shape}
use Rattle.core_ir.specs.declared.shapes.ShapeForm as f
use Rattle.core_ir.specs.declared.shapes.ShapeForm.{ShapeForm}
use Rattle.core_ir.specs.Lists.{has}
use Rattle.core_ir.specs.Programs.{object_of, program_of}
use Rattle.core_ir.specs.Shapes.{region_of, shape_of, is_whole_region}
use Rattle.core_ir.specs.StepsFit.{IsObject}
use Rattle.core_ir.specs.declared.program.CoreProgram.{CoreProgram}

region_kept : (layout : ℕ) (region : Option ℕ) (form : ShapeForm) → region_of (shape_of layout region form) ≡ region
region_kept layout region (f.Scalar leaf class) = refl
region_kept layout region (f.Array' count stride p l r form) = refl
region_kept layout region (f.Members' rival n row) = refl

or_left : (a b : Bool) → a ≡ true → (a || b) ≡ true
or_left true b e = refl
or_left false b e = absurd (true≢false (sym e))

or_right : (a b : Bool) → b ≡ true → (a || b) ≡ true
or_right true b e = refl
or_right false b e = e

in_some : {A : Type 0} (x y : A) → Some x ≡ Some y → x ≡ y
in_some x y e = cc

is_whole : (class : ℕ) (x : Shape) → x.region ≡ Some class → is_whole_region class (object_of x) ≡ true
is_whole class x e =
    ap (λ r. has (option_to_list r) class) (region_kept x.layout x.region x.form ∙ e) ∙ or_left (eqb class class) (has [] class) (eq-eqb class class refl)

found : (xs : List Shape) (n class : ℕ) (x : Shape) → slice_get xs n ≡ Some x → x.region ≡ Some class → list_any (is_whole_region class) (map object_of xs) ≡ true
found [] n class x e h = absurd (none-some x e)
found (y ∷ ys) zero class x e h = or_left (is_whole_region class (object_of y)) (list_any (is_whole_region class) (map object_of ys)) (is_whole class y (ap (λ z. z.region) (in_some y x e) ∙ h))
found (y ∷ ys) (suc n) class x e h = or_right (is_whole_region class (object_of y)) (list_any (is_whole_region class) (map object_of ys)) (found ys n class x e h)

pub object_found : (p : CoreProgram) (n class : ℕ) (x : Shape) → slice_get p.objects.items n ≡ Some x → x.region ≡ Some class → IsObject (program_of p) class
object_found p n class x e h = found p.objects.items n class x e h
