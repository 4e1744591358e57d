-- Objects, values and states of a running program. So far an object is an array of `int`, and a pointer's region is
-- its whole object.
use Rattle.std.specs.Prelude.{ℕ, ◌*◌, zero, suc, if◌then◌else◌, List, [], ◌∷◌, map, slice_get, Option, Some, None, ℤ, pos}
use Rattle.std.specs.Option.{option_map, option_map_or}
use Rattle.std.specs.Ordering.{int_eq}
use Rattle.std.specs.List.{range_with_len}
use Rattle.first_form.specs.declared.program.Array.{Array}
use Rattle.first_form.specs.declared.program.Program.{Program}

-- ISO/IEC 9899:1999, 6.2.5: an object type, as a tree of elements
pub data Shape : Type 0 where
  Int : Shape
  ArrayOf : (count : ℕ) → (element : Shape) → Shape

-- 6.5.3.4: in bytes, where an `int` has four
abbrev pub size_of : Shape → ℕ
size_of Int = 4
size_of (ArrayOf count element) = count * size_of element

-- an integer, or a pointer to a byte of an object, counted from its start
pub data Value : Type 0 where
  Number : ℤ → Value
  Pointer : (object : ℕ) → (offset : ℤ) → Value

-- a scalar of an object: the byte at which it starts, and what it holds; nothing where that is indeterminate (3.17.2)
pub record Leaf : Type 0 where
  pub start : ℕ
  pub holds : Option Value

pub record Object : Type 0 where
  pub shape : Shape
  pub leaves : List Leaf

-- the live objects, and the words that were not yet drawn
pub record State : Type 0 where
  pub objects : List Object
  pub words : List ℤ

-- the bytes of an object's region; 0 where there is no such object
abbrev pub region_length : State → ℕ → ℕ
region_length s object = option_map_or size_of (option_map (λ (o : Object). o.shape) (slice_get s.objects object)) 0

-- the first leaf that starts at the offset holds the value; nothing where none starts there
abbrev pub with_leaf : ℤ → Value → List Leaf → Option (List Leaf)
with_leaf offset v [] = None
with_leaf offset v (l ∷ leaves) =
    if int_eq (pos l.start) offset then Some (record { start = l.start; holds = Some v } ∷ leaves) else option_map (λ rest. l ∷ rest) (with_leaf offset v leaves)

-- the same of the object of this number
abbrev pub with_written : List Object → ℕ → ℤ → Value → Option (List Object)
with_written [] n offset v = None
with_written (o ∷ objects) zero offset v = option_map (λ leaves. record { shape = o.shape; leaves = leaves } ∷ objects) (with_leaf offset v o.leaves)
with_written (o ∷ objects) (suc n) offset v = option_map (λ rest. o ∷ rest) (with_written objects n offset v)

-- 6.7.8: an object of static duration without an initialiser, here an array, is zero
abbrev pub zeros : Array → Object
zeros a = record {
  shape = ArrayOf a.size Int;
  leaves = map (λ i. record { start = i * size_of Int; holds = Some (Number (pos 0)) }) (range_with_len 0 a.size);
}

-- the state before `main` is called for the first time
abbrev pub start : Program → List ℤ → State
start p words = record { objects = map zeros p.arrays; words = words }
