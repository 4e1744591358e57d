-- Names that are added one after another, each at the end, and their numbers.
use Rattle.std.proofs.Common.{◌≡◌, ◌≢◌, ℕ, ◌+◌, ◌<◌, Bool, true, false, ◌||◌, not, cond, List, [], ◌∷◌, ◌++◌, length, get_or, take, drop, map, refl, sym, ap, ◌∙◌, inl, inr}
use denote.Ref.{Bor}
use Rattle.std.specs.Prelude.{position, AllPairs}
use Rattle.std.specs.List.{list_any, prefix_len, AllByRecursion, IsDistinct}
use Rattle.std.proofs.lemmas.Map.Made.{AllPairs-from_IsDistinct, IsDistinct-from_AllPairs}
use Rattle.std.specs.Str.{bytes_eq}
use Rattle.std.proofs.lemmas.Bool.{cases_Bool, or_cases, or_left, or_right, not-true, not_from_false, and_parts, and_left, and_right, false≢true}
use Rattle.std.proofs.lemmas.List.{length-map, map-append, take_more, drop_more, take-append-drop}
use Rattle.std.proofs.lemmas.Slice.Eq.{bytes_eq-Decides}
use Rattle.first_form.specs.declared.program.Array.{Array}
use Rattle.first_form.specs.Form.{names}
use Rattle.first_form.specs.computed.Reading.{are_distinct}

pub list_any-map : {A B : Type 0} (p : B → Bool) (f : A → B) (xs : List A) → list_any p (map f xs) ≡ list_any (λ x. p (f x)) xs
list_any-map p f [] = refl
list_any-map p f (x ∷ xs) = ap (λ (b : Bool). p (f x) || b) (list_any-map p f xs)

prefix_len-map : {A B : Type 0} (p : B → Bool) (f : A → B) (xs : List A) → prefix_len p (map f xs) ≡ prefix_len (λ x. p (f x)) xs
prefix_len-map p f [] = refl
prefix_len-map p f (x ∷ xs) = ap (λ (n : ℕ). cond (p (f x)) (1 + n) 0) (prefix_len-map p f xs)

pub position-map : {A B : Type 0} (p : B → Bool) (f : A → B) (xs : List A) → position p (map f xs) ≡ position (λ x. p (f x)) xs
position-map p f xs = rw (prefix_len-map (λ y. not (p y)) f xs, length-map xs f) refl

-- the texts of the keys
abbrev pub texts_of : List (Bor (List ℕ)) → List (List ℕ)
texts_of keys = map (λ (key : Bor (List ℕ)). key.now) keys

abbrev pub has_key : List (Bor (List ℕ)) → List ℕ → Bool
has_key keys name = list_any (λ (key : Bor (List ℕ)). bytes_eq name key.now) keys

has_text : (keys : List (Bor (List ℕ))) (name : List ℕ) → list_any (bytes_eq name) (texts_of keys) ≡ has_key keys name
has_text keys name = list_any-map (bytes_eq name) (λ (key : Bor (List ℕ)). key.now) keys

pub is_new_name : (keys : List (Bor (List ℕ))) (name : List ℕ) (is_new : Bool) → is_new ≡ not (has_key keys name) → is_new ≡ true → list_any (bytes_eq name) (texts_of keys) ≡ false
is_new_name keys name is_new added new = has_text keys name ∙ not-true _ (sym added ∙ new)

pub is_known_name : (keys : List (Bor (List ℕ))) (name : List ℕ) (is_new : Bool) → is_new ≡ not (has_key keys name) → is_new ≡ false → list_any (bytes_eq name) (texts_of keys) ≡ true
is_known_name keys name is_new added known = has_text keys name ∙ elim (cases_Bool (has_key keys name)) [
  | inl has ↦ has
  | inr lacks ↦ absurd (false≢true (sym known ∙ added ∙ not_from_false _ lacks))
]

-- ---- that no name stands twice

same_text : (x y : List ℕ) → bytes_eq x y ≡ true → bytes_eq y x ≡ true
same_text x y e = (bytes_eq-Decides y x).1 (sym ((bytes_eq-Decides x y).0 e))

neither : (a b : Bool) → (a || b) ≡ false → (a ≡ false) × (b ≡ false)
neither true b e = absurd (false≢true (sym e))
neither false b e = (refl, e)

any_front : (p : List ℕ → Bool) (xs ys : List (List ℕ)) → list_any p xs ≡ true → list_any p (xs ++ ys) ≡ true
any_front p [] ys e = absurd (false≢true e)
any_front p (x ∷ xs) ys e = elim (or_cases (p x) (list_any p xs) e) [
  | inl here ↦ or_left (p x) (list_any p (xs ++ ys)) here
  | inr there ↦ or_right (p x) (list_any p (xs ++ ys)) (any_front p xs ys there)
]

any_behind : (p : List ℕ → Bool) (xs : List (List ℕ)) (y : List ℕ) (ys : List (List ℕ)) → p y ≡ true → list_any p (xs ++ y ∷ ys) ≡ true
any_behind p [] y ys e = or_left (p y) (list_any p ys) e
any_behind p (x ∷ xs) y ys e = or_right (p x) (list_any p (xs ++ y ∷ ys)) (any_behind p xs y ys e)

-- a name that stands before it already
pub known_twice : (xs : List (List ℕ)) (y : List ℕ) (ys : List (List ℕ)) → list_any (bytes_eq y) xs ≡ true → are_distinct (xs ++ y ∷ ys) ≡ false
known_twice [] y ys e = absurd (false≢true e)
known_twice (x ∷ xs) y ys e = elim (or_cases (bytes_eq y x) (list_any (bytes_eq y) xs) e) [
  | inl here ↦ and_left (not (list_any (bytes_eq x) (xs ++ y ∷ ys))) (are_distinct (xs ++ y ∷ ys)) (ap not (any_behind (bytes_eq x) xs y ys (same_text y x here)))
  | inr there ↦ and_right (not (list_any (bytes_eq x) (xs ++ y ∷ ys))) (are_distinct (xs ++ y ∷ ys)) (known_twice xs y ys there)
]

none_more : (p : List ℕ → Bool) (xs : List (List ℕ)) (y : List ℕ) → list_any p xs ≡ false → p y ≡ false → list_any p (xs ++ y ∷ []) ≡ false
none_more p [] y e f = rw f refl
none_more p (x ∷ xs) y e f = let n = neither (p x) (list_any p xs) e in rw (n.0, none_more p xs y n.1 f) refl

other_text : (x y : List ℕ) → bytes_eq y x ≡ false → bytes_eq x y ≡ false
other_text x y e = elim (cases_Bool (bytes_eq x y)) [ inl same ↦ absurd (false≢true (sym e ∙ same_text x y same)) | inr other ↦ other ]

-- a name that is new
pub new_distinct : (xs : List (List ℕ)) (y : List ℕ) → are_distinct xs ≡ true → list_any (bytes_eq y) xs ≡ false → are_distinct (xs ++ y ∷ []) ≡ true
new_distinct [] y e f = refl
new_distinct (x ∷ xs) y e f =
    let parts = and_parts (not (list_any (bytes_eq x) xs)) (are_distinct xs) e in
    let n = neither (bytes_eq y x) (list_any (bytes_eq y) xs) f in
    rw (none_more (bytes_eq x) xs y (not-true _ parts.0) (other_text x y n.0), new_distinct xs y parts.1 n.1) refl

-- ---- the names of arrays, one after another

module _ (arrays : List Array) (i : ℕ) (array : Array) (lt : i < length arrays) (is : array ≡ get_or arrays i array) where
  pub one_name_more : names (take (i + 1) arrays) ≡ names (take i arrays) ++ array.name ∷ []
  one_name_more =
      ap names (take_more arrays i array lt) ∙ map-append (λ (a : Array). a.name) (take i arrays) (get_or arrays i array ∷ [])
      ∙ ap (λ (a : Array). names (take i arrays) ++ a.name ∷ []) (sym is)

  name_here : names arrays ≡ names (take i arrays) ++ array.name ∷ names (drop (i + 1) arrays)
  name_here =
      ap names (sym (take-append-drop i arrays)) ∙ map-append (λ (a : Array). a.name) (take i arrays) (drop i arrays)
      ∙ ap (λ (as_left : List Array). names (take i arrays) ++ names as_left) (drop_more arrays i array lt)
      ∙ ap (λ (a : Array). names (take i arrays) ++ a.name ∷ names (drop (i + 1) arrays)) (sym is)

  pub twice : list_any (bytes_eq array.name) (names (take i arrays)) ≡ true → are_distinct (names arrays) ≡ false
  twice known = ap are_distinct name_here ∙ known_twice (names (take i arrays)) array.name (names (drop (i + 1) arrays)) known

-- ---- by pairs

none_is : (x : List ℕ) (xs : List (List ℕ)) → list_any (bytes_eq x) xs ≡ false → AllByRecursion (λ y. bytes_eq x y ≡ false) xs
none_is x [] e = tt
none_is x (y ∷ ys) e = let n = neither (bytes_eq x y) (list_any (bytes_eq x) ys) e in (n.0, none_is x ys n.1)

is_none : (x : List ℕ) (xs : List (List ℕ)) → AllByRecursion (λ y. bytes_eq x y ≡ false) xs → list_any (bytes_eq x) xs ≡ false
is_none x [] all = refl
is_none x (y ∷ ys) all = rw (all.0, is_none x ys all.1) refl

distinct_is : (xs : List (List ℕ)) → are_distinct xs ≡ true → IsDistinct bytes_eq xs
unfolding IsDistinct
distinct_is [] e = tt
distinct_is (x ∷ xs) e =
    let parts = and_parts (not (list_any (bytes_eq x) xs)) (are_distinct xs) e in
    (none_is x xs (not-true _ parts.0), distinct_is xs parts.1)

is_distinct : (xs : List (List ℕ)) → IsDistinct bytes_eq xs → are_distinct xs ≡ true
unfolding IsDistinct
is_distinct [] h = refl
is_distinct (x ∷ xs) h = rw (is_none x xs h.0, is_distinct xs h.1) refl

pub distinct_pairs : (xs : List (List ℕ)) → are_distinct xs ≡ true → AllPairs (λ x y. x ≢ y) xs
distinct_pairs xs e = AllPairs-from_IsDistinct bytes_eq-Decides xs (distinct_is xs e)

pub pairs_distinct : (xs : List (List ℕ)) → AllPairs (λ x y. x ≢ y) xs → are_distinct xs ≡ true
pairs_distinct xs h = is_distinct xs (IsDistinct-from_AllPairs bytes_eq-Decides xs h)
