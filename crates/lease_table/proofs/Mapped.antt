-- A loop that replaces each element by a function of it.
use Rattle.std.proofs.Common.{◌≡◌, ℕ, zero, suc, ◌+◌, ◌<◌, List, [], ◌∷◌, length, get_or, set, take, drop, map, refl, sym, ◌∙◌, ap, arith}
use Rattle.std.proofs.lemmas.List.{take_more, take_more_set, get_or-drop, map-append, drop-set-lt}

same_there : {A : Type 0} (xs ys : List A) (i : ℕ) (d : A) → drop i xs ≡ drop i ys → get_or xs i d ≡ get_or ys i d
same_there xs ys i d same =
    let left : get_or (drop i xs) 0 d ≡ get_or xs (i + 0) d = get_or-drop i xs 0 d in
    let right : get_or (drop i ys) 0 d ≡ get_or ys (i + 0) d = get_or-drop i ys 0 d in
    let here : i + 0 ≡ i = omega arith in
    rw here at (sym left ∙ ap (λ zs. get_or zs 0 d) same ∙ right)

pub map_more : {A : Type 0} (f : A → A) (xs ys : List A) (i : ℕ) (d : A) → i < length xs → i < length ys → take i xs ≡ map f (take i ys) → drop i xs ≡ drop i ys → take (i + 1) (set xs i (f (get_or xs i d))) ≡ map f (take (i + 1) ys)
map_more f xs ys i d in_xs in_ys done left =
    let there = same_there xs ys i d left in
    rw (take_more_set xs i (f (get_or xs i d)) in_xs, take_more ys i d in_ys, map-append f (take i ys) (get_or ys i d ∷ []), done, there) refl

-- what is left after one more element is the tail of what was left
tail_of : {A : Type 0} (i : ℕ) (xs : List A) → drop (i + 1) xs ≡ drop 1 (drop i xs)
tail_of zero xs = refl
tail_of (suc i) [] =
    let next : suc i + 1 ≡ suc (i + 1) = omega arith in
    rw next refl
tail_of (suc i) (x ∷ xs) =
    let next : suc i + 1 ≡ suc (i + 1) = omega arith in
    rw next (tail_of i xs)

pub drop_more : {A : Type 0} (xs ys : List A) (i : ℕ) (y : A) → drop i xs ≡ drop i ys → drop (i + 1) (set xs i y) ≡ drop (i + 1) ys
drop_more xs ys i y left =
    drop-set-lt (i + 1) xs i y (omega arith) ∙ tail_of i xs ∙ ap (drop 1) left ∙ sym (tail_of i ys)
