-- Lists of blocks that grow.
use Rattle.std.proofs.Common.{◌≡◌, ℕ, zero, suc, ◌+◌, ◌^◌, ◌<◌, ◌≤◌, Bool, true, false, not, ◌&&◌, ◌||◌, List, [], ◌∷◌, ◌++◌, length, get_or, set, take, drop, refl, sym, ap, ◌∙◌, subst, ◌⊎◌, inl, inr, arith}
use Rattle.std.specs.List.{insert}
use Rattle.std.proofs.lemmas.Bool.{cases_eq}
use Rattle.std.proofs.lemmas.List.{append_assoc, append-nil, drop_more, drop_all, take_more, length-map, get_or-map, map-append, map-set, set-get_or, take-map, drop-map, take-append-drop}
use Rattle.points_to.specs.declared.block.Block.{Block}
use Rattle.points_to.specs.Sets.{AllBelow, IsAscending}
use Rattle.points_to.specs.computed.Blocks.{block_has, blocks_have, indexes, AreBlocks, IsMerged}
use Rattle.points_to.proofs.Logic.{or_assoc, or_false}
use Rattle.points_to.proofs.Ascending.{below_without, ascending_without, below_with, ascending_with, ascending_insert, below_insert, at_below}
use Rattle.points_to.proofs.Members.{have_append, index_order}

are : (blocks : List Block) (numbers : List ℕ) → indexes blocks ≡ numbers → IsAscending numbers → AllBelow (2 ^ 26) numbers → AreBlocks blocks
are blocks numbers e up low = record { ascending = rw e up; within = rw e low }

-- the indexes of blocks between others
middle : (out : List Block) (x : Block) (xs : List Block) → indexes (out ++ x ∷ xs) ≡ indexes out ++ x.index ∷ indexes xs
middle out x xs = map-append (λ (b : Block). b.index) out (x ∷ xs)

two : (out : List Block) (x y : Block) (xs : List Block) → indexes ((out ++ x ∷ []) ++ y ∷ xs) ≡ indexes out ++ x.index ∷ y.index ∷ indexes xs
two out x y xs = ap indexes (append_assoc out (x ∷ []) (y ∷ xs)) ∙ middle out x (y ∷ xs)

pub take_same : (out : List Block) (x : Block) (xs : List Block) → AreBlocks (out ++ x ∷ xs) → AreBlocks ((out ++ x ∷ []) ++ xs)
take_same out x xs a = rw append_assoc a

pub take_like : (out : List Block) (x z : Block) (xs : List Block) → z.index ≡ x.index → AreBlocks (out ++ x ∷ xs) → AreBlocks ((out ++ z ∷ []) ++ xs)
take_like out x z xs e a =
    let same : indexes ((out ++ z ∷ []) ++ xs) ≡ indexes (out ++ x ∷ xs) =
    ap indexes (append_assoc out (z ∷ []) xs) ∙ middle out z xs ∙ ap (λ i. indexes out ++ i ∷ indexes xs) e ∙ sym (middle out x xs) in
    are ((out ++ z ∷ []) ++ xs) (indexes (out ++ x ∷ xs)) same a.ascending a.within

pub take_lesser : (out : List Block) (x y : Block) (xs ys : List Block) → x.index < y.index → AreBlocks (out ++ x ∷ xs) → AreBlocks (out ++ y ∷ ys) → AreBlocks ((out ++ x ∷ []) ++ y ∷ ys)
take_lesser out x y xs ys h a b =
    let a1 : IsAscending (indexes out ++ x.index ∷ indexes xs) = subst IsAscending (middle out x xs) a.ascending in
    let b1 : IsAscending (indexes out ++ y.index ∷ indexes ys) = subst IsAscending (middle out y ys) b.ascending in
    let a2 : AllBelow (2 ^ 26) (indexes out ++ x.index ∷ indexes xs) = subst (AllBelow (2 ^ 26)) (middle out x xs) a.within in
    let b2 : AllBelow (2 ^ 26) (indexes out ++ y.index ∷ indexes ys) = subst (AllBelow (2 ^ 26)) (middle out y ys) b.within in
    are ((out ++ x ∷ []) ++ y ∷ ys) (indexes out ++ x.index ∷ y.index ∷ indexes ys) (two out x y ys)
    (ascending_with (indexes out) x.index y.index (indexes xs) (indexes ys) h a1 b1)
    (below_with (2 ^ 26) (indexes out) x.index y.index (indexes xs) (indexes ys) a2 b2)

pub take_none : (out : List Block) (x : Block) (xs : List Block) → AreBlocks (out ++ x ∷ xs) → AreBlocks (out ++ xs)
take_none out x xs a =
    are (out ++ xs) (indexes out ++ indexes xs) (map-append (λ (b : Block). b.index) out xs)
    (ascending_without (indexes out) x.index (indexes xs) (subst IsAscending (middle out x xs) a.ascending))
    (below_without (2 ^ 26) (indexes out) x.index (indexes xs) (subst (AllBelow (2 ^ 26)) (middle out x xs) a.within))

-- ---- merging

left_step : (o x a b : Bool) → ((o || (x || false)) || (a || b)) ≡ (o || ((x || a) || b))
left_step true x a b = refl
left_step false true a b = refl
left_step false false a b = refl

right_step : (o y a b : Bool) → ((o || (y || false)) || (a || b)) ≡ (o || (a || (y || b)))
right_step true y a b = refl
right_step false true true b = refl
right_step false true false b = refl
right_step false false a b = refl

both_step : (o x y a b : Bool) → ((o || ((x || y) || false)) || (a || b)) ≡ (o || ((x || a) || (y || b)))
both_step true x y a b = refl
both_step false true y a b = refl
both_step false false true true b = refl
both_step false false true false b = refl
both_step false false false a b = refl

module _ (left right out : List Block) (i j : ℕ) (d : Block) (m : IsMerged left right i j out) (p : i < length left) (q : j < length right) where
  e : drop i left ≡ get_or left i d ∷ drop (i + 1) left
  e = drop_more left i d p

  f : drop j right ≡ get_or right j d ∷ drop (j + 1) right
  f = drop_more right j d q

  left_split : AreBlocks (out ++ get_or left i d ∷ drop (i + 1) left)
  left_split = subst (λ rest. AreBlocks (out ++ rest)) e m.left_order

  right_split : AreBlocks (out ++ get_or right j d ∷ drop (j + 1) right)
  right_split = subst (λ rest. AreBlocks (out ++ rest)) f m.right_order

  numbers_split : (n : ℕ) → (blocks_have out n || ((block_has (get_or left i d) n || blocks_have (drop (i + 1) left) n) || (block_has (get_or right j d) n || blocks_have (drop (j + 1) right) n))) ≡ (blocks_have left n || blocks_have right n)
  numbers_split n =
      ap (λ rest. blocks_have out n || (blocks_have rest n || (block_has (get_or right j d) n || blocks_have (drop (j + 1) right) n))) (sym e)
      ∙ ap (λ rest. blocks_have out n || (blocks_have (drop i left) n || blocks_have rest n)) (sym f) ∙ m.numbers n

  pub merged_left : (get_or left i d).index < (get_or right j d).index → IsMerged left right (i + 1) j (out ++ get_or left i d ∷ [])
  merged_left h = record {
    left_place = omega arith;
    right_place = m.right_place;
    left_order = take_same out (get_or left i d) (drop (i + 1) left) left_split;
    right_order = subst (λ rest. AreBlocks ((out ++ get_or left i d ∷ []) ++ rest)) (sym f) (take_lesser out (get_or left i d) (get_or right j d) (drop (i + 1) left) (drop (j + 1) right) h left_split right_split);
    numbers = λ n.
        ap (λ s. s || (blocks_have (drop (i + 1) left) n || blocks_have (drop j right) n)) (have_append out (get_or left i d ∷ []) n)
        ∙ ap (λ rest. (blocks_have out n || (block_has (get_or left i d) n || false)) || (blocks_have (drop (i + 1) left) n || blocks_have rest n)) f
        ∙ left_step (blocks_have out n) (block_has (get_or left i d) n) (blocks_have (drop (i + 1) left) n) (block_has (get_or right j d) n || blocks_have (drop (j + 1) right) n)
        ∙ numbers_split n;
  }

  pub merged_right : (get_or right j d).index < (get_or left i d).index → IsMerged left right i (j + 1) (out ++ get_or right j d ∷ [])
  merged_right h = record {
    left_place = m.left_place;
    right_place = omega arith;
    left_order = subst (λ rest. AreBlocks ((out ++ get_or right j d ∷ []) ++ rest)) (sym e) (take_lesser out (get_or right j d) (get_or left i d) (drop (j + 1) right) (drop (i + 1) left) h right_split left_split);
    right_order = take_same out (get_or right j d) (drop (j + 1) right) right_split;
    numbers = λ n.
        ap (λ s. s || (blocks_have (drop i left) n || blocks_have (drop (j + 1) right) n)) (have_append out (get_or right j d ∷ []) n)
        ∙ ap (λ rest. (blocks_have out n || (block_has (get_or right j d) n || false)) || (blocks_have rest n || blocks_have (drop (j + 1) right) n)) e
        ∙ right_step (blocks_have out n) (block_has (get_or right j d) n) (block_has (get_or left i d) n || blocks_have (drop (i + 1) left) n) (blocks_have (drop (j + 1) right) n)
        ∙ numbers_split n;
  }

  pub merged_both : (z : Block) → z.index ≡ (get_or left i d).index → z.index ≡ (get_or right j d).index
      → ((n : ℕ) → block_has z n ≡ (block_has (get_or left i d) n || block_has (get_or right j d) n)) → IsMerged left right (i + 1) (j + 1) (out ++ z ∷ [])
  merged_both z s t both = record {
    left_place = omega arith;
    right_place = omega arith;
    left_order = take_like out (get_or left i d) z (drop (i + 1) left) s left_split;
    right_order = take_like out (get_or right j d) z (drop (j + 1) right) t right_split;
    numbers = λ n.
        ap (λ v. v || (blocks_have (drop (i + 1) left) n || blocks_have (drop (j + 1) right) n)) (have_append out (z ∷ []) n)
        ∙ ap (λ v. (blocks_have out n || (v || false)) || (blocks_have (drop (i + 1) left) n || blocks_have (drop (j + 1) right) n)) (both n)
        ∙ both_step (blocks_have out n) (block_has (get_or left i d) n) (block_has (get_or right j d) n) (blocks_have (drop (i + 1) left) n) (blocks_have (drop (j + 1) right) n)
        ∙ numbers_split n;
  }

pub merged_start : (left right : List Block) → AreBlocks left → AreBlocks right → IsMerged left right 0 0 []
merged_start left right a b = record { left_place = omega arith; right_place = omega arith; left_order = a; right_order = b; numbers = λ n. refl }

-- what is left of one list, the other having come to its end
pub merged_end : (left right out : List Block) (i j : ℕ) → IsMerged left right i j out → (length left ≤ i) ⊎ (length right ≤ j) → AreBlocks ((out ++ drop i left) ++ drop j right)
merged_end left right out i j m (inl h) = rw (drop_all i left h, append-nil out) m.right_order
merged_end left right out i j m (inr h) = rw (drop_all j right h, append-nil (out ++ drop i left)) m.left_order

pub merged_numbers : (left right out : List Block) (i j : ℕ) → IsMerged left right i j out → (n : ℕ) → blocks_have ((out ++ drop i left) ++ drop j right) n ≡ (blocks_have left n || blocks_have right n)
merged_numbers left right out i j m n =
    have_append (out ++ drop i left) (drop j right) n
    ∙ ap (λ s. s || blocks_have (drop j right) n) (have_append out (drop i left) n)
    ∙ or_assoc (blocks_have out n) (blocks_have (drop i left) n) (blocks_have (drop j right) n)
    ∙ m.numbers n

-- ---- putting a block in its place

by_less : (a b : ℕ) → a ≤ b → (a ≡ b → ⊥) → a < b
by_less a b h ne = omega (arith, h, ne)

turned : (x y z : Bool) → (x || (y || z)) ≡ ((x || z) || y)
turned true y z = refl
turned false true true = refl
turned false true false = refl
turned false false true = refl
turned false false false = refl

turned_last : (x y z : Bool) → ((x || y) || z) ≡ ((x || z) || y)
turned_last true y z = refl
turned_last false true true = refl
turned_last false true false = refl
turned_last false false true = refl
turned_last false false false = refl

pub put_blocks : (blocks : List Block) (b : Block) (p : ℕ) (d : Block) → AreBlocks blocks → b.index < 2 ^ 26
    → ((k : ℕ) (e : Block) → k < p → (get_or blocks k e).index < b.index)
    → ((k : ℕ) (e : Block) → p ≤ k → k < length blocks → b.index ≤ (get_or blocks k e).index)
    → ((e : Block) → p < length blocks → (get_or blocks p e).index ≡ b.index → ⊥)
    → AreBlocks (insert blocks p b)
put_blocks blocks b p d a h before after other =
    are (insert blocks p b) (take p (indexes blocks) ++ b.index ∷ drop p (indexes blocks)) places
    (ascending_insert (indexes blocks) p b.index a.ascending
    (λ k l m. omega (arith, before k d l, at k 0 m))
    (λ k l m. omega (arith, later k l m, at k 0 m)))
    (below_insert (2 ^ 26) (indexes blocks) p b.index h a.within)
  where
    places : indexes (insert blocks p b) ≡ take p (indexes blocks) ++ b.index ∷ drop p (indexes blocks)
    places = middle (take p blocks) b (drop p blocks) ∙ ap (λ xs. xs ++ b.index ∷ indexes (drop p blocks)) (sym (take-map (λ (x : Block). x.index) p blocks))
        ∙ ap (λ xs. take p (indexes blocks) ++ b.index ∷ xs) (sym (drop-map (λ (x : Block). x.index) p blocks))

    at : (k e : ℕ) → k < length (indexes blocks) → get_or (indexes blocks) k e ≡ (get_or blocks k d).index
    at k e m = get_or-map (λ (x : Block). x.index) blocks k d e (omega (arith, m, length-map blocks (λ (x : Block). x.index)))

    later : (k : ℕ) → p ≤ k → k < length (indexes blocks) → b.index < (get_or blocks k d).index
    later k l m = elim (cases_eq k p) [
      | inl same ↦ by_less b.index (get_or blocks k d).index (after k d l (omega (arith, m, length-map blocks (λ (x : Block). x.index)))) (λ e. other d (omega (arith, m, same, length-map blocks (λ (x : Block). x.index))) (ap (λ i. (get_or blocks i d).index) (sym same) ∙ sym e))
      | inr past ↦ omega (arith, after p d (omega arith) (omega (arith, m, length-map blocks (λ (x : Block). x.index))), index_order blocks a.ascending p k d d (omega arith) (omega (arith, m, length-map blocks (λ (x : Block). x.index))), by_less b.index (get_or blocks p d).index (after p d (omega arith) (omega (arith, m, length-map blocks (λ (x : Block). x.index)))) (λ e. other d (omega (arith, m, length-map blocks (λ (x : Block). x.index))) (sym e)))
    ]

pub put_have : (blocks : List Block) (b : Block) (p n : ℕ) → blocks_have (insert blocks p b) n ≡ (blocks_have blocks n || block_has b n)
put_have blocks b p n =
    have_append (take p blocks) (b ∷ drop p blocks) n
    ∙ turned (blocks_have (take p blocks) n) (block_has b n) (blocks_have (drop p blocks) n)
    ∙ ap (λ s. s || block_has b n) (sym (have_append (take p blocks) (drop p blocks) n) ∙ ap (λ xs. blocks_have xs n) (take-append-drop p blocks))

pub set_blocks : (blocks : List Block) (b : Block) (p : ℕ) (d : Block) → AreBlocks blocks → (get_or blocks p d).index ≡ b.index → p < length blocks → AreBlocks (set blocks p b)
set_blocks blocks b p d a e h =
    let same : indexes (set blocks p b) ≡ indexes blocks =
    map-set (λ (x : Block). x.index) blocks p b
    ∙ ap (λ i. set (indexes blocks) p i) (sym e ∙ sym (get_or-map (λ (x : Block). x.index) blocks p d 0 h)) ∙ set-get_or (indexes blocks) p 0 in
    are (set blocks p b) (indexes blocks) same a.ascending a.within

pub set_have : (blocks : List Block) (b : Block) (p : ℕ) (d : Block) (n : ℕ) (t : Bool) → p < length blocks → block_has b n ≡ (block_has (get_or blocks p d) n || t) → blocks_have (set blocks p b) n ≡ (blocks_have blocks n || t)
set_have [] b p d n t h e = absurd (omega arith)
set_have (x ∷ blocks) b zero d n t h e = ap (λ s. s || blocks_have blocks n) e ∙ turned_last (block_has x n) t (blocks_have blocks n)
set_have (x ∷ blocks) b (suc p) d n t h e = ap (λ s. block_has x n || s) (set_have blocks b p d n t (omega arith) e) ∙ sym (or_assoc (block_has x n) (blocks_have blocks n) t)

-- ---- blocks that are left

pub take_have : (blocks : List Block) (k n : ℕ) (d : Block) → k < length blocks → blocks_have (take (k + 1) blocks) n ≡ (blocks_have (take k blocks) n || block_has (get_or blocks k d) n)
take_have blocks k n d h = ap (λ xs. blocks_have xs n) (take_more blocks k d h) ∙ have_append (take k blocks) (get_or blocks k d ∷ []) n ∙ ap (λ s. blocks_have (take k blocks) n || s) (or_false (block_has (get_or blocks k d) n))

pub index_below : (blocks : List Block) → AreBlocks blocks → (k : ℕ) (d : Block) → k < length blocks → (get_or blocks k d).index < 2 ^ 26
index_below blocks a k d h =
    omega (arith, at_below (2 ^ 26) (indexes blocks) a.within k 0 (omega (arith, h, length-map blocks (λ (x : Block). x.index))), get_or-map (λ (x : Block). x.index) blocks k d 0 h)

-- ---- taking away

pub next_like : (out blocks : List Block) (k : ℕ) (d z : Block) → k < length blocks → z.index ≡ (get_or blocks k d).index → AreBlocks (out ++ drop k blocks) → AreBlocks ((out ++ z ∷ []) ++ drop (k + 1) blocks)
next_like out blocks k d z h e a = take_like out (get_or blocks k d) z (drop (k + 1) blocks) e (subst (λ rest. AreBlocks (out ++ rest)) (drop_more blocks k d h) a)

pub next_none : (out blocks : List Block) (k : ℕ) (d : Block) → k < length blocks → AreBlocks (out ++ drop k blocks) → AreBlocks (out ++ drop (k + 1) blocks)
next_none out blocks k d h a = take_none out (get_or blocks k d) (drop (k + 1) blocks) (subst (λ rest. AreBlocks (out ++ rest)) (drop_more blocks k d h) a)

and_more : (t x y : Bool) → ((t && not y) || (x && not y)) ≡ ((t || x) && not y)
and_more true true true = refl
and_more true true false = refl
and_more true false true = refl
and_more true false false = refl
and_more false x y = refl

pub lacking_more : (out blocks : List Block) (k n : ℕ) (d z : Block) (t : Bool) → k < length blocks → block_has z n ≡ (block_has (get_or blocks k d) n && not t)
    → blocks_have out n ≡ (blocks_have (take k blocks) n && not t) → blocks_have (out ++ z ∷ []) n ≡ (blocks_have (take (k + 1) blocks) n && not t)
lacking_more out blocks k n d z t h e f =
    have_append out (z ∷ []) n ∙ ap (λ s. blocks_have out n || s) (or_false (block_has z n))
    ∙ ap (λ s. s || block_has z n) f ∙ ap (λ s. (blocks_have (take k blocks) n && not t) || s) e
    ∙ and_more (blocks_have (take k blocks) n) (block_has (get_or blocks k d) n) t
    ∙ ap (λ s. s && not t) (sym (take_have blocks k n d h))

pub lacking_same : (out blocks : List Block) (k n : ℕ) (d : Block) (t : Bool) → k < length blocks → (block_has (get_or blocks k d) n && not t) ≡ false
    → blocks_have out n ≡ (blocks_have (take k blocks) n && not t) → blocks_have out n ≡ (blocks_have (take (k + 1) blocks) n && not t)
lacking_same out blocks k n d t h e f =
    f ∙ sym (or_false (blocks_have (take k blocks) n && not t)) ∙ ap (λ s. (blocks_have (take k blocks) n && not t) || s) (sym e)
    ∙ and_more (blocks_have (take k blocks) n) (block_has (get_or blocks k d) n) t
    ∙ ap (λ s. s && not t) (sym (take_have blocks k n d h))
