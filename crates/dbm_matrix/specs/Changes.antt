-- What each call makes of the bounds. A bound that is missing counts as infinite.
use Rattle.std.specs.Prelude.{ℕ, ◌-◌, ◌≤◌, length, unsigned_abs, ℤ, pos, ◌+ℤ◌, neg_ℤ, Option, Some, None, List, slice_index_or, int_lt, cond, ◌==◌}
use Rattle.dbm_matrix.specs.Bounds.{Weights}

abbrev pub lesser : Option ℤ → Option ℤ → Option ℤ
lesser None b = b
lesser (Some a) None = Some a
lesser (Some a) (Some b) = Some (cond (int_lt b a) b a)

abbrev pub greater : Option ℤ → Option ℤ → Option ℤ
greater None b = None
greater (Some a) None = None
greater (Some a) (Some b) = Some (cond (int_lt a b) b a)

-- the first where the second is not greater, no bound otherwise
abbrev pub stable : Option ℤ → Option ℤ → Option ℤ
stable None b = None
stable (Some a) None = None
stable (Some a) (Some b) = cond (int_lt a b) None (Some a)

abbrev pub plus : Option ℤ → ℤ → Option ℤ
plus None c = None
plus (Some a) c = Some (a +ℤ c)

abbrev pub sum_of : Option ℤ → Option ℤ → Option ℤ
sum_of None b = None
sum_of (Some a) None = None
sum_of (Some a) (Some b) = Some (a +ℤ b)

-- the ends of the range of variable i in a list of the ranges of the variables 1, 2 and so on
abbrev pub low : List (ℤ × ℤ) → ℕ → ℤ
low ranges i = (slice_index_or ranges (i - 1) (pos 0, pos 0)).0

abbrev pub high : List (ℤ × ℤ) → ℕ → ℤ
high ranges i = (slice_index_or ranges (i - 1) (pos 0, pos 0)).1

-- both ends of each range are within b either way
pub record AreWithin (b : ℕ) (ranges : List (ℤ × ℤ)) : Type 0 where
  pub low_end : (i : ℕ) → 1 ≤ i → i ≤ length ranges → unsigned_abs (low ranges i) ≤ b
  pub high_end : (i : ℕ) → 1 ≤ i → i ≤ length ranges → unsigned_abs (high ranges i) ≤ b

-- the ranges, and nothing of the differences of two variables
abbrev pub initial : List (ℤ × ℤ) → Weights
initial ranges i j = cond (i == j) (Some (pos 0)) (cond (i == 0) (Some (high ranges j)) (cond (j == 0) (Some (neg_ℤ (low ranges i))) None))

-- one bound more, c at i and j: the lesser stands
abbrev pub with_bound : ℕ → ℕ → ℤ → Weights → Weights
with_bound i j c d p q = cond (p == i) (cond (q == j) (lesser (d p q) (Some c)) (d p q)) (d p q)

-- each bound, or the way over a bound c from i to j where that is shorter
abbrev pub over : ℕ → ℕ → ℤ → Weights → Weights
over i j c d p q = lesser (d p q) (sum_of (plus (d p i) c) (d j q))

-- f of each bound between v and another variable, the others as they are
abbrev pub around : ℕ → (ℕ → ℕ → Option ℤ → Option ℤ) → Weights → Weights
around v f d i j = cond (i == j) (d i j) (cond (i == v) (f i j (d i j)) (cond (j == v) (f i j (d i j)) (d i j)))

-- v is forgotten
abbrev pub forgotten : ℕ → Weights → Weights
forgotten v = around v (λ i j o. None)

-- c is added to v
abbrev pub shifted : ℕ → ℤ → Weights → Weights
shifted v c = around v (λ i j o. cond (i == v) (plus o (neg_ℤ c)) (plus o c))

-- x is forgotten, and then y + c
abbrev pub copied : ℕ → ℕ → ℤ → Weights → Weights
copied x y c = around x (λ i j o. cond (i == y) (Some c) (cond (j == y) (Some (neg_ℤ c)) None))

-- each bound, or the way over k where that is shorter
abbrev pub through : ℕ → Weights → Weights
through k d i j = lesser (d i j) (sum_of (d i k) (d k j))
