use Rattle.std.specs.Prelude.{◌≡◌, ℕ, ◌+◌, ◌*◌, ◌^◌, ◌<◌, ◌≤◌, Bool, true, false, nat_le, min, Option, Some, None, List, length, slice_index_or}

-- the time at a node, and none past the end
abbrev pub time_at : List (Option ℕ) → ℕ → Option ℕ
time_at nodes k = slice_index_or nodes k None

-- the earlier of two times, where none is the latest
abbrev pub earlier_of : Option ℕ → Option ℕ → Option ℕ
earlier_of None b = b
earlier_of (Some a) None = Some a
earlier_of (Some a) (Some b) = Some (min a b)

abbrev pub is_due_at : ℕ → Option ℕ → Bool
is_due_at now None = false
is_due_at now (Some time) = nat_le time now

-- each inner node has the earlier time of its two children
pub record IsTree (leaves : ℕ) (nodes : List (Option ℕ)) : Type 0 where
  pub long : length nodes ≡ 2 * leaves
  pub inner : (k : ℕ) → 1 ≤ k → k < leaves → time_at nodes k ≡ earlier_of (time_at nodes (2 * k)) (time_at nodes (2 * k + 1))

pub record IsFirstDue (now height : ℕ) (nodes : List (Option ℕ)) (leaf : ℕ) : Type 0 where
  pub within : leaf < 2 ^ height
  pub due : is_due_at now (time_at nodes (2 ^ height + leaf)) ≡ true
  pub before : (k : ℕ) → k < leaf → is_due_at now (time_at nodes (2 ^ height + k)) ≡ false
