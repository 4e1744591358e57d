-- The rule of a lock with one word and one slot.
use Rattle.std.specs.Prelude.{◌≡◌, ℕ, ◌<◌, ◌∷◌, [], ◌⊎◌, true, false, Option, Some, length, ◌==◌}
use mathlib.Core.Option.{some, none}
use lib.ListN.{get_elem?}
use Rattle.atomic_table.specs.Table.{State, Me, Step}
use Rattle.tables.specs.declared.tables.Tables.{Tables}
use Rattle.tables.specs.declared.opening.Opening.{Opening}
use Rattle.std.specs.Fn.{Once, FnOnceTakesAtMut, FnOnceReturnsAtMut}
use Rattle.std.specs.Borrow.{MutBor}
use Rattle.tables_lock.specs.declared.guard.View.{View}

-- a view that holds nothing
abbrev pub rests : {D W : Type 0} → Opening D W → View D W
rests o = record { opening = o; holds = false }

abbrev pub holds : {D W : Type 0} → Opening D W → View D W
holds o = record { opening = o; holds = true }

module _ {D W B V : Type 0} (sound : Tables D W B V → Type 0) where
  -- the word is 0, the tables are at home, and no view holds them
  pub record IsHome (o : Opening D W) (s : State (Option (Tables D W B V)) (View D W)) : Type 0 where
    pub words : s.words ≡ 0 ∷ []
    pub tables : Tables D W B V
    pub homes : s.homes ≡ some (Some tables) ∷ []
    pub opening : tables.opening ≡ o
    pub sound_there : sound tables
    pub nobody : (by : ℕ) (v : View D W) → get_elem? s.views by ≡ some v → v.holds ≡ false

  -- the word is 1, and one view and no other holds the slot
  pub record IsOut (s : State (Option (Tables D W B V)) (View D W)) : Type 0 where
    pub words : s.words ≡ 1 ∷ []
    pub homes : s.homes ≡ none ∷ []
    pub holder : ℕ
    pub within : holder < length s.views
    pub one : (by : ℕ) (v : View D W) → get_elem? s.views by ≡ some v → v.holds ≡ (by == holder)

  -- all views have one opening
  pub record IsKept (s : State (Option (Tables D W B V)) (View D W)) : Type 0 where
    pub opening : Opening D W
    pub same : (by : ℕ) (v : View D W) → get_elem? s.views by ≡ some v → v.opening ≡ opening
    pub slot : IsHome opening s ⊎ IsOut s

  -- the exchange from 0 to 1: the seat holds the slot with tables of its opening, or nothing changed
  abbrev pub Taken : Step (Option (Tables D W B V)) → Me (Option (Tables D W B V)) (View D W) → ℕ → Me (Option (Tables D W B V)) (View D W) → Type 0
  Taken st m found n =
      ((found ≡ 0) × (tables : Tables D W B V) × (tables.opening ≡ m.0.opening) × sound tables × (n.0 ≡ holds m.0.opening) × (n.1 ≡ (0, Some tables) ∷ []))
      ⊎ ((found ≡ 1) × (n ≡ m))

  -- the swap to 0: the seat holds nothing
  abbrev pub GivenBack : Step (Option (Tables D W B V)) → Me (Option (Tables D W B V)) (View D W) → ℕ → Me (Option (Tables D W B V)) (View D W) → Type 0
  GivenBack st m found n = (n.0 ≡ rests m.0.opening) × (n.1 ≡ [])

module _ {D W B V T F : Type 0} (sound : Tables D W B V → Type 0) (g : Once F (MutBor (Tables D W B V) × Unit {0}) (T × (MutBor (Tables D W B V) × Unit {0}))) (f : F) (o : Opening D W) where
  -- the step may be called on all tables of the opening
  abbrev pub TakesAll : Type 0
  TakesAll = (t : Tables D W B V) → t.opening ≡ o → sound t → FnOnceTakesAtMut g f t

  -- the step keeps the opening
  abbrev pub KeepsOpening : Type 0
  KeepsOpening = (before after : Tables D W B V) (r : T) → before.opening ≡ o → sound before → FnOnceReturnsAtMut g f before r after → (after.opening ≡ o) × sound after

  -- the step was called on tables of the opening, and gave r
  abbrev pub Ran : T → Type 0
  Ran r = (before : Tables D W B V) × (after : Tables D W B V) × (before.opening ≡ o) × sound before × FnOnceReturnsAtMut g f before r after

abbrev pub IsResting : {D W B V : Type 0} → Me (Option (Tables D W B V)) (View D W) → Type 0
IsResting m = (m.1 ≡ []) × (m.0.holds ≡ false)

-- the seat has the slot, which it has emptied, or in which it has put something
abbrev pub IsHolding : {D W B V : Type 0} → Opening D W → Me (Option (Tables D W B V)) (View D W) → Type 0
IsHolding {D} {W} {B} {V} o m = (m.0 ≡ holds o) × ((held : Option (Tables D W B V)) × (m.1 ≡ (0, held) ∷ []))
