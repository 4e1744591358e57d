-- What files and sinks promise: what they tell of their content, and what each answer leaves.
use Rattle.std.specs.Prelude.{◌≡◌, ℕ, ◌+◌, ◌-◌, ◌^◌, ◌≤◌, ◌<◌, min, List, [], ◌++◌, length, take, drop, Option, Some, None, IfSome}
use Rattle.std.specs.Option.{option_map}
use Rattle.sv_outside.specs.declared.sources.Loaded.{Loaded}
use Rattle.sv_outside.specs.declared.sources.Loaded.TheVariants as loaded
use Rattle.sv_outside.specs.declared.sink.Put.{Put}
use Rattle.sv_outside.specs.declared.sink.Put.TheVariants as put

-- a count one higher; at the end of its type it stays
abbrev pub counted : ℕ → ℕ
counted n = min (n + 1) (2 ^ 64 - 1)

-- a count has risen, or stands at the end of its type
abbrev pub Rose : ℕ → ℕ → Type 0
Rose before now = counted before ≤ now

-- what stands under each name; nothing under a name that is absent
abbrev pub Files : Type 0
Files = List ℕ → Option (List ℕ)

-- some first bytes of the others
abbrev pub IsFront : List ℕ → List ℕ → Type 0
IsFront front bytes = (n : ℕ) × (n ≤ length bytes) × (front ≡ take n bytes)

-- what was appended to a buffer
abbrev pub gained : List ℕ → List ℕ → List ℕ
gained before now = drop (length before) now

-- what a load with a limit gained, by what stands under the name
abbrev pub LoadsFrom : Loaded → ℕ → Option (List ℕ) → List ℕ → Type 0
LoadsFrom loaded.Ok limit (Some bytes) gained = (length bytes ≤ limit) × (gained ≡ bytes)
LoadsFrom loaded.TooLarge limit (Some bytes) gained = (limit < length bytes) × (gained ≡ take limit bytes)
LoadsFrom loaded.Failed limit (Some bytes) gained = IsFront gained bytes
LoadsFrom loaded.NoMemory limit (Some bytes) gained = IsFront gained bytes
LoadsFrom loaded.Failed limit None gained = gained ≡ []
LoadsFrom loaded.Ok limit None gained = ⊥
LoadsFrom loaded.TooLarge limit None gained = ⊥
LoadsFrom loaded.NoMemory limit None gained = ⊥

-- what a sink tells that it has taken, after it took these bytes too
abbrev pub with_more : Option (List ℕ) → List ℕ → Option (List ℕ)
with_more told bytes = option_map (λ had. had ++ bytes) told

-- what a sink took of a piece
abbrev pub PutsTo : Put → List ℕ → Option (List ℕ) → Option (List ℕ) → Type 0
PutsTo put.Ok piece before now = now ≡ with_more before piece
PutsTo put.Failed piece before now = (n : ℕ) × (n ≤ length piece) × (now ≡ with_more before (take n piece))
PutsTo put.NoMemory piece before now = now ≡ before
