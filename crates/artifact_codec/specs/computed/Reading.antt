-- Reading values from the front of bytes, without a look at the demands on them.
use Rattle.std.specs.Prelude.{◌≡◌, ℕ, zero, suc, ℤ, ◌+◌, ◌*◌, Bool, true, false, nat_lt, ◌==◌, if◌then◌else◌, List, [], ◌∷◌, length, take, drop, Option, Some, None, Result, Ok, Err}
use Rattle.std.specs.Int.{w32, w128, from_be_bytes, cast_signed}
use Rattle.sv_base.specs.declared.colour.Colour.{Colour}
use Rattle.sv_base.specs.declared.colour.Colour.TheVariants as colours
use Rattle.sv_base.specs.declared.ids.SiteId.{SiteId}
use Rattle.core_ir.specs.declared.artifacts.Constraint.{Constraint}
use Rattle.core_ir.specs.declared.artifacts.WritePart.{WritePart}
use Rattle.core_ir.specs.Plain.{PlainBounds, PlainCall, PlainArtifact, PlainStored, Constraints, Solved, Clusters, Summary, Colours}
use Rattle.artifact_codec.specs.declared.refusal.Malformed.{Malformed}
use Rattle.artifact_codec.specs.declared.refusal.Refusal.{Refusal}
use Rattle.artifact_codec.specs.declared.refusal.Refusal.TheVariants as refusals

infixl 10 ◌>>=◌
abbrev pub ◌>>=◌ : {A B : Type 0} → Option A → (A → Option B) → Option B
(Some x) >>= f = f x
None >>= f = None

-- what a function of the code returned, seen by view, is what is read
abbrev pub Reads : {X Y : Type 0} → (X → Y) → Result X Malformed → Option Y → Type 0
Reads view (Ok x) read = read ≡ Some (view x)
Reads view (Err e) read = read ≡ None

abbrev pub Fails : {Y : Type 0} → Refusal → Option Y → Type 0
Fails refusals.Malformed read = read ≡ None
Fails refusals.NoMemory read = Unit {0}

-- the same, unless memory ran out
abbrev pub Gives : {X Y : Type 0} → (X → Y) → Result X Refusal → Option Y → Type 0
Gives view (Ok x) read = read ≡ Some (view x)
Gives view (Err e) read = Fails e read

-- the same, with nothing as an answer
abbrev pub GivesOption : {X Y E : Type 0} → (X → Y) → Result (Option X) E → Option Y → Type 0
GivesOption view (Ok (Some x)) read = read ≡ Some (view x)
GivesOption view (Ok None) read = read ≡ None
GivesOption view (Err e) read = Unit {0}

-- ---- fields: a value and the bytes behind it

abbrev pub byte_at : List ℕ → Option (ℕ × List ℕ)
byte_at [] = None
byte_at (b ∷ rest) = Some (b, rest)

unfoldable pub number_at : List ℕ → Option (ℕ × List ℕ)
number_at bytes = if nat_lt (length bytes) 4 then None else Some (from_be_bytes w32 (take 4 bytes), drop 4 bytes)

unfoldable pub signed_at : List ℕ → Option (ℤ × List ℕ)
signed_at bytes = if nat_lt (length bytes) 16 then None else Some (cast_signed w128 (from_be_bytes w128 (take 16 bytes)), drop 16 bytes)

abbrev pub flag_at : List ℕ → Option (Bool × List ℕ)
flag_at [] = None
flag_at (zero ∷ rest) = Some (false, rest)
flag_at (suc zero ∷ rest) = Some (true, rest)
flag_at (suc (suc b) ∷ rest) = None

unfoldable pub entry_at : List ℕ → Option (Option ℤ × List ℕ)
entry_at bytes = do
  there ← flag_at bytes
  if there.0 then (signed_at there.1 >>= λ z. Some (Some z.0, z.1)) else Some (None, there.1)

unfoldable pub constraint_at : List ℕ → Option (Constraint × List ℕ)
constraint_at bytes = do
  rule ← byte_at bytes
  target ← number_at rule.1
  source ← number_at target.1
  third ← number_at source.1
  Some (record { rule = rule.0; target = target.0; source = source.0; third = third.0 }, third.1)

unfoldable pub write_at : List ℕ → Option (WritePart × List ℕ)
write_at bytes = do
  class ← number_at bytes
  low ← signed_at class.1
  high ← signed_at low.1
  Some (record { class = class.0; low = low.0; high = high.0 }, high.1)

abbrev pub colour_at : List ℕ → Option (Colour × List ℕ)
colour_at [] = None
colour_at (zero ∷ rest) = Some (colours.Unreachable, rest)
colour_at (suc zero ∷ rest) = Some (colours.Green, rest)
colour_at (suc (suc zero) ∷ rest) = Some (colours.Orange, rest)
colour_at (suc (suc (suc zero)) ∷ rest) = Some (colours.Red, rest)
colour_at (suc (suc (suc (suc b))) ∷ rest) = None

unfoldable pub site_colour_at : List ℕ → Option ((SiteId × Colour) × List ℕ)
site_colour_at bytes = do
  site ← number_at bytes
  colour ← colour_at site.1
  Some ((record { 0 = site.0 }, colour.0), colour.1)

-- ---- lists

unfoldable pub items_at : {A : Type 0} → (List ℕ → Option (A × List ℕ)) → ℕ → List ℕ → Option (List A × List ℕ)
items_at item zero bytes = Some ([], bytes)
items_at item (suc n) bytes = do
  first ← item bytes
  others ← items_at item n first.1
  Some (first.0 ∷ others.0, others.1)

unfoldable pub counted_at : {A : Type 0} → (List ℕ → Option (A × List ℕ)) → List ℕ → Option (List A × List ℕ)
counted_at item bytes = do
  count ← number_at bytes
  items_at item count.0 count.1

abbrev pub numbers_at : List ℕ → Option (List ℕ × List ℕ)
numbers_at bytes = counted_at number_at bytes

-- ---- summaries

unfoldable pub bounds_at : List ℕ → Option (PlainBounds × List ℕ)
bounds_at bytes = do
  size ← byte_at bytes
  entries ← items_at entry_at (size.0 * (size.0 + 1)) size.1
  Some (record { size = size.0; entries = entries.0 }, entries.1)

abbrev pub matrices_at : List ℕ → Option (List PlainBounds × List ℕ)
matrices_at bytes = counted_at bounds_at bytes

unfoldable pub state_at : List ℕ → Option (Option (List PlainBounds) × List ℕ)
state_at bytes = do
  there ← flag_at bytes
  if there.0 then (matrices_at there.1 >>= λ bs. Some (Some bs.0, bs.1)) else Some (None, there.1)

unfoldable pub call_at : List ℕ → Option (PlainCall × List ℕ)
call_at bytes = do
  callee ← number_at bytes
  entry ← matrices_at callee.1
  Some (record { callee = callee.0; entry = entry.0 }, entry.1)

unfoldable pub summary_at : List ℕ → Option (PlainArtifact × List ℕ)
summary_at bytes = do
  changed ← flag_at bytes
  context ← state_at changed.1
  outcome ← state_at context.1
  calls ← counted_at call_at outcome.1
  writes ← counted_at write_at calls.1
  Some (record { changed = changed.0; context = context.0; result = outcome.0; calls = calls.0; writes = writes.0 }, writes.1)

-- ---- all kinds

-- the value, whatever stands behind it
unfoldable pub content_at : ℕ → List ℕ → Option PlainStored
content_at kind bytes =
    if kind == 1 then (counted_at constraint_at bytes >>= λ x. Some (Constraints x.0))
    else if kind == 2 then (counted_at numbers_at bytes >>= λ x. Some (Solved x.0))
    else if kind == 3 then (counted_at numbers_at bytes >>= λ x. Some (Clusters x.0))
    else if kind == 4 then (summary_at bytes >>= λ x. Some (Summary x.0))
    else if kind == 5 then (counted_at site_colour_at bytes >>= λ x. Some (Colours x.0))
    else None

unfoldable pub stored_at : List ℕ → Option PlainStored
stored_at [] = None
stored_at (kind ∷ bytes) = content_at kind bytes
