-- Going past the spelling of a value, with a look at the demands on it and without keeping it.
use Rattle.std.specs.Prelude.{ℕ, zero, suc, ◌+◌, ◌*◌, ◌-◌, Bool, false, ◌&&◌, nat_lt, nat_le, ◌==◌, if◌then◌else◌, List, [], ◌∷◌, length, Option, Some, None, is_some}
use Rattle.std.specs.List.{concat}
use Rattle.core_ir.specs.declared.artifacts.Constraint.{Constraint}
use Rattle.core_ir.specs.Constraints.{is_constraint_before}
use Rattle.artifact_codec.specs.Demands.{is_after, is_constraint, is_entry, is_write, are_distinct}
use Rattle.core_ir.specs.Plain.{PlainStored}
use Rattle.artifact_codec.specs.computed.Reading.{content_at, ◌>>=◌, byte_at, number_at, flag_at, entry_at, constraint_at, write_at, site_colour_at, counted_at, numbers_at}

-- ---- lists

-- so many values, one after the other
unfoldable pub past_all : (List ℕ → Option (List ℕ)) → ℕ → List ℕ → Option (List ℕ)
past_all past zero bytes = Some bytes
past_all past (suc n) bytes = do
  rest ← past bytes
  past_all past n rest

-- so many values, where each is looked at with the one before it
unfoldable pub past_in_order : {K : Type 0} → (Option K → List ℕ → Option (K × List ℕ)) → ℕ → Option K → List ℕ → Option (List ℕ)
past_in_order next zero last bytes = Some bytes
past_in_order next (suc n) last bytes = do
  first ← next last bytes
  past_in_order next n (Some first.0) first.1

unfoldable pub counted_past : (List ℕ → Option (List ℕ)) → List ℕ → Option (List ℕ)
counted_past past bytes = do
  count ← number_at bytes
  past_all past count.0 count.1

unfoldable pub ordered_past : {K : Type 0} → (Option K → List ℕ → Option (K × List ℕ)) → List ℕ → Option (List ℕ)
ordered_past next bytes = do
  count ← number_at bytes
  past_in_order next count.0 None count.1

abbrev pub checked : {A : Type 0} → (A → Bool) → Option (A × List ℕ) → Option (A × List ℕ)
checked good read = read >>= λ x. if good x.0 then Some x else None

-- ---- constraints, sets, colours

unfoldable pub next_constraint : Option Constraint → List ℕ → Option (Constraint × List ℕ)
next_constraint last bytes = checked (λ c. is_constraint c && is_after is_constraint_before last c) (constraint_at bytes)

unfoldable pub next_number : Option ℕ → List ℕ → Option (ℕ × List ℕ)
next_number last bytes = checked (λ n. is_after nat_lt last n) (number_at bytes)

unfoldable pub next_site_colour : Option ℕ → List ℕ → Option (ℕ × List ℕ)
next_site_colour last bytes = checked (λ p. is_after nat_lt last p.0.0) (site_colour_at bytes) >>= λ x. Some (x.0.0.0, x.1)

unfoldable pub set_past : List ℕ → Option (List ℕ)
set_past bytes = ordered_past next_number bytes

-- ---- clusters

-- the first register, and what stands behind the cluster
unfoldable pub next_cluster : Option ℕ → List ℕ → Option (ℕ × List ℕ)
next_cluster last bytes = do
  size ← number_at bytes
  if nat_le 1 size.0 && nat_le size.0 16 then (do
    first ← next_number last size.1
    rest ← past_in_order next_number (size.0 - 1) (Some first.0) first.1
    Some (first.0, rest)) else None

-- no register stands twice in the clusters that are read
unfoldable pub registers_distinct : List ℕ → Bool
registers_distinct bytes = is_some (counted_at numbers_at bytes >>= λ x. if are_distinct (concat x.0) then Some x else None)

unfoldable pub clusters_past : List ℕ → Option (List ℕ)
clusters_past bytes = do
  rest ← ordered_past next_cluster bytes
  if registers_distinct bytes then Some rest else None

-- ---- summaries

unfoldable pub entry_past : List ℕ → Option (List ℕ)
entry_past bytes = checked is_entry (entry_at bytes) >>= λ x. Some x.1

unfoldable pub bounds_past : List ℕ → Option (List ℕ)
bounds_past bytes = do
  size ← byte_at bytes
  if nat_le 1 size.0 && nat_le size.0 16 then past_all entry_past (size.0 * (size.0 + 1)) size.1 else None

unfoldable pub matrices_past : List ℕ → Option (List ℕ)
matrices_past bytes = counted_past bounds_past bytes

unfoldable pub state_past : List ℕ → Option (List ℕ)
state_past bytes = do
  there ← flag_at bytes
  if there.0 then matrices_past there.1 else Some there.1

-- the callee, and what stands behind the call
unfoldable pub next_call : Option ℕ → List ℕ → Option (ℕ × List ℕ)
next_call last bytes = do
  callee ← next_number last bytes
  rest ← matrices_past callee.1
  Some (callee.0, rest)

-- the leaf class, and what stands behind the interval
unfoldable pub next_write : Option ℕ → List ℕ → Option (ℕ × List ℕ)
next_write last bytes = checked (λ w. is_write w && is_after nat_lt last w.class) (write_at bytes) >>= λ x. Some (x.0.class, x.1)

unfoldable pub summary_past : List ℕ → Option (List ℕ)
summary_past bytes = do
  changed ← flag_at bytes
  context ← state_past changed.1
  outcome ← state_past context
  calls ← ordered_past next_call outcome
  ordered_past next_write calls

-- ---- all kinds

unfoldable pub content_past : ℕ → List ℕ → Option (List ℕ)
content_past kind bytes =
    if kind == 1 then ordered_past next_constraint bytes
    else if kind == 2 then counted_past set_past bytes
    else if kind == 3 then clusters_past bytes
    else if kind == 4 then summary_past bytes
    else if kind == 5 then ordered_past next_site_colour bytes
    else None

-- all of the bytes
unfoldable pub is_content : ℕ → List ℕ → Bool
is_content kind bytes = is_some (content_past kind bytes >>= λ rest. if length rest == 0 then Some rest else None)

abbrev pub is_spelling : ℕ → List ℕ → Bool
is_spelling kind [] = false
is_spelling kind (first ∷ rest) = (first == kind) && is_content kind rest

-- the value that all of the bytes spell
abbrev pub decoded : List ℕ → Option PlainStored
decoded [] = None
decoded (kind ∷ rest) = if is_content kind rest then content_at kind rest else None
