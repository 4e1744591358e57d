-- Artifacts of a round, as vectors and as lists.
use Rattle.std.proofs.Common.{◌≡◌, ◌≢◌, ℕ, ◌+◌, ◌-◌, ◌<◌, ◌≤◌, zero, suc, true, false, List, [], ◌∷◌, ◌++◌, map, length, replicate, set, get_or, Option, Some, None, Vec, refl, sym, ◌∙◌, ap, arith}
use Rattle.std.proofs.lemmas.List.{map-set, map-append, get_or-map, length-map, length-append}
use Rattle.std.proofs.lemmas.Bool.{le-leb, lt-leb}
use Rattle.std.specs.Prelude.{◌&&◌}
use Rattle.std.specs.Str.{bytes_eq}
use Rattle.std.specs.Vec.{with_item}
use Rattle.std.specs.declared.alloc.Global.{Global}
use Rattle.tables.specs.Shelves.{Row, bytes_in, row_of, is_same, begun, shelved, still_of}

pub other_lengths : (before now : Row) → length before ≢ length now → is_same before now ≡ false
other_lengths [] [] other = absurd (other refl)
other_lengths [] (x ∷ now) other = refl
other_lengths (None ∷ before) [] other = refl
other_lengths (Some x ∷ before) [] other = refl
other_lengths (None ∷ before) (y ∷ now) other = refl
other_lengths (Some x ∷ before) (None ∷ now) other = refl
other_lengths (Some x ∷ before) (Some y ∷ now) other = rw (other_lengths before now (λ e. other (ap suc e))) (elim (bytes_eq x y) as (λ b. (b && false) ≡ false) [ true ↦ refl | false ↦ refl ])

none_done : (n : ℕ) → map bytes_in (replicate n None) ≡ replicate n None
none_done zero = refl
none_done (suc n) = ap (λ (l : Row). None ∷ l) (none_done n)

abbrev pub Rows : Type 0
Rows = List (Vec (Option (Vec ℕ Global)) Global)

-- an artifact put into the last row
pub put_last : (rows : Rows) (n task : ℕ) (row : Vec (Option (Vec ℕ Global)) Global) (artifact : Vec ℕ Global) (still : Option ℕ) →
    n + 1 ≡ length rows → row ≡ get_or rows n row →
    record { rows = map row_of (set rows n (with_item row task (Some artifact))); still_before = still } ≡ shelved (record { rows = map row_of rows; still_before = still }) task artifact.items
put_last rows n task row artifact still last is =
    let within : n < length rows = omega arith in
    let place : length (map row_of rows) - 1 ≡ n = rw (length-map rows row_of) (omega arith) in
    let same : row_of row ≡ get_or (map row_of rows) n [] = ap row_of is ∙ sym (get_or-map row_of rows n row [] within) in
    let written : map row_of (set rows n (with_item row task (Some artifact))) ≡ set (map row_of rows) n (set (get_or (map row_of rows) n []) task (Some artifact.items)) =
    map-set row_of rows n (with_item row task (Some artifact)) ∙ ap (λ r. set (map row_of rows) n r) (map-set bytes_in row.items task (Some artifact) ∙ ap (λ (r : Row). set r task (Some artifact.items)) same) in
    rw (place, written) refl

-- the rows with one more
row_more : (rows : Rows) (row : Vec (Option (Vec ℕ Global)) Global) (tasks : ℕ) → row.items ≡ replicate tasks None → map row_of (rows ++ row ∷ []) ≡ map row_of rows ++ replicate tasks None ∷ []
row_more rows row tasks is = map-append row_of rows (row ∷ []) ∙ ap (λ (r : Row). map row_of rows ++ r ∷ []) (ap (map bytes_in) is ∙ none_done tasks)

length_more : (rows : List Row) (row : Row) → length (rows ++ row ∷ []) ≡ length rows + 1
length_more rows row = length-append rows (row ∷ [])

pub begun_few : (rows : Rows) (row : Vec (Option (Vec ℕ Global)) Global) (tasks n : ℕ) (before still : Option ℕ) → row.items ≡ replicate tasks None → n ≡ length rows → n < 5 → still ≡ still_of (record { rows = map row_of rows; still_before = before }) →
    record { rows = map row_of (rows ++ row ∷ []); still_before = still } ≡ begun (record { rows = map row_of rows; still_before = before }) tasks
begun_few rows row tasks n before still is count few stays =
    let long : length (map row_of rows ++ replicate tasks None ∷ []) ≡ n + 1 = length_more (map row_of rows) (replicate tasks None) ∙ ap (λ k. k + 1) (length-map rows row_of ∙ sym count) in
    rw (row_more rows row tasks is, stays, long, lt-leb 6 (n + 1) (omega arith)) refl

pub begun_many : (rows : Rows) (row fresh : Vec (Option (Vec ℕ Global)) Global) (tasks n : ℕ) (before still : Option ℕ) → row.items ≡ replicate tasks None → fresh.items ≡ [] → n ≡ length rows → 5 ≤ n → still ≡ still_of (record { rows = map row_of rows; still_before = before }) →
    record { rows = map row_of (set (rows ++ row ∷ []) (n - 2) fresh); still_before = still } ≡ begun (record { rows = map row_of rows; still_before = before }) tasks
begun_many rows row fresh tasks n before still is empty count many stays =
    let long : length (map row_of rows ++ replicate tasks None ∷ []) ≡ n + 1 = length_more (map row_of rows) (replicate tasks None) ∙ ap (λ k. k + 1) (length-map rows row_of ∙ sym count) in
    let place : n + 1 - 3 ≡ n - 2 = omega arith in
    let written : map row_of (set (rows ++ row ∷ []) (n - 2) fresh) ≡ set (map row_of rows ++ replicate tasks None ∷ []) (n - 2) [] =
    map-set row_of (rows ++ row ∷ []) (n - 2) fresh ∙ ap (λ (l : List Row). set l (n - 2) (row_of fresh)) (row_more rows row tasks is) ∙ ap (λ (r : Row). set (map row_of rows ++ replicate tasks None ∷ []) (n - 2) r) (ap (map bytes_in) empty) in
    rw (written, stays, long, le-leb 6 (n + 1) (omega arith), place) refl

-- a row that has a task is one of the rows
pub some_row : (rows : List Row) (task : ℕ) → task < length (get_or rows (length rows - 1) []) → 0 < length rows
some_row [] task within = absurd (omega arith)
some_row (row ∷ rows) task within = omega arith
