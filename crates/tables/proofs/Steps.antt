-- What holds of rounds stays through each step.
use Rattle.std.proofs.Common.{◌≡◌, ℕ, zero, suc, ◌+◌, ◌-◌, ◌<◌, ◌≤◌, Bool, true, false, cond, inl, inr, List, [], ◌∷◌, ◌++◌, map, length, replicate, set, get_or, Option, Some, None, IsSome, Vec, vec_capacity, slice_get, refl, sym, ◌∙◌, ap, subst, arith}
use Rattle.std.proofs.lemmas.List.{length-set, length-map, length-append, length-replicate}
use Rattle.std.proofs.lemmas.Bool.Decides.{leb_tells}
use Rattle.std.specs.declared.alloc.Global.{Global}
use Rattle.lease_table.specs.declared.event.Event.{Event}
use Rattle.lease_table.specs.Events.{after, replay}
use Rattle.lease_table.specs.Machine.{Machine, Reserved, started}
use Rattle.lease_table.specs.Machine.{IsLeasedBy, Expires, Advances, Ends}
use Rattle.lease_table.specs.Standings.{expired}
use Rattle.lease_table.specs.declared.standing.Standing.{Standing}
use Rattle.lease_table.specs.declared.standing.Standing.TheVariants.{Free}
use Rattle.lease_table.specs.declared.event.Event.TheVariants.{Expired, Advanced, Ended}
use Rattle.tables.proofs.Leases.{leased_few, ends_one, expires_count, none_expired, none_done, none_free, held}
use Rattle.tables.specs.Rounds.{leased_count, IsKept}
use Rattle.tables.specs.Shelves.{Row, Shelved, row_at, row_length, shelved, begun}

pub replay-push : (m : Machine) (events : List Event) (event : Event) → replay m (events ++ event ∷ []) ≡ after (replay m events) event
replay-push m [] event = refl
replay-push m (e ∷ events) event = replay-push (after m e) events event

-- a row with another of its length in its place
same_lengths : (rows : List Row) (k r : ℕ) (row : Row) → length row ≡ length (get_or rows k []) → length (get_or (set rows k row) r []) ≡ length (get_or rows r [])
same_lengths [] k r row is = refl
same_lengths (x ∷ rows) zero zero row is = is
same_lengths (x ∷ rows) zero (suc r) row is = refl
same_lengths (x ∷ rows) (suc k) zero row is = refl
same_lengths (x ∷ rows) (suc k) (suc r) row is = same_lengths rows k r row is

pub shelved_row : (shelf : Shelved) (task round : ℕ) (artifact : List ℕ) → row_length (shelved shelf task artifact) round ≡ row_length shelf round
shelved_row shelf task round artifact = same_lengths shelf.rows (length shelf.rows - 1) round (set (row_at shelf (length shelf.rows - 1)) task (Some artifact)) (length-set (row_at shelf (length shelf.rows - 1)) task (Some artifact))

pub shelved_rows : (shelf : Shelved) (task : ℕ) (artifact : List ℕ) → length (shelved shelf task artifact).rows ≡ length shelf.rows
shelved_rows shelf task artifact = length-set shelf.rows (length shelf.rows - 1) (set (row_at shelf (length shelf.rows - 1)) task (Some artifact))

-- the same round, of as many tasks
pub record SameRound (old new : Machine) : Type 0 where
  pub round : new.round ≡ old.round
  pub ended : new.ended ≡ old.ended
  pub count : length new.tasks ≡ length old.tasks

-- the same rows, of as many tasks
pub record SameRows (old new : Shelved) : Type 0 where
  pub count : length new.rows ≡ length old.rows
  pub row : (round : ℕ) → row_length new round ≡ row_length old round

pub no_change : (shelf : Shelved) → SameRows shelf shelf
no_change shelf = record { count = refl; row = λ round. refl }

pub one_shelved : (shelf : Shelved) (task : ℕ) (artifact : List ℕ) → SameRows shelf (shelved shelf task artifact)
one_shelved shelf task artifact = record { count = shelved_rows shelf task artifact; row = λ round. shelved_row shelf task round artifact }

last_more : (rows : List Row) (row : Row) → get_or (rows ++ row ∷ []) (length rows) [] ≡ row
last_more [] row = refl
last_more (x ∷ rows) row = last_more rows row

set_before : (rows : List Row) (k r : ℕ) (row : Row) → k < r → get_or (set rows k row) r [] ≡ get_or rows r []
set_before [] k r row less = refl
set_before (x ∷ rows) zero zero row less = absurd (omega (arith, less))
set_before (x ∷ rows) zero (suc r) row less = refl
set_before (x ∷ rows) (suc k) zero row less = absurd (omega (arith, less))
set_before (x ∷ rows) (suc k) (suc r) row less = set_before rows k r row (omega (arith, less))

-- the row that was begun is the last one
begun_row : (shelf : Shelved) (tasks : ℕ) → row_length (begun shelf tasks) (length shelf.rows) ≡ tasks
begun_row shelf tasks =
    let row : Row = replicate tasks None in
    let rows : List Row = shelf.rows ++ row ∷ [] in
    let n = length rows in
    let long : n ≡ length shelf.rows + 1 = length-append shelf.rows (row ∷ []) in
    let last : get_or rows (length shelf.rows) [] ≡ row = last_more shelf.rows row in
    let size : length row ≡ tasks = length-replicate tasks None in
    elim (leb_tells 6 n) [
      | inl many ↦
          ap (λ (b : Bool). length (get_or (cond b (set rows (n - 3) []) rows) (length shelf.rows) [])) many.0
          ∙ (ap length (set_before rows (n - 3) (length shelf.rows) [] (omega (arith, many.1, long)) ∙ last) ∙ size)
      | inr few ↦ ap (λ (b : Bool). length (get_or (cond b (set rows (n - 3) []) rows) (length shelf.rows) [])) few.0 ∙ (ap length last ∙ size)
    ]

begun_rows : (shelf : Shelved) (tasks : ℕ) → length (begun shelf tasks).rows ≡ length shelf.rows + 1
begun_rows shelf tasks =
    let row : Row = replicate tasks None in
    let rows : List Row = shelf.rows ++ row ∷ [] in
    let n = length rows in
    let long : n ≡ length shelf.rows + 1 = length-append shelf.rows (row ∷ []) in
    elim (leb_tells 6 n) [
      | inl many ↦ ap (λ (b : Bool). length (cond b (set rows (n - 3) []) rows)) many.0 ∙ (length-set rows (n - 3) [] ∙ long)
      | inr few ↦ ap (λ (b : Bool). length (cond b (set rows (n - 3) []) rows)) few.0 ∙ long
    ]

not_both : (b : Bool) → b ≡ true → b ≡ false → ⊥
not_both b is other = cc

module _ {B : Type 0} where
  -- an event that stays in the round
  pub kept_after : (lease lease' : Reserved) (shelf shelf' : Shelved) (basis : Option B) (events events' : Vec Event Global) (event : Event) → IsKept lease shelf basis events
      → lease'.machine ≡ after lease.machine event → events'.items ≡ events.items ++ event ∷ [] → length events'.items ≡ length events.items + 1
      → lease'.machine.next_ticket ≤ lease.machine.next_ticket + 1 → length events'.items + leased_count lease'.machine.tasks ≤ vec_capacity events'
      → SameRound lease.machine lease'.machine → SameRows shelf shelf' → IsKept lease' shelf' basis events'
  kept_after lease lease' shelf shelf' basis events events' event kept is items long tickets room same rows = record {
    first = kept.first;
    replays = ap (replay (started kept.first)) items ∙ (replay-push (started kept.first) events.items event ∙ (ap (λ (m : Machine). after m event) kept.replays ∙ sym is));
    tickets = omega (arith, tickets, long, kept.tickets);
    room = room;
    row = ap (row_length shelf') same.round ∙ (rows.row lease.machine.round ∙ (kept.row ∙ sym same.count));
    rows = λ some. rows.count ∙ (kept.rows (omega (arith, some, same.count)) ∙ ap (λ (n : ℕ). n + 1) (sym same.round));
    few = omega (arith, kept.few, rows.count, same.round);
    basis = λ some. kept.basis (omega (arith, some, same.count));
    some = λ going. let there = kept.some (sym same.ended ∙ going) in omega (arith, there, same.count);
  }

  -- where the artifact of a task is put
  pub place_there : (lease : Reserved) (shelf : Shelved) (basis : Option B) (events : Vec Event Global) (task : ℕ) → IsKept lease shelf basis events → task < length lease.machine.tasks → task < row_length shelf (length shelf.rows - 1)
  place_there lease shelf basis events task kept within =
      let some : 0 < length lease.machine.tasks = omega (arith, within) in
      let last : length shelf.rows - 1 ≡ lease.machine.round = omega (arith, kept.rows some) in
      omega (arith, within, kept.row, ap (row_length shelf) last)

  -- a task is leased, or was kept from before
  pub kept_takes : (lease lease' : Reserved) (shelf shelf' : Shelved) (basis : Option B) (events events' : Vec Event Global) (event : Event) (task : ℕ) (standing : Standing) → IsKept lease shelf basis events
      → lease'.machine ≡ record lease.machine { next_ticket = lease.machine.next_ticket + 1; tasks = set lease.machine.tasks task standing } → lease'.machine ≡ after lease.machine event
      → events'.items ≡ events.items ++ event ∷ [] → length events'.items ≡ length events.items + 1 → length events'.items + length lease.machine.tasks ≤ vec_capacity events'
      → SameRows shelf shelf' → IsKept lease' shelf' basis events'
  kept_takes lease lease' shelf shelf' basis events events' event task standing kept step is items long room rows =
      let count : length lease'.machine.tasks ≡ length lease.machine.tasks = ap (λ (m : Machine). length m.tasks) step ∙ length-set lease.machine.tasks task standing in
      let ticket : lease'.machine.next_ticket ≡ lease.machine.next_ticket + 1 = ap (λ (m : Machine). m.next_ticket) step in
      kept_after lease lease' shelf shelf' basis events events' event kept is items long (omega (arith, ticket)) (omega (arith, room, count, leased_few lease'.machine.tasks))
      (record { round = ap (λ (m : Machine). m.round) step; ended = ap (λ (m : Machine). m.ended) step; count = count }) rows

  -- there is room for the end of a lease
  pub room_to_end : (lease : Reserved) (shelf : Shelved) (basis : Option B) (events : Vec Event Global) (task ticket : ℕ) → IsKept lease shelf basis events → IsLeasedBy ticket (slice_get lease.machine.tasks task) → length events.items < vec_capacity events
  room_to_end lease shelf basis events task ticket kept by =
      let here = held (slice_get lease.machine.tasks task) ticket by in
      omega (arith, kept.room, ends_one lease.machine.tasks task ticket here.0 Free here.1 refl)

  -- a lease ends
  pub kept_ends : (lease lease' : Reserved) (shelf shelf' : Shelved) (basis : Option B) (events events' : Vec Event Global) (event : Event) (task ticket : ℕ) (standing : Standing) → IsKept lease shelf basis events
      → IsLeasedBy ticket (slice_get lease.machine.tasks task) → leased_count (standing ∷ []) ≡ 0
      → lease'.machine ≡ record lease.machine { tasks = set lease.machine.tasks task standing } → lease'.machine ≡ after lease.machine event
      → events'.items ≡ events.items ++ event ∷ [] → length events'.items ≡ length events.items + 1 → vec_capacity events ≡ vec_capacity events'
      → SameRows shelf shelf' → IsKept lease' shelf' basis events'
  kept_ends lease lease' shelf shelf' basis events events' event task ticket standing kept by none step is items long room rows =
      let here = held (slice_get lease.machine.tasks task) ticket by in
      let one : leased_count (set lease.machine.tasks task standing) + 1 ≡ leased_count lease.machine.tasks = ends_one lease.machine.tasks task ticket here.0 standing here.1 none in
      let now : leased_count lease'.machine.tasks ≡ leased_count (set lease.machine.tasks task standing) = ap (λ (m : Machine). leased_count m.tasks) step in
      let next : lease'.machine.next_ticket ≡ lease.machine.next_ticket = ap (λ (m : Machine). m.next_ticket) step in
      kept_after lease lease' shelf shelf' basis events events' event kept is items long (omega (arith, next)) (omega (arith, kept.room, long, room, one, now))
      (record { round = ap (λ (m : Machine). m.round) step; ended = ap (λ (m : Machine). m.ended) step; count = ap (λ (m : Machine). length m.tasks) step ∙ length-set lease.machine.tasks task standing }) rows

  -- leases are freed
  pub kept_expires : (lease lease' : Reserved) (shelf : Shelved) (basis : Option B) (events events' : Vec Event Global) (now freed : ℕ) → IsKept lease shelf basis events
      → Expires now lease.machine freed lease'.machine → 0 < freed → events'.items ≡ events.items ++ Expired now ∷ [] → length events'.items ≡ length events.items + 1 → vec_capacity events ≡ vec_capacity events'
      → IsKept lease' shelf basis events'
  kept_expires lease lease' shelf basis events events' now freed kept step some items long room =
      let left : leased_count lease'.machine.tasks ≡ leased_count (map (expired now) lease.machine.tasks) = ap (λ (m : Machine). leased_count m.tasks) step.1 in
      let next : lease'.machine.next_ticket ≡ lease.machine.next_ticket = ap (λ (m : Machine). m.next_ticket) step.1 in
      kept_after lease lease' shelf shelf basis events events' (Expired now) kept step.1 items long (omega (arith, next)) (omega (arith, kept.room, long, room, left, step.0, some, expires_count now lease.machine.tasks))
      (record { round = ap (λ (m : Machine). m.round) step.1; ended = ap (λ (m : Machine). m.ended) step.1; count = ap (λ (m : Machine). length m.tasks) step.1 ∙ length-map lease.machine.tasks (expired now) }) (no_change shelf)

  -- there is room for the event of leases that are freed
  pub room_to_expire : (lease lease' : Reserved) (shelf : Shelved) (basis : Option B) (events : Vec Event Global) (now freed : ℕ) → IsKept lease shelf basis events → Expires now lease.machine freed lease'.machine → 0 < freed → length events.items < vec_capacity events
  room_to_expire lease lease' shelf basis events now freed kept step some = omega (arith, kept.room, step.0, some, expires_count now lease.machine.tasks)

  -- no lease is freed
  pub kept_idle : (lease lease' : Reserved) (shelf : Shelved) (basis : Option B) (events : Vec Event Global) (now freed : ℕ) → IsKept lease shelf basis events → Expires now lease.machine freed lease'.machine → freed ≡ 0 → IsKept lease' shelf basis events
  kept_idle lease lease' shelf basis events now freed kept step none =
      let same : map (expired now) lease.machine.tasks ≡ lease.machine.tasks = none_expired now lease.machine.tasks (sym step.0 ∙ none) in
      let machine : lease'.machine ≡ lease.machine = step.1 ∙ ap (λ (tasks : List Standing). let m : Machine = record lease.machine { tasks = tasks } in m) same in
      record {
        first = kept.first;
        replays = kept.replays ∙ sym machine;
        tickets = subst (λ (m : Machine). m.next_ticket ≤ length events.items) (sym machine) kept.tickets;
        room = subst (λ (m : Machine). length events.items + leased_count m.tasks ≤ vec_capacity events) (sym machine) kept.room;
        row = subst (λ (m : Machine). row_length shelf m.round ≡ length m.tasks) (sym machine) kept.row;
        rows = subst (λ (m : Machine). 0 < length m.tasks → length shelf.rows ≡ m.round + 1) (sym machine) kept.rows;
        few = subst (λ (m : Machine). length shelf.rows ≤ m.round + 1) (sym machine) kept.few;
        basis = subst (λ (m : Machine). 0 < length m.tasks → IsSome basis) (sym machine) kept.basis;
        some = subst (λ (m : Machine). m.ended ≡ false → 0 < length m.tasks) (sym machine) kept.some;
      }

  -- the first round begins
  pub kept_first : (lease : Reserved) (shelf nothing : Shelved) (basis : B) (events : Vec Event Global) (tasks : ℕ) → 0 < tasks → lease.machine ≡ started tasks → nothing.rows ≡ [] → shelf ≡ begun nothing tasks → events.items ≡ [] → IsKept lease shelf (Some basis) events
  kept_first lease shelf nothing basis events tasks some machine empty begins none =
      let rows : length shelf.rows ≡ 1 = ap (λ (s : Shelved). length s.rows) begins ∙ (begun_rows nothing tasks ∙ ap (λ (l : List Row). length l + 1) empty) in
      let row : row_length shelf 0 ≡ tasks = ap (λ (s : Shelved). row_length s 0) begins ∙ (ap (λ (n : ℕ). row_length (begun nothing tasks) n) (sym (ap length empty)) ∙ begun_row nothing tasks) in
      let count : length lease.machine.tasks ≡ tasks = ap (λ (m : Machine). length m.tasks) machine ∙ length-replicate tasks Free in
      let free : leased_count lease.machine.tasks ≡ 0 = ap (λ (m : Machine). leased_count m.tasks) machine ∙ none_free tasks in
      let round : lease.machine.round ≡ 0 = ap (λ (m : Machine). m.round) machine in
      let ticket : lease.machine.next_ticket ≡ 0 = ap (λ (m : Machine). m.next_ticket) machine in
      record {
        first = tasks;
        replays = ap (replay (started tasks)) none ∙ sym machine;
        tickets = omega (arith, ticket);
        room = omega (arith, ap length none, free);
        row = ap (row_length shelf) round ∙ (row ∙ sym count);
        rows = λ _. omega (arith, rows, round);
        few = omega (arith, rows);
        basis = λ _. refl;
        some = λ _. omega (arith, some, count);
      }

  -- the next round begins
  pub kept_next : (lease lease' : Reserved) (shelf shelf' : Shelved) (basis : Option B) (next : B) (events events' : Vec Event Global) (tasks : ℕ) → IsKept lease shelf basis events → 0 < tasks
      → Advances tasks lease.machine lease'.machine → shelf' ≡ begun shelf tasks → events'.items ≡ events.items ++ Advanced tasks ∷ [] → length events'.items ≡ length events.items + 1 → length events'.items ≤ vec_capacity events'
      → IsKept lease' shelf' (Some next) events'
  kept_next lease lease' shelf shelf' basis next events events' tasks kept some step begins items long room =
      let there = kept.rows (kept.some step.1) in
      let rows : length shelf'.rows ≡ length shelf.rows + 1 = ap (λ (s : Shelved). length s.rows) begins ∙ begun_rows shelf tasks in
      let row : row_length shelf' (length shelf.rows) ≡ tasks = ap (λ (s : Shelved). row_length s (length shelf.rows)) begins ∙ begun_row shelf tasks in
      let count : length lease'.machine.tasks ≡ tasks = ap (λ (m : Machine). length m.tasks) step.2 ∙ length-replicate tasks Free in
      let free : leased_count lease'.machine.tasks ≡ 0 = ap (λ (m : Machine). leased_count m.tasks) step.2 ∙ none_free tasks in
      let round : lease'.machine.round ≡ lease.machine.round + 1 = ap (λ (m : Machine). m.round) step.2 in
      let ticket : lease'.machine.next_ticket ≡ lease.machine.next_ticket = ap (λ (m : Machine). m.next_ticket) step.2 in
      record {
        first = kept.first;
        replays = ap (replay (started kept.first)) items ∙ (replay-push (started kept.first) events.items (Advanced tasks) ∙ (ap (λ (m : Machine). after m (Advanced tasks)) kept.replays ∙ sym step.2));
        tickets = omega (arith, ticket, long, kept.tickets);
        room = omega (arith, room, free);
        row = ap (row_length shelf') (round ∙ sym there) ∙ (row ∙ sym count);
        rows = λ _. omega (arith, rows, round, there);
        few = omega (arith, rows, round, there);
        basis = λ _. refl;
        some = λ _. omega (arith, some, count);
      }

  -- the last round was the last
  pub kept_last : (lease lease' : Reserved) (shelf : Shelved) (basis : Option B) (events events' : Vec Event Global) → IsKept lease shelf basis events
      → Ends lease.machine lease'.machine → events'.items ≡ events.items ++ Ended ∷ [] → length events'.items ≡ length events.items + 1 → length events'.items ≤ vec_capacity events'
      → IsKept lease' shelf basis events'
  kept_last lease lease' shelf basis events events' kept step items long room =
      let count : length lease'.machine.tasks ≡ length lease.machine.tasks = ap (λ (m : Machine). length m.tasks) step.2 in
      let free : leased_count lease'.machine.tasks ≡ 0 = ap (λ (m : Machine). leased_count m.tasks) step.2 ∙ none_done lease.machine.tasks step.0 in
      let round : lease'.machine.round ≡ lease.machine.round = ap (λ (m : Machine). m.round) step.2 in
      let ticket : lease'.machine.next_ticket ≡ lease.machine.next_ticket = ap (λ (m : Machine). m.next_ticket) step.2 in
      let over : lease'.machine.ended ≡ true = ap (λ (m : Machine). m.ended) step.2 in
      record {
        first = kept.first;
        replays = ap (replay (started kept.first)) items ∙ (replay-push (started kept.first) events.items Ended ∙ (ap (λ (m : Machine). after m Ended) kept.replays ∙ sym step.2));
        tickets = omega (arith, ticket, long, kept.tickets);
        room = omega (arith, room, free);
        row = ap (row_length shelf) round ∙ (kept.row ∙ sym count);
        rows = λ here. kept.rows (omega (arith, here, count)) ∙ ap (λ (n : ℕ). n + 1) (sym round);
        few = omega (arith, kept.few, round);
        basis = λ here. kept.basis (omega (arith, here, count));
        some = λ going. absurd (not_both lease'.machine.ended over going);
      }
