-- The loads of the files that are asked for, one after another.
use Rattle.std.proofs.Common.{◌≡◌, ◌⊎◌, ℕ, zero, suc, ◌+◌, ◌*◌, ◌-◌, ◌<◌, ◌≤◌, Bool, true, false, cond, List, [], ◌∷◌, ◌++◌, length, take, Option, Some, None, refl, sym, ap, ◌∙◌, subst, inl, inr, arith}
use Rattle.std.specs.Prelude.{IfSome, slice_get, get_or, codes, map, String, string_bytes}
use Rattle.std.specs.Option.{option_map}
use Rattle.std.specs.declared.alloc.Global.{Global}
use Rattle.std.specs.Str.{bytes_eq}
use Rattle.std.proofs.Math.Seq.{take-length, take-suc}
use Rattle.std.proofs.lemmas.Option.{slice_get_within, slice_get_read, slice_get-map, get_or_from_slice_get}
use Rattle.sv_outside.specs.Outside.{Files, Rose, LoadsFrom, counted}
use Rattle.sv_outside.specs.declared.sources.Loaded.TheVariants as loaded
use Rattle.first_form.specs.declared.program.Program.{Program}
use Rattle.survey.specs.Words.{Asked, only_one, only_file}
use Rattle.survey.specs.Outcome.{IsFirstForm, LoadsSome, LoadedLast, loads_after}
use Rattle.survey.specs.Sources.{Source, AllShort, IsFirst}
use Rattle.survey.specs.computed.Endings.{Stands, AllStand, IsLong, IsRefusal, StopsOne, Stopped}
use Rattle.survey.specs.declared.ending.Ending.{Ending}
use Rattle.survey.specs.declared.ending.Ending.TheVariants as endings

some_same : {A : Type 0} (x y : A) → Some x ≡ Some y → x ≡ y
some_same x y e = cc

-- ---- the one file

only_one_is : (files : List (List ℕ)) (n : List ℕ) → only_one files ≡ Some n → files ≡ n ∷ []
only_one_is [] n e = absurd cc
only_one_is (f ∷ []) n e = ap (λ (x : List ℕ). x ∷ []) (some_same f n e)
only_one_is (f ∷ g ∷ more) n e = absurd cc

one_if : (b : Bool) (files : List (List ℕ)) (n : List ℕ) → cond b (only_one files) None ≡ Some n → files ≡ n ∷ []
one_if true files n e = only_one_is files n e
one_if false files n e = absurd cc

pub only_file_is : (a : Asked) (n : List ℕ) → only_file a ≡ Some n → a.files ≡ n ∷ []
only_file_is a n e = one_if (bytes_eq a.entry (codes "main")) a.files n e

at_one : (i : ℕ) (n name : List ℕ) → slice_get (n ∷ []) i ≡ Some name → (i ≡ 0) × (n ≡ name)
at_one zero n name e = (refl, some_same n name e)
at_one (suc i) n name e = absurd cc

pub files_of : {told : Option Files} {a : Asked} {name : List ℕ} {program : Program} (f : IsFirstForm told (Some a) name program) → a.files ≡ name ∷ []
files_of {told} {a} {name} f =
    let same : a ≡ f.what = some_same a f.what f.asks in
    ap (λ (x : Asked). x.files) same ∙ only_file_is f.what name f.named

-- ---- so far

-- the files that were loaded so far, with the room that is left and what was counted
pub record SoFar (told : Option Files) (a : Asked) (i : ℕ) (files : List Source) (room unread_before unread_now before now : ℕ) : Type 0 where
  pub stand : AllStand told (take i a.files) files
  pub left : 33554432 ≤ room + i * 16777216
  pub read : unread_now ≡ unread_before
  pub loads : now ≡ loads_after i before

stand_more : (told : Option Files) (names : List (List ℕ)) (files : List Source) (name : List ℕ) (s : Source) → AllStand told names files → s.name ≡ name → Stands told s → AllStand told (names ++ name ∷ []) (files ++ s ∷ [])
stand_more told [] [] name s h is stands = (is, stands, tt)
stand_more told [] (t ∷ files) name s h is stands = absurd h
stand_more told (n ∷ names) [] name s h is stands = absurd h
stand_more told (n ∷ names) (t ∷ files) name s h is stands = (h.0, h.1, stand_more told names files name s h.2 is stands)

take_one_more : (names : List (List ℕ)) (i : ℕ) (name : List ℕ) → slice_get names i ≡ Some name → take (suc i) names ≡ take i names ++ name ∷ []
take_one_more names i name e = take-suc names i name (slice_get_within names i name e) ∙ ap (λ (x : List ℕ). take i names ++ x ∷ []) (get_or_from_slice_get names i name name e)

next_is : (i : ℕ) → i + 1 ≡ suc i
next_is i = omega arith

module _ {told : Option Files} {a : Asked} {i : ℕ} {files : List Source} {room unread_before unread_now before now : ℕ} where
  pub turned : (name : List ℕ) (s : Source) (unread_next next : ℕ) → SoFar told a i files room unread_before unread_now before now → slice_get a.files i ≡ Some name → s.name ≡ name → Stands told s → length s.bytes ≤ room → unread_next ≡ unread_now → next ≡ counted now → SoFar told a (i + 1) (files ++ s ∷ []) (room - length s.bytes) unread_before unread_next before next
  turned name s unread_next next h at is stands within read loads =
      let more = subst (λ (names : List (List ℕ)). AllStand told names (files ++ s ∷ [])) (sym (take_one_more a.files i name at)) (stand_more told (take i a.files) files name s h.stand is stands) in
      let short : length s.bytes ≤ 16777216 = stands.short in
      let before_left : 33554432 ≤ room + i * 16777216 = h.left in
      record {
        stand = subst (λ (n : ℕ). AllStand told (take n a.files) (files ++ s ∷ [])) (sym (next_is i)) more;
        left = omega arith;
        read = read ∙ h.read;
        loads = subst (λ (n : ℕ). next ≡ loads_after n before) (sym (next_is i)) (loads ∙ ap counted h.loads);
      }

  -- a file that is asked for alone is neither too long nor without room
  not_first : (name : List ℕ) → SoFar told a i files room unread_before unread_now before now → slice_get a.files i ≡ Some name → IsLong told name ⊎ (room < 16777216) → (n : List ℕ) (program : Program) → IsFirstForm told (Some a) n program → ⊥
  not_first name h at why n program f =
      let here = at_one i n name (subst (λ (names : List (List ℕ)). slice_get names i ≡ Some name) (files_of f) at) in
      elim why [
        | inl long ↦
            (let cause = subst (λ (t : Option Files). IsLong t name) f.is_told long in
            let bytes_same : f.bytes ≡ cause.0 = some_same f.bytes cause.0 (sym f.found ∙ ap f.files here.1 ∙ cause.1) in
            let short : length cause.0 ≤ 16777216 = subst (λ (b : List ℕ). length b ≤ 16777216) bytes_same f.short in
            let much : 16777216 < length cause.0 = cause.2 in
            omega arith)
        | inr few ↦
            (let all : 33554432 ≤ room + i * 16777216 = h.left in
            let first : i ≡ 0 = here.0 in
            omega arith)
      ]

  loads_some : (name : List ℕ) (answer next : ℕ) → SoFar told a i files room unread_before unread_now before now → slice_get a.files i ≡ Some name → next ≡ counted now → 1 < answer → (answer ≡ 7 → ⊥) → LoadsSome a answer before next
  loads_some name answer next h at loads much other = record {
    count = suc i;
    within = slice_get_within a.files i name at;
    is = loads ∙ ap counted h.loads;
    whole = λ z. elim z [ inl e ↦ omega arith | inr y ↦ elim y [ inl e ↦ omega arith | inr e ↦ absurd (other e) ] ];
  }

  pub stopped : (name : List ℕ) (e : Ending) (unread_next next : ℕ) → SoFar told a i files room unread_before unread_now before now → slice_get a.files i ≡ Some name → next ≡ counted now → StopsOne e told name room unread_now unread_next → Stopped e told a (record { loads_before = before; loads_now = next; unread_before = unread_before; unread_now = unread_next; puts_before = 0; puts_now = 0 })
  stopped name (endings.Refused line) unread_next next h at loads stops =
      record { stops = (stops.0, not_first name h at stops.1, loads_some name 3 next h at loads (omega arith) (λ e. omega arith), stops.2 ∙ h.read) }
  stopped name (endings.CannotRead text) unread_next next h at loads stops =
      record { stops = ((name, record { what = a; asks = refl; count = i; named = at; is = loads ∙ ap counted h.loads }, stops.0), subst (λ (n : ℕ). Rose n unread_next) h.read stops.1) }
  stopped name endings.NoMemory unread_next next h at loads stops =
      record { stops = loads_some name 8 next h at loads (omega arith) (λ e. omega arith) }
  stopped name (endings.Reported answer) unread_next next h at loads stops = absurd stops
  stopped name endings.NotWritten unread_next next h at loads stops = absurd stops
  stopped name endings.Usage unread_next next h at loads stops = absurd stops

pub begun : (told : Option Files) (a : Asked) (unread before : ℕ) → SoFar told a 0 [] 33554432 unread unread before before
begun told a unread before = record { stand = tt; left = omega arith; read = refl; loads = refl }

pub all_stand : (told : Option Files) (a : Asked) (files : List Source) (room unread_before unread_now before now : ℕ) → SoFar told a (length a.files) files room unread_before unread_now before now → AllStand told a.files files
all_stand told a files room unread_before unread_now before now h = subst (λ (names : List (List ℕ)). AllStand told names files) (take-length a.files) h.stand

-- ---- what all of them are

pub all_short : (told : Option Files) (names : List (List ℕ)) (sources : List Source) → AllStand told names sources → AllShort sources
all_short told [] [] h = tt
all_short told [] (s ∷ sources) h = absurd h
all_short told (name ∷ names) [] h = absurd h
all_short told (name ∷ names) (s ∷ sources) h = (h.1.short, all_short told names sources h.2)

pub none_long : (files : Files) (names : List (List ℕ)) (sources : List Source) (k : ℕ) (name bytes : List ℕ) → AllStand (Some files) names sources → slice_get names k ≡ Some name → files name ≡ Some bytes → 16777216 < length bytes → ⊥
none_long files [] sources k name bytes h at found long = absurd cc
none_long files (n ∷ names) [] k name bytes h at found long = absurd h
none_long files (n ∷ names) (s ∷ sources) zero name bytes h at found long =
    let same : s.name ≡ name = h.0 ∙ some_same n name at in
    let bytes_same : s.bytes ≡ bytes = some_same s.bytes bytes (sym h.1.found ∙ ap files same ∙ found) in
    let short : length bytes ≤ 16777216 = subst (λ (b : List ℕ). length b ≤ 16777216) bytes_same h.1.short in
    omega arith
none_long files (n ∷ names) (s ∷ sources) (suc k) name bytes h at found long = none_long files names sources k name bytes h.2 at found long

one_source : (told : Option Files) (name : List ℕ) (sources : List Source) → AllStand told (name ∷ []) sources → (s : Source) × (sources ≡ s ∷ []) × (s.name ≡ name) × Stands told s
one_source told name [] h = absurd h
one_source told name (s ∷ []) h = (s, refl, h.0, h.1)
one_source told name (s ∷ t ∷ more) h = absurd h.2

-- the sources of a file of the first form are that file
pub is_first : (told : Option Files) (a : Asked) (sources : List Source) (name : List ℕ) (program : Program) → AllStand told a.files sources → IsFirstForm told (Some a) name program → IsFirst a sources name program
is_first told a sources name program h f =
    let one = one_source told name sources (subst (λ (names : List (List ℕ)). AllStand told names sources) (files_of f) h) in
    let here : f.files one.0.name ≡ Some one.0.bytes = subst (λ (t : Option Files). IfSome t (λ files. files one.0.name ≡ Some one.0.bytes)) f.is_told one.3.found in
    let bytes_same : one.0.bytes ≡ f.bytes = some_same one.0.bytes f.bytes (sym here ∙ ap f.files one.2 ∙ f.found) in
    let same : a ≡ f.what = some_same a f.what f.asks in
    record {
      named = subst (λ (x : Asked). only_file x ≡ Some name) (sym same) f.named;
      bytes = f.bytes;
      only = one.1 ∙ ap (λ (s : Source). s ∷ []) (let n : one.0.name ≡ name = one.2 in subst (λ (m : List ℕ). one.0 ≡ record { name = m; bytes = f.bytes }) n (ap (λ (b : List ℕ). record { name = one.0.name; bytes = b }) bytes_same));
      form = f.form;
    }

-- ---- what one load says

long_found : (found : Option (List ℕ)) (gained : List ℕ) → LoadsFrom loaded.TooLarge 16777216 found gained → (bytes : List ℕ) × (found ≡ Some bytes) × (16777216 < length bytes)
long_found None gained h = absurd h
long_found (Some bytes) gained h = (bytes, refl, h.0)

pub long_told : (told : Option Files) (name gained : List ℕ) → IfSome told (λ files. LoadsFrom loaded.TooLarge 16777216 (files name) gained) → IsLong told name
long_told None name gained h = tt
long_told (Some files) name gained h = long_found (files name) gained h

pub refused_stops : (e : Ending) (told : Option Files) (name : List ℕ) (room before now : ℕ) → IsRefusal e → IsLong told name ⊎ (room < 16777216) → now ≡ before → StopsOne e told name room before now
refused_stops (endings.Refused line) told name room before now is why same = (is, why, same)
refused_stops endings.NoMemory told name room before now is why same = tt
refused_stops (endings.CannotRead text) told name room before now is why same = absurd is
refused_stops (endings.Reported answer) told name room before now is why same = absurd is
refused_stops endings.NotWritten told name room before now is why same = absurd is
refused_stops endings.Usage told name room before now is why same = absurd is

-- the name of the file that is loaded in a turn
pub named_at : (xs ys : List (String Global)) (i : ℕ) (x : String Global) → xs ≡ ys → x ≡ get_or xs i x → i < length xs → slice_get (map string_bytes ys) i ≡ Some (string_bytes x)
named_at xs ys i x same is lt =
    let at : slice_get xs i ≡ Some x = slice_get_read xs (length xs) i x refl lt is in
    slice_get-map string_bytes ys i ∙ ap (option_map string_bytes) (subst (λ (l : List (String Global)). slice_get l i ≡ Some x) same at)
