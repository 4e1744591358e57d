-- What a program does: the accesses of a run, and how it ends.
use Rattle.std.specs.Prelude.{ℕ, zero, suc, ◌*◌, Bool, ◌&&◌, if◌then◌else◌, List, [], ◌∷◌, ◌++◌, int_le, Option, Some, None, ℤ, pos, ◌+ℤ◌, ◌≤ℤ◌}
use Rattle.first_form.specs.Objects.{Int, size_of, Object, Value, Number, Pointer, State, region_length, with_written, start}
use Rattle.first_form.specs.declared.program.Store.{Store}
use Rattle.first_form.specs.declared.program.Program.{Program}

-- an access at a site: the bytes of the region, the byte at which the access begins, and how many bytes it takes
pub record Visit : Type 0 where
  pub site : ℕ
  pub length : ℕ
  pub offset : ℤ
  pub width : ℕ

-- the access lies inside its region
pub record IsInside (v : Visit) : Type 0 where
  pub low : pos 0 ≤ℤ v.offset
  pub high : (v.offset +ℤ pos v.width) ≤ℤ pos v.length

-- the test of that
abbrev pub is_inside : Visit → Bool
is_inside v = int_le (pos 0) v.offset && int_le (v.offset +ℤ pos v.width) (pos v.length)

-- why a run is undefined: what is used as a pointer is none, or no scalar of the right type is there
pub data Reason : Type 0 where
  BadPointer : Reason
  NoLeaf : Reason

-- How a run ends. `Spent` is the end of a run whose bound or words ran out; so far no run needs either.
pub data End : Type 0 where
  Finished : End
  Spent : End
  Outside : (site : ℕ) → End
  Undefined : Reason → (site : Option ℕ) → End

-- the value with which a part of a run goes on, and the state then; or the end
pub data Left (A : Type 0) : Type 0 where
  Goes : A → State → Left A
  Ends : End → Left A

-- a part of a run: what it visits, and what it leaves
pub record Part (A : Type 0) : Type 0 where
  pub visits : List Visit
  pub left : Left A

abbrev pub goes : {A : Type 0} → A → State → Part A
goes a s = record { visits = []; left = Goes a s }

abbrev pub ends : {A : Type 0} → End → Part A
ends e = record { visits = []; left = Ends e }

abbrev pub after : {A : Type 0} → List Visit → Part A → Part A
after visits p = record { visits = visits ++ p.visits; left = p.left }

abbrev pub next : {A B : Type 0} → Left A → (A → State → Part B) → Part B
next (Goes a s) f = f a s
next (Ends e) f = ends e

-- one part, and then another from the value and the state that it leaves
abbrev pub then_do : {A B : Type 0} → Part A → (A → State → Part B) → Part B
then_do p f = after p.visits (next p.left f)

-- 6.5.3.2: a dereference of an address to an object of so many bytes, at a site. The site is visited; the run goes
-- on, with the address, where the access lies inside the region.
abbrev pub dereference : ℕ → Value → ℕ → State → Part Value
dereference site (Pointer object offset) width s =
    let v : Visit = record { site = site; length = region_length s object; offset = offset; width = width } in
    record { visits = v ∷ []; left = if is_inside v then Goes (Pointer object offset) s else Ends (Outside site) }
dereference site (Number i) width s = ends (Undefined BadPointer (Some site))

abbrev pub written : Option State → Part (Unit {0})
written (Some s) = goes tt s
written None = ends (Undefined NoLeaf None)

abbrev pub put_objects : State → Option (List Object) → Option State
put_objects s None = None
put_objects s (Some objects) = Some (record { objects = objects; words = s.words })

-- the scalar at an address holds a value
abbrev pub write : Value → Value → State → Part (Unit {0})
write (Pointer object offset) v s = written (put_objects s (with_written s.objects object offset v))
write (Number i) v s = ends (Undefined BadPointer None)

-- 6.5.2.1: E1[E2] is *((E1) + (E2)); this is the address of the element, where E1 is an array of `int`
abbrev pub element : ℕ → ℕ → Value
element array subscript = Pointer array (pos (subscript * size_of Int))

-- 6.5.16: a[i] = c. Its left side is evaluated and checked first.
abbrev pub store : ℕ → Store → State → Part (Unit {0})
store site st s = then_do (dereference site (element st.array st.subscript) (size_of Int) s) (λ place s. write place (Number (pos st.value)) s)

-- 6.8.2: the stores in order, whose sites are numbered from here
abbrev pub stores : ℕ → List Store → State → Part (Unit {0})
stores site [] s = goes tt s
stores site (st ∷ more) s = then_do (store site st s) (λ _ s. stores (suc site) more s)

-- so many calls of `main`, one after another on one state
abbrev pub calls : Program → ℕ → State → Part (Unit {0})
calls p zero s = goes tt s
calls p (suc n) s = then_do (stores 0 p.stores s) (λ _ s. calls p n s)

-- what a run visits, and how it ends
pub record Run : Type 0 where
  pub visits : List Visit
  pub end : End

abbrev pub end_of : {A : Type 0} → Left A → End
end_of (Goes a s) = Finished
end_of (Ends e) = e

abbrev pub run_of : {A : Type 0} → Part A → Run
run_of p = record { visits = p.visits; end = end_of p.left }

-- The run that calls `main` so many times, with at most `bound` turns of each loop and nested calls, and these words
-- to draw from. So far there are no loops and no calls inside of `main`, and nothing is drawn.
unfoldable pub run : Program → ℕ → ℕ → List ℤ → Run
run p count bound words = run_of (calls p count (start p words))
