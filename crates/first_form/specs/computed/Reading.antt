-- The form as a function on tokens: what the parser computes.
use Rattle.std.specs.Prelude.{ℕ, zero, suc, Bool, true, false, ◌&&◌, ◌||◌, ◌==◌, not, nat_le, nat_lt, if◌then◌else◌, List, [], ◌∷◌, length, codes, Option, Some, None, Result, Ok, Err, ◌≡◌, position}
use Rattle.std.specs.List.{list_any}
use Rattle.std.specs.Str.{bytes_eq, all_ascii_digits}
use Rattle.std.specs.Str.Parse.{digits_value}
use Rattle.first_form.specs.Pieces.{Piece}
use Rattle.c_lexer.specs.computed.Settings.{◌>>=◌}
use Rattle.first_form.specs.computed.Scan.{pieces_from, begins_with}
use Rattle.first_form.specs.Form.{begins_word, is_reserved, greatest_size, names, line_at, col_at}
use Rattle.first_form.specs.declared.program.Array.{Array}
use Rattle.first_form.specs.declared.program.Store.{Store}
use Rattle.first_form.specs.declared.program.Program.{Program}
use Rattle.first_form.specs.declared.refusal.Refusal.{Refusal}
use Rattle.first_form.specs.declared.refusal.Refusal.TheVariants as refusals

-- a refusal for its form says that nothing is read; one for want of memory says nothing
abbrev pub Fails : {Y : Type 0} → Refusal → Option Y → Type 0
Fails refusals.NotOfForm read = read ≡ None
Fails refusals.NoMemory read = Unit {0}

-- what a function of the code returned, seen by view, is what is read, unless memory ran out
abbrev pub Gives : {X Y : Type 0} → (X → Y) → Result X Refusal → Option Y → Type 0
Gives view (Ok x) read = read ≡ Some (view x)
Gives view (Err e) read = Fails e read

-- this word or mark
abbrev pub word_at : List ℕ → List Piece → Option (List Piece)
word_at word [] = None
word_at word (p ∷ ps) = if bytes_eq p.text word then Some ps else None

-- a name of an array
abbrev pub name_at : List Piece → Option (List ℕ × List Piece)
name_at [] = None
name_at (p ∷ ps) = if begins_word p.text && not (is_reserved p.text) then Some (p.text, ps) else None

-- 0, or 1 to 9 digits without a leading zero
abbrev pub is_number : List ℕ → Bool
is_number text = all_ascii_digits text && nat_lt 0 (length text) && nat_le (length text) 9 && (not (begins_with 48 text) || (length text == 1))

abbrev pub number_of : List ℕ → Option ℕ
number_of text = if is_number text then Some (digits_value 10 text) else None

abbrev pub number_at : List Piece → Option (ℕ × List Piece)
number_at [] = None
number_at (p ∷ ps) = number_of p.text >>= λ n. Some (n, ps)

-- "int" name "[" number "]" ";"
unfoldable pub array_at : List Piece → Option (Array × List Piece)
array_at ps = do
  int ← word_at (codes "int") ps
  name ← name_at int
  bracket ← word_at (codes "[") name.1
  size ← number_at bracket
  close ← word_at (codes "]") size.1
  end ← word_at (codes ";") close
  if nat_lt 0 size.0 && nat_le size.0 greatest_size then Some (record { name = name.0; size = size.0 }, end) else None

abbrev pub first_is : List ℕ → List Piece → Bool
first_is word [] = false
first_is word (p ∷ ps) = bytes_eq p.text word

abbrev pub second_is : List ℕ → List Piece → Bool
second_is word (p ∷ q ∷ ps) = bytes_eq q.text word
second_is word ps = false

-- one thing after another until stop holds, in less than so many turns
unfoldable pub many : {A : Type 0} → (List Piece → Bool) → (List Piece → Option (A × List Piece)) → ℕ → List Piece → Option (List A × List Piece)
many stop one zero ps = None
many stop one (suc n) ps = if stop ps then Some ([], ps) else (do
  first ← one ps
  others ← many stop one n first.1
  Some (first.0 ∷ others.0, others.1))

-- the arrays up to `main`
abbrev pub arrays_at : ℕ → List Piece → Option (List Array × List Piece)
arrays_at n ps = many (second_is (codes "main")) array_at n ps

-- no text stands twice
abbrev pub are_distinct : List (List ℕ) → Bool
are_distinct [] = true
are_distinct (x ∷ xs) = not (list_any (bytes_eq x) xs) && are_distinct xs

-- name "[" number "]" "=" number ";", where the arrays have these names
unfoldable pub store_at : List (List ℕ) → List Piece → Option (Store × List Piece)
store_at names ps = do
  name ← name_at ps
  array ← position (bytes_eq name.0) names
  bracket ← word_at (codes "[") name.1
  subscript ← number_at bracket
  close ← word_at (codes "]") subscript.1
  equals ← word_at (codes "=") close
  value ← number_at equals
  end ← word_at (codes ";") value.1
  Some (record { array = array; subscript = subscript.0; value = value.0; line = line_at name.1; col = col_at name.1 }, end)

-- the stores up to `return`
abbrev pub stores_at : ℕ → List (List ℕ) → List Piece → Option (List Store × List Piece)
stores_at n names ps = many (first_is (codes "return")) (store_at names) n ps

-- "int" "main" "(" "void" ")" "{"
unfoldable pub head_at : List Piece → Option (List Piece)
head_at ps = do
  int ← word_at (codes "int") ps
  main ← word_at (codes "main") int
  bracket ← word_at (codes "(") main
  void ← word_at (codes "void") bracket
  close ← word_at (codes ")") void
  word_at (codes "{") close

-- "return" number ";" "}", and no more
unfoldable pub tail_at : List Piece → Option ℕ
tail_at ps = do
  return ← word_at (codes "return") ps
  value ← number_at return
  semicolon ← word_at (codes ";") value.1
  close ← word_at (codes "}") semicolon
  if length close == 0 then Some value.0 else None

-- what stands behind arrays of these names: the stores, and the returned number
unfoldable pub body_at : List (List ℕ) → List Piece → Option (List Store × ℕ)
body_at names ps = do
  distinct ← (if are_distinct names then Some names else None)
  head ← head_at ps
  stores ← stores_at (length head) names head
  returned ← tail_at stores.1
  Some (stores.0, returned)

unfoldable pub program_at : List Piece → Option Program
program_at ps = do
  arrays ← arrays_at (length ps) ps
  body ← body_at (names arrays.0) arrays.1
  Some (record { arrays = arrays.0; stores = body.0; returned = body.1 })

-- the program that the file is, where it is of the form
abbrev pub reading : List ℕ → Option Program
reading bytes = pieces_from 0 1 1 bytes >>= program_at
