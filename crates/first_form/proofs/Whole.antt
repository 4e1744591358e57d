-- The whole file: what is read is of the form, and what is of the form is read.
use Rattle.std.proofs.Common.{◌≡◌, ◌≢◌, ℕ, zero, suc, ◌+◌, ◌<◌, ◌≤◌, Bool, true, false, cond, List, [], ◌∷◌, length, Option, Some, None, refl, sym, ap, ◌∙◌, subst, inl, inr, arith}
use Rattle.std.specs.Prelude.{codes, decimal}
use Rattle.std.specs.Prelude.{AllPairs}
use Rattle.std.specs.Str.{bytes_eq}
use Rattle.std.proofs.lemmas.Slice.Eq.{bytes_eq-Decides}
use Rattle.std.proofs.lemmas.Bool.{cases_Bool, false≢true}
use Rattle.first_form.specs.Pieces.{Piece}
use Rattle.first_form.specs.Form.{number_end, names, is_reserved, Spelled, IsName, IsArrayAt, IsStoreAt, Each, IsFormOf}
use Rattle.first_form.specs.computed.Reading.{many, first_is, second_is, are_distinct, array_at, arrays_at, store_at, stores_at, head_at, tail_at, body_at, program_at}
use Rattle.first_form.specs.declared.program.Array.{Array}
use Rattle.first_form.specs.declared.program.Store.{Store}
use Rattle.first_form.specs.declared.program.Program.{Program}
use Rattle.first_form.proofs.Distinct.{distinct_pairs, pairs_distinct}
use Rattle.first_form.proofs.Symbols.{bind_some, spelled_len}
use Rattle.first_form.proofs.Productions.{pair_parts, array_some, array_gives, store_some, store_gives, head_some, head_gives, tail_some, tail_gives}

-- ---- one after another

-- what is read one after another is each of the form
pub each_some : {A : Type 0} (stop : List Piece → Bool) (one : List Piece → Option (A × List Piece)) (One : A → List Piece → List Piece → Type 0)
    → ((a : A) (ps rest : List Piece) → one ps ≡ Some (a, rest) → One a ps rest)
    → (n : ℕ) (ps : List Piece) (xs : List A) (rest : List Piece) → many stop one n ps ≡ Some (xs, rest) → Each One xs ps rest × (stop rest ≡ true)
unfolding many
each_some stop one One h zero ps xs rest e = absurd cc
each_some {A} stop one One h (suc n) ps xs rest e = elim (cases_Bool (stop ps)) [
  | inl at_end ↦ (
      let got : ◌≡◌ {A = Option (List A × List Piece)} (Some ([], ps)) (Some (xs, rest)) = rw at_end at e in
      let parts = pair_parts [] xs ps rest got in
      (subst (λ (ys : List A). Each One ys ps rest) parts.0 parts.1, subst (λ (q : List Piece). stop q ≡ true) parts.1 at_end))
  | inr goes ↦ (
      let got = rw goes at e in
      let b1 = bind_some (one ps) _ _ got in
      let b2 = bind_some (many stop one n b1.0.1) _ _ b1.2 in
      let parts = pair_parts (b1.0.0 ∷ b2.0.0) xs b2.0.1 rest b2.2 in
      let tail = each_some stop one One h n b1.0.1 b2.0.0 b2.0.1 b2.1 in
      let whole : Each One (b1.0.0 ∷ b2.0.0) ps b2.0.1 = (b1.0.1, h b1.0.0 ps b1.0.1 b1.1, tail.0) in
      (subst (λ (ys : List A). Each One ys ps rest) parts.0 (subst (λ (q : List Piece). Each One (b1.0.0 ∷ b2.0.0) ps q) parts.1 whole), subst (λ (q : List Piece). stop q ≡ true) parts.1 tail.1))
]

-- what is each of the form is read one after another
pub each_gives : {A : Type 0} (stop : List Piece → Bool) (one : List Piece → Option (A × List Piece)) (One : A → List Piece → List Piece → Type 0)
    → ((a : A) (ps rest : List Piece) → One a ps rest → (stop ps ≡ false) × (one ps ≡ Some (a, rest)))
    → (xs : List A) (n : ℕ) (ps rest : List Piece) → length xs < n → stop rest ≡ true → Each One xs ps rest → many stop one n ps ≡ Some (xs, rest)
unfolding many
each_gives stop one One h xs zero ps rest lt at_end e = absurd (omega arith)
each_gives stop one One h [] (suc n) ps rest lt at_end e = subst (λ (q : List Piece). many stop one (suc n) q ≡ Some ([], rest)) (sym e) (rw at_end refl)
each_gives stop one One h (x ∷ xs) (suc n) ps rest lt at_end e =
    let first = h x ps e.0 e.1 in
    rw (first.0, first.1, each_gives stop one One h xs n e.0 rest (omega arith) at_end e.2) refl

each_len : {A : Type 0} (One : A → List Piece → List Piece → Type 0) → ((a : A) (ps rest : List Piece) → One a ps rest → length rest < length ps)
    → (xs : List A) (ps rest : List Piece) → Each One xs ps rest → length xs + length rest ≤ length ps
each_len One h [] ps rest e = omega (arith, ap length e)
each_len One h (x ∷ xs) ps rest e = omega (arith, h x ps e.0 e.1, each_len One h xs e.0 rest e.2)

-- ---- where the arrays and the stores stop

-- a reserved word is no name
not_reserved : (name word : List ℕ) → IsName name → is_reserved word ≡ true → bytes_eq name word ≡ false
not_reserved name word is reserved = elim (cases_Bool (bytes_eq name word)) [
  | inl same ↦ absurd (let e : name ≡ word = (bytes_eq-Decides name word).0 same in let bad : false ≡ true = sym is.free ∙ ap is_reserved e ∙ reserved in false≢true bad)
  | inr other ↦ other
]

array_goes : (a : Array) (ps rest : List Piece) → IsArrayAt a ps rest → (second_is (codes "main") ps ≡ false) × (array_at ps ≡ Some (a, rest))
array_goes a [] rest h = absurd h.spelled
array_goes a (p ∷ []) rest h = absurd h.spelled.1
array_goes a (p ∷ q ∷ ps) rest h = (ap (λ (t : List ℕ). bytes_eq t (codes "main")) h.spelled.1.0 ∙ not_reserved a.name (codes "main") h.named refl, array_gives a (p ∷ q ∷ ps) rest h)

store_goes : (arrays : List Array) (s : Store) (ps rest : List Piece) → IsStoreAt arrays s ps rest → (first_is (codes "return") ps ≡ false) × (store_at (names arrays) ps ≡ Some (s, rest))
store_goes arrays s [] rest h = absurd h.spelled
store_goes arrays s (p ∷ ps) rest h = (ap (λ (t : List ℕ). bytes_eq t (codes "return")) h.spelled.0 ∙ not_reserved h.name (codes "return") h.named refl, store_gives arrays s (p ∷ ps) rest h)

main_stops : (ts : List (List ℕ)) (ps rest : List Piece) → Spelled (codes "int" ∷ codes "main" ∷ ts) ps rest → second_is (codes "main") ps ≡ true
main_stops ts [] rest h = absurd h
main_stops ts (p ∷ []) rest h = absurd h.1
main_stops ts (p ∷ q ∷ ps) rest h = (bytes_eq-Decides q.text (codes "main")).1 h.1.0

return_stops : (ts : List (List ℕ)) (ps rest : List Piece) → Spelled (codes "return" ∷ ts) ps rest → first_is (codes "return") ps ≡ true
return_stops ts [] rest h = absurd h
return_stops ts (p ∷ ps) rest h = (bytes_eq-Decides p.text (codes "return")).1 h.0

-- ---- the file

body_gives : (ps end : List Piece) (p : Program) → AllPairs (λ x y. x ≢ y) (names p.arrays) → (head : List Piece) → Spelled (codes "int" ∷ codes "main" ∷ codes "(" ∷ codes "void" ∷ codes ")" ∷ codes "{" ∷ []) ps head
    → Each (IsStoreAt p.arrays) p.stores head end → p.returned < number_end → Spelled (codes "return" ∷ decimal p.returned ∷ codes ";" ∷ codes "}" ∷ []) end [] → body_at (names p.arrays) ps ≡ Some (p.stores, p.returned)
unfolding body_at
body_gives ps end p distinct head h stores small tail =
    let tail_len = spelled_len (codes "return" ∷ decimal p.returned ∷ codes ";" ∷ codes "}" ∷ []) end [] tail in
    let stores_len : length p.stores + length end ≤ length head = each_len (IsStoreAt p.arrays) (λ a q r s. omega (arith, spelled_len (s.name ∷ codes "[" ∷ decimal a.subscript ∷ codes "]" ∷ codes "=" ∷ decimal a.value ∷ codes ";" ∷ []) q r s.spelled)) p.stores head end stores in
    let all = each_gives (first_is (codes "return")) (store_at (names p.arrays)) (IsStoreAt p.arrays) (store_goes p.arrays) p.stores (length head) head end (omega arith) (return_stops (decimal p.returned ∷ codes ";" ∷ codes "}" ∷ []) end [] tail) stores in
    rw (pairs_distinct (names p.arrays) distinct, head_gives ps head h, all, tail_gives p.returned end small tail) refl

pub program_gives : (ps : List Piece) (p : Program) → IsFormOf ps p → program_at ps ≡ Some p
unfolding program_at
program_gives ps p h =
    let head_len = spelled_len (codes "int" ∷ codes "main" ∷ codes "(" ∷ codes "void" ∷ codes ")" ∷ codes "{" ∷ []) h.main h.body h.head in
    let arrays_len : length p.arrays + length h.main ≤ length ps = each_len IsArrayAt (λ a q r s. omega (arith, spelled_len (codes "int" ∷ a.name ∷ codes "[" ∷ decimal a.size ∷ codes "]" ∷ codes ";" ∷ []) q r s.spelled)) p.arrays ps h.main h.arrays in
    let arrays = each_gives (second_is (codes "main")) array_at IsArrayAt array_goes p.arrays (length ps) ps h.main (omega arith) (main_stops (codes "(" ∷ codes "void" ∷ codes ")" ∷ codes "{" ∷ []) h.main h.body h.head) h.arrays in
    rw (arrays, body_gives h.main h.end p h.distinct h.body h.head h.stores h.short h.tail) refl

distinct_some : (texts other : List (List ℕ)) → cond (are_distinct texts) (Some texts) None ≡ Some other → are_distinct texts ≡ true
distinct_some texts other e = elim (cases_Bool (are_distinct texts)) [
  | inl distinct ↦ distinct
  | inr same ↦ absurd (let bad : ◌≡◌ {A = Option (List (List ℕ))} None (Some other) = rw same at e in cc)
]

-- what is read behind the arrays
pub record Behind (arrays : List Array) (ps : List Piece) (stores : List Store) (returned : ℕ) : Type 0 where
  pub body : List Piece
  pub end : List Piece
  pub distinct : AllPairs (λ x y. x ≢ y) (names arrays)
  pub head : Spelled (codes "int" ∷ codes "main" ∷ codes "(" ∷ codes "void" ∷ codes ")" ∷ codes "{" ∷ []) ps body
  pub all : Each (IsStoreAt arrays) stores body end
  pub short : returned < number_end
  pub tail : Spelled (codes "return" ∷ decimal returned ∷ codes ";" ∷ codes "}" ∷ []) end []

body_some : (arrays : List Array) (ps : List Piece) (stores : List Store) (returned : ℕ) → body_at (names arrays) ps ≡ Some (stores, returned) → Behind arrays ps stores returned
unfolding body_at
body_some arrays ps stores returned e =
    let b2 = bind_some (cond (are_distinct (names arrays)) (Some (names arrays)) None) _ _ e in
    let b3 = bind_some (head_at ps) _ _ b2.2 in
    let b4 = bind_some (stores_at (length b3.0) (names arrays) b3.0) _ _ b3.2 in
    let b5 = bind_some (tail_at b4.0.1) _ _ b4.2 in
    let is : (b4.0.0, b5.0) ≡ (stores, returned) = (let got : ◌≡◌ {A = Option (List Store × ℕ)} (Some (b4.0.0, b5.0)) (Some (stores, returned)) = b5.2 in cc) in
    let all = each_some (first_is (codes "return")) (store_at (names arrays)) (IsStoreAt arrays) (λ s q r. store_some arrays q r s) (length b3.0) b3.0 b4.0.0 b4.0.1 b4.1 in
    let tail = tail_some b4.0.1 b5.0 b5.1 in
    subst (λ (x : List Store × ℕ). Behind arrays ps x.0 x.1) is
    (record { body = b3.0; end = b4.0.1; distinct = distinct_pairs (names arrays) (distinct_some (names arrays) b2.0 b2.1); head = head_some ps b3.0 b3.1; all = all.0; short = tail.0; tail = tail.1 })

pub program_some : (ps : List Piece) (p : Program) → program_at ps ≡ Some p → IsFormOf ps p
unfolding program_at
program_some ps p e =
    let b1 = bind_some (arrays_at (length ps) ps) _ _ e in
    let b2 = bind_some (body_at (names b1.0.0) b1.0.1) _ _ b1.2 in
    let made : Program = record { arrays = b1.0.0; stores = b2.0.0; returned = b2.0.1 } in
    let is : made ≡ p = (let got : ◌≡◌ {A = Option Program} (Some made) (Some p) = b2.2 in cc) in
    let arrays = each_some (second_is (codes "main")) array_at IsArrayAt (λ a q r. array_some q r a) (length ps) ps b1.0.0 b1.0.1 b1.1 in
    let rest = body_some b1.0.0 b1.0.1 b2.0.0 b2.0.1 b2.1 in
    subst (λ (x : Program). IsFormOf ps x) is
    (record { main = b1.0.1; body = rest.body; end = rest.end; arrays = arrays.0; distinct = rest.distinct; head = rest.head; stores = rest.all; short = rest.short; tail = rest.tail })
