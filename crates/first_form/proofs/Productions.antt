-- One production at a time: what is read is of the form, and what is of the form is read.
use Rattle.std.proofs.Common.{◌≡◌, ℕ, suc, ◌<◌, ◌≤◌, false, ◌&&◌, cond, ltb, leb, eqb, List, [], ◌∷◌, length, drop, Option, Some, None, refl, sym, ap, ◌∙◌, subst, inl, inr, arith}
use Rattle.std.specs.Prelude.{codes, decimal}
use Rattle.std.specs.Prelude.{position}
use Rattle.std.specs.Str.{bytes_eq}
use Rattle.std.proofs.lemmas.Bool.{cases_Bool, and_parts, ltb-true, lt-ltb, leb-true, le-leb, ne_eqb}
use Rattle.first_form.specs.Pieces.{Piece}
use Rattle.first_form.specs.Form.{number_end, greatest_size, names, line_at, col_at, Spelled, IsName, IsArrayAt, IsStoreAt}
use Rattle.first_form.specs.computed.Reading.{word_at, name_at, number_at, array_at, store_at, head_at, tail_at}
use Rattle.first_form.specs.declared.program.Array.{Array}
use Rattle.first_form.specs.declared.program.Store.{Store}
use Rattle.first_form.proofs.Symbols.{bind_some, word_some, word_gives, name_some, name_gives, number_at_some, number_at_gives, spelled_add, word_adds, word_reads, number_reads, name_reads}

-- ---- an array

abbrev sized : List ℕ → ℕ → List Piece → Option (Array × List Piece)
sized name size end = cond (ltb 0 size && leb size greatest_size) (Some (record { name = name; size = size }, end)) None

sized_some : (name : List ℕ) (size : ℕ) (end rest : List Piece) (a : Array) → sized name size end ≡ Some (a, rest) → (0 < a.size) × (a.size ≤ greatest_size) × (a.name ≡ name) × (a.size ≡ size) × (end ≡ rest)
sized_some name size end rest a e = elim (cases_Bool (ltb 0 size && leb size greatest_size)) [
  | inl fits ↦ (
      let got : ◌≡◌ {A = Option (Array × List Piece)} (Some (record { name = name; size = size }, end)) (Some (a, rest)) = rw fits at e in
      let pair : ◌≡◌ {A = Array × List Piece} (record { name = name; size = size }, end) (a, rest) = cc in
      let name_is : a.name ≡ name = sym (ap (λ (x : Array × List Piece). x.0.name) pair) in
      let size_is : a.size ≡ size = sym (ap (λ (x : Array × List Piece). x.0.size) pair) in
      let parts = and_parts _ _ fits in
      let low : 0 < size = ltb-true _ _ parts.0 in
      let high : size ≤ greatest_size = leb-true _ _ parts.1 in
      (omega arith, omega arith, name_is, size_is, ap (λ (x : Array × List Piece). x.1) pair))
  | inr other ↦ absurd (let bad : ◌≡◌ {A = Option (Array × List Piece)} None (Some (a, rest)) = rw other at e in cc)
]

pub array_some : (ps rest : List Piece) (a : Array) → array_at ps ≡ Some (a, rest) → IsArrayAt a ps rest
unfolding array_at
array_some ps rest a e =
    let b1 = bind_some (word_at (codes "int") ps) _ _ e in
    let b2 = bind_some (name_at b1.0) _ _ b1.2 in
    let b3 = bind_some (word_at (codes "[") b2.0.1) _ _ b2.2 in
    let b4 = bind_some (number_at b3.0) _ _ b3.2 in
    let b5 = bind_some (word_at (codes "]") b4.0.1) _ _ b4.2 in
    let b6 = bind_some (word_at (codes ";") b5.0) _ _ b5.2 in
    let s = sized_some b2.0.0 b4.0.0 b6.0 rest a b6.2 in
    let n = name_some b1.0 b2.0.1 b2.0.0 b2.1 in
    let m = number_at_some b3.0 b4.0.1 b4.0.0 b4.1 in
    let t6 : List (List ℕ) = codes ";" ∷ [] in
    let t5 : List (List ℕ) = codes "]" ∷ t6 in
    let t4 : List (List ℕ) = decimal b4.0.0 ∷ t5 in
    let t3 : List (List ℕ) = codes "[" ∷ t4 in
    let t2 : List (List ℕ) = b2.0.0 ∷ t3 in
    let s6 : Spelled t6 b5.0 rest = spelled_add (codes ";") [] b5.0 b6.0 rest (word_some (codes ";") b5.0 b6.0 b6.1) s.4 in
    let s5 : Spelled t5 b4.0.1 rest = spelled_add (codes "]") t6 b4.0.1 b5.0 rest (word_some (codes "]") b4.0.1 b5.0 b5.1) s6 in
    let s4 : Spelled t4 b3.0 rest = spelled_add (decimal b4.0.0) t5 b3.0 b4.0.1 rest m.0 s5 in
    let s3 : Spelled t3 b2.0.1 rest = spelled_add (codes "[") t4 b2.0.1 b3.0 rest (word_some (codes "[") b2.0.1 b3.0 b3.1) s4 in
    let s2 : Spelled t2 b1.0 rest = spelled_add b2.0.0 t3 b1.0 b2.0.1 rest n.0 s3 in
    let spelled : Spelled (codes "int" ∷ t2) ps rest = spelled_add (codes "int") t2 ps b1.0 rest (word_some (codes "int") ps b1.0 b1.1) s2 in
    record {
      named = subst IsName (sym s.2) n.1;
      not_empty = s.0;
      fits = s.1;
      spelled = subst (λ (k : ℕ). Spelled (codes "int" ∷ a.name ∷ codes "[" ∷ decimal k ∷ codes "]" ∷ codes ";" ∷ []) ps rest) (sym s.3)
          (subst (λ (t : List ℕ). Spelled (codes "int" ∷ t ∷ codes "[" ∷ decimal b4.0.0 ∷ codes "]" ∷ codes ";" ∷ []) ps rest) (sym s.2) spelled);
    }

pub array_gives : (a : Array) (ps rest : List Piece) → IsArrayAt a ps rest → array_at ps ≡ Some (a, rest)
unfolding array_at
array_gives a [] rest h = absurd h.spelled
array_gives a (p1 ∷ []) rest h = absurd h.spelled.1
array_gives a (p1 ∷ p2 ∷ []) rest h = absurd h.spelled.1.1
array_gives a (p1 ∷ p2 ∷ p3 ∷ []) rest h = absurd h.spelled.1.1.1
array_gives a (p1 ∷ p2 ∷ p3 ∷ p4 ∷ []) rest h = absurd h.spelled.1.1.1.1
array_gives a (p1 ∷ p2 ∷ p3 ∷ p4 ∷ p5 ∷ []) rest h = absurd h.spelled.1.1.1.1.1
array_gives a (p1 ∷ p2 ∷ p3 ∷ p4 ∷ p5 ∷ p6 ∷ ps) rest h =
    let low : 0 < a.size = h.not_empty in
    let high : a.size ≤ greatest_size = h.fits in
    let t1 = h.spelled in
    let t2 = t1.1 in
    let t3 = t2.1 in
    let t4 = t3.1 in
    let t5 = t4.1 in
    let t6 = t5.1 in
    rw (word_gives (codes "int") p1 (p2 ∷ p3 ∷ p4 ∷ p5 ∷ p6 ∷ ps) t1.0, name_gives p2 (p3 ∷ p4 ∷ p5 ∷ p6 ∷ ps) a.name t2.0 h.named, word_gives (codes "[") p3 (p4 ∷ p5 ∷ p6 ∷ ps) t3.0, number_at_gives p4 (p5 ∷ p6 ∷ ps) a.size t4.0 (omega arith), word_gives (codes "]") p5 (p6 ∷ ps) t5.0, word_gives (codes ";") p6 ps t6.0, lt-ltb _ _ low, le-leb _ _ high) (ap (λ (q : List Piece). Some (a, q)) t6.1)

-- ---- a store

pub pair_parts : {A : Type 0} (x y : A) (p q : List Piece) → ◌≡◌ {A = Option (A × List Piece)} (Some (x, p)) (Some (y, q)) → (x ≡ y) × (p ≡ q)
pair_parts {A} x y p q e =
    let pair : ◌≡◌ {A = A × List Piece} (x, p) (y, q) = cc in
    (ap (λ (z : A × List Piece). z.0) pair, ap (λ (z : A × List Piece). z.1) pair)

pub store_some : (arrays : List Array) (ps rest : List Piece) (s : Store) → store_at (names arrays) ps ≡ Some (s, rest) → IsStoreAt arrays s ps rest
unfolding store_at
store_some arrays ps rest s e =
    let b1 = bind_some (name_at ps) _ _ e in
    let b2 = bind_some (position (bytes_eq b1.0.0) (names arrays)) _ _ b1.2 in
    let b3 = bind_some (word_at (codes "[") b1.0.1) _ _ b2.2 in
    let b4 = bind_some (number_at b3.0) _ _ b3.2 in
    let b5 = bind_some (word_at (codes "]") b4.0.1) _ _ b4.2 in
    let b6 = bind_some (word_at (codes "=") b5.0) _ _ b5.2 in
    let b7 = bind_some (number_at b6.0) _ _ b6.2 in
    let b8 = bind_some (word_at (codes ";") b7.0.1) _ _ b7.2 in
    let made : Store = record { array = b2.0; subscript = b4.0.0; value = b7.0.0; line = line_at b1.0.1; col = col_at b1.0.1 } in
    let parts = pair_parts made s b8.0 rest b8.2 in
    let n = name_some ps b1.0.1 b1.0.0 b1.1 in
    let sub = number_at_some b3.0 b4.0.1 b4.0.0 b4.1 in
    let val = number_at_some b6.0 b7.0.1 b7.0.0 b7.1 in
    let behind : b1.0.1 ≡ drop 1 ps = sym (ap (drop 1) n.0.parts) in
    let t6 : List (List ℕ) = codes ";" ∷ [] in
    let t5 : List (List ℕ) = decimal b7.0.0 ∷ t6 in
    let t4 : List (List ℕ) = codes "=" ∷ t5 in
    let t3 : List (List ℕ) = codes "]" ∷ t4 in
    let t2 : List (List ℕ) = decimal b4.0.0 ∷ t3 in
    let t1 : List (List ℕ) = codes "[" ∷ t2 in
    let s6 : Spelled t6 b7.0.1 rest = word_adds (codes ";") [] b7.0.1 b8.0 rest b8.1 parts.1 in
    let s5 : Spelled t5 b6.0 rest = spelled_add (decimal b7.0.0) t6 b6.0 b7.0.1 rest val.0 s6 in
    let s4 : Spelled t4 b5.0 rest = word_adds (codes "=") t5 b5.0 b6.0 rest b6.1 s5 in
    let s3 : Spelled t3 b4.0.1 rest = word_adds (codes "]") t4 b4.0.1 b5.0 rest b5.1 s4 in
    let s2 : Spelled t2 b3.0 rest = spelled_add (decimal b4.0.0) t3 b3.0 b4.0.1 rest sub.0 s3 in
    let s1 : Spelled t1 b1.0.1 rest = word_adds (codes "[") t2 b1.0.1 b3.0 rest b3.1 s2 in
    let s0 : Spelled (b1.0.0 ∷ t1) ps rest = spelled_add b1.0.0 t1 ps b1.0.1 rest n.0 s1 in
    subst (λ (x : Store). IsStoreAt arrays x ps rest) parts.0
    (record {
      name = b1.0.0;
      named = n.1;
      declared = b2.1;
      short_subscript = sub.1;
      short_value = val.1;
      spelled = s0;
      line_is = ap line_at behind;
      col_is = ap col_at behind;
    })

pub store_gives : (arrays : List Array) (s : Store) (ps rest : List Piece) → IsStoreAt arrays s ps rest → store_at (names arrays) ps ≡ Some (s, rest)
unfolding store_at
store_gives arrays s ps rest h =
    let ts6 : List (List ℕ) = codes ";" ∷ [] in
    let ts5 : List (List ℕ) = decimal s.value ∷ ts6 in
    let ts4 : List (List ℕ) = codes "=" ∷ ts5 in
    let ts3 : List (List ℕ) = codes "]" ∷ ts4 in
    let ts2 : List (List ℕ) = decimal s.subscript ∷ ts3 in
    let ts1 : List (List ℕ) = codes "[" ∷ ts2 in
    let a = name_reads h.name ts1 ps rest h.named h.spelled in
    let b = word_reads (codes "[") ts2 a.0 rest a.2 in
    let c = number_reads s.subscript ts3 b.0 rest h.short_subscript b.2 in
    let d = word_reads (codes "]") ts4 c.0 rest c.2 in
    let e = word_reads (codes "=") ts5 d.0 rest d.2 in
    let f = number_reads s.value ts6 e.0 rest h.short_value e.2 in
    let g = word_reads (codes ";") [] f.0 rest f.2 in
    let line : line_at a.0 ≡ s.line = ap line_at a.3 ∙ sym h.line_is in
    let col : col_at a.0 ≡ s.col = ap col_at a.3 ∙ sym h.col_is in
    rw (a.1, h.declared, b.1, c.1, d.1, e.1, f.1, g.1, line, col) (ap (λ (q : List Piece). Some (s, q)) g.2)

-- ---- the head and the tail of `main`

pub head_some : (ps rest : List Piece) → head_at ps ≡ Some rest → Spelled (codes "int" ∷ codes "main" ∷ codes "(" ∷ codes "void" ∷ codes ")" ∷ codes "{" ∷ []) ps rest
unfolding head_at
head_some ps rest e =
    let b1 = bind_some (word_at (codes "int") ps) _ _ e in
    let b2 = bind_some (word_at (codes "main") b1.0) _ _ b1.2 in
    let b3 = bind_some (word_at (codes "(") b2.0) _ _ b2.2 in
    let b4 = bind_some (word_at (codes "void") b3.0) _ _ b3.2 in
    let b5 = bind_some (word_at (codes ")") b4.0) _ _ b4.2 in
    let t5 : List (List ℕ) = codes "{" ∷ [] in
    let t4 : List (List ℕ) = codes ")" ∷ t5 in
    let t3 : List (List ℕ) = codes "void" ∷ t4 in
    let t2 : List (List ℕ) = codes "(" ∷ t3 in
    let t1 : List (List ℕ) = codes "main" ∷ t2 in
    let s5 : Spelled t5 b5.0 rest = word_adds (codes "{") [] b5.0 rest rest b5.2 refl in
    let s4 : Spelled t4 b4.0 rest = word_adds (codes ")") t5 b4.0 b5.0 rest b5.1 s5 in
    let s3 : Spelled t3 b3.0 rest = word_adds (codes "void") t4 b3.0 b4.0 rest b4.1 s4 in
    let s2 : Spelled t2 b2.0 rest = word_adds (codes "(") t3 b2.0 b3.0 rest b3.1 s3 in
    let s1 : Spelled t1 b1.0 rest = word_adds (codes "main") t2 b1.0 b2.0 rest b2.1 s2 in
    word_adds (codes "int") t1 ps b1.0 rest b1.1 s1

pub head_gives : (ps rest : List Piece) → Spelled (codes "int" ∷ codes "main" ∷ codes "(" ∷ codes "void" ∷ codes ")" ∷ codes "{" ∷ []) ps rest → head_at ps ≡ Some rest
unfolding head_at
head_gives ps rest h =
    let ts5 : List (List ℕ) = codes "{" ∷ [] in
    let ts4 : List (List ℕ) = codes ")" ∷ ts5 in
    let ts3 : List (List ℕ) = codes "void" ∷ ts4 in
    let ts2 : List (List ℕ) = codes "(" ∷ ts3 in
    let ts1 : List (List ℕ) = codes "main" ∷ ts2 in
    let a = word_reads (codes "int") ts1 ps rest h in
    let b = word_reads (codes "main") ts2 a.0 rest a.2 in
    let c = word_reads (codes "(") ts3 b.0 rest b.2 in
    let d = word_reads (codes "void") ts4 c.0 rest c.2 in
    let e = word_reads (codes ")") ts5 d.0 rest d.2 in
    let f = word_reads (codes "{") [] e.0 rest e.2 in
    rw (a.1, b.1, c.1, d.1, e.1) (f.1 ∙ ap (λ (q : List Piece). Some q) f.2)

last_some : (close : List Piece) (value n : ℕ) → cond (eqb (length close) 0) (Some value) None ≡ Some n → (close ≡ []) × (value ≡ n)
last_some [] value n e = (refl, cc)
last_some (p ∷ ps) value n e = absurd (let more : suc (length ps) ≡ 0 → ⊥ = λ z. omega arith in let no : eqb (suc (length ps)) 0 ≡ false = ne_eqb _ _ more in let bad : ◌≡◌ {A = Option ℕ} None (Some n) = rw no at e in cc)

pub tail_some : (ps : List Piece) (n : ℕ) → tail_at ps ≡ Some n → (n < number_end) × Spelled (codes "return" ∷ decimal n ∷ codes ";" ∷ codes "}" ∷ []) ps []
unfolding tail_at
tail_some ps n e =
    let b1 = bind_some (word_at (codes "return") ps) _ _ e in
    let b2 = bind_some (number_at b1.0) _ _ b1.2 in
    let b3 = bind_some (word_at (codes ";") b2.0.1) _ _ b2.2 in
    let b4 = bind_some (word_at (codes "}") b3.0) _ _ b3.2 in
    let l = last_some b4.0 b2.0.0 n b4.2 in
    let m = number_at_some b1.0 b2.0.1 b2.0.0 b2.1 in
    let t3 : List (List ℕ) = codes "}" ∷ [] in
    let t2 : List (List ℕ) = codes ";" ∷ t3 in
    let t1 : List (List ℕ) = decimal b2.0.0 ∷ t2 in
    let s3 : Spelled t3 b3.0 [] = word_adds (codes "}") [] b3.0 b4.0 [] b4.1 l.0 in
    let s2 : Spelled t2 b2.0.1 [] = word_adds (codes ";") t3 b2.0.1 b3.0 [] b3.1 s3 in
    let s1 : Spelled t1 b1.0 [] = spelled_add (decimal b2.0.0) t2 b1.0 b2.0.1 [] m.0 s2 in
    let s0 : Spelled (codes "return" ∷ t1) ps [] = word_adds (codes "return") t1 ps b1.0 [] b1.1 s1 in
    (subst (λ (k : ℕ). k < number_end) l.1 m.1, subst (λ (k : ℕ). Spelled (codes "return" ∷ decimal k ∷ codes ";" ∷ codes "}" ∷ []) ps []) l.1 s0)

pub tail_gives : (n : ℕ) (ps : List Piece) → n < number_end → Spelled (codes "return" ∷ decimal n ∷ codes ";" ∷ codes "}" ∷ []) ps [] → tail_at ps ≡ Some n
unfolding tail_at
tail_gives n ps small h =
    let ts3 : List (List ℕ) = codes "}" ∷ [] in
    let ts2 : List (List ℕ) = codes ";" ∷ ts3 in
    let ts1 : List (List ℕ) = decimal n ∷ ts2 in
    let a = word_reads (codes "return") ts1 ps [] h in
    let b = number_reads n ts2 a.0 [] small a.2 in
    let c = word_reads (codes ";") ts3 b.0 [] b.2 in
    let d = word_reads (codes "}") [] c.0 [] c.2 in
    rw (a.1, b.1, c.1, d.1, d.2) refl
