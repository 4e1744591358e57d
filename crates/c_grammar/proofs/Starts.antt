-- What a derivation begins with, and what stands behind a nonterminal in it.
use Rattle.std.proofs.Common.{◌≡◌, ℕ, Bool, true, false, not, ◌&&◌, ◌||◌, List, ◌∷◌, refl, ◌∙◌, subst}
use Rattle.std.proofs.lemmas.Bool.{and_parts, and_from}
use Rattle.c_tree.specs.declared.lexeme.Lexeme.{Lexeme}
use Rattle.c_grammar.specs.Items.{Sym, In, Out, Item, nt}
use Rattle.c_grammar.specs.State.{State}
use Rattle.c_grammar.proofs.Categories.{Set, sees, within, apart, sees_within, sees_apart, sees_first, sees_second}
use Rattle.c_grammar.proofs.Changes.{Change, Changes, before, after}
use Rattle.c_grammar.proofs.Described.{Described}
use Rattle.c_grammar.proofs.Entries.{entry_of}
use Rattle.c_grammar.proofs.Entry.{Entry}
use Rattle.c_grammar.proofs.Firsts.{Piece, Piece.next, Piece.change, Piece.symbol, firsts, conts, nullable, nulls, begin, empty, through, before_all, only_if, follows, begins}
use Rattle.c_grammar.proofs.Parts.{Parts}
use Rattle.c_grammar.proofs.Rows.{row, sound, plain, stands}

-- no token was taken
pub record Untouched (ps : List Piece) (s : State) (ts : List Lexeme) (end : State) (rest : List Lexeme) : Type 0 where
  pub is_empty : empty ps ≡ true
  pub same : rest ≡ ts
  pub forward : (A : Set) → sees A s ts ≡ true → sees (through ps A) end rest ≡ true
  pub back : (A : Set) → sees A end rest ≡ true → sees (before_all ps A) s ts ≡ true

pub data Start (ps : List Piece) (s : State) (ts : List Lexeme) (end : State) (rest : List Lexeme) : Type 0 where
  took : sees (begin ps) s ts ≡ true → Start ps s ts end rest
  passed : Untouched ps s ts end rest → Start ps s ts end rest

next_start : {ps : List Piece} {s : State} {ts : List Lexeme} {end : State} {rest : List Lexeme} → Start ps s ts end rest
    → Start (next ∷ ps) s ts end rest
next_start (took h) = took h
next_start (passed u) = passed (record { is_empty = u.is_empty; same = u.same; forward = u.forward; back = u.back })

change_start : {f : State → State} {c : Change} {ps : List Piece} {s : State} {ts : List Lexeme} {end : State} {rest : List Lexeme}
    → Changes f c → Start ps (f s) ts end rest → Start (change c ∷ ps) s ts end rest
change_start {ps = ps} {s} {ts} x (took h) = took (x.back (begin ps) s ts h)
change_start {c = c} {ps = ps} {s} {ts} x (passed u) = passed (record {
  is_empty = u.is_empty;
  same = u.same;
  forward = λ A h. u.forward (after c A) (x.forward A s ts h);
  back = λ A h. x.back (before_all ps A) s ts (u.back A h);
})

implied : (a b : Bool) → not a || b ≡ true → a ≡ true → b ≡ true
implied true b e h = e
implied false b e h = cc

pub begins_of : (n : Sym) (i : ℕ) → sound n i ≡ true → begins n (row n i) ≡ true
begins_of n i e = (and_parts _ _ (and_parts (begins n (row n i) && follows n (row n i)) _ e).0).0

pub follows_of : (n : Sym) (i : ℕ) → sound n i ≡ true → follows n (row n i) ≡ true
follows_of n i e = (and_parts _ _ (and_parts (begins n (row n i) && follows n (row n i)) _ e).0).1

pub stands_of : (n : Sym) (i : ℕ) → sound n i ≡ true → plain n ≡ true → stands n i (row n i) (empty (row n i)) ≡ true
stands_of n i e p = implied (plain n) _ (and_parts (begins n (row n i) && follows n (row n i)) _ e).1 p

firsts_hold : (n : Sym) (ps : List Piece) (s : State) (ts : List Lexeme) → begins n ps ≡ true → sees (begin ps) s ts ≡ true
    → sees (firsts n) s ts ≡ true
firsts_hold n ps s ts e h = sees_within (begin ps) (firsts n) s ts
    (and_parts (within (begin ps) (firsts n)) (not (empty ps) || nullable n) e).0 h

nullable_holds : (n : Sym) (ps : List Piece) → begins n ps ≡ true → empty ps ≡ true → nullable n ≡ true
nullable_holds n ps e h = implied (empty ps) (nullable n) (and_parts (within (begin ps) (firsts n)) (not (empty ps) || nullable n) e).1 h

only : (b : Bool) (A : Set) (s : State) (ts : List Lexeme) → b ≡ true → sees A s ts ≡ true → sees (only_if b A) s ts ≡ true
only true A s ts e h = h
only false A s ts e h = cc

symbol_start : {n : Sym} {a : In n} {b : Out n} {items : List Item} {ps : List Piece} {s : State} {ts : List Lexeme} {mid : State}
    {middle : List Lexeme} {end : State} {rest : List Lexeme}
    (e : Entry n a b items) → Start (row n e.place) s ts mid middle → Start ps mid middle end rest → Start (symbol n ∷ ps) s ts end rest
symbol_start {n} {ps = ps} {s} {ts} e (took h) y =
    took (sees_first (firsts n) (only_if (nullable n) (before (nulls n) (begin ps))) s ts
    (firsts_hold n (row n e.place) s ts (begins_of n e.place e.tested) h))
symbol_start {n} {ps = ps} {s} {ts} e (passed u) (took h) =
    let seen = subst (λ (A : Set). sees A s ts ≡ true) (e.quiet_before u.is_empty (begin ps)) (u.back (begin ps) h) in
    let null = nullable_holds n (row n e.place) (begins_of n e.place e.tested) u.is_empty in
    took (sees_second (firsts n) (only_if (nullable n) (before (nulls n) (begin ps))) s ts
    (only (nullable n) (before (nulls n) (begin ps)) s ts null seen))
symbol_start {n} {ps = ps} {s} {ts} {mid} {middle} {end} {rest} e (passed u) (passed v) = passed (record {
  is_empty = and_from (nullable n) (empty ps) (nullable_holds n (row n e.place) (begins_of n e.place e.tested) u.is_empty) v.is_empty;
  same = v.same ∙ u.same;
  forward = λ A h. v.forward (after (nulls n) A) (subst (λ (B : Set). sees B mid middle ≡ true) (e.quiet u.is_empty A) (u.forward A h));
  back = λ A h. subst (λ (B : Set). sees B s ts ≡ true) (e.quiet_before u.is_empty (before_all ps A))
      (u.back (before_all ps A) (v.back A h));
})

pub starts : {k : ℕ} {items : List Item} {ps : List Piece} {s : State} {ts : List Lexeme} {end : State} {rest : List Lexeme}
    → Described items ps → Parts k items s ts end rest → Start ps s ts end rest
starts Described.none Parts.done = passed (record { is_empty = refl; same = refl; forward = λ A h. h; back = λ A h. h })
starts (Described.token x d) (Parts.token {s = s} {t = t} h p) = took (x.has s t h)
starts (Described.next d) (Parts.seen p) = next_start (starts d p)
starts (Described.change x d) (Parts.acted p) = change_start x (starts d p)
starts (Described.symbol {n} d) (Parts.by r p q) = let e = entry_of n r in symbol_start e (starts e.described p) (starts d q)

-- ---- what stands behind
pub false_of : (b : Bool) → (b ≡ true → ⊥) → b ≡ false
false_of true f = absurd (f refl)
false_of false f = refl

pub not_both : (b : Bool) → b ≡ true → b ≡ false → ⊥
not_both b e f = cc

behind : (n m : Sym) (ps : List Piece) {s : State} {ts : List Lexeme} {end : State} {rest : List Lexeme}
    → apart (conts m) (begin ps) && (not (empty ps) || within (through ps (conts m)) (conts n)) ≡ true → sees (conts n) end rest ≡ false
    → Start ps s ts end rest → sees (conts m) s ts ≡ true → ⊥
behind n m ps {s} {ts} e stop (took h) seen =
    sees_apart (conts m) (begin ps) s ts (and_parts _ (not (empty ps) || within (through ps (conts m)) (conts n)) e).0 seen h
behind n m ps {s} {ts} {end} {rest} e stop (passed u) seen =
    let inside = implied (empty ps) (within (through ps (conts m)) (conts n)) (and_parts (apart (conts m) (begin ps)) _ e).1 u.is_empty in
    not_both _ (sees_within (through ps (conts m)) (conts n) end rest inside (u.forward (conts m) seen)) stop

-- a nonterminal stops before what follows it
pub stops : (n m : Sym) (ps : List Piece) {s : State} {ts : List Lexeme} {end : State} {rest : List Lexeme}
    → follows n (symbol m ∷ ps) ≡ true → sees (conts n) end rest ≡ false → Start ps s ts end rest → sees (conts m) s ts ≡ false
stops n m ps {s} {ts} e stop x =
    false_of (sees (conts m) s ts) (behind n m ps
    (and_parts (apart (conts m) (begin ps) && (not (empty ps) || within (through ps (conts m)) (conts n))) (follows n ps) e).0 stop x)

-- ---- first tokens
pub begun : (n : Sym) {k : ℕ} {a : In n} {b : Out n} {items : List Item} {s : State} {ts : List Lexeme} {end : State} {rest : List Lexeme}
    (e : Entry n a b items) → empty (row n e.place) ≡ false → Parts k items s ts end rest → sees (begin (row n e.place)) s ts ≡ true
begun n {s = s} {ts} {end} {rest} e taken p = at (starts e.described p)
  where
    at : Start (row n e.place) s ts end rest → sees (begin (row n e.place)) s ts ≡ true
    at (took h) = h
    at (passed u) = absurd (not_both (empty (row n e.place)) u.is_empty taken)

-- what takes a token begins with one of its first ones
pub begins_with : (n : Sym) → nullable n ≡ false
    → {k : ℕ} {a : In n} {b : Out n} {more : List Item} {s : State} {ts : List Lexeme} {end : State} {rest : List Lexeme}
    → Parts k (nt n a b ∷ more) s ts end rest → sees (firsts n) s ts ≡ true
begins_with n solid {s = s} {ts} (Parts.by {mid = mid} {middle = middle} r p q) = let e = entry_of n r in at e (starts e.described p)
  where
    at : {a : In n} {b : Out n} {items : List Item} (e : Entry n a b items) → Start (row n e.place) s ts mid middle
        → sees (firsts n) s ts ≡ true
    at e (took h) = firsts_hold n (row n e.place) s ts (begins_of n e.place e.tested) h
    at e (passed u) = absurd (not_both (nullable n) (nullable_holds n (row n e.place) (begins_of n e.place e.tested) u.is_empty) solid)

pub taken : {ps : List Piece} {s : State} {ts : List Lexeme} {end : State} {rest : List Lexeme} → empty ps ≡ false → Start ps s ts end rest
    → sees (begin ps) s ts ≡ true
taken solid (took h) = h
taken {ps} solid (passed u) = absurd (not_both (empty ps) u.is_empty solid)

pub not_within : (A B : Set) (s : State) (ts : List Lexeme) → within A B ≡ true → sees B s ts ≡ false → sees A s ts ≡ false
not_within A B s ts w e = false_of (sees A s ts) (λ h. not_both (sees B s ts) (sees_within A B s ts w h) e)

pub not_apart : (A B : Set) (s : State) (ts : List Lexeme) → apart A B ≡ true → sees B s ts ≡ true → sees A s ts ≡ false
not_apart A B s ts w e = false_of (sees A s ts) (λ h. sees_apart A B s ts w h e)
