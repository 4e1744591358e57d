-- Derivations in which each nonterminal has the tokens that it takes, with a bound of how deep they are nested.
use Rattle.std.proofs.Common.{◌≡◌, ℕ, zero, suc, ◌+◌, true, List, [], ◌∷◌, ◌++◌, refl, subst, arith}
use Rattle.c_tree.specs.declared.lexeme.Lexeme.{Lexeme}
use Rattle.c_grammar.specs.Derives.{Derives}
use Rattle.c_grammar.specs.Items.{Sym, In, Out, Item, term, ahead, act, nt}
use Rattle.c_grammar.specs.Productions.{Rule}
use Rattle.c_grammar.specs.State.{State}
use Rattle.c_grammar.specs.Terminals.{Terminal}

-- from a state the items take the tokens before the rest
pub data Parts : ℕ → List Item → State → List Lexeme → State → List Lexeme → Type 0 where
  done : {k : ℕ} {s : State} {ts : List Lexeme} → Parts k [] s ts s ts
  token : {k : ℕ} {w : Terminal} {more : List Item} {s : State} {t : Lexeme} {ts : List Lexeme} {end : State} {rest : List Lexeme}
      → w.fits s t ≡ true → Parts k more (w.after s t) ts end rest → Parts k (term w t ∷ more) s (t ∷ ts) end rest
  seen : {k : ℕ} {more : List Item} {s : State} {t : Lexeme} {ts : List Lexeme} {end : State} {rest : List Lexeme}
      → Parts k more s (t ∷ ts) end rest → Parts k (ahead t ∷ more) s (t ∷ ts) end rest
  acted : {k : ℕ} {f : State → State} {more : List Item} {s : State} {ts : List Lexeme} {end : State} {rest : List Lexeme}
      → Parts k more (f s) ts end rest → Parts k (act f ∷ more) s ts end rest
  by : {k : ℕ} {n : Sym} {a : In n} {b : Out n} {items more : List Item} {s : State} {ts : List Lexeme} {mid : State} {middle : List Lexeme}
      {end : State} {rest : List Lexeme}
      → Rule n a b items → Parts k items s ts mid middle → Parts (suc k) more mid middle end rest
      → Parts (suc k) (nt n a b ∷ more) s ts end rest

pub deeper : {k : ℕ} {items : List Item} {s : State} {ts : List Lexeme} {end : State} {rest : List Lexeme} → Parts k items s ts end rest
    → Parts (suc k) items s ts end rest
deeper Parts.done = Parts.done
deeper (Parts.token h p) = Parts.token h (deeper p)
deeper (Parts.seen p) = Parts.seen (deeper p)
deeper (Parts.acted p) = Parts.acted (deeper p)
deeper (Parts.by r p q) = Parts.by r (deeper p) (deeper q)

pub deeper_by : {items : List Item} {s : State} {ts : List Lexeme} {end : State} {rest : List Lexeme} (k j m : ℕ) → m ≡ j + k
    → Parts k items s ts end rest → Parts m items s ts end rest
deeper_by {items} {s} {ts} {end} {rest} k zero m e p = let same : k ≡ m =
    omega arith in subst (λ (x : ℕ). Parts x items s ts end rest) same p
deeper_by {items} {s} {ts} {end} {rest} k (suc j) m e p = let same : suc (j + k) ≡ m = omega arith in
    subst (λ (x : ℕ). Parts x items s ts end rest) same (deeper (deeper_by k j (j + k) refl p))

-- the front of the items, and what is behind it
pub record Split (k : ℕ) (xs ys : List Item) (s : State) (ts : List Lexeme) (end : State) (rest : List Lexeme) : Type 0 where
  pub mid : State
  pub middle : List Lexeme
  pub front : Parts k xs s ts mid middle
  pub back : Parts k ys mid middle end rest

pub split : {k : ℕ} (xs ys : List Item) {s : State} {ts : List Lexeme} {end : State} {rest : List Lexeme} → Parts k (xs ++ ys) s ts end rest
    → Split k xs ys s ts end rest
split [] ys {s} {ts} p = record { mid = s; middle = ts; front = Parts.done; back = p }
split (term w t ∷ xs) ys (Parts.token h p) = let x =
    split xs ys p in record { mid = x.mid; middle = x.middle; front = Parts.token h x.front; back = x.back }
split (ahead t ∷ xs) ys (Parts.seen p) = let x =
    split xs ys p in record { mid = x.mid; middle = x.middle; front = Parts.seen x.front; back = x.back }
split (act f ∷ xs) ys (Parts.acted p) = let x =
    split xs ys p in record { mid = x.mid; middle = x.middle; front = Parts.acted x.front; back = x.back }
split (nt n a b ∷ xs) ys (Parts.by r q p) = let x =
    split xs ys p in record { mid = x.mid; middle = x.middle; front = Parts.by r q x.front; back = x.back }

pub record Deep (items : List Item) (s : State) (ts : List Lexeme) (end : State) : Type 0 where
  pub depth : ℕ
  pub parts : Parts depth items s ts end []

pub of_derivation : {items : List Item} {s : State} {ts : List Lexeme} {end : State} → Derives items s ts end → Deep items s ts end
of_derivation Derives.done = record { depth = zero; parts = Parts.done }
of_derivation (Derives.token h d) = let x = of_derivation d in record { depth = x.depth; parts = Parts.token h x.parts }
of_derivation (Derives.seen d) = let x = of_derivation d in record { depth = x.depth; parts = Parts.seen x.parts }
of_derivation (Derives.acted d) = let x = of_derivation d in record { depth = x.depth; parts = Parts.acted x.parts }
of_derivation (Derives.by {items} {more} r d) =
    let x = of_derivation d in
    let cut = split items more x.parts in
    record { depth = suc x.depth; parts = Parts.by r cut.front (deeper cut.back) }

pub joined : {k : ℕ} {xs ys : List Item} {s : State} {ts : List Lexeme} {mid : State} {middle : List Lexeme} {end : State}
    {rest : List Lexeme}
    → Parts k xs s ts mid middle → Parts k ys mid middle end rest → Parts k (xs ++ ys) s ts end rest
joined Parts.done q = q
joined (Parts.token h p) q = Parts.token h (joined p q)
joined (Parts.seen p) q = Parts.seen (joined p q)
joined (Parts.acted p) q = Parts.acted (joined p q)
joined (Parts.by r x p) q = Parts.by r x (joined p q)
