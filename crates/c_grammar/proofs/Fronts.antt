-- The fronts of what is derived, and runs.
use Rattle.std.proofs.Common.{◌≡◌, true, List, [], ◌∷◌, ◌++◌, refl, sym, ap, ◌∙◌, subst}
use Rattle.c_tree.specs.declared.lexeme.Lexeme.{Lexeme}
use Rattle.c_grammar.specs.Derives.{Derives, Begins, Reaches}
use Rattle.c_tree.specs.declared.tree.Item.{Item as External}
use Rattle.c_grammar.specs.Files.{IsFile, IsFirstBad, BeginsFile}
use Rattle.c_grammar.specs.Items.{Item, Shape, shape, shapes}
use Rattle.c_grammar.specs.State.{State}

shapes_of_both : (xs ys : List Item) → shapes (xs ++ ys) ≡ shapes xs ++ shapes ys
shapes_of_both [] ys = refl
shapes_of_both (x ∷ xs) ys = ap (λ (zs : List Shape). shape x ∷ zs) (shapes_of_both xs ys)

first_is : (t u : Lexeme) (ts us : List Lexeme) → t ∷ ts ≡ u ∷ us → t ≡ u
first_is t u ts us e = cc

rest_is : (t u : Lexeme) (ts us : List Lexeme) → t ∷ ts ≡ u ∷ us → ts ≡ us
rest_is t u ts us e = cc

pub front_begins : {items : List Item} {s : State} {ts : List Lexeme} {end : State} → Derives items s ts end → (front back : List Lexeme) → ts ≡ front ++ back → Begins (shapes items) s front
front_begins d [] back e = Begins.stop
front_begins Derives.done (t ∷ front) back e = absurd cc
front_begins (Derives.token {w} {more} {s} {t} {ts} h d) (u ∷ front) back e =
    let same = first_is t u ts (front ++ back) e in
    let rest = front_begins d front back (rest_is t u ts (front ++ back) e) in
    Begins.token (subst (λ (x : Lexeme). w.fits s x ≡ true) same h) (subst (λ (x : Lexeme). Begins (shapes more) (w.after s x) front) same rest)
front_begins (Derives.seen d) (u ∷ front) back e = Begins.seen (front_begins d (u ∷ front) back e)
front_begins (Derives.acted d) (u ∷ front) back e = Begins.acted (front_begins d (u ∷ front) back e)
front_begins (Derives.by {items} {more} {s} r d) (u ∷ front) back e =
    let h = front_begins d (u ∷ front) back e in
    Begins.by r (subst (λ (zs : List Shape). Begins zs s (u ∷ front)) (shapes_of_both items more) h)

-- what a run over the tokens leaves
pub record Run (stack : List Shape) (s : State) (tokens : List Lexeme) : Type 0 where
  pub left : List Shape
  pub end : State
  pub run : Reaches stack s tokens left end

pub run_of : {stack : List Shape} {s : State} {tokens : List Lexeme} → Begins stack s tokens → Run stack s tokens
run_of {stack} {s} Begins.stop = record { left = stack; end = s; run = Reaches.here }
run_of (Begins.token h b) = let r = run_of b in record { left = r.left; end = r.end; run = Reaches.token h r.run }
run_of (Begins.seen b) = let r = run_of b in record { left = r.left; end = r.end; run = Reaches.seen r.run }
run_of (Begins.acted b) = let r = run_of b in record { left = r.left; end = r.end; run = Reaches.acted r.run }
run_of (Begins.by r b) = let q = run_of b in record { left = q.left; end = q.end; run = Reaches.by r q.run }

pub begins_by_run : {stack left : List Shape} {s end : State} {tokens : List Lexeme} → Reaches stack s tokens left end → Begins stack s tokens
begins_by_run Reaches.here = Begins.stop
begins_by_run (Reaches.token h r) = Begins.token h (begins_by_run r)
begins_by_run (Reaches.seen r) = Begins.seen (begins_by_run r)
begins_by_run (Reaches.acted r) = Begins.acted (begins_by_run r)
begins_by_run (Reaches.by q r) = Begins.by q (begins_by_run r)

pub begins_whole : {items : List Item} {s : State} {ts : List Lexeme} {end : State} → Derives items s ts end → Begins (shapes items) s ts
begins_whole Derives.done = Begins.stop
begins_whole (Derives.token h d) = Begins.token h (begins_whole d)
begins_whole (Derives.seen d) = Begins.seen (begins_whole d)
begins_whole (Derives.acted d) = Begins.acted (begins_whole d)
begins_whole (Derives.by {items} {more} {s} {ts} r d) = Begins.by r (subst (λ (zs : List Shape). Begins zs s ts) (shapes_of_both items more) (begins_whole d))

pub joined : {stack middle left : List Shape} {s t end : State} {before behind : List Lexeme} → Reaches stack s before middle t → Reaches middle t behind left end → Reaches stack s (before ++ behind) left end
joined Reaches.here q = q
joined (Reaches.token h r) q = Reaches.token h (joined r q)
joined (Reaches.seen r) q = Reaches.seen (joined r q)
joined (Reaches.acted r) q = Reaches.acted (joined r q)
joined (Reaches.by x r) q = Reaches.by x (joined r q)

pub front_of_beginning : {stack : List Shape} {s : State} {ts : List Lexeme} → Begins stack s ts → (front back : List Lexeme) → ts ≡ front ++ back → Begins stack s front
front_of_beginning b [] back e = Begins.stop
front_of_beginning Begins.stop (t ∷ front) back e = absurd cc
front_of_beginning (Begins.token {w} {more} {s} {t} {ts} h b) (u ∷ front) back e =
    let same = first_is t u ts (front ++ back) e in
    let rest = front_of_beginning b front back (rest_is t u ts (front ++ back) e) in
    Begins.token (subst (λ (x : Lexeme). w.fits s x ≡ true) same h) (subst (λ (x : Lexeme). Begins more (w.after s x) front) same rest)
front_of_beginning (Begins.seen b) (u ∷ front) back e = Begins.seen (front_of_beginning b (u ∷ front) back e)
front_of_beginning (Begins.acted b) (u ∷ front) back e = Begins.acted (front_of_beginning b (u ∷ front) back e)
front_of_beginning (Begins.by r b) (u ∷ front) back e = Begins.by r (front_of_beginning b (u ∷ front) back e)

-- ---- files
pub file_begins : (tokens front back : List Lexeme) (items : List External) → IsFile tokens items → tokens ≡ front ++ back → BeginsFile front
file_begins tokens front back items f e = front_begins f.derives front back e

with_first : (before : List Lexeme) (t : Lexeme) (behind : List Lexeme) → before ++ t ∷ behind ≡ (before ++ t ∷ []) ++ behind
with_first [] t behind = refl
with_first (u ∷ before) t behind = ap (λ (ts : List Lexeme). u ∷ ts) (with_first before t behind)

pub bad_is_none : (tokens before : List Lexeme) (t : Lexeme) (behind : List Lexeme) (items : List External) → IsFirstBad tokens before t behind → IsFile tokens items → ⊥
bad_is_none tokens before t behind items bad f = bad.ends (file_begins tokens (before ++ t ∷ []) behind items f (bad.cut ∙ with_first before t behind))

-- how two cuts of one list lie to each other
data Cuts (b : List Lexeme) (t : Lexeme) (c : List Lexeme) (d : Lexeme) : Type 0 where
  same : b ≡ c → t ≡ d → Cuts b t c d
  earlier : (rest : List Lexeme) → c ≡ (b ++ t ∷ []) ++ rest → Cuts b t c d
  later : (rest : List Lexeme) → b ≡ (c ++ d ∷ []) ++ rest → Cuts b t c d

one_further : (x y : Lexeme) (b c : List Lexeme) (t d : Lexeme) → x ≡ y → Cuts b t c d → Cuts (x ∷ b) t (y ∷ c) d
one_further x y b c t d e (Cuts.same p q) = Cuts.same (ap (λ (ts : List Lexeme). x ∷ ts) p ∙ ap (λ (u : Lexeme). u ∷ c) e) q
one_further x y b c t d e (Cuts.earlier rest p) = Cuts.earlier rest (ap (λ (u : Lexeme). u ∷ c) (sym e) ∙ ap (λ (ts : List Lexeme). x ∷ ts) p)
one_further x y b c t d e (Cuts.later rest p) = Cuts.later rest (ap (λ (u : Lexeme). u ∷ b) e ∙ ap (λ (ts : List Lexeme). y ∷ ts) p)

cuts_of : (b : List Lexeme) (t : Lexeme) (us : List Lexeme) (c : List Lexeme) (d : Lexeme) (vs : List Lexeme) → b ++ t ∷ us ≡ c ++ d ∷ vs → Cuts b t c d
cuts_of [] t us [] d vs e = Cuts.same refl (first_is t d us vs e)
cuts_of [] t us (y ∷ c) d vs e = Cuts.earlier c (ap (λ (u : Lexeme). u ∷ c) (sym (first_is t y us (c ++ d ∷ vs) e)))
cuts_of (x ∷ b) t us [] d vs e = Cuts.later b (ap (λ (u : Lexeme). u ∷ b) (first_is x d (b ++ t ∷ us) vs e))
cuts_of (x ∷ b) t us (y ∷ c) d vs e =
    one_further x y b c t d (first_is x y (b ++ t ∷ us) (c ++ d ∷ vs) e) (cuts_of b t us c d vs (rest_is x y (b ++ t ∷ us) (c ++ d ∷ vs) e))

front_of_file : (tokens front rest : List Lexeme) → BeginsFile tokens → tokens ≡ front ++ rest → BeginsFile front
front_of_file tokens front rest b e = front_of_beginning b front rest e

one_bad : {tokens b us c vs : List Lexeme} {t d : Lexeme} → IsFirstBad tokens b t us → IsFirstBad tokens c d vs → Cuts b t c d → (b ≡ c) × (t ≡ d)
one_bad p q (Cuts.same e f) = (e, f)
one_bad {c = c} p q (Cuts.earlier rest e) = absurd (p.ends (front_of_file c _ rest q.begins e))
one_bad {b = b} p q (Cuts.later rest e) = absurd (q.ends (front_of_file b _ rest p.begins e))

pub bad_is_one : {tokens b us c vs : List Lexeme} {t d : Lexeme} → IsFirstBad tokens b t us → IsFirstBad tokens c d vs → (b ≡ c) × (t ≡ d)
bad_is_one {b = b} {us = us} {c = c} {vs = vs} {t = t} {d = d} p q = one_bad p q (cuts_of b t us c d vs (sym p.cut ∙ q.cut))
