-- Readings that go on and stay within a limit, and the limits that readings pass.
use Rattle.std.proofs.Common.{◌≡◌, ℕ, Bool, true, false, not, ◌&&◌, ◌||◌, List, [], ◌∷◌, ◌++◌, refl, sym, ap, ◌∙◌, subst, inl, inr}
use Rattle.std.proofs.lemmas.Bool.{and_parts, or_cases}
use Rattle.c_tree.specs.declared.lexeme.Lexeme.{Lexeme}
use Rattle.c_tree.specs.declared.tree.Item.{Item as External}
use Rattle.c_grammar.specs.Derives.{Derives, Begins, Reaches}
use Rattle.c_grammar.specs.Files.{ReachesInFile}
use Rattle.c_grammar.specs.Items.{Sym, Item, nt, Shape, sym as symbol, shape, shapes}
use Rattle.c_grammar.specs.Limits.{IsPassed}
use Rattle.c_grammar.specs.State.{State, start}
use Rattle.c_grammar.specs.Terminals.{Terminal}
use Rattle.c_grammar.proofs.Fronts.{front_begins}
use Rattle.c_grammar_examples.proofs.Search.{no, refuted, every, holds_at}

-- ---- a derivation that stays within the limit
-- no state behind one of so many first tokens has passed
unfoldable pub calm : {items : List Item} {s : State} {ts : List Lexeme} {end : State} → (State → Bool) → List Lexeme
    → Derives items s ts end → Bool
calm p before Derives.done = true
calm p before (Derives.seen d) = calm p before d
calm p before (Derives.acted d) = calm p before d
calm p before (Derives.by r d) = calm p before d
calm p [] (Derives.token h d) = true
calm p (x ∷ before) (Derives.token {w} {more} {s} {t} h d) = not (p (w.after s t)) && calm p before d

-- a run over the tokens that goes on with the next one, and has not passed
pub record Going (p : State → Bool) (stack : List Shape) (s : State) (tokens : List Lexeme) (next : Lexeme) : Type 0 where
  pub left : List Shape
  pub end : State
  pub run : Reaches stack s tokens left end
  pub on : Begins left end (next ∷ [])
  pub within : p end ≡ false

first_is : (t u : Lexeme) (ts us : List Lexeme) → t ∷ ts ≡ u ∷ us → t ≡ u
first_is t u ts us e = cc

rest_is : (t u : Lexeme) (ts us : List Lexeme) → t ∷ ts ≡ u ∷ us → ts ≡ us
rest_is t u ts us e = cc

not_empty : (front : List Lexeme) (u : Lexeme) (us : List Lexeme) → [] ≡ front ++ u ∷ us → ⊥
not_empty [] u us e = cc
not_empty (x ∷ front) u us e = cc

shapes_of_both : (xs ys : List Item) → shapes (xs ++ ys) ≡ shapes xs ++ shapes ys
shapes_of_both [] ys = refl
shapes_of_both (x ∷ xs) ys = ap (λ (zs : List Shape). shape x ∷ zs) (shapes_of_both xs ys)

not_so : (b : Bool) → not b ≡ true → b ≡ false
not_so true e = cc
not_so false e = refl

going : {items : List Item} {s : State} {ts : List Lexeme} {end : State} (p : State → Bool) (d : Derives items s ts end)
    (before front : List Lexeme) (u : Lexeme) (between : List Lexeme) (v : Lexeme) (rest : List Lexeme) → calm p before d ≡ true
    → before ≡ front ++ u ∷ between → ts ≡ front ++ u ∷ v ∷ rest → Going p (shapes items) s (front ++ u ∷ []) v
unfolding calm
going p Derives.done before front u between v rest c e f = absurd (not_empty front u (v ∷ rest) f)
going p (Derives.seen d) before front u between v rest c e f = let g = going p d before front u between v rest c e f in
    record { left = g.left; end = g.end; run = Reaches.seen g.run; on = g.on; within = g.within }
going p (Derives.acted d) before front u between v rest c e f = let g = going p d before front u between v rest c e f in
    record { left = g.left; end = g.end; run = Reaches.acted g.run; on = g.on; within = g.within }
going p (Derives.by {items = items} {more = more} {s = s} r d) before front u between v rest c e f =
    let g = going p d before front u between v rest c e f in
    record {
      left = g.left;
      end = g.end;
      run = Reaches.by r (subst (λ (zs : List Shape). Reaches zs s (front ++ u ∷ []) g.left g.end) (shapes_of_both items more) g.run);
      on = g.on;
      within = g.within;
    }
going p (Derives.token h d) [] front u between v rest c e f = absurd (not_empty front u between e)
going p (Derives.token {w} {more} {s} {t} {ts} h d) (x ∷ before) [] u between v rest c e f =
    subst (λ (y : Lexeme). Going p (shapes (Item.term w t ∷ more)) s (y ∷ []) v) (first_is t u ts (v ∷ rest) f) (record {
      left = shapes more;
      end = w.after s t;
      run = Reaches.token h Reaches.here;
      on = front_begins d (v ∷ []) rest (rest_is t u ts (v ∷ rest) f);
      within = not_so (p (w.after s t)) (and_parts (not (p (w.after s t))) (calm p before d) c).0;
    })
going p (Derives.token {w} {more} {s} {t} {ts} h d) (x ∷ before) (y ∷ front) u between v rest c e f =
    let g = going p d before front u between v rest (and_parts (not (p (w.after s t))) (calm p before d) c).1
    (rest_is x y before (front ++ u ∷ between) e) (rest_is t y ts (front ++ u ∷ v ∷ rest) f) in
    subst (λ (z : Lexeme). Going p (shapes (Item.term w t ∷ more)) s (z ∷ front ++ u ∷ []) v)
    (first_is t y ts (front ++ u ∷ v ∷ rest) f) (record {
      left = g.left;
      end = g.end;
      run = Reaches.token h g.run;
      on = g.on;
      within = g.within;
    })

-- the first of these, and the others
data Split (ts : List Lexeme) : Type 0 where
  split : (v : Lexeme) (rest : List Lexeme) → ts ≡ v ∷ rest → Split ts

split_at : (between : List Lexeme) (t : Lexeme) (behind : List Lexeme) → Split (between ++ t ∷ behind)
split_at [] t behind = Split.split t behind refl
split_at (x ∷ between) t behind = Split.split x (between ++ t ∷ behind) refl

regrouped : (front : List Lexeme) (u : Lexeme) (between us : List Lexeme) → (front ++ u ∷ between) ++ us ≡ front ++ u ∷ (between ++ us)
regrouped [] u between us = refl
regrouped (x ∷ front) u between us = ap (λ (ts : List Lexeme). x ∷ ts) (regrouped front u between us)

both : (b : Bool) → b ≡ true → b ≡ false → ⊥
both b e f = cc

going_on : {p : State → Bool} {behind rest : List Lexeme} {v : Lexeme} (front : List Lexeme) (u : Lexeme) → behind ≡ v ∷ rest
    → Going p (symbol Sym.File ∷ []) start (front ++ u ∷ []) v → IsPassed p (front ++ u ∷ []) behind → ⊥
going_on {p} {rest = rest} {v = v} front u e g i = both (p g.end) (i.each v rest e g.left g.end g.run g.on) g.within

-- at none of the tokens before this one the limit is passed
pub not_yet : {trees : List External} {tokens : List Lexeme} {end : State} (p : State → Bool)
    (d : Derives (nt Sym.File tt trees ∷ []) start tokens end) (before : List Lexeme) (t : Lexeme) (behind : List Lexeme)
    → tokens ≡ before ++ t ∷ behind → calm p before d ≡ true → (front : List Lexeme) (u : Lexeme) (between : List Lexeme)
    → before ≡ front ++ u ∷ between → IsPassed p (front ++ u ∷ []) (between ++ t ∷ behind) → ⊥
not_yet {tokens = tokens} p d before t behind cut c front u between e i = at (split_at between t behind)
  where
    cut_there : tokens ≡ front ++ u ∷ (between ++ t ∷ behind)
    cut_there = cut ∙ ap (λ (ts : List Lexeme). ts ++ t ∷ behind) e ∙ regrouped front u between (t ∷ behind)

    at : Split (between ++ t ∷ behind) → ⊥
    at (Split.split v rest f) = going_on front u f
        (going p d before front u between v rest c e (cut_there ∙ ap (λ (ts : List Lexeme). front ++ u ∷ ts) f)) i

-- at a token before the last the limit is not passed
pub not_at : {trees : List External} {tokens : List Lexeme} {end : State} (p : State → Bool)
    (d : Derives (nt Sym.File tt trees ∷ []) start tokens end) (before : List Lexeme) (t v : Lexeme) (rest : List Lexeme)
    → tokens ≡ before ++ t ∷ v ∷ rest → calm p tokens d ≡ true → IsPassed p (before ++ t ∷ []) (v ∷ rest) → ⊥
not_at {tokens = tokens} p d before t v rest cut c i =
    going_on {rest = rest} {v = v} before t refl (going p d tokens before t (v ∷ rest) v rest c cut cut) i

-- ---- a limit that is passed
-- each run over the tokens that goes on with the next one has passed, as a search finds
pub each_goes_past : (n : ℕ) (p : State → Bool) (tokens : List Lexeme) (v : Lexeme) (others : List Lexeme)
    → every n (λ stack s. no n (v ∷ []) stack s || p s) tokens (symbol Sym.File ∷ []) start ≡ true
    → (next : Lexeme) (rest : List Lexeme) → v ∷ others ≡ next ∷ rest → (more : List Shape) (s : State) → ReachesInFile tokens more s
    → Begins more s (next ∷ []) → p s ≡ true
each_goes_past n p tokens v others h next rest e more s r b =
    elim (or_cases (no n (v ∷ []) more s) (p s) (holds_at n (λ stack s. no n (v ∷ []) stack s || p s) h r)) [
      | inl ends ↦ absurd (refuted n ends
          (subst (λ (x : Lexeme). Begins more s (x ∷ [])) (sym (first_is v next others rest e)) b))
      | inr past ↦ past
    ]

-- the state behind the last of so many first tokens has passed
unfoldable pub past_behind : {items : List Item} {s : State} {ts : List Lexeme} {end : State} → (State → Bool) → List Lexeme
    → Derives items s ts end → Bool
past_behind p us Derives.done = false
past_behind p us (Derives.seen d) = past_behind p us d
past_behind p us (Derives.acted d) = past_behind p us d
past_behind p us (Derives.by r d) = past_behind p us d
past_behind p [] (Derives.token h d) = false
past_behind p (x ∷ []) (Derives.token {w} {more} {s} {t} h d) = p (w.after s t)
past_behind p (x ∷ y ∷ us) (Derives.token h d) = past_behind p (y ∷ us) d

-- a run over the tokens that has passed
pub record Gone (p : State → Bool) (stack : List Shape) (s : State) (tokens : List Lexeme) : Type 0 where
  pub left : List Shape
  pub end : State
  pub run : Reaches stack s tokens left end
  pub past : p end ≡ true

further : (w : Terminal) {more : List Item} (s : State) (t : Lexeme) {ts : List Lexeme} {end : State} (p : State → Bool) (x : Lexeme)
    (front : List Lexeme) (u : Lexeme) (h : w.fits s t ≡ true) (d : Derives more (w.after s t) ts end)
    → past_behind p (x ∷ front ++ u ∷ []) (Derives.token {w = w} {more = more} {s = s} {t = t} {ts = ts} {end = end} h d)
    ≡ past_behind p (front ++ u ∷ []) d
unfolding past_behind
further w s t p x [] u h d = refl
further w s t p x (y ∷ front) u h d = refl

gone : {items : List Item} {s : State} {ts : List Lexeme} {end : State} (p : State → Bool) (d : Derives items s ts end)
    (front : List Lexeme) (u : Lexeme) (rest : List Lexeme) → past_behind p (front ++ u ∷ []) d ≡ true → ts ≡ front ++ u ∷ rest
    → Gone p (shapes items) s (front ++ u ∷ [])
unfolding past_behind
gone p Derives.done front u rest c f = absurd cc
gone p (Derives.seen d) front u rest c f = let g = gone p d front u rest c f in
    record { left = g.left; end = g.end; run = Reaches.seen g.run; past = g.past }
gone p (Derives.acted d) front u rest c f = let g = gone p d front u rest c f in
    record { left = g.left; end = g.end; run = Reaches.acted g.run; past = g.past }
gone p (Derives.by {items = items} {more = more} {s = s} r d) front u rest c f = let g = gone p d front u rest c f in
    record {
      left = g.left;
      end = g.end;
      run = Reaches.by r (subst (λ (zs : List Shape). Reaches zs s (front ++ u ∷ []) g.left g.end) (shapes_of_both items more) g.run);
      past = g.past;
    }
gone p (Derives.token {w} {more} {s} {t} {ts} h d) [] u rest c f =
    subst (λ (y : Lexeme). Gone p (shapes (Item.term w t ∷ more)) s (y ∷ [])) (first_is t u ts rest f)
    (record { left = shapes more; end = w.after s t; run = Reaches.token h Reaches.here; past = c })
gone p (Derives.token {w} {more} {s} {t} {ts} h d) (x ∷ front) u rest c f =
    let g = gone p d front u rest (sym (further w s t p x front u h d) ∙ c) (rest_is t x ts (front ++ u ∷ rest) f) in
    subst (λ (z : Lexeme). Gone p (shapes (Item.term w t ∷ more)) s (z ∷ front ++ u ∷ [])) (first_is t x ts (front ++ u ∷ rest) f)
    (record { left = g.left; end = g.end; run = Reaches.token h g.run; past = g.past })

-- where tokens have passed, by a derivation that begins with them
pub passed_by : {trees : List External} {tokens : List Lexeme} {end : State} (p : State → Bool)
    (d : Derives (nt Sym.File tt trees ∷ []) start tokens end) (before : List Lexeme) (t : Lexeme) (behind : List Lexeme) (n : ℕ)
    (v : Lexeme) (others : List Lexeme) → tokens ≡ before ++ t ∷ behind → behind ≡ v ∷ others
    → past_behind p (before ++ t ∷ []) d ≡ true
    → every n (λ stack s. no n (v ∷ []) stack s || p s) (before ++ t ∷ []) (symbol Sym.File ∷ []) start ≡ true
    → IsPassed p (before ++ t ∷ []) behind
passed_by p d before t behind n v others cut e h f =
    let g = gone p d before t behind h cut in
    record {
      left = g.left;
      end = g.end;
      run = g.run;
      here = g.past;
      each = λ next rest same more s r c. each_goes_past n p (before ++ t ∷ []) v others f next rest (sym e ∙ same) more s r c;
    }
