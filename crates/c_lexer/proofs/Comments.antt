-- Where comments close, and where lines end.
use Rattle.std.proofs.Common.{◌≡◌, ℕ, suc, ◌+◌, ◌≤◌, Bool, true, false, eqb, cond, [], ◌∷◌, ◌++◌, length, take, drop, Option, Some, None, refl, sym, ap, ◌∙◌, subst, arith}
use Rattle.std.specs.List.{prefix_len}
use Rattle.std.proofs.lemmas.List.{take_at, drop_at, take-append-drop}
use Rattle.std.proofs.lemmas.Bool.{and_parts, eqb-true, cond_both}
use Rattle.c_lexer.specs.Bytes.{Text, in_line}
use Rattle.c_lexer.specs.White.{ClosesFirst, NeverCloses, IsLine}
use Rattle.c_lexer.specs.computed.Settings.{close_more, closes, close_len}
use Rattle.c_lexer.proofs.Runs.{run_len, run_all, run_stops}

-- ---- a comment closes at its first `*/`
-- a number up to m
abbrev Within : ℕ → Option ℕ → Type 0
Within m None = ⊥
Within m (Some n) = n ≤ m

more_within : (m : ℕ) (o : Option ℕ) → Within m o → Within (suc m) (close_more o)
more_within m None h = h
more_within m (Some n) h = omega arith

close_within : (before after : Text) → Within (length before + 2) (close_len (before ++ 42 ∷ 47 ∷ after))
close_within [] after = omega arith
close_within (b ∷ bs) after =
    let rest = bs ++ 42 ∷ 47 ∷ after in
    let len : length (b ∷ bs) + 2 ≡ suc (length bs + 2) = omega arith in
    rw len (cond_both (closes b rest) (Some 2) (close_more (close_len rest)) (Within (suc (length bs + 2))) (λ e. omega arith) (λ e. more_within (length bs + 2) (close_len rest) (close_within bs after)))

-- what is found is a body, `*/` and the rest
pub record IsClosed (inside : Text) (n : ℕ) : Type 0 where
  pub body : Text
  pub rest : Text
  pub cut : inside ≡ body ++ 42 ∷ 47 ∷ rest
  pub len : n ≡ length body + 2

close_here : (b : ℕ) (bs : Text) → closes b bs ≡ true → IsClosed (b ∷ bs) 2
close_here b [] e = absurd (let p = and_parts (eqb b 42) false e in let bad = p.1 in cc)
close_here b (c ∷ cs) e =
    let p = and_parts (eqb b 42) (eqb 47 c) e in
    let first = eqb-true b 42 p.0 in
    let second = eqb-true 47 c p.1 in
    record { body = []; rest = cs; cut = rw first (ap (λ (x : ℕ). 42 ∷ x ∷ cs) (sym second)); len = refl }

close_later : (b k n : ℕ) (bs : Text) → n ≡ k + 1 → IsClosed bs k → IsClosed (b ∷ bs) n
close_later b k n bs e h = let len = h.len in record { body = b ∷ h.body; rest = h.rest; cut = ap (λ (t : Text). b ∷ t) h.cut; len = omega (arith, e, len) }

close_by : (b n : ℕ) (bs : Text) (t : Bool) (o : Option ℕ) → closes b bs ≡ t → close_len bs ≡ o → cond t (Some 2) (close_more o) ≡ Some n → ((k : ℕ) → close_len bs ≡ Some k → IsClosed bs k) → IsClosed (b ∷ bs) n
close_by b n bs true o c is e more = let two : 2 ≡ n = cc in subst (IsClosed (b ∷ bs)) two (close_here b bs c)
close_by b n bs false None c is e more = absurd cc
close_by b n bs false (Some k) c is e more = close_later b k n bs (let e' : k + 1 ≡ n = cc in sym e') (more k is)

pub close_is : (inside : Text) (n : ℕ) → close_len inside ≡ Some n → IsClosed inside n
close_is [] n e = absurd cc
close_is (b ∷ bs) n e = close_by b n bs (closes b bs) (close_len bs) refl refl e (λ k f. close_is bs k f)

pub closes_first : (inside : Text) (n : ℕ) (e : close_len inside ≡ Some n) → ClosesFirst (close_is inside n e).body inside (close_is inside n e).rest
closes_first inside n e =
    let h = close_is inside n e in
    record {
      cut = h.cut;
      first = λ before after cut.
          let w : Within (length before + 2) (Some n) = subst (Within (length before + 2)) (ap close_len (sym cut) ∙ e) (close_within before after) in
          let len = h.len in
          omega (arith, w, len);
    }

pub never_closes : (inside : Text) → close_len inside ≡ None → NeverCloses inside
never_closes inside e = λ before after cut. subst (Within (length before + 2)) (ap close_len (sym cut) ∙ e) (close_within before after)

pub close_len_is : (body inside rest : Text) → ClosesFirst body inside rest → close_len inside ≡ Some (length body + 2)
close_len_is body inside rest h = by (close_len inside) refl (subst (λ (t : Text). Within (length body + 2) (close_len t)) (sym h.cut) (close_within body rest))
  where
    by : (o : Option ℕ) → close_len inside ≡ o → Within (length body + 2) o → close_len inside ≡ Some (length body + 2)
    by None e w = absurd w
    by (Some n) e w =
        let c = close_is inside n e in
        let len = c.len in
        let least = h.first c.body c.rest c.cut in
        let same : n ≡ length body + 2 = omega (arith, w, len, least) in
        e ∙ ap Some same

pub close_none : (inside : Text) → NeverCloses inside → close_len inside ≡ None
close_none inside never = by (close_len inside) refl
  where
    by : (o : Option ℕ) → close_len inside ≡ o → close_len inside ≡ None
    by None e = e
    by (Some n) e = let c = close_is inside n e in absurd (never c.body c.rest c.cut)

-- the bytes of a body with its `*/`, and what stands behind them
pub close_drop : (body rest : Text) → drop (length body + 2) (body ++ 42 ∷ 47 ∷ rest) ≡ rest
close_drop [] rest = refl
close_drop (b ∷ body) rest = let len : length (b ∷ body) + 2 ≡ suc (length body + 2) = omega arith in rw len (close_drop body rest)

pub close_take : (body rest : Text) → take (length body + 2) (body ++ 42 ∷ 47 ∷ rest) ≡ body ++ 42 ∷ 47 ∷ []
close_take [] rest = refl
close_take (b ∷ body) rest = let len : length (b ∷ body) + 2 ≡ suc (length body + 2) = omega arith in rw len (ap (λ (t : Text). b ∷ t) (close_take body rest))

-- ---- lines
pub line_is : (text : Text) → IsLine (take (prefix_len in_line text) text) text (drop (prefix_len in_line text) text)
line_is text = record { cut = sym (take-append-drop (prefix_len in_line text) text); inside = run_all in_line text; ends = run_stops in_line text }

pub line_len : (line text rest : Text) → IsLine line text rest → prefix_len in_line text ≡ length line
line_len line text rest h = ap (prefix_len in_line) h.cut ∙ run_len in_line line rest h.inside h.ends

pub line_take : (line text rest : Text) → IsLine line text rest → take (prefix_len in_line text) text ≡ line
line_take line text rest h = ap (λ (n : ℕ). take n text) (line_len line text rest h) ∙ (ap (take (length line)) h.cut ∙ take_at line rest _ refl)

pub line_drop : (line text rest : Text) → IsLine line text rest → drop (prefix_len in_line text) text ≡ rest
line_drop line text rest h = ap (λ (n : ℕ). drop n text) (line_len line text rest h) ∙ (ap (drop (length line)) h.cut ∙ drop_at line rest _ refl)
