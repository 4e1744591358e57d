-- White space inside a line, as it is passed over and as it is defined.
use Rattle.std.proofs.Common.{◌≡◌, ℕ, zero, suc, ◌+◌, ◌<◌, ◌≤◌, Bool, true, false, eqb, cond, [], ◌∷◌, length, drop, Option, Some, None, refl, sym, ap, ◌∙◌, subst, arith, length-append}
use Rattle.std.proofs.lemmas.Bool.{and_parts, and_from, eqb-true, eq-eqb, false≢true}
use Rattle.c_lexer.specs.Bytes.{Text, is_blank}
use Rattle.c_lexer.specs.White.{ClosesFirst}
use Rattle.c_lexer.specs.Directives.{Space, AtEnd, OnlySpace}
use Rattle.c_lexer.specs.computed.Settings.{begins_byte, opens_block, behind_comment, close_len, less_space, behind_space, no_space, at_end, only_space}
use Rattle.c_lexer.proofs.Comments.{close_is, closes_first, close_len_is, close_drop}

-- ---- one blank or comment less
-- what is left is shorter, and white space stood before it
pub record IsLess (text rest : Text) : Type 0 where
  pub shorter : length rest < length text
  pub space : (more : Text) → Space rest more → Space text more

first_byte : (a : ℕ) (bs : Text) → begins_byte a bs ≡ true → (cs : Text) × (bs ≡ a ∷ cs)
first_byte a [] e = absurd (false≢true e)
first_byte a (b ∷ bs) e = (bs, ap (λ (x : ℕ). x ∷ bs) (sym (eqb-true a b e)))

less_comment : (inside rest : Text) → behind_comment inside (close_len inside) ≡ Some rest → IsLess (47 ∷ 42 ∷ inside) rest
less_comment inside rest e = by (close_len inside) refl e
  where
    by : (o : Option ℕ) → close_len inside ≡ o → behind_comment inside o ≡ Some rest → IsLess (47 ∷ 42 ∷ inside) rest
    by None is e = absurd cc
    by (Some n) is e =
        let c = close_is inside n is in
        let first = closes_first inside n is in
        let left : drop n inside ≡ rest = cc in
        let len = c.len in
        let same : rest ≡ c.rest = sym left ∙ (ap (λ (k : ℕ). drop k inside) len ∙ (ap (drop (length c.body + 2)) c.cut ∙ close_drop c.body c.rest)) in
        let parts : length inside ≡ length c.body + suc (suc (length c.rest)) = ap length c.cut ∙ length-append c.body (42 ∷ 47 ∷ c.rest) in
        let shorter : length rest ≡ length c.rest = ap length same in
        record {
          shorter = omega (arith, parts, shorter);
          space = λ more s. Space.comment {body = c.body} {text = rest} (subst (ClosesFirst c.body inside) (sym same) first) s;
        }

pub is_less : (text rest : Text) → less_space text ≡ Some rest → IsLess text rest
is_less [] rest e = absurd cc
is_less (b ∷ bs) rest e = by (is_blank b) refl e
  where
    comment : (t : Bool) → opens_block (b ∷ bs) ≡ t → cond t (behind_comment (drop 2 (b ∷ bs)) (close_len (drop 2 (b ∷ bs)))) None ≡ Some rest → IsLess (b ∷ bs) rest
    comment false o e = absurd cc
    comment true o e =
        let p = and_parts (eqb b 47) (begins_byte 42 bs) o in
        let f = first_byte 42 bs p.1 in
        let b_is = eqb-true b 47 p.0 in
        let whole : 47 ∷ 42 ∷ f.0 ≡ b ∷ bs = ap (λ (t : Text). 47 ∷ t) (sym f.1) ∙ ap (λ (x : ℕ). x ∷ bs) (sym b_is) in
        subst (λ (t : Text). IsLess t rest) whole (less_comment f.0 rest (subst (λ (t : Text). behind_comment (drop 2 t) (close_len (drop 2 t)) ≡ Some rest) (sym whole) e))

    by : (t : Bool) → is_blank b ≡ t → cond t (Some bs) (cond (opens_block (b ∷ bs)) (behind_comment (drop 2 (b ∷ bs)) (close_len (drop 2 (b ∷ bs)))) None) ≡ Some rest → IsLess (b ∷ bs) rest
    by true is e =
        let same : bs ≡ rest = cc in
        let len : length bs ≡ length rest = ap length same in
        record { shorter = omega (arith, len); space = λ more s. Space.blank is (subst (λ (t : Text). Space t more) (sym same) s) }
    by false is e = comment (opens_block (b ∷ bs)) refl e

-- ---- all of it
space_step : (turns : ℕ) (text rest : Text) → less_space text ≡ Some rest → behind_space (suc turns) text ≡ behind_space turns rest
unfolding behind_space
space_step turns text rest e = rw e refl

space_stop : (turns : ℕ) (text : Text) → less_space text ≡ None → behind_space turns text ≡ text
unfolding behind_space
space_stop zero text e = refl
space_stop (suc turns) text e = rw e refl

space_none : (text : Text) → behind_space zero text ≡ text
unfolding behind_space
space_none text = refl

-- white space stands before what is left, and none at its front
pub record IsPassed (text at : Text) : Type 0 where
  pub space : Space text at
  pub stuck : less_space at ≡ None
  pub within : length at ≤ length text

passed_by : (turns : ℕ) (text : Text) (o : Option Text) → less_space text ≡ o → length text ≤ suc turns → ((rest : Text) → length rest ≤ turns → IsPassed rest (behind_space turns rest))
    → IsPassed text (behind_space (suc turns) text)
passed_by turns text None e le more = rw (space_stop (suc turns) text e) (record { space = Space.none; stuck = e; within = omega arith })
passed_by turns text (Some rest) e le more =
    let l = is_less text rest e in
    let shorter = l.shorter in
    let m = more rest (omega (arith, shorter, le)) in
    let within = m.within in
    rw (space_step turns text rest e) (record { space = l.space _ m.space; stuck = m.stuck; within = omega (arith, within, shorter) })

passed : (turns : ℕ) (text : Text) → length text ≤ turns → IsPassed text (behind_space turns text)
passed zero [] le = rw (space_none []) (record { space = Space.none; stuck = refl; within = omega arith })
passed zero (b ∷ bs) le = absurd (omega arith)
passed (suc turns) text le = passed_by turns text (less_space text) refl le (λ rest l. passed turns rest l)

pub no_space_is : (text : Text) → IsPassed text (no_space text)
no_space_is text = passed (length text) text (omega arith)

-- ---- nothing else is left
less_blank : (b : ℕ) (bs : Text) → is_blank b ≡ true → less_space (b ∷ bs) ≡ Some bs
less_blank b bs e = rw e refl

less_of_comment : (body inside rest : Text) → ClosesFirst body inside rest → less_space (47 ∷ 42 ∷ inside) ≡ Some rest
less_of_comment body inside rest h =
    let n = close_len_is body inside rest h in
    let left : drop (length body + 2) inside ≡ rest = ap (drop (length body + 2)) h.cut ∙ close_drop body rest in
    ap (behind_comment inside) n ∙ ap Some left

closes_shorter : (body inside rest : Text) → ClosesFirst body inside rest → length rest < length inside
closes_shorter body inside rest h = let parts : length inside ≡ length body + suc (suc (length rest)) = ap length h.cut ∙ length-append body (42 ∷ 47 ∷ rest) in omega (arith, parts)

space_at : (turns : ℕ) (text at : Text) → length text ≤ turns → Space text at → less_space at ≡ None → behind_space turns text ≡ at
space_at turns text at le Space.none stuck = space_stop turns text stuck
space_at zero (b ∷ bs) at le s stuck = absurd (omega arith)
space_at (suc turns) (b ∷ bs) at le (Space.blank is s) stuck = space_step turns (b ∷ bs) bs (less_blank b bs is) ∙ space_at turns bs at (omega arith) s stuck
space_at (suc turns) (b ∷ c ∷ inside) at le (Space.comment {body = body} {text = rest} h s) stuck =
    let shorter = closes_shorter body inside rest h in
    space_step turns (47 ∷ 42 ∷ inside) rest (less_of_comment body inside rest h) ∙ space_at turns rest at (omega (arith, shorter, le)) s stuck

pub no_space_at : (text at : Text) → Space text at → less_space at ≡ None → no_space text ≡ at
no_space_at text at s stuck = space_at (length text) text at (omega arith) s stuck

-- ---- what stands behind white space
pub stuck_byte : (b : ℕ) (bs : Text) → is_blank b ≡ false → eqb b 47 ≡ false → less_space (b ∷ bs) ≡ None
stuck_byte b bs no_blank no_slash = rw (no_blank, no_slash) refl

stuck_end : (at : Text) → AtEnd at → less_space at ≡ None
stuck_end [] h = refl
stuck_end (a ∷ []) h = absurd h
stuck_end (a ∷ b ∷ bs) h = rw (h.0, h.1) refl

at_end_is : (at : Text) → at_end at ≡ true → AtEnd at
at_end_is [] e = tt
at_end_is (a ∷ []) e = absurd (let p = and_parts (eqb a 47) false e in false≢true p.1)
at_end_is (a ∷ b ∷ bs) e = let p = and_parts (eqb a 47) (eqb 47 b) e in (eqb-true a 47 p.0, sym (eqb-true 47 b p.1))

at_end_of : (at : Text) → AtEnd at → at_end at ≡ true
at_end_of [] h = refl
at_end_of (a ∷ []) h = absurd h
at_end_of (a ∷ b ∷ bs) h = and_from _ _ (eq-eqb a 47 h.0) (eq-eqb 47 b (sym h.1))

pub only_space_is : (text : Text) → only_space text ≡ true → OnlySpace text
only_space_is text e = (no_space text, (no_space_is text).space, at_end_is (no_space text) e)

pub only_space_of : (text : Text) → OnlySpace text → only_space text ≡ true
only_space_of text h = ap at_end (no_space_at text h.0 h.1 (stuck_end h.0 h.2)) ∙ at_end_of h.0 h.2
