-- The choice where an expression begins with a parenthesis.
use Rattle.std.proofs.Common.{◌≡◌, ℕ, suc, Bool, true, false, ◌&&◌, List, [], ◌∷◌, refl, ap, ◌∙◌}
use Rattle.std.proofs.lemmas.Bool.{and_parts, and_from}
use Rattle.c_tree.specs.declared.lexeme.Lexeme.{Lexeme}
use Rattle.c_grammar.specs.Marks as mk
use Rattle.c_grammar.specs.Words as wd
use Rattle.c_grammar.specs.Items.{Sym, In, Out, Item}
use Rattle.c_grammar.specs.Productions.{Rule}
use Rattle.c_grammar.specs.State.{State, read, enter}
use Rattle.c_grammar.proofs.Categories.{Category.of_mark, Category.of_word, marks, sees, apart, sees_apart}
use Rattle.c_grammar.proofs.Changes as ch
use Rattle.c_grammar.proofs.Choices.{select_true, select_false, pick, picks_out, later, opens_type, special}
use Rattle.c_grammar.proofs.Entries.{entry_of}
use Rattle.c_grammar.proofs.Entry.{Entry}
use Rattle.c_grammar.proofs.Firsts.{conts, declaration, expression, primary, begin, empty}
use Rattle.c_grammar.proofs.Parts.{Parts}
use Rattle.c_grammar.proofs.Programs.{Reader}
use Rattle.c_grammar.proofs.Rows.{row}
use Rattle.c_grammar.proofs.Sorts as so
use Rattle.c_grammar.proofs.Sorts.{unary_marks}
use Rattle.c_grammar.proofs.Starts.{begun, begins_with, false_of, not_apart}

-- ---- behind a parenthesis stands an expression
apart_from_parenthesis : (n : Sym) {k : ℕ} {a : In n} {b : Out n} {items : List Item} {s : State} {ts : List Lexeme} {end : State}
    {rest : List Lexeme} {P : Type 0}
    (e : Entry n a b items) → empty (row n e.place) ≡ false → apart (begin (row n e.place)) (of_mark mk.left_parenthesis ∷ []) ≡ true
    → Parts k items s ts end rest → sees (of_mark mk.left_parenthesis ∷ []) s ts ≡ true → P
apart_from_parenthesis n {s = s} {ts} e solid other p h =
    absurd (sees_apart (begin (row n e.place)) (of_mark mk.left_parenthesis ∷ []) s ts other (begun n e solid p) h)

primary_opens : {k : ℕ} {a : In Sym.Primary} {b : Out Sym.Primary} {items : List Item} {s : State} {ts : List Lexeme} {end : State}
    {rest : List Lexeme}
    → Rule Sym.Primary a b items → Parts k items s ts end rest → sees (of_mark mk.left_parenthesis ∷ []) s ts ≡ true
    → sees expression (read (enter s)) (later ts) ≡ true
primary_opens (Rule.parenthesised x0 x1 x2) (Parts.acted (Parts.token h p)) e = begins_with Sym.Expression refl p
primary_opens (Rule.name x0) p e = apart_from_parenthesis Sym.Primary (entry_of Sym.Primary (Rule.name x0)) refl refl p e
primary_opens (Rule.number x0) p e = apart_from_parenthesis Sym.Primary (entry_of Sym.Primary (Rule.number x0)) refl refl p e
primary_opens (Rule.character x0) p e = apart_from_parenthesis Sym.Primary (entry_of Sym.Primary (Rule.character x0)) refl refl p e
primary_opens (Rule.text x0 x1) p e = apart_from_parenthesis Sym.Primary (entry_of Sym.Primary (Rule.text x0 x1)) refl refl p e

postfix_opens : {k : ℕ} {a : In Sym.Postfix} {b : Out Sym.Postfix} {items : List Item} {s : State} {ts : List Lexeme} {end : State}
    {rest : List Lexeme}
    → Rule Sym.Postfix a b items → Parts k items s ts end rest → sees (of_mark mk.left_parenthesis ∷ []) s ts ≡ true
    → sees expression (read (enter s)) (later ts) ≡ true
postfix_opens (Rule.postfix x0 x1) (Parts.by r p q) e = primary_opens r p e

unary_opens : {k : ℕ} {a : In Sym.Unary} {b : Out Sym.Unary} {items : List Item} {s : State} {ts : List Lexeme} {end : State}
    {rest : List Lexeme}
    → Rule Sym.Unary a b items → Parts k items s ts end rest → sees (of_mark mk.left_parenthesis ∷ []) s ts ≡ true
    → sees expression (read (enter s)) (later ts) ≡ true
unary_opens (Rule.postfix_alone x0) (Parts.by r p q) e = postfix_opens r p e
unary_opens (Rule.bump_before x0 x1) p e = apart_from_parenthesis Sym.Unary (entry_of Sym.Unary (Rule.bump_before x0 x1)) refl refl p e
unary_opens (Rule.unary x0 x1) p e = apart_from_parenthesis Sym.Unary (entry_of Sym.Unary (Rule.unary x0 x1)) refl refl p e
unary_opens (Rule.size_of x0 x1) p e = apart_from_parenthesis Sym.Unary (entry_of Sym.Unary (Rule.size_of x0 x1)) refl refl p e
unary_opens (Rule.size_of_type x0 x1) p e = apart_from_parenthesis Sym.Unary (entry_of Sym.Unary (Rule.size_of_type x0 x1)) refl refl p e

no_type_opens : {k : ℕ} {a : In Sym.Unary} {b : Out Sym.Unary} {items : List Item} {s : State} {ts : List Lexeme} {end : State}
    {rest : List Lexeme}
    → Rule Sym.Unary a b items → Parts k items s ts end rest → opens_type s ts ≡ false
no_type_opens {s = s} {ts} r p = false_of (opens_type s ts) (λ h.
    let parts = and_parts (sees (of_mark mk.left_parenthesis ∷ []) s ts) (sees declaration (read (enter s)) (later ts)) h in
    sees_apart expression declaration (read (enter s)) (later ts) refl (unary_opens r p parts.0) parts.1)

-- ---- casts
pub chosen_Cast : (inner : Reader) {k : ℕ} {a : In Sym.Cast} {b : Out Sym.Cast} {items : List Item} {s : State} {ts : List Lexeme}
    {end : State} {rest : List Lexeme}
    (r : Rule Sym.Cast a b items) → Parts k items s ts end rest → sees (conts Sym.Cast) end rest ≡ false
    → special inner Sym.Cast s ts ≡ (entry_of Sym.Cast r).place
chosen_Cast inner {s = s} {ts} (Rule.unary_alone x0) (Parts.by r p q) stop = select_false (opens_type s ts) 1 0 (no_type_opens r p)
chosen_Cast inner {s = s} (Rule.cast x0 x1 x2)
    (Parts.seen (Parts.acted (Parts.by (Rule.type_in_parentheses y0 y1 y2) (Parts.token {t = t} {ts = us} h p) q))) stop =
    select_true (opens_type s (t ∷ us)) 1 0
    (and_from (sees (of_mark mk.left_parenthesis ∷ []) s (t ∷ us)) (sees declaration (read (enter s)) us)
    (ch.enter.back (of_mark mk.left_parenthesis ∷ []) s (t ∷ us) ((so.mark mk.left_parenthesis).has (enter s) t h))
    (begins_with Sym.NameOfType refl p))

-- ---- `sizeof`
other_unary : (inner : Reader) (s : State) (ts : List Lexeme) (i : ℕ) → sees (of_word wd.sizeof_word ∷ []) s ts ≡ false
    → pick (primary ∷ marks (mk.plus_plus ∷ mk.minus_minus ∷ []) ∷ marks unary_marks ∷ []) s ts ≡ i → special inner Sym.Unary s ts ≡ i
other_unary inner s ts i other e =
    select_false (sees (of_word wd.sizeof_word ∷ []) s ts && opens_type (read (enter s)) (later ts)) 4 _
    (none (sees (of_word wd.sizeof_word ∷ []) s ts) (opens_type (read (enter s)) (later ts)) other) ∙ e
  where
    none : (x y : Bool) → x ≡ false → x && y ≡ false
    none true y e = cc
    none false y e = refl

right_false : (x y : Bool) → y ≡ false → x && y ≡ false
right_false true y e = e
right_false false y e = refl

pub chosen_Unary : (inner : Reader) {k : ℕ} {a : In Sym.Unary} {b : Out Sym.Unary} {items : List Item} {s : State} {ts : List Lexeme}
    {end : State} {rest : List Lexeme}
    (r : Rule Sym.Unary a b items) → Parts k items s ts end rest → sees (conts Sym.Unary) end rest ≡ false
    → special inner Sym.Unary s ts ≡ (entry_of Sym.Unary r).place
chosen_Unary inner {s = s} {ts} (Rule.postfix_alone x0) p stop =
    let h = begun Sym.Unary (entry_of Sym.Unary (Rule.postfix_alone x0)) refl p in
    other_unary inner s ts 0 (not_apart (of_word wd.sizeof_word ∷ []) primary s ts refl h)
    (picks_out (primary ∷ marks (mk.plus_plus ∷ mk.minus_minus ∷ []) ∷ marks unary_marks ∷ []) 0 primary s ts refl h)
chosen_Unary inner {s = s} {ts} (Rule.bump_before x0 x1) p stop =
    let h = begun Sym.Unary (entry_of Sym.Unary (Rule.bump_before x0 x1)) refl p in
    other_unary inner s ts 1 (not_apart (of_word wd.sizeof_word ∷ []) (marks (mk.plus_plus ∷ mk.minus_minus ∷ [])) s ts refl h)
    (picks_out (primary ∷ marks (mk.plus_plus ∷ mk.minus_minus ∷ []) ∷ marks unary_marks ∷ []) 1
    (marks (mk.plus_plus ∷ mk.minus_minus ∷ [])) s ts refl h)
chosen_Unary inner {s = s} {ts} (Rule.unary x0 x1) p stop =
    let h = begun Sym.Unary (entry_of Sym.Unary (Rule.unary x0 x1)) refl p in
    other_unary inner s ts 2 (not_apart (of_word wd.sizeof_word ∷ []) (marks unary_marks) s ts refl h)
    (picks_out (primary ∷ marks (mk.plus_plus ∷ mk.minus_minus ∷ []) ∷ marks unary_marks ∷ []) 2 (marks unary_marks) s ts refl h)
chosen_Unary inner {s = s} (Rule.size_of x0 x1) (Parts.acted (Parts.token {t = t} {ts = us} h (Parts.by r p q))) stop =
    let first = ch.enter.back (of_word wd.sizeof_word ∷ []) s (t ∷ us) ((so.word wd.sizeof_word refl).has (enter s) t h) in
    select_false (sees (of_word wd.sizeof_word ∷ []) s (t ∷ us) && opens_type (read (enter s)) us) 4 _
    (right_false (sees (of_word wd.sizeof_word ∷ []) s (t ∷ us)) (opens_type (read (enter s)) us) (no_type_opens r p))
    ∙ picks_none_of s (t ∷ us) first
  where
    picks_none_of : (s : State) (ts : List Lexeme) → sees (of_word wd.sizeof_word ∷ []) s ts ≡ true
        → pick (primary ∷ marks (mk.plus_plus ∷ mk.minus_minus ∷ []) ∷ marks unary_marks ∷ []) s ts ≡ 3
    picks_none_of s ts e =
        select_false (sees primary s ts) 0 (suc (pick (marks (mk.plus_plus ∷ mk.minus_minus ∷ []) ∷ marks unary_marks ∷ []) s ts))
        (not_apart primary (of_word wd.sizeof_word ∷ []) s ts refl e)
        ∙ ap (λ (j : ℕ). suc j) (select_false (sees (marks (mk.plus_plus ∷ mk.minus_minus ∷ [])) s ts) 0
        (suc (pick (marks unary_marks ∷ []) s ts))
        (not_apart (marks (mk.plus_plus ∷ mk.minus_minus ∷ [])) (of_word wd.sizeof_word ∷ []) s ts refl e)
        ∙ ap (λ (j : ℕ). suc j) (select_false (sees (marks unary_marks) s ts) 0 1
        (not_apart (marks unary_marks) (of_word wd.sizeof_word ∷ []) s ts refl e)))
chosen_Unary inner {s = s} (Rule.size_of_type x0 x1)
    (Parts.acted (Parts.token {t = t} {ts = us} h (Parts.by (Rule.type_in_parentheses y0 y1 y2) (Parts.token {t = u} {ts = vs} g p) q)))
    stop =
    let first = ch.enter.back (of_word wd.sizeof_word ∷ []) s (t ∷ u ∷ vs) ((so.word wd.sizeof_word refl).has (enter s) t h) in
    let type = begins_with Sym.NameOfType refl p in
    let inside = read (enter s) in
    select_true (sees (of_word wd.sizeof_word ∷ []) s (t ∷ u ∷ vs) && opens_type inside (u ∷ vs)) 4 _ (and_from _ _ first
    (and_from (sees (of_mark mk.left_parenthesis ∷ []) inside (u ∷ vs)) (sees declaration (read (enter inside)) vs)
    ((so.mark mk.left_parenthesis).has inside u g)
    (ch.sees_alike declaration (read inside) (read (enter inside)) vs (λ x. refl) refl refl type)))
