-- Which production a reader takes: by the first token, and where that does not tell, by those behind it.
use Rattle.std.proofs.Common.{◌≡◌, ℕ, zero, suc, Bool, true, false, not, ◌&&◌, ◌||◌, ◌==◌, List, [], ◌∷◌, Option, Some, None, refl, sym, ap, ◌∙◌}
use Rattle.std.proofs.lemmas.Bool.{and_parts, eqb-true}
use Rattle.c_tree.specs.declared.lexeme.Lexeme.{Lexeme}
use Rattle.c_grammar.specs.Marks as mk
use Rattle.c_grammar.specs.Words as wd
use Rattle.c_grammar.specs.Items.{Mode.concrete, Sym, Out}
use Rattle.c_grammar.specs.Modes.{may_lack_name, behind_pointer}
use Rattle.c_grammar.specs.State.{State, read, enter, begin as begin_declaration, end_specifiers}
use Rattle.c_grammar.specs.Terminals.{mark}
use Rattle.c_grammar.proofs.Categories.{Category.of_mark, Category.of_word, Category.type, Set, marks, words, sees, within, apart, sees_within, sees_apart}
use Rattle.c_grammar.proofs.Changes.{names}
use Rattle.c_grammar.proofs.Firsts.{Piece, primary, declaration, direct, entry, conts, begin, empty, through}
use Rattle.c_grammar.proofs.Programs.{Program, Made, Reader, run}
use Rattle.c_grammar.proofs.Rows.{guards, plain, stands, stands_out, all_within, count}
use Rattle.c_grammar.proofs.Sorts.{plain_words, type_words, unary_marks}
use Rattle.c_grammar.proofs.Starts.{Untouched, Start, Start.took, Start.passed, false_of, not_both}

abbrev pub select : Bool → ℕ → ℕ → ℕ
select true p q = p
select false p q = q

abbrev pub pick : List Set → State → List Lexeme → ℕ
pick [] s ts = zero
pick (g ∷ gs) s ts = select (sees g s ts) zero (suc (pick gs s ts))

abbrev pub later : List Lexeme → List Lexeme
later [] = []
later (t ∷ ts) = ts

-- a type name in parentheses comes next
abbrev pub opens_type : State → List Lexeme → Bool
opens_type s ts = sees (of_mark mk.left_parenthesis ∷ []) s ts && sees declaration (read (enter s)) (later ts)

abbrev pub has_content : State → List Lexeme → Bool
has_content s ts = sees (of_mark mk.left_brace ∷ []) s (later ts) || sees (of_mark mk.left_brace ∷ []) s (later (later ts))

-- a type of a parameter list comes next, or the end of an empty one
abbrev pub opens_parameters : State → List Lexeme → Bool
opens_parameters s ts = sees (of_mark mk.right_parenthesis ∷ declaration) (read s) (later ts)

-- what a reader comes to
abbrev pub comes_to : {A : Type 0} → Option (Made A) → (State → List Lexeme → ℕ) → ℕ
comes_to None f = zero
comes_to (Some m) f = f m.state m.rest

abbrev pub pointers : Program (List (List ℕ))
pointers = Program.turn enter (Program.take (mark mk.asterisk)
    (λ u. Program.turn end_specifiers (Program.call Sym.Qualifiers [] (λ qs. Program.call Sym.Pointers (qs ∷ []) (λ ps. Program.give ps)))))

abbrev pub declaration_head : Program (Out Sym.Specifiers)
declaration_head = Program.turn begin_declaration (Program.call Sym.Specifiers tt (λ head. Program.give head))

abbrev pub special : Reader → Sym → State → List Lexeme → ℕ
special inner Sym.Cast s ts = select (opens_type s ts) 1 0
special inner Sym.Unary s ts = select (sees (of_word wd.sizeof_word ∷ []) s ts && opens_type (read (enter s)) (later ts)) 4
    (pick (primary ∷ marks (mk.plus_plus ∷ mk.minus_minus ∷ []) ∷ marks unary_marks ∷ []) s ts)
special inner Sym.SpecifierForm s ts = select (sees (words (wd.struct_word ∷ wd.union_word ∷ [])) s ts) (select (has_content s ts) 4 5)
    (select (sees (of_word wd.enum_word ∷ []) s ts) (select (has_content s ts) 6 7)
    (pick ((of_word wd.typedef_word ∷ []) ∷ words plain_words ∷ words type_words ∷ (type ∷ []) ∷ []) s ts))
special inner (Sym.DirectOf k) s ts = select (sees names s ts) 0
    (select (may_lack_name k && (not (sees (of_mark mk.left_parenthesis ∷ []) s ts) || opens_parameters s ts)) 2 1)
special inner (Sym.DeclaratorOf k) s ts = select (sees (of_mark mk.asterisk ∷ []) s ts)
    (comes_to (run inner pointers s ts) (λ r rest. select (sees (direct (behind_pointer k)) r rest) 1 2)) 0
special inner Sym.MoreEnumerators s ts = select (sees (of_mark mk.comma ∷ []) s ts) (select (sees names (read s) (later ts)) 1 0) 2
special inner Sym.MoreEntries s ts = select (sees (of_mark mk.comma ∷ []) s ts) (select (sees entry (read s) (later ts)) 1 0) 2
special inner Sym.MoreParameters s ts =
    select (sees (of_mark mk.comma ∷ []) s ts) (select (sees (of_mark mk.ellipsis ∷ []) (read s) (later ts)) 0 1) 2
special inner Sym.Parameters s ts =
    select (sees declaration s ts) (select
    (sees (of_word wd.void_word ∷ []) s ts && not (sees (conts Sym.Parameters) (read s) (later ts))) 0 1) 2
special inner Sym.ExternalDeclaration s ts =
    comes_to (run inner declaration_head s ts) (λ r rest. select (sees (of_mark mk.semicolon ∷ []) r rest) 0
    (comes_to (inner (Sym.DeclaratorOf concrete) tt r rest) (λ q left. select (sees (of_mark mk.left_brace ∷ []) q left) 1 0)))
special inner n s ts = zero

abbrev pub choose : Reader → Sym → State → List Lexeme → ℕ
choose inner n s ts = select (plain n) (pick (guards n) s ts) (special inner n s ts)

-- ---- the choice by the first token
pub select_true : (b : Bool) (p q : ℕ) → b ≡ true → select b p q ≡ p
select_true true p q e = refl
select_true false p q e = cc

pub select_false : (b : Bool) (p q : ℕ) → b ≡ false → select b p q ≡ q
select_false true p q e = cc
select_false false p q e = refl

pub picks_out : (gs : List Set) (i : ℕ) (A : Set) (s : State) (ts : List Lexeme) → stands_out gs i A ≡ true → sees A s ts ≡ true
    → pick gs s ts ≡ i
picks_out [] i A s ts e h = cc
picks_out (g ∷ gs) zero A s ts e h = select_true (sees g s ts) zero (suc (pick gs s ts)) (sees_within A g s ts e h)
picks_out (g ∷ gs) (suc i) A s ts e h =
    let parts = and_parts (apart A g) (stands_out gs i A) e in
    select_false (sees g s ts) zero (suc (pick gs s ts)) (false_of (sees g s ts) (λ o. sees_apart A g s ts parts.0 h o))
    ∙ ap (λ (j : ℕ). suc j) (picks_out gs i A s ts parts.1 h)

picks_none : (gs : List Set) (ps : List Piece) (B : Set) {s : State} {ts : List Lexeme} {end : State} {rest : List Lexeme}
    → all_within gs ps B ≡ true → Untouched ps s ts end rest → sees B end rest ≡ false → pick gs s ts ≡ count gs
picks_none [] ps B e u stop = refl
picks_none (g ∷ gs) ps B {s} {ts} {end} {rest} e u stop =
    let parts = and_parts (within (through ps g) B) (all_within gs ps B) e in
    select_false (sees g s ts) zero (suc (pick gs s ts))
    (false_of (sees g s ts) (λ o. not_both (sees B end rest) (sees_within (through ps g) B end rest parts.0 (u.forward g o)) stop))
    ∙ ap (λ (j : ℕ). suc j) (picks_none gs ps B parts.1 u stop)

sees_none : (s : State) (ts : List Lexeme) → sees [] s ts ≡ true → ⊥
sees_none s [] e = cc
sees_none s (t ∷ ts) e = cc

stood : (n : Sym) (i : ℕ) (ps : List Piece) {s : State} {ts : List Lexeme} {end : State} {rest : List Lexeme}
    → (b : Bool) → empty ps ≡ b → stands n i ps b ≡ true → Start ps s ts end rest → sees (conts n) end rest ≡ false
    → pick (guards n) s ts ≡ i
stood n i ps {s} {ts} false e t (took h) stop = picks_out (guards n) i (begin ps) s ts t h
stood n i ps false e t (passed u) stop = absurd (not_both (empty ps) u.is_empty e)
stood n i ps {s} {ts} true e t (took h) stop =
    let none = (and_parts (within (begin ps) []) _ (and_parts (within (begin ps) [] && i == count (guards n)) _ t).0).0 in
    absurd (sees_none s ts (sees_within (begin ps) [] s ts none h))
stood n i ps true e t (passed u) stop =
    let parts = and_parts (within (begin ps) [] && i == count (guards n)) (all_within (guards n) ps (conts n)) t in
    let place = eqb-true i (count (guards n)) (and_parts (within (begin ps) []) (i == count (guards n)) parts.0).1 in
    picks_none (guards n) ps (conts n) parts.1 u stop ∙ sym place

pub stands_first : (inner : Reader) (n : Sym) (i : ℕ) (ps : List Piece) {s : State} {ts : List Lexeme} {end : State} {rest : List Lexeme}
    → plain n ≡ true → stands n i ps (empty ps) ≡ true → Start ps s ts end rest → sees (conts n) end rest ≡ false → choose inner n s ts ≡ i
stands_first inner n i ps {s} {ts} p t x stop = select_true (plain n) (pick (guards n) s ts) (special inner n s ts) p
    ∙ stood n i ps (empty ps) refl t x stop

pub stands_special : (inner : Reader) (n : Sym) (s : State) (ts : List Lexeme) (i : ℕ) → plain n ≡ false → special inner n s ts ≡ i
    → choose inner n s ts ≡ i
stands_special inner n s ts i p e = select_false (plain n) (pick (guards n) s ts) (special inner n s ts) p ∙ e
