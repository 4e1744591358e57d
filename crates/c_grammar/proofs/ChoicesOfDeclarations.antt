-- The choice of a production in declarations, where the first token does not tell.
use Rattle.std.proofs.Common.{◌≡◌, ℕ, Bool, true, false, not, ◌&&◌, ◌||◌, ◌==◌, List, [], ◌∷◌, ◌++◌, Option, refl, ap, ◌∙◌}
use Rattle.std.proofs.lemmas.Bool.{and_from}
use Rattle.c_tree.specs.declared.lexeme.Lexeme.{Lexeme}
use Rattle.c_tree.specs.declared.lexeme.LexemeKind.{LexemeKind}
use Rattle.c_tree.specs.declared.lexeme.LexemeKind.TheVariants as k
use Rattle.c_grammar.specs.Marks as mk
use Rattle.c_grammar.specs.Words as wd
use Rattle.c_grammar.specs.Items.{Mode, Mode.concrete, Mode.parameter, Mode.grouped, Mode.abstract, Sym, In, Out, Item, term, act, nt}
use Rattle.c_grammar.specs.Modes.{may_lack_name, name_of_mode, behind_pointer, in_parentheses}
use Rattle.c_grammar.specs.Productions.{Rule}
use Rattle.c_grammar.specs.State.{State, read, enter, leave, end_specifiers}
use Rattle.c_grammar.specs.Terminals.{mark}
use Rattle.c_grammar.proofs.Categories.{Category.of_mark, Category.of_word, Category.value, Category.type, Category.late_type, Set, marks, words, among, category, word_category, name_category, sees, within, apart, sees_apart, sees_within}
use Rattle.c_grammar.proofs.Changes as ch
use Rattle.c_grammar.proofs.Changes.{names}
use Rattle.c_grammar.proofs.Choices.{select, select_true, select_false, pick, picks_out, has_content, opens_parameters, comes_to, pointers, special}
use Rattle.c_grammar.proofs.Described.{Described}
use Rattle.c_grammar.proofs.Entries.{entry_of}
use Rattle.c_grammar.proofs.Firsts.{conts, declaration, declarator, declarators, direct, entry, qualifiers}
use Rattle.c_grammar.proofs.Parts.{Parts}
use Rattle.c_grammar.proofs.Programs.{Fits, Made, Reader}
use Rattle.c_grammar.proofs.Readers.{Complete, reader, runs}
use Rattle.c_grammar.proofs.Sorts as so
use Rattle.c_grammar.proofs.Sorts.{plain_words, type_words}
use Rattle.c_grammar.proofs.Starts.{begun, begins_with, false_of, not_both, not_apart, not_within, starts, taken}

-- a mark is the same in each state
mark_anywhere : (n : ℕ) (s r : State) (ts : List Lexeme) → sees (of_mark n ∷ []) s ts ≡ true → sees (of_mark n ∷ []) r ts ≡ true
mark_anywhere n s r [] e = cc
mark_anywhere n s r (t ∷ ts) e = at t.kind e
  where
    word : (b x : Bool) (v : ℕ) → among (of_mark n ∷ []) (word_category b x v) ≡ true → ⊥
    word true true v e = cc
    word true false v e = cc
    word false x v e = cc

    name : (b x : Bool) → among (of_mark n ∷ []) (name_category b x) ≡ true → ⊥
    name false x e = cc
    name true true e = cc
    name true false e = cc

    at : (kind : LexemeKind) → among (of_mark n ∷ []) (category s kind) ≡ true → among (of_mark n ∷ []) (category r kind) ≡ true
    at (k.Mark m) e = e
    at (k.Word v) e = absurd (word (v == wd.else_word) s.dangling v e)
    at (k.Name x) e = absurd (name _ _ e)
    at (k.Number m of) e = e
    at (k.Character m) e = e
    at (k.Text bytes) e = e
    at k.Extension e = e
    at k.End e = e

or_left : (x y : Bool) → x ≡ true → x || y ≡ true
or_left true y e = refl
or_left false y e = cc

or_right : (x y : Bool) → y ≡ true → x || y ≡ true
or_right true y e = refl
or_right false y e = e

neither : (x y : Bool) → x ≡ false → y ≡ false → x || y ≡ false
neither true y e f = cc
neither false y e f = f

-- ---- specifiers
other_specifier : (inner : Reader) (i : ℕ) (A : Set) (s : State) (ts : List Lexeme)
    → apart (words (wd.struct_word ∷ wd.union_word ∷ [])) A ≡ true → apart (of_word wd.enum_word ∷ []) A ≡ true
    → pick ((of_word wd.typedef_word ∷ []) ∷ words plain_words ∷ words type_words ∷ (type ∷ []) ∷ []) s ts ≡ i → sees A s ts ≡ true
    → special inner Sym.SpecifierForm s ts ≡ i
other_specifier inner i A s ts e f p h =
    select_false (sees (words (wd.struct_word ∷ wd.union_word ∷ [])) s ts) (select (has_content s ts) 4 5) _
    (not_apart (words (wd.struct_word ∷ wd.union_word ∷ [])) A s ts e h)
    ∙ select_false (sees (of_word wd.enum_word ∷ []) s ts) (select (has_content s ts) 6 7) _
    (not_apart (of_word wd.enum_word ∷ []) A s ts f h)
    ∙ p

record_specifier : (inner : Reader) (b : Bool) (s : State) (ts : List Lexeme) → has_content s ts ≡ b
    → sees (words (wd.struct_word ∷ wd.union_word ∷ [])) s ts ≡ true → special inner Sym.SpecifierForm s ts ≡ select b 4 5
record_specifier inner b s ts e h =
    select_true (sees (words (wd.struct_word ∷ wd.union_word ∷ [])) s ts) (select (has_content s ts) 4 5) _ h
    ∙ ap (λ (x : Bool). select x 4 5) e

enumeration_specifier : (inner : Reader) (b : Bool) (s : State) (ts : List Lexeme) → has_content s ts ≡ b
    → sees (of_word wd.enum_word ∷ []) s ts ≡ true → special inner Sym.SpecifierForm s ts ≡ select b 6 7
enumeration_specifier inner b s ts e h =
    select_false (sees (words (wd.struct_word ∷ wd.union_word ∷ [])) s ts) (select (has_content s ts) 4 5) _
    (not_apart (words (wd.struct_word ∷ wd.union_word ∷ [])) (of_word wd.enum_word ∷ []) s ts refl h)
    ∙ select_true (sees (of_word wd.enum_word ∷ []) s ts) (select (has_content s ts) 6 7) _ h ∙ ap (λ (x : Bool). select x 6 7) e

no_content : (s r : State) (t x : Lexeme) (rest : List Lexeme) → sees names r (x ∷ rest) ≡ true → (end : State)
    → sees (of_mark mk.left_brace ∷ []) end rest ≡ false → has_content s (t ∷ x ∷ rest) ≡ false
no_content s r t x rest name end stop = neither (sees (of_mark mk.left_brace ∷ []) s (x ∷ rest)) (sees (of_mark mk.left_brace ∷ []) s rest)
    (false_of (sees (of_mark mk.left_brace ∷ []) s (x ∷ rest))
    (λ h. sees_apart (of_mark mk.left_brace ∷ []) names r (x ∷ rest) refl (mark_anywhere mk.left_brace s r (x ∷ rest) h) name))
    (false_of (sees (of_mark mk.left_brace ∷ []) s rest)
    (λ h. not_both (sees (of_mark mk.left_brace ∷ []) end rest) (mark_anywhere mk.left_brace s end rest h) stop))

pub chosen_SpecifierForm : (inner : Reader) {k : ℕ} {a : In Sym.SpecifierForm} {b : Out Sym.SpecifierForm} {items : List Item} {s : State}
    {ts : List Lexeme} {end : State} {rest : List Lexeme}
    (r : Rule Sym.SpecifierForm a b items) → Parts k items s ts end rest → sees (conts Sym.SpecifierForm) end rest ≡ false
    → special inner Sym.SpecifierForm s ts ≡ (entry_of Sym.SpecifierForm r).place
chosen_SpecifierForm inner {s = s} {ts} (Rule.typedef x0) p stop =
    let h = begun Sym.SpecifierForm (entry_of Sym.SpecifierForm (Rule.typedef x0)) refl p in
    other_specifier inner 0 (of_word wd.typedef_word ∷ []) s ts refl refl
    (picks_out ((of_word wd.typedef_word ∷ []) ∷ words plain_words ∷ words type_words ∷ (type ∷ []) ∷ []) 0
    (of_word wd.typedef_word ∷ []) s ts refl h) h
chosen_SpecifierForm inner {s = s} {ts} (Rule.plain_specifier x0) p stop =
    let h = begun Sym.SpecifierForm (entry_of Sym.SpecifierForm (Rule.plain_specifier x0)) refl p in
    other_specifier inner 1 (words plain_words) s ts refl refl
    (picks_out ((of_word wd.typedef_word ∷ []) ∷ words plain_words ∷ words type_words ∷ (type ∷ []) ∷ []) 1
    (words plain_words) s ts refl h) h
chosen_SpecifierForm inner {s = s} {ts} (Rule.type_word x0) p stop =
    let h = begun Sym.SpecifierForm (entry_of Sym.SpecifierForm (Rule.type_word x0)) refl p in
    other_specifier inner 2 (words type_words) s ts refl refl
    (picks_out ((of_word wd.typedef_word ∷ []) ∷ words plain_words ∷ words type_words ∷ (type ∷ []) ∷ []) 2
    (words type_words) s ts refl h) h
chosen_SpecifierForm inner {s = s} {ts} (Rule.typedef_name x0) p stop =
    let h = begun Sym.SpecifierForm (entry_of Sym.SpecifierForm (Rule.typedef_name x0)) refl p in
    other_specifier inner 3 (type ∷ []) s ts refl refl
    (picks_out ((of_word wd.typedef_word ∷ []) ∷ words plain_words ∷ words type_words ∷ (type ∷ []) ∷ []) 3 (type ∷ []) s ts refl h) h
chosen_SpecifierForm inner {s = s} (Rule.record_content x0 x1 x2 x3 x4)
    (Parts.token {t = t} h (Parts.by Rule.no_tag Parts.done (Parts.acted (Parts.token {t = v} {ts = vs} g q)))) stop =
    record_specifier inner true s (t ∷ v ∷ vs)
    (or_left (sees (of_mark mk.left_brace ∷ []) s (v ∷ vs)) (sees (of_mark mk.left_brace ∷ []) s vs)
    ((so.mark mk.left_brace).has s v g)) (so.record_word.has s t h)
chosen_SpecifierForm inner {s = s} (Rule.record_content x0 x1 x2 x3 x4)
    (Parts.token {t = t} h (Parts.by (Rule.tag y0) (Parts.token {t = u} f Parts.done) (Parts.acted (Parts.token {t = v} {ts = vs} g q))))
    stop =
    record_specifier inner true s (t ∷ u ∷ v ∷ vs)
    (or_right (sees (of_mark mk.left_brace ∷ []) s (u ∷ v ∷ vs)) (sees (of_mark mk.left_brace ∷ []) s (v ∷ vs))
    ((so.mark mk.left_brace).has s v g)) (so.record_word.has s t h)
chosen_SpecifierForm inner {s = s} {end = end} {rest} (Rule.record_tag x0 x1)
    (Parts.token {t = t} h (Parts.token {s = r} {t = u} g Parts.done)) stop =
    record_specifier inner false s (t ∷ u ∷ rest) (no_content s r t u rest (so.any_name.has r u g) end stop) (so.record_word.has s t h)
chosen_SpecifierForm inner {s = s} (Rule.enumeration_content x0 x1 x2 x3 x4)
    (Parts.token {t = t} h (Parts.by Rule.no_tag Parts.done (Parts.acted (Parts.token {t = v} {ts = vs} g q)))) stop =
    enumeration_specifier inner true s (t ∷ v ∷ vs)
    (or_left (sees (of_mark mk.left_brace ∷ []) s (v ∷ vs)) (sees (of_mark mk.left_brace ∷ []) s vs)
    ((so.mark mk.left_brace).has s v g)) (so.enumeration_word.has s t h)
chosen_SpecifierForm inner {s = s} (Rule.enumeration_content x0 x1 x2 x3 x4)
    (Parts.token {t = t} h (Parts.by (Rule.tag y0) (Parts.token {t = u} f Parts.done) (Parts.acted (Parts.token {t = v} {ts = vs} g q))))
    stop =
    enumeration_specifier inner true s (t ∷ u ∷ v ∷ vs)
    (or_right (sees (of_mark mk.left_brace ∷ []) s (u ∷ v ∷ vs)) (sees (of_mark mk.left_brace ∷ []) s (v ∷ vs))
    ((so.mark mk.left_brace).has s v g)) (so.enumeration_word.has s t h)
chosen_SpecifierForm inner {s = s} {end = end} {rest} (Rule.enumeration_tag x0 x1)
    (Parts.token {t = t} h (Parts.token {s = r} {t = u} g Parts.done)) stop =
    enumeration_specifier inner false s (t ∷ u ∷ rest) (no_content s r t u rest (so.any_name.has r u g) end stop)
    (so.enumeration_word.has s t h)

-- ---- declarators
name_among : (m : Mode) (s : State) (t : Lexeme) (ts : List Lexeme) → (name_of_mode m).fits s t ≡ true → sees names s (t ∷ ts) ≡ true
name_among concrete s t ts h = sees_within (value ∷ late_type ∷ []) names s (t ∷ ts) refl (so.declared_name.has s t h)
name_among parameter s t ts h = sees_within (value ∷ late_type ∷ []) names s (t ∷ ts) refl (so.declared_name.has s t h)
name_among grouped s t ts h = sees_within (value ∷ []) names s (t ∷ ts) refl (so.grouped_name.has s t h)
name_among abstract s t ts h = sees_within (value ∷ late_type ∷ []) names s (t ∷ ts) refl (so.declared_name.has s t h)

with_name_only : (a b c : Bool) → b ≡ true → c ≡ false → a && (not b || c) ≡ false
with_name_only true true false e f = refl
with_name_only true false c e f = cc
with_name_only a b true e f = cc
with_name_only false b c e f = refl

nested_is : (m : Mode) (s : State) (t : Lexeme) (ts : List Lexeme) → sees (of_mark mk.left_parenthesis ∷ []) s (t ∷ ts) ≡ true
    → sees (declarator (in_parentheses m)) (end_specifiers (read s)) ts ≡ true
    → may_lack_name m && (not (sees (of_mark mk.left_parenthesis ∷ []) s (t ∷ ts)) || opens_parameters s (t ∷ ts)) ≡ false
nested_is concrete s t ts e h = refl
nested_is parameter s t ts e h =
    with_name_only true _ _ e (not_apart (of_mark mk.right_parenthesis ∷ declaration) (declarator grouped) (read s) ts refl
    (ch.end_specifiers.back (declarator grouped) (read s) ts h))
nested_is grouped s t ts e h = with_name_only true _ _ e
    (not_apart (of_mark mk.right_parenthesis ∷ declaration) (declarator grouped) (read s) ts refl
    (ch.end_specifiers.back (declarator grouped) (read s) ts h))
nested_is abstract s t ts e h =
    with_name_only true _ _ e (not_apart (of_mark mk.right_parenthesis ∷ declaration) (declarator abstract) (read s) ts refl
    (ch.end_specifiers.back (declarator abstract) (read s) ts h))

without_name : (a b c : Bool) → a ≡ true → not b || c ≡ true → a && (not b || c) ≡ true
without_name a b c e f = and_from a (not b || c) e f

part_opens : {k : ℕ} {a : In Sym.Part} {b : Out Sym.Part} {items : List Item} {s : State} {ts : List Lexeme} {end : State}
    {rest : List Lexeme}
    → Rule Sym.Part a b items → Parts k items s ts end rest
    → not (sees (of_mark mk.left_parenthesis ∷ []) s ts) || opens_parameters s ts ≡ true
part_opens {s = s} (Rule.array x0 x1 x2) (Parts.token {t = t} {ts = us} h p) =
    or_left (not (sees (of_mark mk.left_parenthesis ∷ []) s (t ∷ us))) (opens_parameters s (t ∷ us))
    (ap (λ (x : Bool). not x) (not_apart (of_mark mk.left_parenthesis ∷ []) (of_mark mk.left_bracket ∷ []) s (t ∷ us) refl
    ((so.mark mk.left_bracket).has s t h)))
part_opens {s = s} (Rule.parameters x0 x1 x2) (Parts.token {t = t} {ts = us} h (Parts.acted p)) =
    or_right (not (sees (of_mark mk.left_parenthesis ∷ []) s (t ∷ us))) (opens_parameters s (t ∷ us))
    (sees_within (declaration ++ of_mark mk.right_parenthesis ∷ []) (of_mark mk.right_parenthesis ∷ declaration) (read s) us refl
    (ch.open_scope.back (declaration ++ of_mark mk.right_parenthesis ∷ []) (read s) us
    (taken refl (starts (Described.symbol {n = Sym.Parameters}
    (Described.token (so.mark mk.right_parenthesis) (Described.change ch.close_parameters Described.none))) p))))

-- the places of the productions, whatever the mode
direct_number : {m : Mode} {a : In (Sym.DirectOf m)} {b : Out (Sym.DirectOf m)} {items : List Item} → Rule (Sym.DirectOf m) a b items → ℕ
direct_number (Rule.named x0 x1 x2 x3) = 0
direct_number (Rule.nested x0 x1 x2 x3 x4) = 1
direct_number (Rule.nameless x0 x1 x2 x3) = 2

direct_place : (m : Mode) {a : In (Sym.DirectOf m)} {b : Out (Sym.DirectOf m)} {items : List Item} (r : Rule (Sym.DirectOf m) a b items)
    → direct_number r ≡ (entry_of (Sym.DirectOf m) r).place
unfolding direct_number
direct_place Mode.concrete (Rule.named x0 x1 x2 x3) = refl
direct_place Mode.concrete (Rule.nested x0 x1 x2 x3 x4) = refl
direct_place Mode.concrete (Rule.nameless x0 x1 x2 x3) = absurd cc
direct_place Mode.parameter (Rule.named x0 x1 x2 x3) = refl
direct_place Mode.parameter (Rule.nested x0 x1 x2 x3 x4) = refl
direct_place Mode.parameter (Rule.nameless x0 x1 x2 x3) = refl
direct_place Mode.grouped (Rule.named x0 x1 x2 x3) = refl
direct_place Mode.grouped (Rule.nested x0 x1 x2 x3 x4) = refl
direct_place Mode.grouped (Rule.nameless x0 x1 x2 x3) = refl
direct_place Mode.abstract (Rule.named x0 x1 x2 x3) = absurd cc
direct_place Mode.abstract (Rule.nested x0 x1 x2 x3 x4) = refl
direct_place Mode.abstract (Rule.nameless x0 x1 x2 x3) = refl

direct_choice : (inner : Reader) (m : Mode) {k : ℕ} {a : In (Sym.DirectOf m)} {b : Out (Sym.DirectOf m)} {items : List Item} {s : State}
    {ts : List Lexeme} {end : State} {rest : List Lexeme}
    (r : Rule (Sym.DirectOf m) a b items) → Parts k items s ts end rest → special inner (Sym.DirectOf m) s ts ≡ direct_number r
unfolding direct_number
direct_choice inner m {s = s} (Rule.named x0 x1 x2 x3) (Parts.token {t = t} {ts = us} h p) =
    select_true (sees names s (t ∷ us)) 0 _ (name_among m s t us h)
direct_choice inner m {s = s} (Rule.nested x0 x1 x2 x3 x4) (Parts.token {t = t} {ts = us} h (Parts.acted p)) =
    let opens = (so.mark mk.left_parenthesis).has s t h in
    select_false (sees names s (t ∷ us)) 0 _ (not_apart names (of_mark mk.left_parenthesis ∷ []) s (t ∷ us) refl opens)
    ∙ select_false (may_lack_name m && (not (sees (of_mark mk.left_parenthesis ∷ []) s (t ∷ us)) || opens_parameters s (t ∷ us))) 2 1
    (nested_is m s t us opens (begins_with (Sym.DeclaratorOf (in_parentheses m)) refl p))
direct_choice inner m {s = s} {ts} (Rule.nameless x0 x1 x2 x3) (Parts.by r p q) =
    select_false (sees names s ts) 0 _
    (not_apart names (marks (mk.left_bracket ∷ mk.left_parenthesis ∷ [])) s ts refl (begins_with Sym.Part refl (Parts.by r p q)))
    ∙ select_true (may_lack_name m && (not (sees (of_mark mk.left_parenthesis ∷ []) s ts) || opens_parameters s ts)) 2 1
    (without_name (may_lack_name m) (sees (of_mark mk.left_parenthesis ∷ []) s ts) (opens_parameters s ts) x3 (part_opens r p))

pub chosen_DirectOf : (inner : Reader) (m : Mode) {k : ℕ} {a : In (Sym.DirectOf m)} {b : Out (Sym.DirectOf m)} {items : List Item}
    {s : State} {ts : List Lexeme} {end : State} {rest : List Lexeme}
    (r : Rule (Sym.DirectOf m) a b items) → Parts k items s ts end rest → sees (conts (Sym.DirectOf m)) end rest ≡ false
    → special inner (Sym.DirectOf m) s ts ≡ (entry_of (Sym.DirectOf m) r).place
chosen_DirectOf inner m r p stop = direct_choice inner m r p ∙ direct_place m r

declarator_number : {m : Mode} {a : In (Sym.DeclaratorOf m)} {b : Out (Sym.DeclaratorOf m)} {items : List Item}
    → Rule (Sym.DeclaratorOf m) a b items → ℕ
declarator_number (Rule.plain_declarator x0 x1 x2) = 0
declarator_number (Rule.pointed_declarator x0 x1 x2 x3 x4) = 1
declarator_number (Rule.pointers_alone x0 x1 x2 x3 x4) = 2

declarator_place : (m : Mode) {a : In (Sym.DeclaratorOf m)} {b : Out (Sym.DeclaratorOf m)}
    {items : List Item} (r : Rule (Sym.DeclaratorOf m) a b items) → declarator_number r ≡ (entry_of (Sym.DeclaratorOf m) r).place
unfolding declarator_number
declarator_place Mode.concrete (Rule.plain_declarator x0 x1 x2) = refl
declarator_place Mode.concrete (Rule.pointed_declarator x0 x1 x2 x3 x4) = refl
declarator_place Mode.concrete (Rule.pointers_alone x0 x1 x2 x3 x4) = refl
declarator_place Mode.parameter (Rule.plain_declarator x0 x1 x2) = refl
declarator_place Mode.parameter (Rule.pointed_declarator x0 x1 x2 x3 x4) = refl
declarator_place Mode.parameter (Rule.pointers_alone x0 x1 x2 x3 x4) = refl
declarator_place Mode.grouped (Rule.plain_declarator x0 x1 x2) = refl
declarator_place Mode.grouped (Rule.pointed_declarator x0 x1 x2 x3 x4) = refl
declarator_place Mode.grouped (Rule.pointers_alone x0 x1 x2 x3 x4) = refl
declarator_place Mode.abstract (Rule.plain_declarator x0 x1 x2) = refl
declarator_place Mode.abstract (Rule.pointed_declarator x0 x1 x2 x3 x4) = refl
declarator_place Mode.abstract (Rule.pointers_alone x0 x1 x2 x3 x4) = refl

plain_first : (m : Mode) → apart (of_mark mk.asterisk ∷ []) (direct m) ≡ true
plain_first concrete = refl
plain_first parameter = refl
plain_first grouped = refl
plain_first abstract = refl

behind_pointers : (m : Mode) → apart (of_mark mk.asterisk ∷ qualifiers) (direct m) ≡ true
behind_pointers concrete = refl
behind_pointers parameter = refl
behind_pointers grouped = refl
behind_pointers abstract = refl

goes_on_with : (m : Mode) → within (direct m) declarators ≡ true
goes_on_with concrete = refl
goes_on_with parameter = refl
goes_on_with grouped = refl
goes_on_with abstract = refl

pointer_first : {k : ℕ} {u : Lexeme} {more : List Item} {s : State} {ts : List Lexeme} {mid : State} {middle : List Lexeme}
    → Parts k (act enter ∷ term (mark mk.asterisk) u ∷ more) s ts mid middle → sees (of_mark mk.asterisk ∷ []) (enter s) ts ≡ true
pointer_first (Parts.acted (Parts.token {s = r} {t = t} h p)) = (so.mark mk.asterisk).has r t h

-- the pointers are read
pointed : {k : ℕ} → Complete k → (m : Mode) (b : Bool) {qs : List ℕ} {ps : List (List ℕ)} {u : Lexeme} {s : State} {ts : List Lexeme}
    {mid : State} {middle : List Lexeme}
    → Parts k (act enter ∷ term (mark mk.asterisk) u ∷ act end_specifiers ∷ nt Sym.Qualifiers [] qs ∷ nt Sym.Pointers (qs ∷ []) ps ∷ []) s ts mid middle
    → sees (of_mark mk.asterisk ∷ qualifiers) mid middle ≡ false
    → sees (direct (behind_pointer m)) mid middle ≡ b → special (reader k) (Sym.DeclaratorOf m) s ts ≡ select b 1 2
pointed {k} all m b {qs} {ps} {u} {s} {ts} {mid} {middle} p stop e =
    let read_them = runs Sym.Pointers all {p = pointers} (Fits.turn (Fits.take (Fits.turn (Fits.call (Fits.call Fits.give)))))
    (Described.change ch.enter (Described.token (so.mark mk.asterisk)
    (Described.change ch.end_specifiers (Described.symbol (Described.symbol Described.none))))) refl p stop in
    select_true (sees (of_mark mk.asterisk ∷ []) s ts) _ 0 (ch.enter.back (of_mark mk.asterisk ∷ []) s ts (pointer_first p))
    ∙ ap (λ (x : Option (Made (List (List ℕ)))). comes_to x (λ r rest. select (sees (direct (behind_pointer m)) r rest) 1 2)) read_them
    ∙ ap (λ (x : Bool). select x 1 2) e

pointers_end : (A : Set) → within A declarators ≡ true → {k : ℕ} {s : State} {ts : List Lexeme} {end : State} {rest : List Lexeme}
    → Parts k (act leave ∷ []) s ts end rest → sees declarators end rest ≡ false → sees A s ts ≡ false
pointers_end A w {s = s} {ts} (Parts.acted Parts.done) stop =
    false_of (sees A s ts) (λ h. not_both (sees declarators (leave s) ts)
    (sees_within A declarators (leave s) ts w (ch.leave.forward A s ts h)) stop)

declarator_choice : {k : ℕ} → Complete k
    → (m : Mode) {a : In (Sym.DeclaratorOf m)} {b : Out (Sym.DeclaratorOf m)} {items : List Item} {s : State} {ts : List Lexeme}
    {end : State} {rest : List Lexeme}
    (r : Rule (Sym.DeclaratorOf m) a b items) → Parts k items s ts end rest → sees (conts (Sym.DeclaratorOf m)) end rest ≡ false
    → special (reader k) (Sym.DeclaratorOf m) s ts ≡ declarator_number r
unfolding declarator_number
declarator_choice all m {s = s} (Rule.plain_declarator x0 x1 x2) (Parts.seen {t = t} {ts = us} (Parts.acted p)) stop =
    select_false (sees (of_mark mk.asterisk ∷ []) s (t ∷ us)) _ 0
    (not_apart (of_mark mk.asterisk ∷ []) (direct m) s (t ∷ us) (plain_first m)
    (ch.enter.back (direct m) s (t ∷ us) (begins_with (Sym.DirectOf m) refl p)))
declarator_choice all m {s = s} (Rule.pointed_declarator x0 x1 x2 x3 x4)
    (Parts.acted (Parts.token {t = t} h (Parts.acted (Parts.by rq pq (Parts.by {mid = mid} {middle = middle} rp pp p))))) stop =
    let next = begins_with (Sym.DirectOf (behind_pointer m)) refl p in
    pointed all m true (Parts.acted {s = s} (Parts.token {t = t} h (Parts.acted (Parts.by rq pq (Parts.by rp pp Parts.done)))))
    (not_apart (of_mark mk.asterisk ∷ qualifiers) (direct (behind_pointer m)) mid middle (behind_pointers (behind_pointer m)) next) next
declarator_choice all m {s = s} (Rule.pointers_alone x0 x1 x2 x3 x4)
    (Parts.acted (Parts.token {t = t} h (Parts.acted (Parts.by rq pq (Parts.by rp pp p))))) stop =
    pointed all m false (Parts.acted {s = s} (Parts.token {t = t} h (Parts.acted (Parts.by rq pq (Parts.by rp pp Parts.done)))))
    (pointers_end (of_mark mk.asterisk ∷ qualifiers) refl p stop)
    (pointers_end (direct (behind_pointer m)) (goes_on_with (behind_pointer m)) p stop)

pub chosen_DeclaratorOf : {k : ℕ} → Complete k
    → (m : Mode) {a : In (Sym.DeclaratorOf m)} {b : Out (Sym.DeclaratorOf m)} {items : List Item} {s : State} {ts : List Lexeme}
    {end : State} {rest : List Lexeme}
    (r : Rule (Sym.DeclaratorOf m) a b items) → Parts k items s ts end rest → sees (conts (Sym.DeclaratorOf m)) end rest ≡ false
    → special (reader k) (Sym.DeclaratorOf m) s ts ≡ (entry_of (Sym.DeclaratorOf m) r).place
chosen_DeclaratorOf all m r p stop = declarator_choice all m r p stop ∙ declarator_place m r

-- ---- behind a comma
pub chosen_MoreEnumerators : (inner : Reader) {k : ℕ} {a : In Sym.MoreEnumerators} {b : Out Sym.MoreEnumerators} {items : List Item}
    {s : State} {ts : List Lexeme} {end : State} {rest : List Lexeme}
    (r : Rule Sym.MoreEnumerators a b items) → Parts k items s ts end rest → sees (conts Sym.MoreEnumerators) end rest ≡ false
    → special inner Sym.MoreEnumerators s ts ≡ (entry_of Sym.MoreEnumerators r).place
chosen_MoreEnumerators inner {s = s} {rest = rest} (Rule.last_enumerator_comma x0 x1) (Parts.token {t = t} h Parts.done) stop =
    select_true (sees (of_mark mk.comma ∷ []) s (t ∷ rest)) _ 2 ((so.mark mk.comma).has s t h)
    ∙ select_false (sees names (read s) rest) 1 0 (not_within names (conts Sym.MoreEnumerators) (read s) rest refl stop)
chosen_MoreEnumerators inner {s = s} (Rule.more_enumerators x0 x1 x2 x3) (Parts.token {t = t} {ts = us} h p) stop =
    select_true (sees (of_mark mk.comma ∷ []) s (t ∷ us)) _ 2 ((so.mark mk.comma).has s t h)
    ∙ select_true (sees names (read s) us) 1 0 (begins_with Sym.Enumerator refl p)
chosen_MoreEnumerators inner {s = s} {ts} (Rule.last_enumerator x0) Parts.done stop =
    select_false (sees (of_mark mk.comma ∷ []) s ts) _ 2 (not_within (of_mark mk.comma ∷ []) (conts Sym.MoreEnumerators) s ts refl stop)

pub chosen_MoreEntries : (inner : Reader) {k : ℕ} {a : In Sym.MoreEntries} {b : Out Sym.MoreEntries} {items : List Item} {s : State}
    {ts : List Lexeme} {end : State} {rest : List Lexeme}
    (r : Rule Sym.MoreEntries a b items) → Parts k items s ts end rest → sees (conts Sym.MoreEntries) end rest ≡ false
    → special inner Sym.MoreEntries s ts ≡ (entry_of Sym.MoreEntries r).place
chosen_MoreEntries inner {s = s} {rest = rest} (Rule.last_entry_comma x0 x1) (Parts.token {t = t} h Parts.done) stop =
    select_true (sees (of_mark mk.comma ∷ []) s (t ∷ rest)) _ 2 ((so.mark mk.comma).has s t h)
    ∙ select_false (sees entry (read s) rest) 1 0 (not_within entry (conts Sym.MoreEntries) (read s) rest refl stop)
chosen_MoreEntries inner {s = s} (Rule.more_entries x0 x1 x2 x3) (Parts.token {t = t} {ts = us} h p) stop =
    select_true (sees (of_mark mk.comma ∷ []) s (t ∷ us)) _ 2 ((so.mark mk.comma).has s t h)
    ∙ select_true (sees entry (read s) us) 1 0 (begins_with Sym.Entry refl p)
chosen_MoreEntries inner {s = s} {ts} (Rule.last_entry x0) Parts.done stop =
    select_false (sees (of_mark mk.comma ∷ []) s ts) _ 2 (not_within (of_mark mk.comma ∷ []) (conts Sym.MoreEntries) s ts refl stop)

pub chosen_MoreParameters : (inner : Reader) {k : ℕ} {a : In Sym.MoreParameters} {b : Out Sym.MoreParameters} {items : List Item}
    {s : State} {ts : List Lexeme} {end : State} {rest : List Lexeme}
    (r : Rule Sym.MoreParameters a b items) → Parts k items s ts end rest → sees (conts Sym.MoreParameters) end rest ≡ false
    → special inner Sym.MoreParameters s ts ≡ (entry_of Sym.MoreParameters r).place
chosen_MoreParameters inner {s = s} {rest = rest} (Rule.variable_arguments x0 x1 x2)
    (Parts.token {t = t} h (Parts.token {t = u} g Parts.done)) stop =
    select_true (sees (of_mark mk.comma ∷ []) s (t ∷ u ∷ rest)) _ 2 ((so.mark mk.comma).has s t h)
    ∙ select_true (sees (of_mark mk.ellipsis ∷ []) (read s) (u ∷ rest)) 0 1 ((so.mark mk.ellipsis).has (read s) u g)
chosen_MoreParameters inner {s = s} (Rule.more_parameters x0 x1 x2 x3) (Parts.token {t = t} {ts = us} h p) stop =
    select_true (sees (of_mark mk.comma ∷ []) s (t ∷ us)) _ 2 ((so.mark mk.comma).has s t h)
    ∙ select_false (sees (of_mark mk.ellipsis ∷ []) (read s) us) 0 1
    (not_apart (of_mark mk.ellipsis ∷ []) declaration (read s) us refl (begins_with Sym.Parameter refl p))
chosen_MoreParameters inner {s = s} {ts} (Rule.last_parameter x0) Parts.done stop =
    select_false (sees (of_mark mk.comma ∷ []) s ts) _ 2 (not_within (of_mark mk.comma ∷ []) (conts Sym.MoreParameters) s ts refl stop)
