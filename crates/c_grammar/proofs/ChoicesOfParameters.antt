-- The choice between `void` alone and a list of parameters.
use Rattle.std.proofs.Common.{◌≡◌, ◌≢◌, ℕ, Bool, true, false, not, ◌&&◌, ◌||◌, ◌==◌, List, [], ◌∷◌, Option, None, refl, sym, ap, ◌∙◌, subst}
use Rattle.std.proofs.lemmas.Bool.{eqb-true}
use Rattle.c_tree.specs.declared.declarator.Dots.{Dots}
use Rattle.c_tree.specs.declared.declarator.Param.{Param}
use Rattle.c_tree.specs.declared.lexeme.Lexeme.{Lexeme}
use Rattle.c_tree.specs.declared.lexeme.LexemeKind.{LexemeKind}
use Rattle.c_tree.specs.declared.lexeme.LexemeKind.TheVariants as k
use Rattle.c_tree.specs.declared.specifier.SpecKind.{SpecKind}
use Rattle.c_tree.specs.declared.specifier.SpecKind.TheVariants as sk
use Rattle.c_tree.specs.declared.specifier.SpecWord.{SpecWord}
use Rattle.c_grammar.specs.Marks as mk
use Rattle.c_grammar.specs.Words as wd
use Rattle.c_grammar.specs.Items.{Mode.parameter, Sym, In, Out, Item, nt, act}
use Rattle.c_grammar.specs.Productions.{Rule}
use Rattle.c_grammar.specs.State.{State, frame, names_type, read, begin, declare, finish}
use Rattle.c_grammar.specs.Tokens.{word_in}
use Rattle.c_grammar.specs.Trees as tr
use Rattle.c_grammar.specs.Trees.{Declared}
use Rattle.c_grammar.proofs.Categories.{Category.of_mark, Category.of_word, Set, among, category, word_category, name_category, sees, within, apart, sees_apart, sees_within}
use Rattle.c_grammar.proofs.Changes as ch
use Rattle.c_grammar.proofs.Choices.{select_true, select_false, later, special}
use Rattle.c_grammar.proofs.Entries.{entry_of}
use Rattle.c_grammar.proofs.Entry.{Entry}
use Rattle.c_grammar.proofs.Firsts.{conts, declaration, declarator, specifier, empty}
use Rattle.c_grammar.proofs.Firsts as fi
use Rattle.c_grammar.proofs.Parts.{Parts}
use Rattle.c_grammar.proofs.Programs.{Reader}
use Rattle.c_grammar.proofs.Rows.{row}
use Rattle.c_grammar.proofs.Sorts as so
use Rattle.c_grammar.proofs.Starts.{begun, begins_with, not_both, not_within}

abbrev Over : State → List Lexeme → Type 0
Over s ts = sees (conts Sym.Parameters) s ts ≡ false

-- nothing goes on, in a state and in one with other names
over_in : (A : Set) (s r : State) (ts : List Lexeme) → within (ch.after ch.Change.naming A) (conts Sym.Parameters) ≡ true
    → s.dangling ≡ r.dangling → sees A s ts ≡ true → Over r ts → ⊥
over_in A s r ts w d h stop = not_both (sees (conts Sym.Parameters) r ts)
    (sees_within (ch.after ch.Change.naming A) (conts Sym.Parameters) r ts w (ch.sees_named A s r ts d h)) stop

-- ---- `void` is the only specifier
abbrev VoidFirst : State → Lexeme → List Lexeme → Type 0
VoidFirst s t us = sees (of_word wd.void_word ∷ []) s (t ∷ us) ≡ true

void_word : (s : State) (kind : LexemeKind) → among (of_word wd.void_word ∷ []) (category s kind) ≡ true → word_in kind ≡ wd.void_word
void_word s (k.Word v) e = word (v == wd.else_word) s.dangling e
  where
    alone : (b : Bool) → b || false ≡ true → b ≡ true
    alone true e = refl
    alone false e = cc

    word : (b x : Bool) → among (of_word wd.void_word ∷ []) (word_category b x v) ≡ true → v ≡ wd.void_word
    word true true e = cc
    word true false e = cc
    word false x e = sym (eqb-true wd.void_word v (alone (wd.void_word == v) e))
void_word s (k.Mark m) e = cc
void_word s (k.Name x) e = absurd (name (names_type s.scopes x) (frame s).has_type e)
  where
    name : (b x : Bool) → among (of_word wd.void_word ∷ []) (name_category b x) ≡ true → ⊥
    name false x e = cc
    name true true e = cc
    name true false e = cc
void_word s (k.Number m of) e = cc
void_word s (k.Character m) e = cc
void_word s (k.Text bytes) e = cc
void_word s k.Extension e = cc
void_word s k.End e = cc

-- what was made of it, and that nothing else was taken
pub record Void {A : Type 0} (made wanted : A) (end : State) (rest us : List Lexeme) : Type 0 where
  is : made ≡ wanted
  same : rest ≡ us
  calm : end.dangling ≡ false

not_void : {k : ℕ} {a : In Sym.SpecifierForm} {b : Out Sym.SpecifierForm} {items : List Item} {s : State} {ts : List Lexeme} {end : State}
    {rest : List Lexeme} {P : Type 0}
    (e : Entry Sym.SpecifierForm a b items) → empty (row Sym.SpecifierForm e.place) ≡ false
    → apart (fi.begin (row Sym.SpecifierForm e.place)) (of_word wd.void_word ∷ []) ≡ true
    → Parts k items s ts end rest → sees (of_word wd.void_word ∷ []) s ts ≡ true → P
not_void {s = s} {ts} e solid other p h =
    absurd (sees_apart (fi.begin (row Sym.SpecifierForm e.place)) (of_word wd.void_word ∷ []) s ts other
    (begun Sym.SpecifierForm e solid p) h)

form_void : {k : ℕ} {a : In Sym.SpecifierForm} {kind : Out Sym.SpecifierForm} {items : List Item} {s : State} {t : Lexeme}
    {us : List Lexeme} {end : State} {rest : List Lexeme}
    → Rule Sym.SpecifierForm a kind items → Parts k items s (t ∷ us) end rest → VoidFirst s t us
    → Void kind (sk.Plain wd.void_word) end rest us
form_void {s = s} {t} (Rule.type_word x0) (Parts.token h Parts.done) e =
    record { is = ap sk.Plain (void_word s t.kind e); same = refl; calm = refl }
form_void (Rule.typedef x0) p e = not_void (entry_of Sym.SpecifierForm (Rule.typedef x0)) refl refl p e
form_void (Rule.plain_specifier x0) p e = not_void (entry_of Sym.SpecifierForm (Rule.plain_specifier x0)) refl refl p e
form_void (Rule.typedef_name x0) p e = not_void (entry_of Sym.SpecifierForm (Rule.typedef_name x0)) refl refl p e
form_void (Rule.record_content x0 x1 x2 x3 x4) p e =
    not_void (entry_of Sym.SpecifierForm (Rule.record_content x0 x1 x2 x3 x4)) refl refl p e
form_void (Rule.record_tag x0 x1) p e = not_void (entry_of Sym.SpecifierForm (Rule.record_tag x0 x1)) refl refl p e
form_void (Rule.enumeration_content x0 x1 x2 x3 x4) p e =
    not_void (entry_of Sym.SpecifierForm (Rule.enumeration_content x0 x1 x2 x3 x4)) refl refl p e
form_void (Rule.enumeration_tag x0 x1) p e = not_void (entry_of Sym.SpecifierForm (Rule.enumeration_tag x0 x1)) refl refl p e

abbrev void_of : Lexeme → SpecWord
void_of t = tr.spec_word t (sk.Plain wd.void_word)

specifier_void : {k : ℕ} {a : In Sym.Specifier} {b : Out Sym.Specifier} {items : List Item} {s : State} {t : Lexeme} {us : List Lexeme}
    {end : State} {rest : List Lexeme}
    → Rule Sym.Specifier a b items → Parts k items s (t ∷ us) end rest → VoidFirst s t us → Void b (void_of t) end rest us
specifier_void {t = t} (Rule.specifier x0 x1) (Parts.seen (Parts.by r p Parts.done)) e =
    let v = form_void r p e in record { is = ap (λ (kind : SpecKind). tr.spec_word t kind) v.is; same = v.same; calm = v.calm }

-- ---- and nothing else is read
more_void : {k : ℕ} {a : In Sym.MoreSpecifiers} {b : Out Sym.MoreSpecifiers} {items : List Item} {s : State} {ts : List Lexeme}
    {end : State} {rest : List Lexeme}
    → Rule Sym.MoreSpecifiers a b items → Parts k items s ts end rest → (r : State) (us : List Lexeme) → r.dangling ≡ false → Over r us
    → ts ≡ us → s.dangling ≡ false → Void b a end rest us
more_void (Rule.last_specifier x0) Parts.done r us rc over same sc = record { is = refl; same = same; calm = sc }
more_void {s = s} {ts} (Rule.more_specifiers x0 x1 x2) p r us rc over same sc =
    absurd (over_in specifier s r ts refl (sc ∙ sym rc) (begins_with Sym.Specifier refl p)
    (subst (λ (x : List Lexeme). Over r x) (sym same) over))

specifiers_void : {k : ℕ} {a : In Sym.Specifiers} {b : Out Sym.Specifiers} {items : List Item} {s : State} {t : Lexeme} {us : List Lexeme}
    {end : State} {rest : List Lexeme}
    → Rule Sym.Specifiers a b items → Parts k items s (t ∷ us) end rest → (r : State) → r.dangling ≡ false → Over r us → VoidFirst s t us
    → Void b (void_of t ∷ []) end rest us
specifiers_void {us = us} (Rule.specifiers x0 x1) (Parts.by q p (Parts.by g m Parts.done)) r rc over e =
    let v = specifier_void q p e in
    let w = more_void g m r us rc over v.same v.calm in
    record { is = w.is ∙ ap (λ (x : SpecWord). x ∷ []) v.is; same = w.same; calm = w.calm }

maybe_void : {k : ℕ} {a : In (Sym.MaybeDeclarator parameter)} {b : Out (Sym.MaybeDeclarator parameter)} {items : List Item} {s : State}
    {ts : List Lexeme} {end : State} {rest : List Lexeme}
    → Rule (Sym.MaybeDeclarator parameter) a b items → Parts k items s ts end rest → (r : State) (us : List Lexeme) → r.dangling ≡ false
    → Over r us → ts ≡ us → s.dangling ≡ false → Void b None end rest us
maybe_void (Rule.no_declarator x0) Parts.done r us rc over same sc = record { is = refl; same = same; calm = sc }
maybe_void {s = s} {ts} (Rule.some_declarator x0 x1) p r us rc over same sc =
    absurd (over_in (declarator parameter) s r ts refl (sc ∙ sym rc) (begins_with (Sym.DeclaratorOf parameter) refl p)
    (subst (λ (x : List Lexeme). Over r x) (sym same) over))

end_void : {A : Type 0} {made wanted : A} {k : ℕ} {s : State} {ts : List Lexeme} {end : State} {rest us : List Lexeme}
    → Parts k (act declare ∷ act finish ∷ []) s ts end rest → Void made wanted s ts us → Void made wanted end rest us
end_void {s = s} (Parts.acted (Parts.acted Parts.done)) v =
    record { is = v.is; same = v.same; calm = ch.declared_dangling (frame s).held (frame s).is_typedef s ∙ v.calm }

parameter_void : {k : ℕ} {a : In Sym.Parameter} {b : Out Sym.Parameter} {items : List Item} {s : State} {t : Lexeme} {us : List Lexeme}
    {end : State} {rest : List Lexeme}
    → Rule Sym.Parameter a b items → Parts k items s (t ∷ us) end rest → (r : State) → r.dangling ≡ false → Over r us
    → VoidFirst (begin s) t us
    → Void b (tr.parameter (void_of t ∷ []) None) end rest us
parameter_void {t = t} {us} (Rule.parameter x0 x1) (Parts.acted (Parts.by q p (Parts.by g m z))) r rc over e =
    let v = specifiers_void q p r rc over e in
    let w = maybe_void g m r us rc over v.same v.calm in
    end_void z (record {
      is = ap (λ (h : List SpecWord). tr.parameter h x1) v.is
          ∙ ap (λ (d : Option Declared). tr.parameter (void_of t ∷ []) d) w.is;
      same = w.same;
      calm = w.calm;
    })

others_void : {k : ℕ} {a : In Sym.MoreParameters} {b : Out Sym.MoreParameters} {items : List Item} {s : State} {ts : List Lexeme}
    {end : State} {rest : List Lexeme}
    → Rule Sym.MoreParameters a b items → Parts k items s ts end rest → (r : State) (us : List Lexeme) → r.dangling ≡ false → Over r us
    → ts ≡ us → s.dangling ≡ false → b ≡ (a, None)
others_void (Rule.last_parameter x0) p r us rc over same sc = refl
others_void {s = s} (Rule.variable_arguments x0 x1 x2) (Parts.token {t = t} {ts = vs} h p) r us rc over same sc =
    absurd (over_in (of_mark mk.comma ∷ []) s r (t ∷ vs) refl (sc ∙ sym rc) ((so.mark mk.comma).has s t h)
    (subst (λ (x : List Lexeme). Over r x) (sym same) over))
others_void {s = s} (Rule.more_parameters x0 x1 x2 x3) (Parts.token {t = t} {ts = vs} h p) r us rc over same sc =
    absurd (over_in (of_mark mk.comma ∷ []) s r (t ∷ vs) refl (sc ∙ sym rc) ((so.mark mk.comma).has s t h)
    (subst (λ (x : List Lexeme). Over r x) (sym same) over))

-- ---- the choice
void_choice : {k : ℕ} {p : Param} {inside : List Param × Option Dots} {s : State} (ts : List Lexeme) {end : State} {rest : List Lexeme}
    → ((u : Lexeme) → inside ≢ tr.lone_void u) → Parts k (nt Sym.Parameter tt p ∷ nt Sym.MoreParameters (p ∷ []) inside ∷ []) s ts end rest
    → sees (of_word wd.void_word ∷ []) s ts ≡ true → Over (read s) (later ts) → ⊥
void_choice [] other p e over = cc
void_choice {s = s} (t ∷ us) other (Parts.by q p (Parts.by g m z)) e over =
    let v = parameter_void q p (read s) refl over (ch.begin.forward (of_word wd.void_word ∷ []) s (t ∷ us) e) in
    other t (others_void g m (read s) us refl over v.same v.calm ∙ ap (λ (x : Param). (x ∷ [], None)) v.is)

and_not : (a b : Bool) → (a ≡ true → b ≡ false → ⊥) → a && not b ≡ false
and_not true true f = refl
and_not true false f = absurd (f refl refl)
and_not false b f = refl

and_not_true : (a b : Bool) → a ≡ true → b ≡ false → a && not b ≡ true
and_not_true true true e f = cc
and_not_true true false e f = refl
and_not_true false b e f = cc

pub chosen_Parameters : (inner : Reader) {k : ℕ} {a : In Sym.Parameters} {b : Out Sym.Parameters} {items : List Item} {s : State}
    {ts : List Lexeme} {end : State} {rest : List Lexeme}
    (r : Rule Sym.Parameters a b items) → Parts k items s ts end rest → sees (conts Sym.Parameters) end rest ≡ false
    → special inner Sym.Parameters s ts ≡ (entry_of Sym.Parameters r).place
chosen_Parameters inner {s = s} {rest = rest} (Rule.void_alone x0) (Parts.token {t = t} h Parts.done) stop =
    let first = (so.word wd.void_word refl).has s t h in
    select_true (sees declaration s (t ∷ rest)) _ 2 (sees_within (of_word wd.void_word ∷ []) declaration s (t ∷ rest) refl first)
    ∙ select_true (sees (of_word wd.void_word ∷ []) s (t ∷ rest) && not (sees (conts Sym.Parameters) (read s) rest)) 0 1
    (and_not_true (sees (of_word wd.void_word ∷ []) s (t ∷ rest)) (sees (conts Sym.Parameters) (read s) rest) first stop)
chosen_Parameters inner {s = s} {ts} (Rule.parameter_list x0 x1 x2) p stop =
    select_true (sees declaration s ts) _ 2 (begins_with Sym.Parameter refl p)
    ∙ select_false (sees (of_word wd.void_word ∷ []) s ts && not (sees (conts Sym.Parameters) (read s) (later ts))) 0 1
    (and_not (sees (of_word wd.void_word ∷ []) s ts) (sees (conts Sym.Parameters) (read s) (later ts))
    (λ e over. void_choice ts x2 p e over))
chosen_Parameters inner {s = s} {ts} Rule.no_parameters Parts.done stop =
    select_false (sees declaration s ts) _ 2 (not_within declaration (conts Sym.Parameters) s ts refl stop)
