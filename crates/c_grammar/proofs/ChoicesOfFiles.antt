-- The choice between a declaration and the definition of a function, which begin alike.
use Rattle.std.proofs.Common.{◌≡◌, ℕ, suc, true, false, List, [], ◌∷◌, Option, Some, refl, ap, ◌∙◌}
use Rattle.c_tree.specs.declared.lexeme.Lexeme.{Lexeme}
use Rattle.c_grammar.specs.Marks as mk
use Rattle.c_grammar.specs.Items.{Mode.concrete, Sym, In, Out, Item, nt, act}
use Rattle.c_grammar.specs.Productions.{Rule}
use Rattle.c_grammar.specs.State.{State, begin}
use Rattle.c_grammar.proofs.Categories.{Category.of_mark, marks, sees}
use Rattle.c_grammar.proofs.Changes as ch
use Rattle.c_grammar.proofs.Choices.{select, select_true, select_false, comes_to, declaration_head, special}
use Rattle.c_grammar.proofs.Described.{Described}
use Rattle.c_grammar.proofs.Entries.{entry_of}
use Rattle.c_grammar.proofs.Firsts.{conts, declarator}
use Rattle.c_grammar.proofs.Parts.{Parts, deeper, joined}
use Rattle.c_grammar.proofs.Programs.{Fits, Made, made, run}
use Rattle.c_grammar.proofs.Readers.{Complete, reader, runs}
use Rattle.c_grammar.proofs.Sorts as so
use Rattle.c_grammar.proofs.Starts.{begins_with, not_apart, starts, taken}

head_read : {k : ℕ} → Complete k → {head : Out Sym.Specifiers} (s : State) (ts : List Lexeme) {mid : State} {middle : List Lexeme}
    → Parts k (act begin ∷ nt Sym.Specifiers tt head ∷ []) s ts mid middle → sees (conts Sym.Specifiers) mid middle ≡ false
    → run (reader k) declaration_head s ts ≡ Some (made head mid middle)
head_read all s ts p stop = runs Sym.Specifiers all {p = declaration_head} (Fits.turn (Fits.call Fits.give))
    (Described.change ch.begin (Described.symbol Described.none)) refl p stop

abbrev behind_head : ℕ → State → List Lexeme → ℕ
behind_head k mid middle = select (sees (of_mark mk.semicolon ∷ []) mid middle) 0
    (comes_to (reader k (Sym.DeclaratorOf concrete) tt mid middle) (λ r rest. select (sees (of_mark mk.left_brace ∷ []) r rest) 1 0))

with_head : (k : ℕ) (i : ℕ) {head : Out Sym.Specifiers} (s : State) (ts : List Lexeme) {mid : State} {middle : List Lexeme}
    → run (reader k) declaration_head s ts ≡ Some (made head mid middle) → behind_head k mid middle ≡ i
    → special (reader k) Sym.ExternalDeclaration s ts ≡ i
with_head k i s ts e f = ap (λ (x : Option (Made (Out Sym.Specifiers))). comes_to x (behind_head k)) e ∙ f

with_declarator : (k : ℕ) (i : ℕ) (mid : State) (middle : List Lexeme) {p : Out (Sym.DeclaratorOf concrete)} {next : State}
    {left : List Lexeme}
    → sees (declarator concrete) mid middle ≡ true → reader k (Sym.DeclaratorOf concrete) tt mid middle ≡ Some (made p next left)
    → select (sees (of_mark mk.left_brace ∷ []) next left) 1 0 ≡ i → behind_head k mid middle ≡ i
with_declarator k i mid middle d e f =
    select_false (sees (of_mark mk.semicolon ∷ []) mid middle) 0 _
    (not_apart (of_mark mk.semicolon ∷ []) (declarator concrete) mid middle refl d)
    ∙ ap (λ (x : Option (Made (Out (Sym.DeclaratorOf concrete)))). comes_to x
    (λ r rest. select (sees (of_mark mk.left_brace ∷ []) r rest) 1 0)) e
    ∙ f

pub chosen_ExternalDeclaration : {k : ℕ} → Complete k
    → {a : In Sym.ExternalDeclaration} {b : Out Sym.ExternalDeclaration} {items : List Item} {s : State} {ts : List Lexeme} {end : State}
    {rest : List Lexeme}
    (r : Rule Sym.ExternalDeclaration a b items) → Parts k items s ts end rest → sees (conts Sym.ExternalDeclaration) end rest ≡ false
    → special (reader k) Sym.ExternalDeclaration s ts ≡ (entry_of Sym.ExternalDeclaration r).place
chosen_ExternalDeclaration all {s = s} {ts} (Rule.function x0 x1 x2 x3)
    (Parts.acted (Parts.by {k = k} {mid = mid} {middle = middle} rs ps (Parts.by {mid = next} {middle = left} rd pd z))) stop =
    let d = begins_with (Sym.DeclaratorOf concrete) refl (Parts.by rd pd z) in
    let brace = taken refl (starts (Described.change ch.declare
    (Described.change ch.open_body (Described.next (Described.change ch.enter (Described.symbol
    (Described.change ch.leave (Described.change ch.close_scope (Described.change ch.finish Described.none)))))))) z) in
    with_head (suc k) 1 s ts (head_read all s ts (Parts.acted {s = s} (Parts.by rs ps Parts.done))
    (not_apart (conts Sym.Specifiers) (declarator concrete) mid middle refl d))
    (with_declarator (suc k) 1 mid middle d
    (all.at (Sym.DeclaratorOf concrete) tt x1 mid middle next left (Parts.by rd pd Parts.done)
    (not_apart (conts (Sym.DeclaratorOf concrete)) (of_mark mk.left_brace ∷ []) next left refl brace))
    (select_true (sees (of_mark mk.left_brace ∷ []) next left) 1 0 brace))
chosen_ExternalDeclaration all {s = s} {ts} (Rule.external_declaration x0)
    (Parts.by {k = k} (Rule.declaration y0 y1 y2)
    (Parts.acted (Parts.by {mid = mid} {middle = middle} rs ps
    (Parts.by Rule.no_declarators Parts.done (Parts.token {t = t} {ts = us} h z)))) w) stop =
    let semicolon = (so.mark mk.semicolon).has mid t h in
    with_head (suc k) 0 s ts (head_read all s ts (deeper (Parts.acted {s = s} (Parts.by rs ps Parts.done)))
    (not_apart (conts Sym.Specifiers) (of_mark mk.semicolon ∷ []) mid (t ∷ us) refl semicolon))
    (select_true (sees (of_mark mk.semicolon ∷ []) mid (t ∷ us)) 0 _ semicolon)
chosen_ExternalDeclaration all {s = s} {ts} (Rule.external_declaration x0)
    (Parts.by {k = k} (Rule.declaration y0 y1 y2)
    (Parts.acted (Parts.by {mid = mid} {middle = middle} rs ps (Parts.by (Rule.init_declarators z0 z1)
    (Parts.by (Rule.init_declarator v0 v1) (Parts.by {mid = next} {middle = left} rd pd p) q) z))) w) stop =
    let d = begins_with (Sym.DeclaratorOf concrete) refl (Parts.by rd pd p) in
    let behind = taken refl (starts
    (Described.change ch.declare (Described.symbol
    (Described.symbol (Described.token (so.mark mk.semicolon) (Described.change ch.finish Described.none)))))
    (joined (deeper (joined (deeper p) q)) z)) in
    with_head (suc k) 0 s ts (head_read all s ts (deeper (Parts.acted {s = s} (Parts.by rs ps Parts.done)))
    (not_apart (conts Sym.Specifiers) (declarator concrete) mid middle refl d))
    (with_declarator (suc k) 0 mid middle d
    (all.at (Sym.DeclaratorOf concrete) tt v0 mid middle next left (deeper (deeper (deeper (Parts.by rd pd Parts.done))))
    (not_apart (conts (Sym.DeclaratorOf concrete)) (marks (mk.equal ∷ mk.comma ∷ mk.semicolon ∷ [])) next left refl behind))
    (select_false (sees (of_mark mk.left_brace ∷ []) next left) 1 0
    (not_apart (of_mark mk.left_brace ∷ []) (marks (mk.equal ∷ mk.comma ∷ mk.semicolon ∷ [])) next left refl behind)))
