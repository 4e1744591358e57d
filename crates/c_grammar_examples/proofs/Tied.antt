-- The flag of the nesting says whether its deepest node passes 256, in each state that a file is read to.
use Rattle.std.proofs.Common.{◌≡◌, ℕ, ◌+◌, ◌≤◌, ◌<◌, Bool, true, false, ◌||◌, if◌then◌else◌, nat_lt, max, zero, suc, List, [], ◌∷◌, ◌++◌, Option, Some, None, refl, sym, ap, ◌∙◌, subst, arith}
use Rattle.std.proofs.Math.Nat.{le-max_left, le-max_right, max-le}
use Rattle.std.proofs.lemmas.Bool.{ltb-true, ltb-false, lt-ltb, le-ltb}
use Rattle.c_tree.specs.declared.lexeme.Lexeme.{Lexeme}
use Rattle.c_grammar.specs.Derives.{Reaches}
use Rattle.c_grammar.specs.Files.{ReachesInFile}
use Rattle.c_grammar.specs.Items.{Mode, Sym, Shape, some, next, change, sym as symbol}
use Rattle.c_grammar.specs.Limits.{nesting_passed}
use Rattle.c_grammar.specs.Modes.{may_have_name, name_of_mode, may_lack_name}
use Rattle.c_grammar.specs.State.{State, Nesting, frame, declare, declared, begin_operand, end_operand, enter, leave, read, deepen, reach, top, below}
use Rattle.c_grammar.specs.Terminals.{Terminal}
use Rattle.c_grammar_examples.proofs.Search.{Among, Among.here, Among.there, alternatives, covers}
use Rattle.c_grammar_examples.specs.Depths.{greatest, nests_past}

-- ---- the deepest node
past_max : (l x y : ℕ) → nat_lt l (max x y) ≡ nat_lt l x || nat_lt l y
past_max l x y = cases (nat_lt l x) (nat_lt l y) refl refl
  where
    cases : (a b : Bool) → nat_lt l x ≡ a → nat_lt l y ≡ b → nat_lt l (max x y) ≡ a || b
    cases true b e f =
        let past : l < x = ltb-true l x e in
        let within : x ≤ max x y = le-max_left x y in
        let both : l < max x y = omega arith in
        lt-ltb l (max x y) both
    cases false true e f =
        let past : l < y = ltb-true l y f in
        let within : y ≤ max x y = le-max_right x y in
        let both : l < max x y = omega arith in
        lt-ltb l (max x y) both
    cases false false e f = le-ltb l (max x y) (max-le (ltb-false l x e) (ltb-false l y f))

head_tail : (d : List ℕ) → greatest d ≡ max (top d) (greatest (below d))
head_tail [] = refl
head_tail (n ∷ ns) = refl

past_all : (d : List ℕ) → nat_lt 256 (greatest d) ≡ nat_lt 256 (top d) || nat_lt 256 (greatest (below d))
past_all d = ap (λ (n : ℕ). nat_lt 256 n) (head_tail d) ∙ past_max 256 (top d) (greatest (below d))

past_three : (a b c : ℕ) → nat_lt 256 (max (max a b) c) ≡ (nat_lt 256 a || nat_lt 256 b) || nat_lt 256 c
past_three a b c = past_max 256 (max a b) c ∙ ap (λ (x : Bool). x || nat_lt 256 c) (past_max 256 a b)

exchanged : (a b c : Bool) → (a || c) || b ≡ (a || b) || c
exchanged true b c = refl
exchanged false true true = refl
exchanged false true false = refl
exchanged false false true = refl
exchanged false false false = refl

regrouped : (a b c : Bool) → a || (b || c) ≡ (a || b) || c
regrouped true b c = refl
regrouped false b c = refl

abbrev Tied : Nesting → Type 0
Tied n = n.passed ≡ nat_lt 256 (greatest n.deepest)

tied_reach : (n : ℕ) (x : Nesting) → Tied x → Tied (reach n x)
tied_reach n x h =
    ap (λ (b : Bool). b || nat_lt 256 n) (h ∙ past_all x.deepest)
    ∙ exchanged (nat_lt 256 (top x.deepest)) (nat_lt 256 n) (nat_lt 256 (greatest (below x.deepest)))
    ∙ sym (past_three (top x.deepest) n (greatest (below x.deepest)))

tied_read : (s : State) → Tied s.nesting → Tied (read s).nesting
tied_read s h = tied_reach s.nesting.depth s.nesting h

tied_deepen : (s : State) → Tied s.nesting → Tied (deepen s).nesting
tied_deepen s h = tied_reach (top s.nesting.deepest + 1) s.nesting h

tied_begin : (s : State) → Tied s.nesting → Tied (begin_operand s).nesting
tied_begin s h = h ∙ sym (past_max 256 0 (greatest s.nesting.deepest))

tied_end : (s : State) → Tied s.nesting → Tied (end_operand s).nesting
tied_end s h = h ∙ past_all s.nesting.deepest
    ∙ ap (λ (b : Bool). nat_lt 256 (top s.nesting.deepest) || b) (past_all (below s.nesting.deepest))
    ∙ regrouped (nat_lt 256 (top s.nesting.deepest)) (nat_lt 256 (top (below s.nesting.deepest))) (nat_lt 256 (greatest (below (below s.nesting.deepest))))
    ∙ sym (past_three (top s.nesting.deepest) (top (below s.nesting.deepest)) (greatest (below (below s.nesting.deepest))))

-- ---- shapes that keep the tie
data Tame : Shape → Type 0 where
  ahead : Tame next
  inside : {n : Sym} → Tame (symbol n)
  changes : {f : State → State} → ((s : State) → Tied s.nesting → Tied (f s).nesting) → Tame (change f)
  takes : {w : Terminal} → ((s : State) (t : Lexeme) → Tied s.nesting → Tied (w.after s t).nesting) → Tame (some w)

data All : List Shape → Type 0 where
  nil : All []
  cons : {x : Shape} {xs : List Shape} → Tame x → All xs → All (x ∷ xs)

data Each : List (List Shape) → Type 0 where
  none : Each []
  also : {xs : List Shape} {others : List (List Shape)} → All xs → Each others → Each (xs ∷ others)

same : {f : State → State} → ((s : State) → (f s).nesting ≡ s.nesting) → Tame (change f)
same e = Tame.changes (λ s h. subst Tied (sym (e s)) h)

reads : {w : Terminal} → ((s : State) (t : Lexeme) → (w.after s t).nesting ≡ (read s).nesting) → Tame (some w)
reads e = Tame.takes (λ s t h. subst Tied (sym (e s t)) (tied_read s h))

deeper : {w : Terminal} → ((s : State) (t : Lexeme) → (w.after s t).nesting ≡ (deepen (read s)).nesting) → Tame (some w)
deeper e = Tame.takes (λ s t h. subst Tied (sym (e s t)) (tied_deepen (read s) (tied_read s h)))

kept_begin_operand : Tame (change begin_operand)
kept_begin_operand = Tame.changes tied_begin

kept_end_operand : Tame (change end_operand)
kept_end_operand = Tame.changes tied_end

kept_enter : Tame (change enter)
kept_enter = Tame.changes (λ s h. tied_begin s h)

kept_leave : Tame (change leave)
kept_leave = Tame.changes (λ s h. tied_end s h)

declared_nesting : (o : Option ℕ) (b : Bool) (s : State) → (declared o b s).nesting ≡ s.nesting
declared_nesting None b s = refl
declared_nesting (Some x) b s = refl

kept_declare : Tame (change declare)
kept_declare = same (λ s. declared_nesting (frame s).held (frame s).is_typedef s)

named : (k : Mode) → Tame (some (name_of_mode k))
named Mode.concrete = reads (λ s t. refl)
named Mode.parameter = reads (λ s t. refl)
named Mode.grouped = reads (λ s t. refl)
named Mode.abstract = reads (λ s t. refl)

both_lists : {xs ys : List (List Shape)} → Each xs → Each ys → Each (xs ++ ys)
both_lists Each.none q = q
both_lists (Each.also a p) q = Each.also a (both_lists p q)

only_if : {xs : List Shape} (b : Bool) → All xs → Each (if b then xs ∷ [] else [])
only_if true a = Each.also a Each.none
only_if false a = Each.none

-- by a script
tame_of : (n : Sym) → Each (alternatives n)
tame_of Sym.Primary = Each.also (All.cons kept_enter (All.cons (reads (λ s t. refl)) (All.cons kept_leave All.nil))) (Each.also (All.cons kept_enter (All.cons (reads (λ s t. refl)) (All.cons kept_leave All.nil))) (Each.also (All.cons kept_enter (All.cons (reads (λ s t. refl)) (All.cons kept_leave All.nil))) (Each.also (All.cons kept_enter (All.cons (reads (λ s t. refl)) (All.cons Tame.inside (All.cons kept_leave All.nil)))) (Each.also (All.cons kept_enter (All.cons (reads (λ s t. refl)) (All.cons Tame.inside (All.cons (reads (λ s t. refl)) (All.cons kept_leave All.nil))))) Each.none))))
tame_of Sym.MoreTexts = Each.also All.nil (Each.also (All.cons (reads (λ s t. refl)) (All.cons Tame.inside All.nil)) Each.none)
tame_of Sym.Postfix = Each.also (All.cons Tame.inside (All.cons Tame.inside All.nil)) Each.none
tame_of Sym.AfterPostfix = Each.also All.nil (Each.also (All.cons (deeper (λ s t. refl)) (All.cons kept_enter (All.cons Tame.inside (All.cons (reads (λ s t. refl)) (All.cons kept_leave (All.cons Tame.inside All.nil)))))) (Each.also (All.cons (deeper (λ s t. refl)) (All.cons kept_enter (All.cons Tame.inside (All.cons (reads (λ s t. refl)) (All.cons kept_leave (All.cons Tame.inside All.nil)))))) (Each.also (All.cons (deeper (λ s t. refl)) (All.cons (reads (λ s t. refl)) (All.cons Tame.inside All.nil))) (Each.also (All.cons (deeper (λ s t. refl)) (All.cons (reads (λ s t. refl)) (All.cons Tame.inside All.nil))) (Each.also (All.cons (deeper (λ s t. refl)) (All.cons Tame.inside All.nil)) Each.none)))))
tame_of Sym.Arguments = Each.also All.nil (Each.also (All.cons kept_begin_operand (All.cons Tame.inside (All.cons kept_end_operand (All.cons Tame.inside All.nil)))) Each.none)
tame_of Sym.MoreArguments = Each.also All.nil (Each.also (All.cons (reads (λ s t. refl)) (All.cons kept_begin_operand (All.cons Tame.inside (All.cons kept_end_operand (All.cons Tame.inside All.nil))))) Each.none)
tame_of Sym.Unary = Each.also (All.cons Tame.inside All.nil) (Each.also (All.cons kept_enter (All.cons (reads (λ s t. refl)) (All.cons Tame.inside (All.cons kept_leave All.nil)))) (Each.also (All.cons kept_enter (All.cons (reads (λ s t. refl)) (All.cons Tame.inside (All.cons kept_leave (All.cons (same (λ s. refl)) All.nil))))) (Each.also (All.cons kept_enter (All.cons (reads (λ s t. refl)) (All.cons Tame.inside (All.cons kept_leave All.nil)))) (Each.also (All.cons kept_enter (All.cons (reads (λ s t. refl)) (All.cons Tame.inside (All.cons kept_leave (All.cons (same (λ s. refl)) All.nil))))) Each.none))))
tame_of Sym.TypeInParentheses = Each.also (All.cons (reads (λ s t. refl)) (All.cons Tame.inside (All.cons (reads (λ s t. refl)) All.nil))) Each.none
tame_of Sym.Cast = Each.also (All.cons Tame.inside All.nil) (Each.also (All.cons Tame.ahead (All.cons kept_enter (All.cons Tame.inside (All.cons Tame.inside (All.cons kept_leave (All.cons (same (λ s. refl)) All.nil)))))) Each.none)
tame_of (Sym.Level zero) = Each.also (All.cons Tame.inside All.nil) Each.none
tame_of (Sym.Level (suc n)) = Each.also (All.cons Tame.inside (All.cons Tame.inside All.nil)) Each.none
tame_of (Sym.MoreOperands n) = Each.also All.nil (Each.also (All.cons (deeper (λ s t. refl)) (All.cons kept_enter (All.cons Tame.inside (All.cons kept_leave (All.cons (same (λ s. refl)) (All.cons Tame.inside All.nil)))))) Each.none)
tame_of Sym.Conditional = Each.also (All.cons Tame.inside (All.cons Tame.inside All.nil)) Each.none
tame_of Sym.Chosen = Each.also All.nil (Each.also (All.cons (deeper (λ s t. refl)) (All.cons kept_enter (All.cons Tame.inside (All.cons (reads (λ s t. refl)) (All.cons kept_begin_operand (All.cons Tame.inside (All.cons kept_end_operand (All.cons kept_leave (All.cons (same (λ s. refl)) All.nil))))))))) Each.none)
tame_of Sym.Constant = Each.also (All.cons kept_begin_operand (All.cons Tame.inside (All.cons kept_end_operand All.nil))) Each.none
tame_of Sym.Assignment = Each.also (All.cons Tame.inside (All.cons Tame.inside All.nil)) Each.none
tame_of Sym.Assigned = Each.also All.nil (Each.also (All.cons (deeper (λ s t. refl)) (All.cons kept_enter (All.cons Tame.inside (All.cons kept_leave All.nil)))) Each.none)
tame_of Sym.Expression = Each.also (All.cons kept_begin_operand (All.cons Tame.inside (All.cons Tame.inside (All.cons kept_end_operand All.nil)))) Each.none
tame_of Sym.MoreExpressions = Each.also All.nil (Each.also (All.cons (deeper (λ s t. refl)) (All.cons kept_enter (All.cons Tame.inside (All.cons kept_leave (All.cons Tame.inside All.nil))))) Each.none)
tame_of Sym.AnyDeclaration = Each.also (All.cons (same (λ s. refl)) (All.cons Tame.inside (All.cons Tame.inside (All.cons (reads (λ s t. refl)) (All.cons (same (λ s. refl)) All.nil))))) Each.none
tame_of Sym.InitDeclarators = Each.also All.nil (Each.also (All.cons Tame.inside (All.cons Tame.inside All.nil)) Each.none)
tame_of Sym.MoreInitDeclarators = Each.also All.nil (Each.also (All.cons (reads (λ s t. refl)) (All.cons (same (λ s. refl)) (All.cons Tame.inside (All.cons Tame.inside All.nil)))) Each.none)
tame_of Sym.DeclaratorWithInitial = Each.also (All.cons Tame.inside (All.cons kept_declare (All.cons Tame.inside All.nil))) Each.none
tame_of Sym.Initial = Each.also All.nil (Each.also (All.cons (reads (λ s t. refl)) (All.cons Tame.inside All.nil)) Each.none)
tame_of Sym.Specifiers = Each.also (All.cons Tame.inside (All.cons Tame.inside All.nil)) Each.none
tame_of Sym.MoreSpecifiers = Each.also All.nil (Each.also (All.cons Tame.inside (All.cons Tame.inside All.nil)) Each.none)
tame_of Sym.Specifier = Each.also (All.cons Tame.ahead (All.cons Tame.inside All.nil)) Each.none
tame_of Sym.SpecifierForm = Each.also (All.cons (reads (λ s t. refl)) All.nil) (Each.also (All.cons (reads (λ s t. refl)) All.nil) (Each.also (All.cons (reads (λ s t. refl)) All.nil) (Each.also (All.cons (reads (λ s t. refl)) All.nil) (Each.also (All.cons (reads (λ s t. refl)) (All.cons Tame.inside (All.cons kept_enter (All.cons (reads (λ s t. refl)) (All.cons Tame.inside (All.cons (reads (λ s t. refl)) (All.cons kept_leave All.nil))))))) (Each.also (All.cons (reads (λ s t. refl)) (All.cons (reads (λ s t. refl)) All.nil)) (Each.also (All.cons (reads (λ s t. refl)) (All.cons Tame.inside (All.cons kept_enter (All.cons (reads (λ s t. refl)) (All.cons Tame.inside (All.cons (reads (λ s t. refl)) (All.cons kept_leave All.nil))))))) (Each.also (All.cons (reads (λ s t. refl)) (All.cons (reads (λ s t. refl)) All.nil)) Each.none)))))))
tame_of Sym.Tag = Each.also All.nil (Each.also (All.cons (reads (λ s t. refl)) All.nil) Each.none)
tame_of Sym.Members = Each.also (All.cons Tame.inside (All.cons Tame.inside All.nil)) Each.none
tame_of Sym.MoreMembers = Each.also All.nil (Each.also (All.cons Tame.inside (All.cons Tame.inside All.nil)) Each.none)
tame_of Sym.Member = Each.also (All.cons (same (λ s. refl)) (All.cons Tame.inside (All.cons Tame.inside (All.cons Tame.inside (All.cons (reads (λ s t. refl)) (All.cons (same (λ s. refl)) All.nil)))))) Each.none
tame_of Sym.MoreDeclarators = Each.also All.nil (Each.also (All.cons (reads (λ s t. refl)) (All.cons (same (λ s. refl)) (All.cons Tame.inside (All.cons Tame.inside All.nil)))) Each.none)
tame_of Sym.Enumerators = Each.also (All.cons Tame.inside (All.cons Tame.inside All.nil)) Each.none
tame_of Sym.MoreEnumerators = Each.also All.nil (Each.also (All.cons (reads (λ s t. refl)) All.nil) (Each.also (All.cons (reads (λ s t. refl)) (All.cons Tame.inside (All.cons Tame.inside All.nil))) Each.none))
tame_of Sym.Enumerator = Each.also (All.cons (same (λ s. refl)) (All.cons (reads (λ s t. refl)) (All.cons Tame.inside (All.cons kept_declare (All.cons (same (λ s. refl)) All.nil))))) Each.none
tame_of Sym.EnumeratorValue = Each.also All.nil (Each.also (All.cons (reads (λ s t. refl)) (All.cons Tame.inside All.nil)) Each.none)
tame_of (Sym.DeclaratorOf k) = both_lists (Each.also (All.cons Tame.ahead (All.cons kept_enter (All.cons Tame.inside (All.cons kept_leave All.nil)))) (Each.also (All.cons kept_enter (All.cons (reads (λ s t. refl)) (All.cons (same (λ s. refl)) (All.cons Tame.inside (All.cons Tame.inside (All.cons Tame.inside (All.cons (same (λ s. refl)) (All.cons kept_leave All.nil)))))))) Each.none)) (only_if (may_lack_name k) (All.cons kept_enter (All.cons (reads (λ s t. refl)) (All.cons (same (λ s. refl)) (All.cons Tame.inside (All.cons Tame.inside (All.cons kept_leave All.nil)))))))
tame_of Sym.Pointers = Each.also All.nil (Each.also (All.cons (reads (λ s t. refl)) (All.cons (same (λ s. refl)) (All.cons Tame.inside (All.cons Tame.inside All.nil)))) Each.none)
tame_of Sym.Qualifiers = Each.also All.nil (Each.also (All.cons (reads (λ s t. refl)) (All.cons Tame.inside All.nil)) Each.none)
tame_of (Sym.DirectOf k) = both_lists (Each.also (All.cons (reads (λ s t. refl)) (All.cons (same (λ s. refl)) (All.cons Tame.inside (All.cons (reads (λ s t. refl)) (All.cons Tame.inside All.nil))))) Each.none) (both_lists (only_if (may_have_name k) (All.cons (named k) (All.cons Tame.inside All.nil))) (only_if (may_lack_name k) (All.cons Tame.inside (All.cons Tame.inside All.nil))))
tame_of Sym.Parts = Each.also All.nil (Each.also (All.cons Tame.inside (All.cons Tame.inside All.nil)) Each.none)
tame_of Sym.Part = Each.also (All.cons (reads (λ s t. refl)) (All.cons (same (λ s. refl)) (All.cons Tame.inside (All.cons (reads (λ s t. refl)) All.nil)))) (Each.also (All.cons (reads (λ s t. refl)) (All.cons (same (λ s. refl)) (All.cons Tame.inside (All.cons (reads (λ s t. refl)) (All.cons (same (λ s. refl)) All.nil))))) Each.none)
tame_of Sym.Size = Each.also All.nil (Each.also (All.cons Tame.inside All.nil) Each.none)
tame_of Sym.Parameters = Each.also All.nil (Each.also (All.cons (reads (λ s t. refl)) All.nil) (Each.also (All.cons Tame.inside (All.cons Tame.inside All.nil)) Each.none))
tame_of Sym.MoreParameters = Each.also All.nil (Each.also (All.cons (reads (λ s t. refl)) (All.cons (reads (λ s t. refl)) All.nil)) (Each.also (All.cons (reads (λ s t. refl)) (All.cons Tame.inside (All.cons Tame.inside All.nil))) Each.none))
tame_of Sym.Parameter = Each.also (All.cons (same (λ s. refl)) (All.cons Tame.inside (All.cons Tame.inside (All.cons kept_declare (All.cons (same (λ s. refl)) All.nil))))) Each.none
tame_of (Sym.MaybeDeclarator k) = Each.also All.nil (Each.also (All.cons Tame.inside All.nil) Each.none)
tame_of Sym.NameOfType = Each.also (All.cons (same (λ s. refl)) (All.cons Tame.inside (All.cons Tame.inside (All.cons (same (λ s. refl)) All.nil)))) Each.none
tame_of Sym.InitialValue = Each.also (All.cons kept_enter (All.cons Tame.inside (All.cons kept_leave All.nil))) (Each.also (All.cons kept_enter (All.cons (reads (λ s t. refl)) (All.cons Tame.inside (All.cons Tame.inside (All.cons (reads (λ s t. refl)) (All.cons kept_leave All.nil)))))) Each.none)
tame_of Sym.MoreEntries = Each.also All.nil (Each.also (All.cons (reads (λ s t. refl)) All.nil) (Each.also (All.cons (reads (λ s t. refl)) (All.cons Tame.inside (All.cons Tame.inside All.nil))) Each.none))
tame_of Sym.Entry = Each.also (All.cons Tame.inside All.nil) (Each.also (All.cons Tame.inside (All.cons Tame.inside (All.cons (reads (λ s t. refl)) (All.cons Tame.inside All.nil)))) Each.none)
tame_of Sym.MoreDesignators = Each.also All.nil (Each.also (All.cons Tame.inside (All.cons Tame.inside All.nil)) Each.none)
tame_of Sym.Designation = Each.also (All.cons (reads (λ s t. refl)) (All.cons Tame.inside (All.cons (reads (λ s t. refl)) All.nil))) (Each.also (All.cons (reads (λ s t. refl)) (All.cons (reads (λ s t. refl)) All.nil)) Each.none)
tame_of Sym.AnyStatement = Each.also (All.cons Tame.ahead (All.cons kept_enter (All.cons Tame.inside (All.cons kept_leave All.nil)))) Each.none
tame_of Sym.StatementForm = Each.also (All.cons (same (λ s. refl)) (All.cons Tame.inside (All.cons (same (λ s. refl)) All.nil))) (Each.also (All.cons Tame.inside (All.cons (reads (λ s t. refl)) All.nil)) (Each.also (All.cons (reads (λ s t. refl)) (All.cons (same (λ s. refl)) (All.cons Tame.inside (All.cons Tame.inside (All.cons Tame.inside (All.cons (same (λ s. refl)) All.nil)))))) (Each.also (All.cons (reads (λ s t. refl)) (All.cons (same (λ s. refl)) (All.cons Tame.inside (All.cons (same (λ s. refl)) (All.cons Tame.inside (All.cons (same (λ s. refl)) (All.cons (same (λ s. refl)) All.nil))))))) (Each.also (All.cons (reads (λ s t. refl)) (All.cons Tame.inside (All.cons (reads (λ s t. refl)) (All.cons Tame.inside All.nil)))) (Each.also (All.cons (reads (λ s t. refl)) (All.cons (reads (λ s t. refl)) (All.cons Tame.inside All.nil))) (Each.also (All.cons (reads (λ s t. refl)) (All.cons (same (λ s. refl)) (All.cons Tame.inside (All.cons Tame.inside (All.cons (same (λ s. refl)) (All.cons (same (λ s. refl)) All.nil)))))) (Each.also (All.cons (reads (λ s t. refl)) (All.cons (same (λ s. refl)) (All.cons Tame.inside (All.cons (same (λ s. refl)) (All.cons (reads (λ s t. refl)) (All.cons Tame.inside (All.cons (reads (λ s t. refl)) (All.cons (same (λ s. refl)) All.nil)))))))) (Each.also (All.cons (reads (λ s t. refl)) (All.cons (same (λ s. refl)) (All.cons (reads (λ s t. refl)) (All.cons Tame.inside (All.cons Tame.inside (All.cons (reads (λ s t. refl)) (All.cons Tame.inside (All.cons (reads (λ s t. refl)) (All.cons Tame.inside (All.cons (same (λ s. refl)) (All.cons (same (λ s. refl)) All.nil))))))))))) (Each.also (All.cons (reads (λ s t. refl)) (All.cons (reads (λ s t. refl)) All.nil)) (Each.also (All.cons (reads (λ s t. refl)) (All.cons (reads (λ s t. refl)) All.nil)) (Each.also (All.cons (reads (λ s t. refl)) (All.cons Tame.inside (All.cons (reads (λ s t. refl)) All.nil))) Each.none)))))))))))
tame_of Sym.Block = Each.also (All.cons (reads (λ s t. refl)) (All.cons Tame.inside (All.cons (reads (λ s t. refl)) All.nil))) Each.none
tame_of Sym.BlockItems = Each.also All.nil (Each.also (All.cons Tame.inside (All.cons Tame.inside All.nil)) (Each.also (All.cons Tame.inside (All.cons Tame.inside All.nil)) Each.none))
tame_of Sym.MaybeExpression = Each.also All.nil (Each.also (All.cons Tame.inside All.nil) Each.none)
tame_of Sym.Else = Each.also (All.cons (same (λ s. refl)) All.nil) (Each.also (All.cons (reads (λ s t. refl)) (All.cons Tame.inside All.nil)) Each.none)
tame_of Sym.Compound = Each.also (All.cons Tame.ahead (All.cons kept_enter (All.cons (same (λ s. refl)) (All.cons Tame.inside (All.cons (same (λ s. refl)) (All.cons kept_leave All.nil)))))) Each.none
tame_of Sym.Condition = Each.also (All.cons (reads (λ s t. refl)) (All.cons Tame.inside (All.cons (reads (λ s t. refl)) All.nil))) Each.none
tame_of Sym.Substatement = Each.also (All.cons (same (λ s. refl)) (All.cons Tame.inside (All.cons (same (λ s. refl)) All.nil))) Each.none
tame_of Sym.First = Each.also (All.cons (reads (λ s t. refl)) All.nil) (Each.also (All.cons Tame.inside (All.cons (reads (λ s t. refl)) All.nil)) (Each.also (All.cons Tame.inside All.nil) Each.none))
tame_of Sym.File = Each.also (All.cons Tame.inside (All.cons (reads (λ s t. refl)) All.nil)) Each.none
tame_of Sym.Externals = Each.also All.nil (Each.also (All.cons Tame.inside (All.cons Tame.inside All.nil)) (Each.also (All.cons (reads (λ s t. refl)) (All.cons Tame.inside All.nil)) Each.none))
tame_of Sym.ExternalDeclaration = Each.also (All.cons Tame.inside All.nil) (Each.also (All.cons (same (λ s. refl)) (All.cons Tame.inside (All.cons Tame.inside (All.cons kept_declare (All.cons (same (λ s. refl)) (All.cons Tame.ahead (All.cons kept_enter (All.cons Tame.inside (All.cons kept_leave (All.cons (same (λ s. refl)) (All.cons (same (λ s. refl)) All.nil))))))))))) Each.none)

one_of : {xs : List Shape} {others : List (List Shape)} → Each others → Among xs others → All xs
one_of {xs = xs} Each.none x3 = elim x3 [ ]
one_of (Each.also a p) here = a
one_of (Each.also a p) (there q) = one_of p q

both : {xs ys : List Shape} → All xs → All ys → All (xs ++ ys)
both All.nil q = q
both (All.cons x p) q = All.cons x (both p q)

tied_through : {stack left : List Shape} {s end : State} {ts : List Lexeme} → Reaches stack s ts left end → All stack → Tied s.nesting
    → Tied end.nesting
tied_through Reaches.here a h = h
tied_through (Reaches.token {s = s} {t = t} fits r) (All.cons (Tame.takes f) a) h = tied_through r a (f s t h)
tied_through (Reaches.seen r) (All.cons x a) h = tied_through r a h
tied_through (Reaches.acted {s = s} r) (All.cons (Tame.changes f) a) h = tied_through r a (f s h)
tied_through (Reaches.by {n = n} q r) (All.cons x a) h = tied_through r (both (one_of (tame_of n) (covers q)) a) h

pub tied : (tokens : List Lexeme) (left : List Shape) (s : State) → ReachesInFile tokens left s → nesting_passed s ≡ nests_past 256 s
tied tokens left s r = tied_through r (All.cons Tame.inside All.nil) refl
