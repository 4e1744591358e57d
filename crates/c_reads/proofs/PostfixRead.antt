-- The parsers of primary and postfix expressions read them, and no more.
use Rattle.std.proofs.Common.{◌≡◌, ℕ, zero, suc, ◌<◌, Bool, true, false, not, ◌||◌, ◌&&◌, if◌then◌else◌, List, [], ◌∷◌, ◌++◌, length, refl, sym, ap, subst, arith, cond}
use Rattle.std.proofs.lemmas.Bool.{eqb-true}
use Rattle.c_tree.specs.declared.expression.Expr.{Expr}
use Rattle.c_tree.specs.declared.expression.ExprKind.TheVariants as e
use Rattle.c_tree.specs.declared.lexeme.Lexeme.{Lexeme}
use Rattle.c_tree.specs.declared.lexeme.LexemeKind.{LexemeKind}
use Rattle.c_tree.specs.declared.lexeme.LexemeKind.TheVariants as k
use Rattle.c_grammar.specs.Derives.{Begins}
use Rattle.c_grammar.specs.Items.{Sym, Item, term, act, nt, Shape, some, change as changed, sym as symbol}
use Rattle.c_grammar.specs.Marks as m
use Rattle.c_grammar.specs.Productions.{Rule}
use Rattle.c_grammar.specs.State.{State, enter, leave, begin_operand, end_operand, names_type}
use Rattle.c_grammar.specs.Terminals.{Terminal}
use Rattle.c_grammar.specs.Terminals as w
use Rattle.c_grammar.specs.Tokens.{is_mark, is_mark_of, is_name, is_number, is_character, is_text, name_in, bytes_of}
use Rattle.c_grammar.specs.Trees.{expression}
use Rattle.c_kinds.specs.PostfixMarks.{operator_marks, begins_operator}
use Rattle.c_reads.specs.Exact.{Stack, Stops, Makes, Does, Parses}
use Rattle.c_cursor.specs.Parsers.{Input, Parser, ◌>>=◌, turns}
use Rattle.c_reads.specs.Postfix.{name, constant, texts_from, texts, text, enclosed, parenthesised, primary, subscript, one_argument, arguments_from, some_arguments, arguments, call, member, arrow, bump, some_operator, operator, operators_from, operators, postfix, Inside, postfix_goes_on}
use Rattle.c_reads.proofs.Binding.{Follows, bind, Any, any_follows, give, weaken, here, loosen}
use Rattle.c_reads.proofs.Steps.{◌then◌, nothing, by_rule, shrinks, took_less, undone, behind_change, tested, taking, changing, either, either_then, stopping_then, rule, stopped, Picks, head_of, chooses}

pub mark_is : (m : ℕ) (kind : LexemeKind) → is_mark m kind ≡ true → kind ≡ k.Mark m
mark_is m (k.Mark n) h = ap k.Mark (eqb-true n m h)
mark_is m _ h = cc

-- any token and any tree, for what no value matters to
abbrev some_token : Lexeme
some_token = record { kind = k.End; place = record { file = record { 0 = 0 }; line = 0; col = 0 }; start = 0 }

abbrev some_tree : Expr
some_tree = expression some_token (e.Name 0)

-- what holds of both sides of a test holds of the choice
by_test : {A : Type 0} (P : A → Type 0) (b : Bool) (x y : A) → (b ≡ true → P x) → (b ≡ false → P y) → P (cond b x y)
by_test P true x y p q = p refl
by_test P false x y p q = q refl

split : {X : Type 0} (b : Bool) → (b ≡ true → X) → (b ≡ false → X) → X
split true x y = x refl
split false x y = y refl

or_right : (a b : Bool) → b ≡ true → a || b ≡ true
or_right true b h = refl
or_right false b h = h

or_left : (a b : Bool) → a ≡ true → a || b ≡ true
or_left true b h = refl
or_left false b h = cc

-- the same stack by another name
moved : {xs ys : Stack} (behind : Stack) (s : State) (ts : List Lexeme) → xs ≡ ys → Begins (ys ++ behind) s ts → Begins (xs ++ behind) s ts
moved behind s ts h b = subst (λ (ss : Stack). Begins (ss ++ behind) s ts) (sym h) b

-- ---- neighbouring texts
abbrev TextOver : Stack → Type 0
TextOver = Stops w.text.fits

abbrev pick_text : State → Lexeme → Stack
pick_text s t = if is_text t.kind then some w.text ∷ symbol Sym.MoreTexts ∷ [] else []

only_text : (behind : Stack) (s : State) (t : Lexeme) (ts : List Lexeme) → TextOver behind → Begins (symbol Sym.MoreTexts ∷ behind) s (t ∷ ts) → Begins (pick_text s t ++ behind) s (t ∷ ts)
only_text behind s t ts h (Begins.by (Rule.last_text a) b) = by_test (λ (ss : Stack). Begins (ss ++ behind) s (t ∷ ts)) (is_text t.kind) _ [] (λ x. absurd (h.never s t ts x b)) (λ x. b)
only_text behind s t ts h (Begins.by (Rule.more_texts a c u) b) = rw ((tested w.text _ s t ts b).0) b

picks_text : Picks TextOver Sym.MoreTexts pick_text
picks_text = record { only = only_text }

does_texts_from : (n : ℕ) (before : List ℕ) (i : Input) → length i.rest < n → Parses TextOver Sym.MoreTexts before (texts_from n before) i
unfolding texts_from
does_texts_from zero before i enough = absurd (omega arith)
does_texts_from (suc n) before i enough = either w.text
    (λ seen. rule (chooses i picks_text (Rule.more_texts [] [] some_token) (λ t ts x. rw (head_of w.text i true seen t ts x)))
    (taking w.text (λ t m y. weaken (λ b end z. by_rule (Rule.more_texts before b t) (y.makes then z)) (does_texts_from n (before ++ bytes_of t) m (let less = took_less y in omega arith)))))
    (λ unseen. rule (chooses i picks_text (Rule.last_text []) (λ t ts x. rw (head_of w.text i false unseen t ts x)))
    (give before i (by_rule (Rule.last_text before) (nothing i))))

does_texts : (before : List ℕ) (i : Input) → Parses TextOver Sym.MoreTexts before (texts before) i
unfolding texts
does_texts before i = here (λ j. texts_from (turns j) before) (does_texts_from (turns i) before i (omega arith))

-- ---- what stands behind an operand: nothing that goes on with it
abbrev PostfixOver : Stack → Type 0
PostfixOver = Stops postfix_goes_on

abbrev operator_stack : LexemeKind → Stack
operator_stack kind =
    if is_mark m.left_bracket kind
    then some (w.operator (w.mark m.left_bracket)) ∷ changed enter ∷ symbol Sym.Expression ∷ some (w.closing (w.mark m.right_bracket)) ∷ changed leave ∷ symbol Sym.AfterPostfix ∷ []
    else if is_mark m.left_parenthesis kind
    then some (w.operator (w.mark m.left_parenthesis)) ∷ changed enter ∷ symbol Sym.Arguments ∷ some (w.closing (w.mark m.right_parenthesis)) ∷ changed leave ∷ symbol Sym.AfterPostfix ∷ []
    else if is_mark m.period kind then some (w.operator (w.mark m.period)) ∷ some (w.closing w.any_name) ∷ symbol Sym.AfterPostfix ∷ []
    else if is_mark m.arrow kind then some (w.operator (w.mark m.arrow)) ∷ some (w.closing w.any_name) ∷ symbol Sym.AfterPostfix ∷ []
    else some (w.closing (w.operator w.bump)) ∷ symbol Sym.AfterPostfix ∷ []

abbrev after_stack : LexemeKind → Stack
after_stack kind = if is_mark_of operator_marks kind then operator_stack kind else []

abbrev pick_after : State → Lexeme → Stack
pick_after s t = after_stack t.kind

at_mark : (n : ℕ) (t : Lexeme) → is_mark n t.kind ≡ true → after_stack t.kind ≡ after_stack (k.Mark n)
at_mark n t h = ap (λ (kind : LexemeKind). after_stack kind) (mark_is n t.kind h)

at_bump : (t : Lexeme) → is_mark_of (m.plus_plus ∷ m.minus_minus ∷ []) t.kind ≡ true → after_stack t.kind ≡ some (w.closing (w.operator w.bump)) ∷ symbol Sym.AfterPostfix ∷ []
at_bump t h = split (is_mark m.plus_plus t.kind) (λ x. at_mark m.plus_plus t x) (λ x. at_mark m.minus_minus t (last (is_mark m.plus_plus t.kind) (is_mark m.minus_minus t.kind) x h))
  where
    last : (a b : Bool) → a ≡ false → a || (b || false) ≡ true → b ≡ true
    last a true x y = refl
    last a false x y = let bad : a || (false || false) ≡ false = rw x in cc

only_after : (behind : Stack) (s : State) (t : Lexeme) (ts : List Lexeme) → PostfixOver behind → Begins (symbol Sym.AfterPostfix ∷ behind) s (t ∷ ts) → Begins (pick_after s t ++ behind) s (t ∷ ts)
only_after behind s t ts h (Begins.by (Rule.no_postfix a) b) =
    by_test (λ (ss : Stack). Begins (ss ++ behind) s (t ∷ ts)) (is_mark_of operator_marks t.kind) (operator_stack t.kind) [] (λ x. absurd (h.never s t ts (or_right (is_text t.kind) _ x) b)) (λ x. b)
only_after behind s t ts h (Begins.by (Rule.subscript a x c u v) b) = moved behind s (t ∷ ts) (at_mark m.left_bracket t (tested _ _ s t ts b).0) b
only_after behind s t ts h (Begins.by (Rule.call a c x u v) b) = moved behind s (t ∷ ts) (at_mark m.left_parenthesis t (tested _ _ s t ts b).0) b
only_after behind s t ts h (Begins.by (Rule.member a c u v) b) = moved behind s (t ∷ ts) (at_mark m.period t (tested _ _ s t ts b).0) b
only_after behind s t ts h (Begins.by (Rule.arrow a c u v) b) = moved behind s (t ∷ ts) (at_mark m.arrow t (tested _ _ s t ts b).0) b
only_after behind s t ts h (Begins.by (Rule.bump_behind a c u) b) = moved behind s (t ∷ ts) (at_bump t (tested _ _ s t ts b).0) b

picks_after : Picks PostfixOver Sym.AfterPostfix pick_after
picks_after = record { only = only_after }

text_after : (kind : LexemeKind) → is_text kind ≡ true → [] ≡ after_stack kind
text_after (k.Text x) h = refl
text_after _ h = cc

after_follows : Follows TextOver PostfixOver (symbol Sym.AfterPostfix ∷ [])
after_follows = record {
  step = λ behind h. record {
    never = λ s t ts on b. h.never s t ts (or_left (is_text t.kind) _ on) (moved behind s (t ∷ ts) (text_after t.kind on) (only_after behind s t ts h b));
  };
}

-- ---- primary expressions
abbrev primary_stack : State → LexemeKind → Stack
primary_stack s kind =
    if is_name kind && not (names_type s.scopes (name_in kind)) then changed enter ∷ some w.value_name ∷ changed leave ∷ []
    else if is_number kind then changed enter ∷ some w.number ∷ changed leave ∷ []
    else if is_character kind then changed enter ∷ some w.character ∷ changed leave ∷ []
    else if is_text kind then changed enter ∷ some w.text ∷ symbol Sym.MoreTexts ∷ changed leave ∷ []
    else changed enter ∷ some (w.mark m.left_parenthesis) ∷ symbol Sym.Expression ∷ some (w.closing (w.mark m.right_parenthesis)) ∷ changed leave ∷ []

abbrev pick_primary : State → Lexeme → Stack
pick_primary s t = primary_stack s t.kind

at_number : (s : State) (kind : LexemeKind) → is_number kind ≡ true → primary_stack s kind ≡ changed enter ∷ some w.number ∷ changed leave ∷ []
at_number s (k.Number x of) h = refl
at_number s _ h = cc

at_character : (s : State) (kind : LexemeKind) → is_character kind ≡ true → primary_stack s kind ≡ changed enter ∷ some w.character ∷ changed leave ∷ []
at_character s (k.Character x) h = refl
at_character s _ h = cc

at_text : (s : State) (kind : LexemeKind) → is_text kind ≡ true → primary_stack s kind ≡ changed enter ∷ some w.text ∷ symbol Sym.MoreTexts ∷ changed leave ∷ []
at_text s (k.Text x) h = refl
at_text s _ h = cc

at_parenthesis : (s : State) (kind : LexemeKind) → is_mark m.left_parenthesis kind ≡ true
    → primary_stack s kind ≡ changed enter ∷ some (w.mark m.left_parenthesis) ∷ symbol Sym.Expression ∷ some (w.closing (w.mark m.right_parenthesis)) ∷ changed leave ∷ []
at_parenthesis s (k.Mark x) h = refl
at_parenthesis s _ h = cc

-- the first terminal behind a change of the state
entered : (v : Terminal) (f : State → State) (behind : Stack) (s : State) (t : Lexeme) (ts : List Lexeme) → Begins (changed f ∷ some v ∷ behind) s (t ∷ ts) → v.fits (f s) t ≡ true
entered v f behind s t ts (Begins.acted b) = (tested v behind (f s) t ts b).0

only_primary : (behind : Stack) (s : State) (t : Lexeme) (ts : List Lexeme) → Begins (symbol Sym.Primary ∷ behind) s (t ∷ ts) → Begins (pick_primary s t ++ behind) s (t ∷ ts)
only_primary behind s t ts (Begins.by (Rule.name u) b) = rw (entered w.value_name enter _ s t ts b) b
only_primary behind s t ts (Begins.by (Rule.number u) b) = moved behind s (t ∷ ts) (at_number s t.kind (entered w.number enter _ s t ts b)) b
only_primary behind s t ts (Begins.by (Rule.character u) b) = moved behind s (t ∷ ts) (at_character s t.kind (entered w.character enter _ s t ts b)) b
only_primary behind s t ts (Begins.by (Rule.text u x) b) = moved behind s (t ∷ ts) (at_text s t.kind (entered w.text enter _ s t ts b)) b
only_primary behind s t ts (Begins.by (Rule.parenthesised a u v) b) = moved behind s (t ∷ ts) (at_parenthesis s t.kind (entered (w.mark m.left_parenthesis) enter _ s t ts b)) b

picks_primary : Picks TextOver Sym.Primary pick_primary
picks_primary = record { only = λ behind s t ts h b. only_primary behind s t ts b }

does_name : (i : Input) → Does Any (changed enter ∷ some w.value_name ∷ changed leave ∷ []) (λ a end. Makes (nt Sym.Primary tt a ∷ []) i end) name i
unfolding name
does_name i = changing enter (λ _ i1 y1. taking w.value_name (λ t i2 y2. changing leave (λ _ i3 y3. give _ i3 (by_rule (Rule.name t) (y1 then (y2.makes then y3))))))

does_number : (i : Input) → Does Any (changed enter ∷ some w.number ∷ changed leave ∷ []) (λ a end. Makes (nt Sym.Primary tt a ∷ []) i end) (constant w.number) i
unfolding constant
does_number i = changing enter (λ _ i1 y1. taking w.number (λ t i2 y2. changing leave (λ _ i3 y3. give _ i3 (by_rule (Rule.number t) (y1 then (y2.makes then y3))))))

does_character : (i : Input) → Does Any (changed enter ∷ some w.character ∷ changed leave ∷ []) (λ a end. Makes (nt Sym.Primary tt a ∷ []) i end) (constant w.character) i
unfolding constant
does_character i = changing enter (λ _ i1 y1. taking w.character (λ t i2 y2. changing leave (λ _ i3 y3. give _ i3 (by_rule (Rule.character t) (y1 then (y2.makes then y3))))))

does_text : (i : Input) → Does TextOver (changed enter ∷ some w.text ∷ symbol Sym.MoreTexts ∷ changed leave ∷ []) (λ a end. Makes (nt Sym.Primary tt a ∷ []) i end) text i
unfolding text
does_text i = changing enter (λ _ i1 y1. taking w.text (λ t i2 y2. bind (behind_change (λ s u. refl)) (does_texts (bytes_of t) i2) (λ bytes i3 y3.
    changing leave (λ _ i4 y4. give _ i4 (by_rule (Rule.text t bytes) (y1 then (y2.makes then (y3 then y4))))))))

-- ---- what stands inside
abbrev Closed : Stack → Type 0
Closed = Stops (λ s t. not (is_mark m.right_parenthesis t.kind))

-- the item of what is given was read, between a change of the state and a token that closes it
record Encloses {A : Type 0} (item : A → Item) (mark : ℕ) (a : A) (start end : Input) : Type 0 where
  closed_by : Lexeme
  makes : Makes (act enter ∷ item a ∷ term (w.closing (w.mark mark)) closed_by ∷ act leave ∷ []) start end

does_enclosed : {A : Type 0} {H : Stack → Type 0} {shape : Shape} {item : A → Item} {p : Parser A} (mark : ℕ) (i : Input)
    → Follows H Any (some (w.closing (w.mark mark)) ∷ changed leave ∷ []) → ((j : Input) → Does H (shape ∷ []) (λ a end. Makes (item a ∷ []) j end) p j)
    → Does Any (changed enter ∷ shape ∷ some (w.closing (w.mark mark)) ∷ changed leave ∷ []) (λ a end. Encloses item mark a i end) (enclosed p mark) i
unfolding enclosed
does_enclosed mark i follows inner = changing enter (λ _ i1 y1. bind follows (inner i1) (λ a i2 y2.
    taking (w.closing (w.mark mark)) (λ u i3 y3. changing leave (λ _ i4 y4.
    give a i4 (record { closed_by = u; makes = y1 then (y2 then (y3.makes then y4)) })))))

-- one operator was read, and those behind it may follow
record Applied (a b : Expr) (start mid : Input) : Type 0 where
  less : length mid.rest < length start.rest
  makes : (c : Expr) (end : Input) → Makes (nt Sym.AfterPostfix b c ∷ []) mid end → Makes (nt Sym.AfterPostfix a c ∷ []) start end

is_right_bracket : (kind : LexemeKind) → is_mark m.right_bracket kind ≡ true → is_mark_of (m.right_bracket ∷ m.right_parenthesis ∷ []) kind ≡ true
is_right_bracket kind h = or_left (is_mark m.right_bracket kind) _ h

is_right_parenthesis : (kind : LexemeKind) → is_mark m.right_parenthesis kind ≡ true → is_mark_of (m.right_bracket ∷ m.right_parenthesis ∷ []) kind ≡ true
is_right_parenthesis kind h = or_right (is_mark m.right_bracket kind) _ (or_left (is_mark m.right_parenthesis kind) _ h)

module _ (inside argument : Parser Expr) (exact : Inside inside argument) where
  does_parenthesised : (i : Input)
      → Does Any (changed enter ∷ some (w.mark m.left_parenthesis) ∷ symbol Sym.Expression ∷ some (w.closing (w.mark m.right_parenthesis)) ∷ changed leave ∷ [])
      (λ a end. Makes (nt Sym.Primary tt a ∷ []) i end) (parenthesised inside argument) i
  unfolding parenthesised
  does_parenthesised i = changing enter (λ _ i1 y1. taking (w.mark m.left_parenthesis) (λ t i2 y2.
      bind (stopped Any _ _ (λ s u fit. exact.ends s u (is_right_parenthesis u.kind fit))) (exact.reads i2) (λ a i3 y3.
      taking (w.closing (w.mark m.right_parenthesis)) (λ u i4 y4. changing leave (λ _ i5 y5.
      give a i5 (by_rule (Rule.parenthesised a t u) (y1 then (y2.makes then (y3 then (y4.makes then y5))))))))))

  does_primary : (i : Input) → Parses TextOver Sym.Primary tt (primary inside argument) i
  unfolding primary
  does_primary i = either w.value_name
      (λ seen. rule (chooses i picks_primary (Rule.name some_token) (λ t ts x. rw (head_of w.value_name i true seen t ts x))) (loosen (does_name i)))
      (λ u0. either w.number
      (λ seen. rule (chooses i picks_primary (Rule.number some_token) (λ t ts x. rw (head_of w.value_name i false u0 t ts x, head_of w.number i true seen t ts x))) (loosen (does_number i)))
      (λ u1. either w.character
      (λ seen. rule (chooses i picks_primary (Rule.character some_token)
      (λ t ts x. rw (head_of w.value_name i false u0 t ts x, head_of w.number i false u1 t ts x, head_of w.character i true seen t ts x))) (loosen (does_character i)))
      (λ u2. either w.text
      (λ seen. rule (chooses i picks_primary (Rule.text some_token [])
      (λ t ts x. rw (head_of w.value_name i false u0 t ts x, head_of w.number i false u1 t ts x, head_of w.character i false u2 t ts x, head_of w.text i true seen t ts x))) (does_text i))
      (λ u3. rule (chooses i picks_primary (Rule.parenthesised some_tree some_token some_token)
      (λ t ts x. rw (head_of w.value_name i false u0 t ts x, head_of w.number i false u1 t ts x, head_of w.character i false u2 t ts x, head_of w.text i false u3 t ts x)))
      (loosen (does_parenthesised i))))))

  -- ---- arguments
  does_one_argument : (i : Input) → Does (Stops exact.argument_goes_on) (changed begin_operand ∷ symbol Sym.Assignment ∷ changed end_operand ∷ [])
      (λ a end. Makes (act begin_operand ∷ nt Sym.Assignment tt a ∷ act end_operand ∷ []) i end) (one_argument inside argument) i
  unfolding one_argument
  does_one_argument i = changing begin_operand (λ _ i1 y1. bind (behind_change exact.argument_calm) (exact.argument_reads i1) (λ a i2 y2. changing end_operand (λ _ i3 y3. give a i3 (y1 then (y2 then y3)))))

  abbrev pick_more_arguments : State → Lexeme → Stack
  pick_more_arguments s t = if is_mark m.comma t.kind then some (w.mark m.comma) ∷ changed begin_operand ∷ symbol Sym.Assignment ∷ changed end_operand ∷ symbol Sym.MoreArguments ∷ [] else []

  only_more_arguments : (behind : Stack) (s : State) (t : Lexeme) (ts : List Lexeme) → Closed behind → Begins (symbol Sym.MoreArguments ∷ behind) s (t ∷ ts)
      → Begins (pick_more_arguments s t ++ behind) s (t ∷ ts)
  only_more_arguments behind s t ts h (Begins.by (Rule.last_argument a) b) =
      by_test (λ (ss : Stack). Begins (ss ++ behind) s (t ∷ ts)) (is_mark m.comma t.kind) _ []
      (λ x. absurd (h.never s t ts (ap (λ (kind : LexemeKind). not (is_mark m.right_parenthesis kind)) (mark_is m.comma t.kind x)) b)) (λ x. b)
  only_more_arguments behind s t ts h (Begins.by (Rule.more_arguments a x c u) b) = rw ((tested (w.mark m.comma) _ s t ts b).0) b

  picks_more_arguments : Picks Closed Sym.MoreArguments pick_more_arguments
  picks_more_arguments = record { only = only_more_arguments }

  argument_follows : Follows (Stops exact.argument_goes_on) Closed (symbol Sym.MoreArguments ∷ [])
  argument_follows = record {
    step = λ behind h. record {
      never = λ s t ts on b. split (is_mark m.comma t.kind)
          (λ x. let off = exact.argument_ends s t (or_right (is_mark m.right_parenthesis t.kind) _ (or_left (is_mark m.comma t.kind) _ x)) in cc)
          (λ x. split (is_mark m.right_parenthesis t.kind) (λ y. let off = exact.argument_ends s t (or_left (is_mark m.right_parenthesis t.kind) _ y) in cc)
          (λ y. h.never s t ts (ap not y) (unmoved behind s t ts x (only_more_arguments behind s t ts h b))));
    };
  }
    where
      unmoved : (behind : Stack) (s : State) (t : Lexeme) (ts : List Lexeme) → is_mark m.comma t.kind ≡ false → Begins (pick_more_arguments s t ++ behind) s (t ∷ ts) → Begins behind s (t ∷ ts)
      unmoved behind s t ts x b = subst (λ (y : Bool). Begins (cond y (some (w.mark m.comma) ∷ changed begin_operand ∷ symbol Sym.Assignment ∷ changed end_operand ∷ symbol Sym.MoreArguments ∷ []) [] ++ behind) s (t ∷ ts)) x b

  does_arguments_from : (n : ℕ) (found : List Expr) (i : Input) → length i.rest < n → Parses Closed Sym.MoreArguments found (arguments_from inside argument n found) i
  unfolding arguments_from
  does_arguments_from zero found i enough = absurd (omega arith)
  does_arguments_from (suc n) found i enough = either (w.mark m.comma)
      (λ seen. rule (chooses i picks_more_arguments (Rule.more_arguments some_tree [] [] some_token) (λ t ts x. rw (head_of (w.mark m.comma) i true seen t ts x)))
      (taking (w.mark m.comma) (λ t i1 y1. bind argument_follows (does_one_argument i1) (λ a i2 y2. weaken (λ all end z. by_rule (Rule.more_arguments a found all t) (y1.makes then (y2 then z)))
      (does_arguments_from n (found ++ a ∷ []) i2 (let less = took_less y1 in let more = shrinks y2 in omega arith))))))
      (λ unseen. rule (chooses i picks_more_arguments (Rule.last_argument []) (λ t ts x. rw (head_of (w.mark m.comma) i false unseen t ts x)))
      (give found i (by_rule (Rule.last_argument found) (nothing i))))

  abbrev pick_arguments : State → Lexeme → Stack
  pick_arguments s t = if is_mark m.right_parenthesis t.kind then [] else changed begin_operand ∷ symbol Sym.Assignment ∷ changed end_operand ∷ symbol Sym.MoreArguments ∷ []

  only_arguments : (behind : Stack) (s : State) (t : Lexeme) (ts : List Lexeme) → Closed behind → Begins (symbol Sym.Arguments ∷ behind) s (t ∷ ts) → Begins (pick_arguments s t ++ behind) s (t ∷ ts)
  only_arguments behind s t ts h (Begins.by Rule.no_arguments b) =
      by_test (λ (ss : Stack). Begins (ss ++ behind) s (t ∷ ts)) (is_mark m.right_parenthesis t.kind) [] _ (λ x. b) (λ x. absurd (h.never s t ts (ap not x) b))
  only_arguments behind s t ts h (Begins.by (Rule.arguments a c) b) =
      by_test (λ (ss : Stack). Begins (ss ++ behind) s (t ∷ ts)) (is_mark m.right_parenthesis t.kind) [] _ (λ x. absurd (exact.argument_begins _ (begin_operand s) t ts (undone begin_operand _ s (t ∷ ts) b) x)) (λ x. b)

  picks_arguments : Picks Closed Sym.Arguments pick_arguments
  picks_arguments = record { only = only_arguments }

  does_arguments : (i : Input) → Parses Closed Sym.Arguments tt (arguments inside argument) i
  unfolding arguments some_arguments
  does_arguments i = either (w.mark m.right_parenthesis)
      (λ seen. rule (chooses i picks_arguments Rule.no_arguments (λ t ts x. rw (head_of (w.mark m.right_parenthesis) i true seen t ts x)))
      (give [] i (by_rule Rule.no_arguments (nothing i))))
      (λ unseen. rule (chooses i picks_arguments (Rule.arguments some_tree []) (λ t ts x. rw (head_of (w.mark m.right_parenthesis) i false unseen t ts x)))
      (bind argument_follows (does_one_argument i) (λ a i1 y1. weaken (λ all end z. by_rule (Rule.arguments a all) (y1 then z))
      (here (λ j. arguments_from inside argument (turns j) (a ∷ [])) (does_arguments_from (turns i1) (a ∷ []) i1 (omega arith))))))

  -- ---- postfix operators
  does_subscript : (a : Expr) (i : Input)
      → Does Any (some (w.operator (w.mark m.left_bracket)) ∷ changed enter ∷ symbol Sym.Expression ∷ some (w.closing (w.mark m.right_bracket)) ∷ changed leave ∷ [])
      (λ b mid. Applied a b i mid) (subscript inside argument a) i
  unfolding subscript
  does_subscript a i = taking (w.operator (w.mark m.left_bracket)) (λ t i1 y1. bind (any_follows Any [])
      (does_enclosed m.right_bracket i1 (stopped Any _ _ (λ s u fit. exact.ends s u (is_right_bracket u.kind fit))) exact.reads) (λ b i2 y2.
      give (expression t (e.Index a b)) i2 (record {
        less = (let l1 = took_less y1 in let l2 = shrinks y2.makes in omega arith);
        makes = λ c end z. by_rule (Rule.subscript a b c t y2.closed_by) (y1.makes then (y2.makes then z));
      })))

  does_call : (a : Expr) (i : Input)
      → Does Any (some (w.operator (w.mark m.left_parenthesis)) ∷ changed enter ∷ symbol Sym.Arguments ∷ some (w.closing (w.mark m.right_parenthesis)) ∷ changed leave ∷ [])
      (λ b mid. Applied a b i mid) (call inside argument a) i
  unfolding call
  does_call a i = taking (w.operator (w.mark m.left_parenthesis)) (λ t i1 y1. bind (any_follows Any [])
      (does_enclosed m.right_parenthesis i1 (stopped Any _ _ (λ s u fit. ap not fit)) does_arguments) (λ bs i2 y2.
      give (expression t (e.Call a bs)) i2 (record {
        less = (let l1 = took_less y1 in let l2 = shrinks y2.makes in omega arith);
        makes = λ c end z. by_rule (Rule.call a c bs t y2.closed_by) (y1.makes then (y2.makes then z));
      })))

  does_member : (a : Expr) (i : Input) → Does Any (some (w.operator (w.mark m.period)) ∷ some (w.closing w.any_name) ∷ []) (λ b mid. Applied a b i mid) (member inside argument a) i
  unfolding member
  does_member a i = taking (w.operator (w.mark m.period)) (λ t i1 y1. taking (w.closing w.any_name) (λ u i2 y2. give _ i2 (record {
    less = (let l1 = took_less y1 in let l2 = took_less y2 in omega arith);
    makes = λ c end z. by_rule (Rule.member a c t u) (y1.makes then (y2.makes then z));
  })))

  does_arrow : (a : Expr) (i : Input) → Does Any (some (w.operator (w.mark m.arrow)) ∷ some (w.closing w.any_name) ∷ []) (λ b mid. Applied a b i mid) (arrow inside argument a) i
  unfolding arrow
  does_arrow a i = taking (w.operator (w.mark m.arrow)) (λ t i1 y1. taking (w.closing w.any_name) (λ u i2 y2. give _ i2 (record {
    less = (let l1 = took_less y1 in let l2 = took_less y2 in omega arith);
    makes = λ c end z. by_rule (Rule.arrow a c t u) (y1.makes then (y2.makes then z));
  })))

  does_bump : (a : Expr) (i : Input) → Does Any (some (w.closing (w.operator w.bump)) ∷ []) (λ b mid. Applied a b i mid) (bump inside argument a) i
  unfolding bump
  does_bump a i = taking (w.closing (w.operator w.bump)) (λ t i1 y1. give _ i1 (record {
    less = took_less y1;
    makes = λ c end z. by_rule (Rule.bump_behind a c t) (y1.makes then z);
  }))

  -- one operator, and then the others
  applied : {xs : Stack} {p : Parser Expr} (n : ℕ) (a : Expr) (i : Input) → length i.rest < suc n
      → ((b : Expr) (mid : Input) → length mid.rest < n → Parses PostfixOver Sym.AfterPostfix b (operators_from inside argument n b) mid)
      → Does Any xs (λ b mid. Applied a b i mid) p i
      → Does PostfixOver (xs ++ symbol Sym.AfterPostfix ∷ []) (λ c end. Makes (nt Sym.AfterPostfix a c ∷ []) i end) (p >>= operators_from inside argument n) i
  applied n a i enough more d = bind (any_follows PostfixOver (symbol Sym.AfterPostfix ∷ [])) d (λ b mid y. weaken (λ c end z. y.makes c end z) (more b mid (let less = y.less in omega arith)))

  does_operators_from : (n : ℕ) (a : Expr) (i : Input) → length i.rest < n → Parses PostfixOver Sym.AfterPostfix a (operators_from inside argument n a) i
  unfolding operators_from operator some_operator
  does_operators_from zero a i enough = absurd (omega arith)
  does_operators_from (suc n) a i enough = either begins_operator
      (λ on. stopping_then (some_operator inside argument a) (operators_from inside argument n)
      (either_then (w.mark m.left_bracket) (subscript inside argument a) _ (operators_from inside argument n)
      (λ s. rule (chooses i picks_after (Rule.subscript some_tree some_tree some_tree some_token some_token)
      (λ t ts x. rw (head_of begins_operator i true on t ts x, head_of (w.mark m.left_bracket) i true s t ts x)))
      (applied n a i enough (does_operators_from n) (does_subscript a i)))
      (λ u0. either_then (w.mark m.left_parenthesis) (call inside argument a) _ (operators_from inside argument n)
      (λ s. rule (chooses i picks_after (Rule.call some_tree some_tree [] some_token some_token)
      (λ t ts x. rw (head_of begins_operator i true on t ts x, head_of (w.mark m.left_bracket) i false u0 t ts x, head_of (w.mark m.left_parenthesis) i true s t ts x)))
      (applied n a i enough (does_operators_from n) (does_call a i)))
      (λ u1. either_then (w.mark m.period) (member inside argument a) _ (operators_from inside argument n)
      (λ s. rule (chooses i picks_after (Rule.member some_tree some_tree some_token some_token)
      (λ t ts x. rw (head_of begins_operator i true on t ts x, head_of (w.mark m.left_bracket) i false u0 t ts x, head_of (w.mark m.left_parenthesis) i false u1 t ts x, head_of (w.mark m.period) i true s t ts x)))
      (applied n a i enough (does_operators_from n) (does_member a i)))
      (λ u2. either_then (w.mark m.arrow) (arrow inside argument a) _ (operators_from inside argument n)
      (λ s. rule (chooses i picks_after (Rule.arrow some_tree some_tree some_token some_token)
      (λ t ts x. rw (
        head_of begins_operator i true on t ts x,
        head_of (w.mark m.left_bracket) i false u0 t ts x,
        head_of (w.mark m.left_parenthesis) i false u1 t ts x,
        head_of (w.mark m.period) i false u2 t ts x,
        head_of (w.mark m.arrow) i true s t ts x,
      )))
      (applied n a i enough (does_operators_from n) (does_arrow a i)))
      (λ u3. rule (chooses i picks_after (Rule.bump_behind some_tree some_tree some_token)
      (λ t ts x. rw (
        head_of begins_operator i true on t ts x,
        head_of (w.mark m.left_bracket) i false u0 t ts x,
        head_of (w.mark m.left_parenthesis) i false u1 t ts x,
        head_of (w.mark m.period) i false u2 t ts x,
        head_of (w.mark m.arrow) i false u3 t ts x,
      )))
      (applied n a i enough (does_operators_from n) (does_bump a i))))))))
      (λ off. rule (chooses i picks_after (Rule.no_postfix some_tree) (λ t ts x. rw (head_of begins_operator i false off t ts x)))
      (give a i (by_rule (Rule.no_postfix a) (nothing i))))

  only_postfix : (behind : Stack) (s : State) (t : Lexeme) (ts : List Lexeme) → PostfixOver behind → Begins (symbol Sym.Postfix ∷ behind) s (t ∷ ts)
      → Begins (symbol Sym.Primary ∷ symbol Sym.AfterPostfix ∷ behind) s (t ∷ ts)
  only_postfix behind s t ts h (Begins.by (Rule.postfix a c) b) = b

  pub does_postfix : (i : Input) → Parses PostfixOver Sym.Postfix tt (postfix inside argument) i
  unfolding postfix operators
  does_postfix i = rule (chooses {pick = λ s t. symbol Sym.Primary ∷ symbol Sym.AfterPostfix ∷ []} i (record { only = only_postfix }) (Rule.postfix some_tree some_tree) (λ t ts x. refl))
      (bind after_follows (does_primary i) (λ a i1 y1. weaken (λ b end z. by_rule (Rule.postfix a b) (y1 then z))
      (here (λ j. operators_from inside argument (turns j) a) (does_operators_from (turns i1) a i1 (omega arith)))))
