-- Parameter lists that are not a lone `void`.
use Rattle.std.proofs.Common.{◌≡◌, ◌≢◌, ℕ, true, false, eqb, List, [], ◌∷◌, Option, None, ap, sym, ◌∙◌}
use Rattle.std.proofs.lemmas.Bool.{eq-eqb}
use Rattle.c_tree.specs.declared.declarator.DeclCore.TheViews.{out-roll-Param, out-roll-SpecWord}
use Rattle.c_tree.specs.declared.declarator.Dots.{Dots}
use Rattle.c_tree.specs.declared.declarator.Param.{Param, out-Param}
use Rattle.c_tree.specs.declared.lexeme.Lexeme.{Lexeme}
use Rattle.c_tree.specs.declared.specifier.SpecKind.{SpecKind, out-SpecKind}
use Rattle.c_tree.specs.declared.specifier.SpecKind.TheVariants as sk
use Rattle.c_tree.specs.declared.specifier.SpecWord.{SpecWord, out-SpecWord}
use Rattle.c_grammar.specs.Trees.{Declared, parameter, spec_word, lone_void, tree_of}

first_param : Param → List Param → Param
first_param p [] = p
first_param p (q ∷ qs) = q

first_spec : SpecWord → List SpecWord → SpecWord
first_spec s [] = s
first_spec s (r ∷ rs) = r

heads_same : (h g : List SpecWord) (d c : Option Declared) → parameter h d ≡ parameter g c → h ≡ g
heads_same h g d c e =
    sym (ap (λ p. p.head) (out-roll-Param (record { head = h; declarator = tree_of d }))) ∙ (ap (λ (p : Param). (out-Param p).head) e ∙ ap (λ p. p.head) (out-roll-Param (record { head = g; declarator = tree_of c })))

kinds_same : (u v : Lexeme) (k l : SpecKind) → spec_word u k ≡ spec_word v l → k ≡ l
kinds_same u v k l e =
    sym (ap (λ s. s.kind) (out-roll-SpecWord (record { kind = k; place = u.place; start = u.start }))) ∙ (ap (λ (s : SpecWord). (out-SpecWord s).kind) e ∙ ap (λ s. s.kind) (out-roll-SpecWord (record { kind = l; place = v.place; start = v.start })))

words_same : (v w : ℕ) → sk.Plain v ≡ sk.Plain w → v ≡ w
words_same v w e =
    let seen : out-SpecKind (sk.Plain v) ≡ out-SpecKind (sk.Plain w) = ap out-SpecKind e in
    cc

no_clash : (w : ℕ) → eqb w 31 ≡ false → w ≡ 31 → ⊥
no_clash w apart e = let same : eqb w 31 ≡ true = eq-eqb w 31 e in absurd cc

pub not_void : (u : Lexeme) (w : ℕ) (ss : List SpecWord) (d : Option Declared) (ps : List Param) (dots : Option Dots) → eqb w 31 ≡ false
    → (v : Lexeme) → (parameter (spec_word u (sk.Plain w) ∷ ss) d ∷ ps, dots) ≢ lone_void v
unfolding first_param first_spec
not_void u w ss d ps dots apart v e =
    let none = parameter [] None in
    let lists : parameter (spec_word u (sk.Plain w) ∷ ss) d ∷ ps ≡ parameter (spec_word v (sk.Plain 31) ∷ []) None ∷ [] = ap (λ (x : List Param × Option Dots). x.0) e in
    let params : parameter (spec_word u (sk.Plain w) ∷ ss) d ≡ parameter (spec_word v (sk.Plain 31) ∷ []) None = ap (first_param none) lists in
    let heads : spec_word u (sk.Plain w) ∷ ss ≡ spec_word v (sk.Plain 31) ∷ [] = heads_same _ _ d None params in
    let specs : spec_word u (sk.Plain w) ≡ spec_word v (sk.Plain 31) = ap (first_spec (spec_word v (sk.Plain 31))) heads in
    no_clash w apart (words_same w 31 (kinds_same u v _ _ specs))
