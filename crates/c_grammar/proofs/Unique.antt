-- A list of tokens has at most one tree: the one that the reader makes.
use Rattle.std.proofs.Common.{◌≡◌, ℕ, zero, suc, ◌+◌, true, false, List, [], ◌∷◌, Some, refl, sym, ap, ◌∙◌, arith}
use Rattle.c_tree.specs.declared.lexeme.Lexeme.{Lexeme}
use Rattle.c_tree.specs.declared.tree.Item.{Item as External}
use Rattle.c_grammar.specs.Derives.{Derives}
use Rattle.c_grammar.specs.Files.{IsFile}
use Rattle.c_grammar.specs.Items.{Sym, In, Out, Item, nt}
use Rattle.c_grammar.specs.Productions.{Rule}
use Rattle.c_grammar.specs.State.{State, start}
use Rattle.c_grammar.proofs.Categories.{sees}
use Rattle.c_grammar.proofs.Choices.{choose, stands_first, stands_special}
use Rattle.c_grammar.proofs.ChoicesOfDeclarations.{chosen_SpecifierForm, chosen_DirectOf, chosen_DeclaratorOf, chosen_MoreEnumerators, chosen_MoreEntries, chosen_MoreParameters}
use Rattle.c_grammar.proofs.ChoicesOfExpressions.{chosen_Cast, chosen_Unary}
use Rattle.c_grammar.proofs.ChoicesOfFiles.{chosen_ExternalDeclaration}
use Rattle.c_grammar.proofs.ChoicesOfParameters.{chosen_Parameters}
use Rattle.c_grammar.proofs.Entries.{entry_of}
use Rattle.c_grammar.proofs.Firsts.{conts}
use Rattle.c_grammar.proofs.Parts.{Parts, deeper_by, of_derivation}
use Rattle.c_grammar.proofs.RulePrograms.{productions}
use Rattle.c_grammar.proofs.Programs.{Program, item_at, Made, made, run}
use Rattle.c_grammar.proofs.Readers.{Complete, reader, runs}
use Rattle.c_grammar.proofs.Rows.{row, plain}
use Rattle.c_grammar.proofs.Starts.{starts, follows_of, stands_of}

first_choice : (n : Sym) → plain n ≡ true
    → {k : ℕ} {a : In n} {b : Out n} {items : List Item} {s : State} {ts : List Lexeme} {end : State} {rest : List Lexeme}
    (r : Rule n a b items) → Parts k items s ts end rest → sees (conts n) end rest ≡ false → choose (reader k) n s ts ≡ (entry_of n r).place
first_choice n first {k} r p stop = let e =
    entry_of n r in stands_first (reader k) n e.place (row n e.place) first (stands_of n e.place e.tested first) (starts e.described p) stop

choice : (n : Sym) {k : ℕ} → Complete k
    → {a : In n} {b : Out n} {items : List Item} {s : State} {ts : List Lexeme} {end : State} {rest : List Lexeme}
    (r : Rule n a b items) → Parts k items s ts end rest → sees (conts n) end rest ≡ false → choose (reader k) n s ts ≡ (entry_of n r).place
choice Sym.Cast {k} all {s = s} {ts} r p stop =
    stands_special (reader k) Sym.Cast s ts (entry_of Sym.Cast r).place refl (chosen_Cast (reader k) r p stop)
choice Sym.Unary {k} all {s = s} {ts} r p stop =
    stands_special (reader k) Sym.Unary s ts (entry_of Sym.Unary r).place refl (chosen_Unary (reader k) r p stop)
choice Sym.SpecifierForm {k} all {s = s} {ts} r p stop =
    stands_special (reader k) Sym.SpecifierForm s ts (entry_of Sym.SpecifierForm r).place refl (chosen_SpecifierForm (reader k) r p stop)
choice (Sym.DirectOf m) {k} all {s = s} {ts} r p stop =
    stands_special (reader k) (Sym.DirectOf m) s ts (entry_of (Sym.DirectOf m) r).place refl (chosen_DirectOf (reader k) m r p stop)
choice (Sym.DeclaratorOf m) {k} all {s = s} {ts} r p stop =
    stands_special (reader k) (Sym.DeclaratorOf m) s ts (entry_of (Sym.DeclaratorOf m) r).place refl (chosen_DeclaratorOf all m r p stop)
choice Sym.MoreEnumerators {k} all {s = s} {ts} r p stop =
    stands_special (reader k) Sym.MoreEnumerators s ts (entry_of Sym.MoreEnumerators r).place refl
    (chosen_MoreEnumerators (reader k) r p stop)
choice Sym.MoreEntries {k} all {s = s} {ts} r p stop =
    stands_special (reader k) Sym.MoreEntries s ts (entry_of Sym.MoreEntries r).place refl (chosen_MoreEntries (reader k) r p stop)
choice Sym.MoreParameters {k} all {s = s} {ts} r p stop =
    stands_special (reader k) Sym.MoreParameters s ts (entry_of Sym.MoreParameters r).place refl (chosen_MoreParameters (reader k) r p stop)
choice Sym.Parameters {k} all {s = s} {ts} r p stop =
    stands_special (reader k) Sym.Parameters s ts (entry_of Sym.Parameters r).place refl (chosen_Parameters (reader k) r p stop)
choice Sym.ExternalDeclaration {k} all {s = s} {ts} r p stop =
    stands_special (reader k) Sym.ExternalDeclaration s ts (entry_of Sym.ExternalDeclaration r).place refl
    (chosen_ExternalDeclaration all r p stop)
choice n all r p stop = first_choice n refl r p stop

-- ---- the reader reads what is derived
nothing_at : {k : ℕ} {n : Sym} {a : In n} {b : Out n} {more : List Item} {s : State} {ts : List Lexeme} {end : State} {rest : List Lexeme}
    → k ≡ zero → Parts k (nt n a b ∷ more) s ts end rest → ⊥
nothing_at e (Parts.by r p q) = cc

deep : (n : Sym) {k : ℕ} → Complete k → {a : In n} {b : Out n} {s : State} {ts : List Lexeme} {end : State} {rest : List Lexeme}
    → Parts (suc k) (nt n a b ∷ []) s ts end rest → sees (conts n) end rest ≡ false → reader (suc k) n a s ts ≡ Some (made b end rest)
deep n {k} all {a = a} {s = s} {ts} (Parts.by r p Parts.done) stop =
    let e = entry_of n r in
    ap (λ (i : ℕ). run (reader k) (item_at Program.fail (productions n a) i) s ts) (choice n all r p stop)
    ∙ runs n all e.fits e.described (follows_of n e.place e.tested) p stop

complete : (k : ℕ) → Complete k
complete zero = record { at = λ n a b s ts end rest p stop. absurd (nothing_at refl p) }
complete (suc k) = let all = complete k in record { at = λ n a b s ts end rest p stop. deep n all p stop }

made_is : {A : Type 0} {m o : Made A} → Some m ≡ Some o → m ≡ o
made_is e = cc

pub same_made : (n : Sym) (a : In n) (b c : Out n) (s : State) (tokens : List Lexeme) (end other : State)
    → Derives (nt n a b ∷ []) s tokens end → Derives (nt n a c ∷ []) s tokens other → made b end [] ≡ made c other []
same_made n a b c s tokens end other d g =
    let x = of_derivation d in
    let y = of_derivation g in
    let both = complete (y.depth + x.depth) in
    let p = both.at n a b s tokens end [] (deeper_by x.depth y.depth (y.depth + x.depth) refl x.parts) refl in
    let q = both.at n a c s tokens other [] (deeper_by y.depth x.depth (y.depth + x.depth) (omega arith) y.parts) refl in
    made_is (sym p ∙ q)

pub one_tree : (n : Sym) (a : In n) (b c : Out n) (s : State) (tokens : List Lexeme) (end other : State)
    → Derives (nt n a b ∷ []) s tokens end → Derives (nt n a c ∷ []) s tokens other → b ≡ c
one_tree n a b c s tokens end other d g = ap (λ (m : Made (Out n)). m.value) (same_made n a b c s tokens end other d g)

pub one_end : (n : Sym) (a : In n) (b c : Out n) (s : State) (tokens : List Lexeme) (end other : State)
    → Derives (nt n a b ∷ []) s tokens end → Derives (nt n a c ∷ []) s tokens other → end ≡ other
one_end n a b c s tokens end other d g = ap (λ (m : Made (Out n)). m.state) (same_made n a b c s tokens end other d g)

pub one_file : (tokens : List Lexeme) (xs ys : List External) → IsFile tokens xs → IsFile tokens ys → xs ≡ ys
one_file tokens xs ys f g = one_tree Sym.File tt xs ys start tokens f.end g.end f.derives g.derives
