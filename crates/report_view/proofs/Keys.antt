-- Maps whose keys are vectors of bytes, read by these bytes.
use Rattle.std.proofs.Common.{◌≡◌, ℕ, ◌+◌, ◌<◌, Bool, true, false, cond, List, Option, Some, Vec, take, get_or, length, sym, subst, ◌∙◌, ⊎_elim, arith}
use Rattle.std.specs.declared.alloc.Global.{Global}
use Rattle.std.specs.Str.{bytes_eq}
use Rattle.std.specs.Map.{lookup, KeepsOthers, IsKeyTest, AreApart}
use Rattle.std.specs.HashMap.{HashMap, UpdatesBy, get_by}
use Rattle.std.proofs.lemmas.Bool.{cases_Bool, cond-true, cond-false}
use Rattle.std.proofs.lemmas.Cmp.{nat_list_eq_equiv}
use Rattle.std.proofs.lemmas.Grind.{common_steps}
use Rattle.std.proofs.lemmas.Slice.Eq.{bytes_eq-Decides}
use Rattle.report_view.specs.Sites.{whole_key}
use Rattle.report_view.specs.Changes.{colour_in}
use Rattle.report_view.specs.declared.site.Site.{Site}

-- bytes that differ from others are not the same as what these are
apart : (bs cs ks : List ℕ) → bytes_eq bs cs ≡ false → bytes_eq bs ks ≡ true → bytes_eq cs ks ≡ false
apart bs cs ks n y = nat_list_eq_equiv.symm cs ks ∙ sym (nat_list_eq_equiv.congr bs ks cs y) ∙ n

other_entries : {K X : Type 0} (eq : K → K → Bool) (test : K → Bool) (old new : List (K × X)) → KeepsOthers eq test old new
    → (other : K → Bool) → IsKeyTest eq other → AreApart test other → lookup other new ≡ lookup other old
unfolding KeepsOthers
other_entries eq test old new h = h

-- after a change at some bytes
pub updates_bytes : {X S : Type 0} (bs : List ℕ) (m n : HashMap (Vec ℕ Global) X S) (w : Option X)
    → UpdatesBy (λ x y. bytes_eq x.items y.items) (λ k. bytes_eq bs k.items) m n w
    → (q : List ℕ) → get_by (λ k. bytes_eq q k.items) n ≡ cond (bytes_eq bs q) w (get_by (λ k. bytes_eq q k.items) m)
updates_bytes bs m n w h q =
    ⊎_elim
    (λ y. subst (λ l. get_by (λ k. bytes_eq l k.items) n ≡ w) ((bytes_eq-Decides bs q).0 y) h.1 ∙ sym (cond-true (bytes_eq bs q) w _ y))
    (λ e. other_entries _ _ _ _ h.3 _ (λ x y. nat_list_eq_equiv.congr q x.items y.items) (λ k. apart bs q k.items e) ∙ sym (cond-false (bytes_eq bs q) w _ e))
    (cases_Bool (bytes_eq bs q))

-- one more site
pub colour_in_more : (sites : List Site) (i : ℕ) (d : Site) (q : List ℕ) → i < length sites
    → colour_in (take (i + 1) sites) q
    ≡ cond (bytes_eq (whole_key (get_or sites i d)) q) (Some (get_or sites i d).line.now.colour) (colour_in (take i sites) q)
colour_in_more sites i d q inside = grind (arith, common_steps)
