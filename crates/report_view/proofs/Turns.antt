-- One more turn of the loops over sites and lines.
use Rattle.std.proofs.Common.{◌≡◌, ℕ, ◌+◌, ◌<◌, ◌≤◌, Bool, true, false, List, [], ◌∷◌, ◌++◌, All, Option, map, take, get_or, length, count_by, if◌then◌else◌, sym, ap, ap₂, ◌∙◌, arith}
use Rattle.std.specs.List.{flat_map}
use Rattle.std.proofs.lemmas.List.{flat_map_more, map-append, take_more}
use Rattle.std.proofs.lemmas.List.Elements.{All-push, All-same}
use Rattle.std.proofs.lemmas.List.Sums.{count_by_more_yes, count_by_more_no}
use Rattle.sv_base.specs.declared.colour.Colour.{Colour}
use Rattle.report.specs.declared.line.Line.{Line}
use Rattle.report_view.specs.Sites.{key_text, whole_key}
use Rattle.report_view.specs.Changes.{colour_in, rise_line, rise_lines}
use Rattle.report_view.specs.declared.site.Site.{Site}

-- the first elements with one more
one_more : {X : Type 0} (xs : List X) (i : ℕ) (x : X) → i < length xs → x ≡ get_or xs i x → take (i + 1) xs ≡ take i xs ++ x ∷ []
one_more xs i x inside is = take_more xs i x inside ∙ ap (λ y. take i xs ++ y ∷ []) (sym is)

pub counted_below : (r : Bool) (count i next : ℕ) → next ≡ (if r then count + 1 else count) → count ≤ i → next ≤ i + 1
counted_below true count i next e h = omega arith
counted_below false count i next e h = omega arith

pub counted_more : (p : Site → Bool) (to : List Site) (i : ℕ) (s : Site) (r : Bool) (count next : ℕ) → i < length to → s ≡ get_or to i s → r ≡ p s
    → count ≡ count_by p (take i to) → next ≡ (if r then count + 1 else count) → next ≡ count_by p (take (i + 1) to)
counted_more p to i s true count next inside is passes was now =
    now ∙ ap (λ n. n + 1) was ∙ sym (count_by_more_yes p to i s inside (sym (passes ∙ ap p is)))
counted_more p to i s false count next inside is passes was now =
    now ∙ was ∙ sym (count_by_more_no p to i s inside (sym (passes ∙ ap p is)))

pub risen : (label : List ℕ) (from to : List Site) (i : ℕ) (s : Site) (before : Option Colour) (start old new : List ℕ) → i < length to → s ≡ get_or to i s
    → before ≡ colour_in from (whole_key s) → old ≡ start ++ rise_lines label from (take i to) → new ≡ old ++ rise_line label before s
    → new ≡ start ++ rise_lines label from (take (i + 1) to)
risen label from to i s before start old new inside is same was now =
    let f : Site → List ℕ = λ t. rise_line label (colour_in from (whole_key t)) t in
    now ∙ ap (λ b. old ++ rise_line label b s) same ∙ ap (λ o. o ++ f s) was ∙ flat_map_more f start (take i to) s
    ∙ ap (λ ts. start ++ flat_map f ts) (sym (one_more to i s inside is))

pub pushed_lines : (lines : List Line) (i : ℕ) (l : Line) (sites new : List Site) (s : Site) → i < length lines → l ≡ get_or lines i l → s.line.now ≡ l
    → map (λ t. t.line.now) sites ≡ take i lines → new ≡ sites ++ s ∷ [] → map (λ t. t.line.now) new ≡ take (i + 1) lines
pushed_lines lines i l sites new s inside is same was now =
    let f : Site → Line = λ t. t.line.now in
    ap (λ ts. map f ts) now ∙ map-append f sites (s ∷ []) ∙ ap₂ (λ (a : List Line) (b : Line). a ++ b ∷ []) was same ∙ sym (one_more lines i l inside is)

abbrev IsNamed : Site → Type 0
IsNamed s = s.key.items ≡ key_text s.line.now s.text.now

pub pushed_keys : (sites new : List Site) (s : Site) → All (λ t. t.key.items ≡ key_text t.line.now t.text.now) sites
    → s.key.items ≡ key_text s.line.now s.text.now → new ≡ sites ++ s ∷ [] → All (λ t. t.key.items ≡ key_text t.line.now t.text.now) new
pushed_keys sites new s all one now = All-same IsNamed new (sites ++ s ∷ []) now (All-push IsNamed sites s all one)
