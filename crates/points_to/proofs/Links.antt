-- What constraints ask for one member at a time, and nodes of a class table that are in range.
use Rattle.std.proofs.Common.{◌≡◌, ℕ, ◌+◌, ◌-◌, ◌^◌, ◌<◌, ◌≤◌, Bool, true, false, Option, Some, None, List, length, get_or, slice_get, nat_lt, cond, option_and_then, refl, sym, ap, ◌∙◌, subst, inl, inr, arith, min}
use Rattle.std.proofs.lemmas.Bool.{cases_lt}
use Rattle.core_ir.specs.declared.steps.Leaf.{Leaf}
use Rattle.core_ir.specs.declared.steps.Leaf.TheVariants.{Int, Pointer}
use Rattle.core_ir.specs.declared.classes.ClassTable.{ClassTable}
use Rattle.core_ir.specs.declared.classes.PartClass.{PartClass}
use Rattle.core_ir.specs.declared.classes.LayoutPart.{LayoutPart}
use Rattle.core_ir.specs.declared.classes.FunctionNodes.{FunctionNodes}
use Rattle.points_to.specs.declared.progress.Progress.{Progress}
use Rattle.points_to.specs.Families.{Relation}
use Rattle.points_to.specs.Rules.{pointer_node, node_if_pointer, function_of, entry_node, result_node, leaves_in, layouts_in}
use Rattle.points_to.specs.computed.RuleParts.{Each, Then, TakesLeaves, GivesLeaves, TakesLeaf, TakesLike, TakesLayouts, TakesObject}
use Rattle.points_to.specs.Fits.{IsTableWithin, IsFunctionWithin}
use Rattle.points_to.specs.computed.Progress.{IsMet, Stands}
use Rattle.points_to.proofs.Each.{got_at, got_within}
use Rattle.points_to.proofs.Steps.{Lasts, asked_as, idle, kept_after}

pub same_some : {A : Type 0} (x y : A) → Some x ≡ Some y → x ≡ y
same_some x y e = cc

pub just : (a : ℕ) (P : ℕ → Type 0) → P a → Then (Some a) P
just a P p node e = subst P (same_some a node e) p

-- ---- nodes in range

pointer_at : (leaves : List Leaf) (leaf node found : ℕ) (o : Option Leaf) → slice_get leaves leaf ≡ o → node_if_pointer node o ≡ Some found → (node ≡ found) × (leaf < length leaves)
pointer_at leaves leaf node found None e h = absurd (cc)
pointer_at leaves leaf node found (Some (Int t)) e h = absurd (cc)
pointer_at leaves leaf node found (Some Pointer) e h = (same_some node found h, got_within leaves leaf Pointer e)

pub pointer_within : (nodes : ℕ) (t : ClassTable) (leaf : ℕ) → IsTableWithin nodes t → Then (pointer_node t leaf) (λ node. node < nodes)
pointer_within nodes t leaf table node h =
    let r = pointer_at t.leaves.items leaf (t.registers + leaf) node (slice_get t.leaves.items leaf) refl h in
    omega (arith, r.0, r.1, table.leaves)

function_at : (t : ClassTable) (k : ℕ) (b : Bool) (f : FunctionNodes) → cond b None (slice_get t.nodes.items k) ≡ Some f → slice_get t.nodes.items k ≡ Some f
function_at t k true f e = absurd (cc)
function_at t k false f e = e

function_within : (nodes : ℕ) (t : ClassTable) (g : ℕ) (f : FunctionNodes) → IsTableWithin nodes t → function_of t g ≡ Some f → IsFunctionWithin nodes f
function_within nodes t g f table e = table.functions (g - 2 ^ 31) f (function_at t (g - 2 ^ 31) (nat_lt g (2 ^ 31)) f e)

found_in : (find : FunctionNodes → Option ℕ) (o : Option FunctionNodes) (node : ℕ) → option_and_then find o ≡ Some node → (f : FunctionNodes) × (o ≡ Some f) × (find f ≡ Some node)
found_in find None node e = absurd (cc)
found_in find (Some f) node e = (f, refl, e)

pub entry_within : (nodes : ℕ) (t : ClassTable) (g index : ℕ) → IsTableWithin nodes t → Then (entry_node t g index) (λ node. node < nodes)
entry_within nodes t g index table node h =
    let r = found_in (λ f. slice_get f.entries.items index) (function_of t g) node h in
    (function_within nodes t g r.0 table r.1).entries index node r.2

pub result_within : (nodes : ℕ) (t : ClassTable) (g : ℕ) → IsTableWithin nodes t → Then (result_node t g) (λ node. node < nodes)
result_within nodes t g table node h =
    let r = found_in (λ f. f.result) (function_of t g) node h in
    (function_within nodes t g r.0 table r.1).result node r.2

-- ---- what is asked

abbrev pub AskedEdge : Option ℕ → Option ℕ → Relation → Relation → Type 0
AskedEdge from to flows gets = Then to (λ t. Then from (λ f. flows f t))

abbrev pub AskedPart : ℕ → ℕ → PartClass → Relation → Relation → Type 0
AskedPart number to part flows gets = part.part ≡ number → gets to part.«class»

abbrev pub AskedLayout : ClassTable → ℕ → List ℕ → LayoutPart → Relation → Relation → Type 0
AskedLayout t layout sources target flows gets = target.layout ≡ layout → TakesLike t flows target.leaves.items sources

abbrev pub AskedSource : ClassTable → ℕ → List LayoutPart → LayoutPart → Relation → Relation → Type 0
AskedSource t layout targets source flows gets = source.layout ≡ layout → TakesLayouts t flows layout targets source.leaves.items

pub edge_lasts : (from to : Option ℕ) → Lasts (AskedEdge from to)
edge_lasts from to p q kept met t e f h = kept.edges f t (met t e f h)

pub part_lasts : (number to : ℕ) (part : PartClass) → Lasts (AskedPart number to part)
part_lasts number to part p q kept met e = kept.known to part.«class» (met e)

pub like_lasts : (t : ClassTable) (targets sources : List ℕ) → Lasts (λ flows gets. TakesLike t flows targets sources)
unfolding TakesLike TakesLeaf
like_lasts t targets sources p q kept met k x y e h to f from g = kept.edges from to (met k x y e h to f from g)

pub layouts_last : (t : ClassTable) (layout : ℕ) (targets : List LayoutPart) (sources : List ℕ) → Lasts (λ flows gets. TakesLayouts t flows layout targets sources)
unfolding TakesLayouts
layouts_last t layout targets sources p q kept met k x e h = like_lasts t x.leaves.items sources p q kept (met k x e h)

pub object_lasts : (t : ClassTable) (layout x y : ℕ) → Lasts (λ flows gets. TakesObject t flows layout x y)
unfolding TakesObject
object_lasts t layout x y p q kept met k part e h = layouts_last t layout (layouts_in t x) part.leaves.items p q kept (met k part e h)

pub layout_lasts : (t : ClassTable) (layout : ℕ) (sources : List ℕ) (target : LayoutPart) → Lasts (AskedLayout t layout sources target)
layout_lasts t layout sources target p q kept met e = like_lasts t target.leaves.items sources p q kept (met e)

pub source_lasts : (t : ClassTable) (layout : ℕ) (targets : List LayoutPart) (source : LayoutPart) → Lasts (AskedSource t layout targets source)
source_lasts t layout targets source p q kept met e = layouts_last t layout targets source.leaves.items p q kept (met e)

-- ---- what is asked of each element, as the rules say it

pub each_of : {A : Type 0} (asked : A → Relation → Relation → Type 0) (xs ys : List A) (p q : Progress) → xs ≡ ys
    → IsMet (λ flows gets. Each xs (λ x. asked x flows gets)) p q → IsMet (λ flows gets. Each ys (λ x. asked x flows gets)) p q
each_of asked xs ys p q e = subst (λ zs. IsMet (λ flows gets. Each zs (λ x. asked x flows gets)) p q) e

pub gives_all : (t : ClassTable) (from member : ℕ) (p q : Progress) → IsMet (λ flows gets. Each (leaves_in t member) (λ leaf. AskedEdge (Some from) (pointer_node t leaf) flows gets)) p q
    → IsMet (λ flows gets. GivesLeaves t flows from member) p q
unfolding GivesLeaves
gives_all t from member p q =
    asked_as (λ flows gets. Each (leaves_in t member) (λ leaf. AskedEdge (Some from) (pointer_node t leaf) flows gets))
    (λ flows gets. Each (leaves_in t member) (λ leaf. Then (pointer_node t leaf) (λ node. flows from node))) p q
    (λ flows gets h k leaf l node n. h k leaf l node n from refl)
    (λ flows gets h k leaf l node n f e. subst (λ x. flows x node) (same_some from f e) (h k leaf l node n))

pub takes_all : (t : ClassTable) (member to : ℕ) (p q : Progress) → IsMet (λ flows gets. Each (leaves_in t member) (λ leaf. AskedEdge (pointer_node t leaf) (Some to) flows gets)) p q
    → IsMet (λ flows gets. TakesLeaves t flows member to) p q
unfolding TakesLeaves
takes_all t member to p q =
    asked_as (λ flows gets. Each (leaves_in t member) (λ leaf. AskedEdge (pointer_node t leaf) (Some to) flows gets))
    (λ flows gets. Each (leaves_in t member) (λ leaf. Then (pointer_node t leaf) (λ node. flows node to))) p q
    (λ flows gets h k leaf l node n. h k leaf l to refl node n)
    (λ flows gets h k leaf l x e node n. subst (λ y. flows node y) (same_some to x e) (h k leaf l node n))

-- ---- leaf classes at the same places of two lists

abbrev pub LikeFront : ClassTable → List ℕ → List ℕ → ℕ → Relation → Relation → Type 0
LikeFront t targets sources i flows gets = (k target source : ℕ) → k < i → slice_get targets k ≡ Some target → slice_get sources k ≡ Some source → TakesLeaf t flows target source

pub like_none : (t : ClassTable) (targets sources : List ℕ) (p : Progress) → Stands p → IsMet (LikeFront t targets sources 0) p p
like_none t targets sources p stands = idle (LikeFront t targets sources 0) p stands (λ k x y l e f. absurd (omega (arith, l)))

pub like_more : (t : ClassTable) (targets sources : List ℕ) (i : ℕ) (p q r : Progress) → i < length targets → i < length sources → IsMet (LikeFront t targets sources i) p q
    → IsMet (AskedEdge (pointer_node t (get_or sources i 0)) (pointer_node t (get_or targets i 0))) q r → IsMet (LikeFront t targets sources (i + 1)) p r
unfolding TakesLeaf
like_more t targets sources i p q r ht hs front one = record {
  kept = kept_after p q r front.kept one.kept;
  met = λ k x y l e f to a from b. elim (cases_lt k i) [
    | inl less ↦ one.kept.edges from to (front.met k x y less e f to a from b)
    | inr more ↦
        let here : k ≡ i = omega arith in
        let is_x : get_or targets i 0 ≡ x = same_some (get_or targets i 0) x (sym (got_at targets i 0 ht) ∙ ap (slice_get targets) (sym here) ∙ e) in
        let is_y : get_or sources i 0 ≡ y = same_some (get_or sources i 0) y (sym (got_at sources i 0 hs) ∙ ap (slice_get sources) (sym here) ∙ f) in
        one.met to (ap (pointer_node t) is_x ∙ a) from (ap (pointer_node t) is_y ∙ b)
  ];
  within = λ family w a. one.within family (front.within family w (λ k x y l e f. a k x y (omega (arith, l)) e f))
      (λ to n from m. a i (get_or targets i 0) (get_or sources i 0) (omega arith) (got_at targets i 0 ht) (got_at sources i 0 hs) to n from m);
}

pub like_all : (t : ClassTable) (targets sources : List ℕ) (i : ℕ) (p q : Progress) → min (length targets) (length sources) ≤ i → IsMet (LikeFront t targets sources i) p q
    → IsMet (λ flows gets. TakesLike t flows targets sources) p q
unfolding TakesLike
like_all t targets sources i p q h front = record {
  kept = front.kept;
  met = λ k x y e f. front.met k x y (omega (arith, h, got_within targets k x e, got_within sources k y f)) e f;
  within = λ family w a. front.within family w (λ k x y l e f. a k x y e f);
}
