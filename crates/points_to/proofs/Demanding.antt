-- What a constraint demands, for fewer or for more members, and where more is found.
use Rattle.std.proofs.Common.{◌≡◌, ℕ, ◌<◌, true, false, Option, Some, List, length, get_or, slice_get, refl, sym, ap, ◌∙◌, subst}
use Rattle.std.proofs.lemmas.Bool.{true≢false}
use Rattle.core_ir.specs.declared.classes.ClassTable.{ClassTable}
use Rattle.core_ir.specs.declared.artifacts.Constraint.{Constraint}
use Rattle.points_to.specs.declared.rule.Rule.{Rule}
use Rattle.points_to.specs.declared.rule.Rule.TheVariants as rules
use Rattle.points_to.specs.declared.progress.Progress.{Progress}
use Rattle.points_to.specs.Sets.{has}
use Rattle.points_to.specs.Families.{Relation, Has, family_of}
use Rattle.points_to.specs.Rules.{Demands, IsCopied, rule_of, leaves_in, parts_in, entry_node, result_node}
use Rattle.points_to.specs.computed.RuleParts.{Each, TakesLeaves, GivesLeaves, TakesParts, TakesObject, TakesObjects}
use Rattle.points_to.specs.computed.Progress.{IsMet, edges_of, known_of}
use Rattle.points_to.specs.computed.Readers.{reads_target, reads_source}
use Rattle.points_to.proofs.Copied.{copied_one, copied_all}
use Rattle.points_to.proofs.Each.{has_place, place_has}
use Rattle.points_to.proofs.Steps.{Lasts, asked_as, at_here}
use Rattle.points_to.proofs.Links.{AskedEdge, same_some}

-- for fewer members, and with more edges and members
pub demands_fewer : (t : ClassTable) (r : Rule) (c : Constraint) (T S T' S' : ℕ → Type 0) (f g f' g' : Relation) → ((x : ℕ) → T' x → T x) → ((y : ℕ) → S' y → S y)
    → ((a b : ℕ) → f a b → f' a b) → ((a b : ℕ) → g a b → g' a b) → Demands t r c T S f g → Demands t r c T' S' f' g'
demands_fewer t rules.Address c T S T' S' f g f' g' tt' ss' ff gg h = gg c.target c.source h
demands_fewer t rules.Copy c T S T' S' f g f' g' tt' ss' ff gg h = ff c.source c.target h
demands_fewer t rules.Load c T S T' S' f g f' g' tt' ss' ff gg h = λ x k leaf node s l n. ff node c.target (h x k leaf node (ss' x s) l n)
demands_fewer t rules.Store c T S T' S' f g f' g' tt' ss' ff gg h = λ x k leaf node s l n. ff c.source node (h x k leaf node (tt' x s) l n)
demands_fewer t rules.SubObject c T S T' S' f g f' g' tt' ss' ff gg h = λ x k part s l n. gg c.target part.«class» (h x k part (ss' x s) l n)
demands_fewer t rules.ObjectCopy c T S T' S' f g f' g' tt' ss' ff gg h = λ x y to from a b m. ff from to (h x y to from (tt' x a) (ss' y b) m)
demands_fewer t rules.Argument c T S T' S' f g f' g' tt' ss' ff gg h = λ x node s n. ff c.source node (h x node (tt' x s) n)
demands_fewer t rules.Result c T S T' S' f g f' g' tt' ss' ff gg h = λ x node s n. ff node c.target (h x node (ss' x s) n)
demands_fewer t rules.Unknown c T S T' S' f g f' g' tt' ss' ff gg h = tt

pub demands_last : (t : ClassTable) (r : Rule) (c : Constraint) (T S : ℕ → Type 0) → Lasts (Demands t r c T S)
demands_last t r c T S p q kept =
    demands_fewer t r c T S T S (Has (edges_of p)) (Has (known_of p)) (Has (edges_of q)) (Has (known_of q)) (λ x h. h) (λ y h. h) kept.edges kept.known

-- ---- one member

module _ (t : ClassTable) (c : Constraint) (member : ℕ) (p q : Progress) (S : ℕ → Type 0) where
  abbrev One : ℕ → Type 0
  One x = x ≡ member

  pub store_one : IsMet (λ flows gets. GivesLeaves t flows c.source member) p q → IsMet (Demands t rules.Store c One S) p q
  unfolding GivesLeaves
  store_one =
      asked_as (λ flows gets. GivesLeaves t flows c.source member) (Demands t rules.Store c One S) p q
      (λ flows gets h x k leaf node e l n. h k leaf (ap (λ z. slice_get (leaves_in t z) k) (sym e) ∙ l) node n)
      (λ flows gets h k leaf l node n. h member k leaf node refl l n)

  pub load_one : IsMet (λ flows gets. TakesLeaves t flows member c.target) p q → IsMet (Demands t rules.Load c S One) p q
  unfolding TakesLeaves
  load_one =
      asked_as (λ flows gets. TakesLeaves t flows member c.target) (Demands t rules.Load c S One) p q
      (λ flows gets h x k leaf node e l n. h k leaf (ap (λ z. slice_get (leaves_in t z) k) (sym e) ∙ l) node n)
      (λ flows gets h k leaf l node n. h member k leaf node refl l n)

  pub part_one : IsMet (λ flows gets. TakesParts t gets c.third member c.target) p q → IsMet (Demands t rules.SubObject c S One) p q
  unfolding TakesParts
  part_one =
      asked_as (λ flows gets. TakesParts t gets c.third member c.target) (Demands t rules.SubObject c S One) p q
      (λ flows gets h x k part e l n. h k part (ap (λ z. slice_get (parts_in t z) k) (sym e) ∙ l) n)
      (λ flows gets h k part l n. h member k part refl l n)

  pub argument_one : (entry : Option ℕ) → entry ≡ entry_node t member c.third → IsMet (AskedEdge (Some c.source) entry) p q → IsMet (Demands t rules.Argument c One S) p q
  argument_one entry is =
      asked_as (AskedEdge (Some c.source) entry) (Demands t rules.Argument c One S) p q
      (λ flows gets h x node e n. h node (is ∙ ap (λ z. entry_node t z c.third) (sym e) ∙ n) c.source refl)
      (λ flows gets h node n from e. subst (λ z. flows z node) (same_some c.source from e) (h member node refl (sym is ∙ n)))

  pub result_one : (outcome : Option ℕ) → outcome ≡ result_node t member → IsMet (AskedEdge outcome (Some c.target)) p q → IsMet (Demands t rules.Result c S One) p q
  result_one outcome is =
      asked_as (AskedEdge outcome (Some c.target)) (Demands t rules.Result c S One) p q
      (λ flows gets h x node e n. h c.target refl node (is ∙ ap (λ z. result_node t z) (sym e) ∙ n))
      (λ flows gets h to e node n. subst (λ z. flows node z) (same_some c.target to e) (h member node refl (sym is ∙ n)))

  pub copy_to_one : IsMet (λ flows gets. (y : ℕ) → S y → TakesObject t flows c.third member y) p q → IsMet (Demands t rules.ObjectCopy c One S) p q
  copy_to_one =
      asked_as (λ flows gets. (y : ℕ) → S y → TakesObject t flows c.third member y) (Demands t rules.ObjectCopy c One S) p q
      (λ flows gets h x y to from e s m. copied_one t flows c.third member y to from (h y s) (subst (λ z. IsCopied t c.third z y to from) e m))
      (λ flows gets h y s. copied_all t flows c.third member y (λ to from m. h member y to from refl s m))

  pub copy_from_one : IsMet (λ flows gets. (x : ℕ) → S x → TakesObject t flows c.third x member) p q → IsMet (Demands t rules.ObjectCopy c S One) p q
  copy_from_one =
      asked_as (λ flows gets. (x : ℕ) → S x → TakesObject t flows c.third x member) (Demands t rules.ObjectCopy c S One) p q
      (λ flows gets h x y to from s e m. copied_one t flows c.third x member to from (h x s) (subst (λ z. IsCopied t c.third x z to from) e m))
      (λ flows gets h x s. copied_all t flows c.third x member (λ to from m. h x member to from s refl m))

pub as_rule : (t : ClassTable) (r : Rule) (c : Constraint) (T S : ℕ → Type 0) (p q : Progress) → r ≡ rule_of c.rule → IsMet (Demands t r c T S) p q → IsMet (Demands t (rule_of c.rule) c T S) p q
as_rule t r c T S p q e = subst (λ z. IsMet (Demands t z c T S) p q) e

-- ---- several members, one by one

pub each_target : (t : ClassTable) (r : Rule) (c : Constraint) (members : List ℕ) (S : ℕ → Type 0) (f g : Relation) → reads_target r ≡ true
    → Each members (λ m. Demands t r c (λ x. x ≡ m) S f g) → Demands t r c (λ x. has members x ≡ true) S f g
each_target t rules.Store c members S f g e h = λ x k leaf node m l n. let r = has_place members x m in h r.0 x r.1 x k leaf node refl l n
each_target t rules.ObjectCopy c members S f g e h = λ x y to from m s i. let r = has_place members x m in h r.0 x r.1 x y to from refl s i
each_target t rules.Argument c members S f g e h = λ x node m n. let r = has_place members x m in h r.0 x r.1 x node refl n
each_target t rules.Address c members S f g e h = absurd (true≢false (sym e))
each_target t rules.Copy c members S f g e h = absurd (true≢false (sym e))
each_target t rules.Load c members S f g e h = absurd (true≢false (sym e))
each_target t rules.SubObject c members S f g e h = absurd (true≢false (sym e))
each_target t rules.Result c members S f g e h = absurd (true≢false (sym e))
each_target t rules.Unknown c members S f g e h = tt

pub each_source : (t : ClassTable) (r : Rule) (c : Constraint) (members : List ℕ) (T : ℕ → Type 0) (f g : Relation) → reads_source r ≡ true
    → Each members (λ m. Demands t r c T (λ y. y ≡ m) f g) → Demands t r c T (λ y. has members y ≡ true) f g
each_source t rules.Load c members T f g e h = λ x k leaf node m l n. let r = has_place members x m in h r.0 x r.1 x k leaf node refl l n
each_source t rules.SubObject c members T f g e h = λ x k part m l n. let r = has_place members x m in h r.0 x r.1 x k part refl l n
each_source t rules.ObjectCopy c members T f g e h = λ x y to from s m i. let r = has_place members y m in h r.0 y r.1 x y to from s refl i
each_source t rules.Result c members T f g e h = λ x node m n. let r = has_place members x m in h r.0 x r.1 x node refl n
each_source t rules.Address c members T f g e h = absurd (true≢false (sym e))
each_source t rules.Copy c members T f g e h = absurd (true≢false (sym e))
each_source t rules.Store c members T f g e h = absurd (true≢false (sym e))
each_source t rules.Argument c members T f g e h = absurd (true≢false (sym e))
each_source t rules.Unknown c members T f g e h = tt

pub targets_as : (t : ClassTable) (r : Rule) (c : Constraint) (members : List ℕ) (S : ℕ → Type 0) (p q : Progress) → reads_target r ≡ true
    → IsMet (λ flows gets. Each members (λ m. Demands t r c (λ x. x ≡ m) S flows gets)) p q → IsMet (Demands t r c (λ x. has members x ≡ true) S) p q
targets_as t r c members S p q e =
    asked_as (λ flows gets. Each members (λ m. Demands t r c (λ x. x ≡ m) S flows gets)) (Demands t r c (λ x. has members x ≡ true) S) p q
    (λ flows gets h. each_target t r c members S flows gets e h)
    (λ flows gets h k m l. demands_fewer t r c (λ x. has members x ≡ true) S (λ x. x ≡ m) S flows gets flows gets (λ x same. ap (has members) same ∙ place_has members k m l) (λ y s. s) (λ a b z. z) (λ a b z. z) h)

pub sources_as : (t : ClassTable) (r : Rule) (c : Constraint) (members : List ℕ) (T : ℕ → Type 0) (p q : Progress) → reads_source r ≡ true
    → IsMet (λ flows gets. Each members (λ m. Demands t r c T (λ y. y ≡ m) flows gets)) p q → IsMet (Demands t r c T (λ y. has members y ≡ true)) p q
sources_as t r c members T p q e =
    asked_as (λ flows gets. Each members (λ m. Demands t r c T (λ y. y ≡ m) flows gets)) (Demands t r c T (λ y. has members y ≡ true)) p q
    (λ flows gets h. each_source t r c members T flows gets e h)
    (λ flows gets h k m l. demands_fewer t r c T (λ y. has members y ≡ true) T (λ y. y ≡ m) flows gets flows gets (λ x s. s) (λ y same. ap (has members) same ∙ place_has members k m l) (λ a b z. z) (λ a b z. z) h)

-- ---- rules that read no set on a side

pub target_rules : (r : Rule) → (r ≡ rules.Store → ⊥) → (r ≡ rules.ObjectCopy → ⊥) → (r ≡ rules.Argument → ⊥) → reads_target r ≡ false
target_rules rules.Address a b d = refl
target_rules rules.Copy a b d = refl
target_rules rules.Load a b d = refl
target_rules rules.Store a b d = absurd (a refl)
target_rules rules.SubObject a b d = refl
target_rules rules.ObjectCopy a b d = absurd (b refl)
target_rules rules.Argument a b d = absurd (d refl)
target_rules rules.Result a b d = refl
target_rules rules.Unknown a b d = refl

pub source_rules : (r : Rule) → (r ≡ rules.Load → ⊥) → (r ≡ rules.SubObject → ⊥) → (r ≡ rules.ObjectCopy → ⊥) → (r ≡ rules.Result → ⊥) → reads_source r ≡ false
source_rules rules.Address a b d e = refl
source_rules rules.Copy a b d e = refl
source_rules rules.Load a b d e = absurd (a refl)
source_rules rules.Store a b d e = refl
source_rules rules.SubObject a b d e = absurd (b refl)
source_rules rules.ObjectCopy a b d e = absurd (d refl)
source_rules rules.Argument a b d e = refl
source_rules rules.Result a b d e = absurd (e refl)
source_rules rules.Unknown a b d e = refl

-- a set that was listed
pub listed_targets : (t : ClassTable) (layout source : ℕ) (sets : List (List ℕ)) (node : ℕ) (x list : List ℕ) (p q : Progress) → node < length sets → x ≡ get_or sets node x → list ≡ x
    → IsMet (λ flows gets. Each list (λ target. TakesObject t flows layout target source)) p q → IsMet (λ flows gets. (m : ℕ) → Has (family_of sets) node m → TakesObject t flows layout m source) p q
listed_targets t layout source sets node x list p q h is same =
    let is_has = λ (m : ℕ). at_here sets node x m h is ∙ ap (λ s. has s m) (sym same) in
    asked_as (λ flows gets. Each list (λ target. TakesObject t flows layout target source)) (λ flows gets. (m : ℕ) → Has (family_of sets) node m → TakesObject t flows layout m source) p q
    (λ flows gets each m e. let r = has_place list m (sym (is_has m) ∙ e) in each r.0 m r.1)
    (λ flows gets all k m e. all m (is_has m ∙ place_has list k m e))

pub listed_sources : (t : ClassTable) (layout target : ℕ) (sets : List (List ℕ)) (node : ℕ) (x list : List ℕ) (p q : Progress) → node < length sets → x ≡ get_or sets node x → list ≡ x
    → IsMet (λ flows gets. TakesObjects t flows layout target list) p q → IsMet (λ flows gets. (m : ℕ) → Has (family_of sets) node m → TakesObject t flows layout target m) p q
unfolding TakesObjects
listed_sources t layout target sets node x list p q h is same =
    let is_has = λ (m : ℕ). at_here sets node x m h is ∙ ap (λ s. has s m) (sym same) in
    asked_as (λ flows gets. TakesObjects t flows layout target list) (λ flows gets. (m : ℕ) → Has (family_of sets) node m → TakesObject t flows layout target m) p q
    (λ flows gets each m e. let r = has_place list m (sym (is_has m) ∙ e) in each r.0 m r.1)
    (λ flows gets all k m e. all m (is_has m ∙ place_has list k m e))
