-- What the analysis of a function asks of what it reads beside the function: a view, facts, an older artifact.
use Rattle.std.specs.Prelude.{◌≡◌, ℕ, ◌+◌, ◌-◌, ◌<◌, ◌≤◌, ◌^◌, ◌⊎◌, Bool, true, false, ◌==◌, nat_lt, if◌then◌else◌, ◌≤ℤ◌, List, [], ◌∷◌, ◌++◌, length, map, find, filter, filter_map, flat_map, option_to_list, option_map, Option, Some, None, slice_get, slice_index_or}
use Rattle.std.specs.List.{AllByRecursion, range_with_len}
use Rattle.core_ir.specs.declared.artifacts.WritePart.{WritePart}
use Rattle.core_ir.specs.declared.steps.Callee.{Callee}
use Rattle.core_ir.specs.declared.steps.Callee.TheVariants.{Direct, Through, External}
use Rattle.core_ir.specs.declared.steps.Leaf.{Leaf}
use Rattle.core_ir.specs.BoundsFit.{AllBoundsFit, SomeBoundsFit, ClustersFit, register_range, context_ranges, result_ranges}
use Rattle.core_ir.specs.Classes.{copied_by}
use Rattle.core_ir.specs.Lists.{has, IsAscending}
use Rattle.core_ir.specs.Plain.{PlainArtifact, PlainCall}
use Rattle.core_ir.specs.Programs.{PlainExternal, PlainFunction, PlainLayout, PlainProgram, PlainRegion}
use Rattle.core_ir.specs.Ranges.{leaf_range, Includes}
use Rattle.core_ir.specs.Starts.{begun_by, begun_in}
use Rattle.core_ir.specs.Steps.{PlainStep, Check, Load, Store, CopyObject, Call, in_order}
use Rattle.core_ir.specs.StepsFit.{function_count}
use Rattle.core_ir.specs.Views.{PlainCallee, PlainClass, PlainFacts, PlainLeaf, PlainView}

-- ---- sets

-- a region class or a function of the program
abbrev pub IsTarget : PlainProgram → ℕ → Type 0
IsTarget p n = (n < length p.classes.regions) ⊎ ((2 ^ 31 ≤ n) × (n < 2 ^ 31 + function_count p))

pub record SetFits (p : PlainProgram) (set : List ℕ) : Type 0 where
  pub ascending : IsAscending set
  pub targets : AllByRecursion (IsTarget p) set

-- a set for each register
pub record SetsFit (p : PlainProgram) (f : PlainFunction) (sets : List (List ℕ)) : Type 0 where
  pub count : length sets ≡ length f.registers
  pub each : AllByRecursion (SetFits p) sets

abbrev pub is_region_class : ℕ → Bool
is_region_class n = nat_lt n (2 ^ 31)

abbrev pub region_classes : List ℕ → List ℕ
region_classes set = filter is_region_class set

-- ---- callees

abbrev pub kind_of_external : Option PlainExternal → Option ℕ
kind_of_external None = None
kind_of_external (Some x) = Some x.kind

-- the type of a function, of which the external ones come last
abbrev pub kind_of : PlainProgram → ℕ → Option ℕ
kind_of p g = if nat_lt g (length p.functions) then option_map (λ f. f.kind) (slice_get p.functions g) else kind_of_external (slice_get p.externals (g - length p.functions))

abbrev pub function_in : ℕ → Option ℕ
function_in n = if is_region_class n then None else Some (n - 2 ^ 31)

abbrev pub has_kind : PlainProgram → ℕ → ℕ → Bool
has_kind p kind g = has (option_to_list (kind_of p g)) kind

-- the functions that a call may call: through a register those of its set that have the called type
abbrev pub called : PlainProgram → List (List ℕ) → Callee → List ℕ
called p sets (Direct g) = g.0 ∷ []
called p sets (External e) = (length p.functions + e) ∷ []
called p sets (Through r kind) = filter (has_kind p kind) (filter_map function_in (slice_index_or sets r []))

abbrev pub called_by : PlainProgram → List (List ℕ) → PlainStep → List ℕ
called_by p sets (Call to callee args) = called p sets callee
called_by p sets step = []

-- what is said of a defined function
pub record DefinedFits (part : PlainCallee) (g : PlainFunction) : Type 0 where
  pub kind : part.kind ≡ g.kind
  pub external : part.external ≡ false
  pub parameters : part.parameters ≡ g.parameters
  pub ranges : part.ranges ≡ map (register_range g) (range_with_len 0 g.parameters)
  pub result_register : part.result_register ≡ g.result
  pub clusters : ClustersFit (length g.registers) part.clusters
  pub result : SomeBoundsFit (result_ranges g part.clusters) part.result

-- what is said of an external one, of which nothing else is read
pub record ExternalFits (part : PlainCallee) (x : PlainExternal) : Type 0 where
  pub kind : part.kind ≡ x.kind
  pub external : part.external ≡ true
  pub ranges : part.ranges ≡ []

abbrev pub IsDefined : PlainCallee → Option PlainFunction → Type 0
IsDefined part None = ⊥
IsDefined part (Some g) = DefinedFits part g

abbrev pub IsExternal : PlainCallee → Option PlainExternal → Type 0
IsExternal part None = ⊥
IsExternal part (Some x) = ExternalFits part x

abbrev pub CalleePartFitsBy : PlainProgram → PlainCallee → Bool → Type 0
CalleePartFitsBy p part true = IsDefined part (slice_get p.functions part.callee)
CalleePartFitsBy p part false = IsExternal part (slice_get p.externals (part.callee - length p.functions))

abbrev pub CalleePartFits : PlainProgram → PlainCallee → Type 0
CalleePartFits p part = CalleePartFitsBy p part (nat_lt part.callee (length p.functions))

-- ---- classes

abbrev pub leaf_of_class : PlainProgram → ℕ → Option Leaf
leaf_of_class p class = slice_get p.classes.leaves class

-- the rivals of a leaf class with what they hold
abbrev pub rival_of : PlainProgram → ℕ → Option (ℕ × Leaf)
rival_of p class = option_map (λ leaf. (class, leaf)) (leaf_of_class p class)

abbrev pub leaf_part : PlainProgram → ℕ → Leaf → PlainLeaf
leaf_part p class leaf = record { class = class; leaf = leaf; rivals = filter_map (rival_of p) (slice_index_or p.classes.rivals class []) }

abbrev pub leaf_part_of : PlainProgram → ℕ → Option PlainLeaf
leaf_part_of p class = option_map (leaf_part p class) (leaf_of_class p class)

abbrev pub of_layout : ℕ → List PlainLayout → List PlainLayout
of_layout layout parts = filter (λ part. part.layout == layout) parts

-- what is said of a region class: of the types that the steps copy, all sub-objects in order
pub record RegionFits (p : PlainProgram) (copied : List ℕ) (part : PlainClass) (region : PlainRegion) : Type 0 where
  pub length_is : part.length ≡ region.length
  pub leaves : part.leaves ≡ filter_map (leaf_part_of p) region.leaves
  pub layouts : AllByRecursion (λ layout. of_layout layout part.layouts ≡ of_layout layout region.layouts) copied

abbrev pub IsRegion : PlainProgram → List ℕ → PlainClass → Option PlainRegion → Type 0
IsRegion p copied part None = ⊥
IsRegion p copied part (Some region) = RegionFits p copied part region

abbrev pub ClassFits : PlainProgram → List ℕ → PlainClass → Type 0
ClassFits p copied part = IsRegion p copied part (slice_get p.classes.regions part.class)

-- ---- intervals of leaf classes

pub record IntervalFits (part : WritePart) (leaf : Leaf) : Type 0 where
  pub ends : part.low ≤ℤ part.high
  pub range : Includes (leaf_range leaf) (part.low, part.high)

abbrev pub IsInterval : WritePart → Option Leaf → Type 0
IsInterval part None = ⊥
IsInterval part (Some leaf) = IntervalFits part leaf

-- by leaf class, ascending; each interval lies in the range of its class
pub record IntervalsFit (p : PlainProgram) (parts : List WritePart) : Type 0 where
  pub order : IsAscending (map (λ part. part.class) parts)
  pub each : AllByRecursion (λ part. IsInterval part (leaf_of_class p part.class)) parts

-- ---- all that steps of a function read beside the state. Parts ascend by their numbers, so that each number has one

pub record PartsFit (p : PlainProgram) (f : PlainFunction) (steps : List PlainStep) (sets : List (List ℕ)) (callees : List PlainCallee) (leaves : List WritePart) (classes : List PlainClass) : Type 0 where
  pub sets_fit : SetsFit p f sets
  pub callee_order : IsAscending (map (λ part. part.callee) callees)
  pub callees_fit : AllByRecursion (CalleePartFits p) callees
  -- each function that a step may call has its part
  pub callees_there : AllByRecursion (λ g. has (map (λ part. part.callee) callees) g ≡ true) (flat_map (called_by p sets) steps)
  -- a leaf class without a part holds no number yet
  pub leaves_fit : IntervalsFit p leaves
  pub class_order : IsAscending (map (λ part. part.class) classes)
  pub classes_fit : AllByRecursion (ClassFits p (filter_map copied_by steps)) classes

-- each of these region classes has its part
abbrev pub HaveParts : List PlainClass → List ℕ → Type 0
HaveParts parts classes = AllByRecursion (λ class. has (map (λ part. part.class) parts) class ≡ true) classes

-- a view fits a function of a program
pub record ViewFits (p : PlainProgram) (f : PlainFunction) (view : PlainView) : Type 0 where
  pub parts : PartsFit p f (in_order f.body) view.sets view.callees view.leaves view.classes
  -- those of all sets, and the objects that the function begins
  pub classes_there : HaveParts view.classes (flat_map region_classes view.sets ++ begun_in f)
  pub clusters : ClustersFit (length f.registers) view.clusters
  pub context : SomeBoundsFit (context_ranges f view.clusters) view.context

-- the registers of the addresses at which a step looks
abbrev pub addresses_of : PlainStep → List ℕ
addresses_of (Check site address width) = address ∷ []
addresses_of (Load to address leaf volatile) = address ∷ []
addresses_of (Store address value leaf) = address ∷ []
addresses_of (CopyObject to from layout) = to ∷ from ∷ []
addresses_of step = []

abbrev pub classes_at : List (List ℕ) → ℕ → List ℕ
classes_at sets r = region_classes (slice_index_or sets r [])

-- facts fit a step of a function of a program: they have what the step names
pub record FactsFit (p : PlainProgram) (f : PlainFunction) (step : PlainStep) (facts : PlainFacts) : Type 0 where
  pub parts : PartsFit p f (step ∷ []) facts.sets facts.callees facts.leaves facts.classes
  -- those of the step's addresses, and the object that it begins
  pub classes_there : HaveParts facts.classes (flat_map (classes_at facts.sets) (addresses_of step) ++ filter_map begun_by (step ∷ []))

-- the facts that a view has for each step
abbrev pub facts_in : PlainView → Bool → PlainFacts
facts_in view rising = record { sets = view.sets; callees = view.callees; leaves = view.leaves; classes = view.classes; rising = rising }

-- ---- contributions and artifacts

-- the clusters of a callee
abbrev pub clusters_in : List PlainCallee → ℕ → Option (List (List ℕ))
clusters_in callees g = option_map (λ part. part.clusters) (find (λ part. part.callee == g) callees)

abbrev pub EntryFits : Option PlainFunction → Option (List (List ℕ)) → PlainCall → Type 0
EntryFits (Some g) (Some clusters) call = AllBoundsFit (context_ranges g clusters) call.entry
EntryFits g clusters call = ⊥

-- a contribution to the context of a callee, which has the form of a context
abbrev pub CallPartFits : PlainProgram → List PlainCallee → PlainCall → Type 0
CallPartFits p callees call = EntryFits (slice_get p.functions call.callee) (clusters_in callees call.callee) call

-- contributions to callees, ascending, and to leaf classes
pub record ContributionsFit (p : PlainProgram) (callees : List PlainCallee) (calls : List PlainCall) (writes : List WritePart) : Type 0 where
  pub order : IsAscending (map (λ call. call.callee) calls)
  pub each : AllByRecursion (CallPartFits p callees) calls
  pub writes_fit : IntervalsFit p writes

-- an older artifact of a function fits its view
pub record ArtifactFits (p : PlainProgram) (f : PlainFunction) (view : PlainView) (artifact : PlainArtifact) : Type 0 where
  pub context : SomeBoundsFit (context_ranges f view.clusters) artifact.context
  pub result : SomeBoundsFit (result_ranges f view.clusters) artifact.result
  pub contributions : ContributionsFit p view.callees artifact.calls artifact.writes
