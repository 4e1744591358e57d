-- The nodes of the first registers of functions, one after another.
use Rattle.std.proofs.Common.{◌≡◌, ℕ, zero, suc, ◌+◌, ◌<◌, ◌≤◌, ◌^◌, List, [], ◌∷◌, length, slice_index, Some, None, slice_get, refl, ap, arith}
use Rattle.core_ir.specs.declared.program.Function.{Function}
use Rattle.pt_facts.specs.computed.Bases.{bases_from}
use Rattle.pt_facts.specs.Nodes.{base_of, register_count, registers_of}

none_some : {A B : Type 0} (x : A) → None ≡ Some x → B
none_some x e = absurd (cc)

in_some : {A : Type 0} (x y : A) → Some x ≡ Some y → x ≡ y
in_some x y e = cc

pub found_below : (fs : List Function) (i : ℕ) (f : Function) → slice_get fs i ≡ Some f → i < length fs
found_below [] i f e = none_some f e
found_below (g ∷ fs) zero f e = omega arith
found_below (g ∷ fs) (suc i) f e = omega (arith, found_below fs i f e)

lengths : (base : ℕ) (fs : List Function) → length (bases_from base fs) ≡ length fs
lengths base [] = refl
lengths base (g ∷ fs) = ap suc (lengths (base + register_count g) fs)

index_from : (base : ℕ) (fs : List Function) (i : ℕ) → i < length fs → slice_index (bases_from base fs) i ≡ base + base_of fs i
index_from base [] i h = absurd (omega (arith, h))
index_from base (g ∷ fs) zero h = omega arith
index_from base (g ∷ fs) (suc i) h = omega (arith, index_from (base + register_count g) fs i (omega (arith, h)))

pub index_below : (bases : List ℕ) (fs : List Function) (i : ℕ) → bases ≡ bases_from 0 fs → i < length fs → i < length bases
index_below bases fs i is h = omega (arith, h, ap length is, lengths 0 fs)

pub base_index : (bases : List ℕ) (fs : List Function) (i : ℕ) → bases ≡ bases_from 0 fs → i < length fs → slice_index bases i ≡ base_of fs i
base_index bases fs i is h = omega (arith, ap (λ bs. slice_index bs i) is, index_from 0 fs i h)

room_at : (fs : List Function) (i : ℕ) (f : Function) → slice_get fs i ≡ Some f → base_of fs i + register_count f ≤ registers_of fs
room_at [] i f e = none_some f e
room_at (g ∷ fs) zero f e =
    let same : register_count g ≡ register_count f = ap register_count (in_some g f e) in
    omega (arith, same)
room_at (g ∷ fs) (suc i) f e = omega (arith, room_at fs i f e)

pub room_for : (fs : List Function) (i : ℕ) (f : Function) (entry : ℕ) → entry ≡ base_of fs i → slice_get fs i ≡ Some f → registers_of fs < 2 ^ 32 → entry + register_count f < 2 ^ 32
room_for fs i f entry is found few = omega (arith, is, room_at fs i f found, few)
