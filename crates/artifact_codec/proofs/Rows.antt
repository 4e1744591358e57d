-- Constraints, writes, colours and entries are fields too.
use Rattle.std.proofs.Common.{◌≡◌, ℕ, zero, suc, ℤ, Bool, true, false, cond, ◌&&◌, List, [], ◌∷◌, ◌++◌, Option, Some, None, refl, ap, subst, ◌∙◌, append_assoc}
use Rattle.std.proofs.lemmas.Bool.{and_parts, and_from}
use Rattle.sv_base.specs.declared.colour.Colour.{Colour}
use Rattle.sv_base.specs.declared.colour.Colour.TheVariants as colours
use Rattle.sv_base.specs.declared.ids.SiteId.{SiteId}
use Rattle.core_ir.specs.declared.artifacts.Constraint.{Constraint}
use Rattle.core_ir.specs.declared.artifacts.WritePart.{WritePart}
use Rattle.artifact_codec.specs.Spelling.{number, signed, flag, optional, constraint, write, colour_code, site_colour}
use Rattle.artifact_codec.specs.Demands.{is_u32, is_i128, constraint_fits, write_fits}
use Rattle.artifact_codec.specs.computed.Reading.{◌>>=◌, byte_at, number_at, signed_at, flag_at, entry_at, constraint_at, write_at, colour_at, site_colour_at}
use Rattle.artifact_codec.proofs.Parts.{IsBytes, bind_some, some_is, first, Takes, Takes-then, Takes-one, IsField, number_field, signed_field}

abbrev pub any : {A : Type 0} → A → Bool
any x = true

byte_takes : (bytes : List ℕ) (b : ℕ) (rest : List ℕ) → IsBytes bytes → byte_at bytes ≡ Some (b, rest) → Takes bytes (b ∷ []) rest
byte_takes [] b rest fits e = absurd cc
byte_takes (x ∷ bytes) b rest fits e = subst (λ (p : ℕ × List ℕ). Takes (x ∷ bytes) (p.0 ∷ []) p.1) (some_is (x, bytes) (b, rest) e) (Takes-one x bytes fits)

pub byte_field : IsField byte_at (λ b. b ∷ []) any
byte_field = record { takes = λ bytes b rest fits e. (byte_takes bytes b rest fits e, refl); again = λ b rest h. refl }

flag_takes : (bytes : List ℕ) (b : Bool) (rest : List ℕ) → IsBytes bytes → flag_at bytes ≡ Some (b, rest) → Takes bytes (flag b) rest
flag_takes [] b rest fits e = absurd cc
flag_takes (zero ∷ bytes) b rest fits e = subst (λ (p : Bool × List ℕ). Takes (0 ∷ bytes) (flag p.0) p.1) (some_is (false, bytes) (b, rest) e) (Takes-one 0 bytes fits)
flag_takes (suc zero ∷ bytes) b rest fits e = subst (λ (p : Bool × List ℕ). Takes (1 ∷ bytes) (flag p.0) p.1) (some_is (true, bytes) (b, rest) e) (Takes-one 1 bytes fits)
flag_takes (suc (suc x) ∷ bytes) b rest fits e = absurd cc

flag_again : (b : Bool) (rest : List ℕ) → flag_at (flag b ++ rest) ≡ Some (b, rest)
flag_again false rest = refl
flag_again true rest = refl

pub flag_field : IsField flag_at flag any
flag_field = record { takes = λ bytes b rest fits e. (flag_takes bytes b rest fits e, refl); again = λ b rest h. flag_again b rest }

-- ---- a value behind a flag

-- `at` reads a flag, and behind a 1 what `inner` reads
module _ {A : Type 0} (inner : List ℕ → Option (A × List ℕ)) (spell : A → List ℕ) (good : A → Bool) (field : IsField inner spell good) where
  abbrev behind_flag : Bool × List ℕ → Option (Option A × List ℕ)
  behind_flag there = cond there.0 (inner there.1 >>= λ x. Some (Some x.0, x.1)) (Some (None, there.1))

  abbrev pub good_option : Option A → Bool
  good_option None = true
  good_option (Some x) = good x

  behind_takes : (there : Bool × List ℕ) (o : Option A) (rest : List ℕ) → IsBytes there.1 → behind_flag there ≡ Some (o, rest) → (bytes : List ℕ) → Takes bytes (flag there.0) there.1 → Takes bytes (optional spell o) rest × (good_option o ≡ true)
  behind_takes (false, mid) o rest fits e bytes t = subst (λ (p : Option A × List ℕ). Takes bytes (optional spell p.0) p.1 × (good_option p.0 ≡ true)) (some_is (None, mid) (o, rest) e) (t, refl)
  behind_takes (true, mid) o rest fits e bytes t =
      let b = bind_some (inner mid) (λ x. Some (Some x.0, x.1)) (o, rest) e in
      let u = field.takes mid b.0.0 b.0.1 fits b.1 in
      subst (λ (p : Option A × List ℕ). Takes bytes (optional spell p.0) p.1 × (good_option p.0 ≡ true)) (some_is (Some b.0.0, b.0.1) (o, rest) b.2) (Takes-then bytes (1 ∷ []) mid (spell b.0.0) b.0.1 t u.0, u.1)

  optional_again : (o : Option A) (rest : List ℕ) → good_option o ≡ true → (flag_at (optional spell o ++ rest) >>= behind_flag) ≡ Some (o, rest)
  optional_again None rest h = refl
  optional_again (Some x) rest h = ap (λ (r : Option (A × List ℕ)). r >>= λ y. Some (Some y.0, y.1)) (field.again x rest h)

  pub optional_field : IsField (λ bytes. flag_at bytes >>= behind_flag) (optional spell) good_option
  optional_field = record {
    takes = λ bytes o rest fits e.
        let b = bind_some (flag_at bytes) behind_flag (o, rest) e in
        let t = flag_takes bytes b.0.0 b.0.1 fits b.1 in
        behind_takes b.0 o rest t.rest_fits b.2 bytes t;
    again = optional_again;
  }

pub entry_field : IsField entry_at (optional signed) (good_option signed_at signed is_i128 signed_field)
unfolding entry_at
entry_field = optional_field signed_at signed is_i128 signed_field

-- ---- constraints

constraint_joined : (bytes b1 b2 b3 b4 : List ℕ) (r t s u : ℕ) → Takes bytes (r ∷ []) b1 → Takes b1 (number t) b2 → Takes b2 (number s) b3 → Takes b3 (number u) b4 → Takes bytes (constraint (record { rule = r; target = t; source = s; third = u })) b4
constraint_joined bytes b1 b2 b3 b4 r t s u p q v w = Takes-then bytes ((r ∷ number t) ++ number s) b3 (number u) b4 (Takes-then bytes (r ∷ number t) b2 (number s) b3 (Takes-then bytes (r ∷ []) b1 (number t) b2 p q) v) w

constraint_takes : (bytes : List ℕ) (c : Constraint) (rest : List ℕ) → IsBytes bytes → constraint_at bytes ≡ Some (c, rest) → Takes bytes (constraint c) rest × (constraint_fits c ≡ true)
unfolding constraint_at
constraint_takes bytes c rest fits e =
    let a = first byte_field (λ r. number_at r.1 >>= λ t. number_at t.1 >>= λ s. number_at s.1 >>= λ u. Some (record { rule = r.0; target = t.0; source = s.0; third = u.0 }, u.1)) bytes (c, rest) fits e in
    let b = first number_field (λ t. number_at t.1 >>= λ s. number_at s.1 >>= λ u. Some (record { rule = a.value; target = t.0; source = s.0; third = u.0 }, u.1)) a.rest (c, rest) a.takes.rest_fits a.then_is in
    let d = first number_field (λ s. number_at s.1 >>= λ u. Some (record { rule = a.value; target = b.value; source = s.0; third = u.0 }, u.1)) b.rest (c, rest) b.takes.rest_fits b.then_is in
    let f = first number_field (λ u. Some (record { rule = a.value; target = b.value; source = d.value; third = u.0 }, u.1)) d.rest (c, rest) d.takes.rest_fits d.then_is in
    let joined = constraint_joined bytes a.rest b.rest d.rest f.rest a.value b.value d.value f.value a.takes b.takes d.takes f.takes in
    let small = and_from (is_u32 b.value && is_u32 d.value) (is_u32 f.value) (and_from (is_u32 b.value) (is_u32 d.value) b.holds d.holds) f.holds in
    subst (λ (p : Constraint × List ℕ). Takes bytes (constraint p.0) p.1 × (constraint_fits p.0 ≡ true)) (some_is (record { rule = a.value; target = b.value; source = d.value; third = f.value }, f.rest) (c, rest) f.then_is) (joined, small)

constraint_again : (c : Constraint) (rest : List ℕ) → constraint_fits c ≡ true → constraint_at (constraint c ++ rest) ≡ Some (c, rest)
unfolding constraint_at
constraint_again c rest h =
    let three = and_parts (is_u32 c.target && is_u32 c.source) (is_u32 c.third) h in
    let two = and_parts (is_u32 c.target) (is_u32 c.source) three.0 in
    let front = c.rule ∷ number c.target in
    let regrouped : constraint c ++ rest ≡ front ++ (number c.source ++ (number c.third ++ rest)) = append_assoc (front ++ number c.source) (number c.third) rest ∙ append_assoc front (number c.source) (number c.third ++ rest) in
    ap constraint_at regrouped ∙ rw (number_field.again c.target (number c.source ++ (number c.third ++ rest)) two.0, number_field.again c.source (number c.third ++ rest) two.1, number_field.again c.third rest three.1) refl

pub constraint_field : IsField constraint_at constraint constraint_fits
constraint_field = record { takes = constraint_takes; again = constraint_again }

-- ---- writes

write_joined : (bytes b1 b2 b3 : List ℕ) (k : ℕ) (l h : ℤ) → Takes bytes (number k) b1 → Takes b1 (signed l) b2 → Takes b2 (signed h) b3 → Takes bytes (write (record { class = k; low = l; high = h })) b3
write_joined bytes b1 b2 b3 k l h p q v = Takes-then bytes (number k ++ signed l) b2 (signed h) b3 (Takes-then bytes (number k) b1 (signed l) b2 p q) v

write_takes : (bytes : List ℕ) (w : WritePart) (rest : List ℕ) → IsBytes bytes → write_at bytes ≡ Some (w, rest) → Takes bytes (write w) rest × (write_fits w ≡ true)
unfolding write_at
write_takes bytes w rest fits e =
    let a = first number_field (λ k. signed_at k.1 >>= λ l. signed_at l.1 >>= λ h. Some (record { class = k.0; low = l.0; high = h.0 }, h.1)) bytes (w, rest) fits e in
    let b = first signed_field (λ l. signed_at l.1 >>= λ h. Some (record { class = a.value; low = l.0; high = h.0 }, h.1)) a.rest (w, rest) a.takes.rest_fits a.then_is in
    let d = first signed_field (λ h. Some (record { class = a.value; low = b.value; high = h.0 }, h.1)) b.rest (w, rest) b.takes.rest_fits b.then_is in
    let joined = write_joined bytes a.rest b.rest d.rest a.value b.value d.value a.takes b.takes d.takes in
    let small = and_from (is_u32 a.value && is_i128 b.value) (is_i128 d.value) (and_from (is_u32 a.value) (is_i128 b.value) a.holds b.holds) d.holds in
    subst (λ (p : WritePart × List ℕ). Takes bytes (write p.0) p.1 × (write_fits p.0 ≡ true)) (some_is (record { class = a.value; low = b.value; high = d.value }, d.rest) (w, rest) d.then_is) (joined, small)

write_again : (w : WritePart) (rest : List ℕ) → write_fits w ≡ true → write_at (write w ++ rest) ≡ Some (w, rest)
unfolding write_at
write_again w rest h =
    let three = and_parts (is_u32 w.class && is_i128 w.low) (is_i128 w.high) h in
    let two = and_parts (is_u32 w.class) (is_i128 w.low) three.0 in
    let regrouped : write w ++ rest ≡ number w.class ++ (signed w.low ++ (signed w.high ++ rest)) = append_assoc (number w.class ++ signed w.low) (signed w.high) rest ∙ append_assoc (number w.class) (signed w.low) (signed w.high ++ rest) in
    ap write_at regrouped ∙ rw (number_field.again w.class (signed w.low ++ (signed w.high ++ rest)) two.0, signed_field.again w.low (signed w.high ++ rest) two.1, signed_field.again w.high rest three.1) refl

pub write_field : IsField write_at write write_fits
write_field = record { takes = write_takes; again = write_again }

-- ---- colours

colour_takes : (bytes : List ℕ) (k : Colour) (rest : List ℕ) → IsBytes bytes → colour_at bytes ≡ Some (k, rest) → Takes bytes (colour_code k ∷ []) rest
colour_takes [] k rest fits e = absurd cc
colour_takes (zero ∷ bytes) k rest fits e = subst (λ (p : Colour × List ℕ). Takes (0 ∷ bytes) (colour_code p.0 ∷ []) p.1) (some_is (colours.Unreachable, bytes) (k, rest) e) (Takes-one 0 bytes fits)
colour_takes (suc zero ∷ bytes) k rest fits e = subst (λ (p : Colour × List ℕ). Takes (1 ∷ bytes) (colour_code p.0 ∷ []) p.1) (some_is (colours.Green, bytes) (k, rest) e) (Takes-one 1 bytes fits)
colour_takes (suc (suc zero) ∷ bytes) k rest fits e = subst (λ (p : Colour × List ℕ). Takes (2 ∷ bytes) (colour_code p.0 ∷ []) p.1) (some_is (colours.Orange, bytes) (k, rest) e) (Takes-one 2 bytes fits)
colour_takes (suc (suc (suc zero)) ∷ bytes) k rest fits e = subst (λ (p : Colour × List ℕ). Takes (3 ∷ bytes) (colour_code p.0 ∷ []) p.1) (some_is (colours.Red, bytes) (k, rest) e) (Takes-one 3 bytes fits)
colour_takes (suc (suc (suc (suc x))) ∷ bytes) k rest fits e = absurd cc

colour_again : (k : Colour) (rest : List ℕ) → colour_at (colour_code k ∷ rest) ≡ Some (k, rest)
colour_again colours.Unreachable rest = refl
colour_again colours.Green rest = refl
colour_again colours.Orange rest = refl
colour_again colours.Red rest = refl

abbrev pub site_fits : SiteId × Colour → Bool
site_fits p = is_u32 p.0.0

site_colour_takes : (bytes : List ℕ) (p : SiteId × Colour) (rest : List ℕ) → IsBytes bytes → site_colour_at bytes ≡ Some (p, rest) → Takes bytes (site_colour p) rest × (site_fits p ≡ true)
unfolding site_colour_at
site_colour_takes bytes p rest fits e =
    let a = bind_some (number_at bytes) (λ s. colour_at s.1 >>= λ k. Some ((record { 0 = s.0 }, k.0), k.1)) (p, rest) e in
    let b = bind_some (colour_at a.0.1) (λ k. Some ((record { 0 = a.0.0 }, k.0), k.1)) (p, rest) a.2 in
    let t0 = number_field.takes bytes a.0.0 a.0.1 fits a.1 in
    let t1 = colour_takes a.0.1 b.0.0 b.0.1 t0.0.rest_fits b.1 in
    let joined = Takes-then bytes (number a.0.0) a.0.1 (colour_code b.0.0 ∷ []) b.0.1 t0.0 t1 in
    subst (λ (q : (SiteId × Colour) × List ℕ). Takes bytes (site_colour q.0) q.1 × (site_fits q.0 ≡ true)) (some_is ((record { 0 = a.0.0 }, b.0.0), b.0.1) (p, rest) b.2) (joined, t0.1)

site_colour_again : (p : SiteId × Colour) (rest : List ℕ) → site_fits p ≡ true → site_colour_at (site_colour p ++ rest) ≡ Some (p, rest)
unfolding site_colour_at
site_colour_again p rest h =
    rw (append_assoc (number p.0.0) (colour_code p.1 ∷ []) rest, number_field.again p.0.0 (colour_code p.1 ∷ rest) h, colour_again p.1 rest) refl

pub site_colour_field : IsField site_colour_at site_colour site_fits
site_colour_field = record { takes = site_colour_takes; again = site_colour_again }
