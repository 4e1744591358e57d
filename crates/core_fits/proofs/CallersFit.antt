-- Functions that are named are functions of the program.
use Rattle.std.proofs.Common.{◌≡◌, ℕ, suc, ◌<◌, true, nat_lt, List, [], ◌∷◌, map, length, refl, sym, ap, subst, arith}
use Rattle.std.specs.List.{AllByRecursion}
use Rattle.std.proofs.lemmas.Bool.{and_parts}
use Rattle.sv_base.specs.declared.ids.FuncId.{FuncId}
use Rattle.core_ir.specs.declared.program.CoreSite.{CoreSite}
use Rattle.core_fits.specs.Callers.{are_below, sites_below}

below : (a n : ℕ) → nat_lt a n ≡ true → a < n
below a n e = grind arith

mapped_length : {A B : Type 0} (f : A → B) (xs : List A) → length (map f xs) ≡ length xs
mapped_length f [] = refl
mapped_length f (x ∷ xs) = ap (λ n. suc n) (mapped_length f xs)

all_below : (n : ℕ) (xs : List FuncId) → are_below n xs ≡ true → AllByRecursion (λ f. f < n) (map (λ f. f.0) xs)
all_below n [] e = tt
all_below n (x ∷ xs) e = let parts = and_parts (nat_lt x.0 n) (are_below n xs) e in (below x.0 n parts.0, all_below n xs parts.1)

all_sites : (n : ℕ) (xs : List CoreSite) → sites_below n xs ≡ true → AllByRecursion (λ s. s.function.0 < n) xs
all_sites n [] e = tt
all_sites n (x ∷ xs) e = let parts = and_parts (nat_lt x.function.0 n) (sites_below n xs) e in (below x.function.0 n parts.0, all_sites n xs parts.1)

-- of as many functions as there are items
pub callers_fit : {A B : Type 0} (f : A → B) (functions : List A) (xs : List FuncId) → are_below (length functions) xs ≡ true → AllByRecursion (λ x. x < length (map f functions)) (map (λ x. x.0) xs)
callers_fit f functions xs e = subst (λ n. AllByRecursion (λ x. x < n) (map (λ x. x.0) xs)) (sym (mapped_length f functions)) (all_below (length functions) xs e)

pub sites_fit : {A B : Type 0} (f : A → B) (functions : List A) (xs : List CoreSite) → sites_below (length functions) xs ≡ true → AllByRecursion (λ s. s.function.0 < length (map f functions)) xs
sites_fit f functions xs e = subst (λ n. AllByRecursion (λ s. s.function.0 < n) xs) (sym (mapped_length f functions)) (all_sites (length functions) xs e)
