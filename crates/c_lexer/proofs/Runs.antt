-- Runs of bytes of one kind.
use Rattle.std.proofs.Common.{◌≡◌, ℕ, suc, ◌+◌, ◌≤◌, Bool, true, false, List, [], ◌∷◌, ◌++◌, length, take, drop, refl, arith}
use Rattle.std.specs.List.{prefix_len}
use Rattle.c_lexer.specs.Bytes.{AllAre, Stops}

pub run_len : (p : ℕ → Bool) (xs ys : List ℕ) → AllAre p xs → Stops p ys → prefix_len p (xs ++ ys) ≡ length xs
run_len p [] [] all stop = refl
run_len p [] (y ∷ ys) all stop = rw stop refl
run_len p (x ∷ xs) ys all stop = rw (all.0, run_len p xs ys all.1 stop) (omega arith)

-- a run reaches at least as far as bytes of its kind
pub run_reaches : (p : ℕ → Bool) (xs ys : List ℕ) → AllAre p xs → length xs ≤ prefix_len p (xs ++ ys)
run_reaches p [] ys all = omega arith
run_reaches p (x ∷ xs) ys all = let more = run_reaches p xs ys all.1 in rw all.0 (omega arith)

run_all_by : (p : ℕ → Bool) (x : ℕ) (xs : List ℕ) (b : Bool) → p x ≡ b → AllAre p (take (prefix_len p xs) xs) → AllAre p (take (prefix_len p (x ∷ xs)) (x ∷ xs))
run_all_by p x xs true e h = let s : 1 + prefix_len p xs ≡ suc (prefix_len p xs) = omega arith in rw (e, s) (e, h)
run_all_by p x xs false e h = rw e tt

pub run_all : (p : ℕ → Bool) (xs : List ℕ) → AllAre p (take (prefix_len p xs) xs)
run_all p [] = tt
run_all p (x ∷ xs) = run_all_by p x xs (p x) refl (run_all p xs)

run_stops_by : (p : ℕ → Bool) (x : ℕ) (xs : List ℕ) (b : Bool) → p x ≡ b → Stops p (drop (prefix_len p xs) xs) → Stops p (drop (prefix_len p (x ∷ xs)) (x ∷ xs))
run_stops_by p x xs true e h = let s : 1 + prefix_len p xs ≡ suc (prefix_len p xs) = omega arith in rw (e, s) h
run_stops_by p x xs false e h = rw e e

pub run_stops : (p : ℕ → Bool) (xs : List ℕ) → Stops p (drop (prefix_len p xs) xs)
run_stops p [] = tt
run_stops p (x ∷ xs) = run_stops_by p x xs (p x) refl (run_stops p xs)
