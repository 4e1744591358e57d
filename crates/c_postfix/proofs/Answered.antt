-- What an answer of code says, where its parser reads a symbol exactly.
use Rattle.std.proofs.Common.{◌≡◌, ℕ, Ok, Err, subst}
use Rattle.c_cursor.specs.declared.error.ReadError.TheVariants as errors
use Rattle.c_reads.specs.Exact.{Stack, Read, Refused, Past, Ends, Does}
use Rattle.c_cursor.specs.Parsers.{Input, Outcome, Parser, Reads}

module _ {A : Type 0} {H : Stack → Type 0} {xs : Stack} {P : A → Input → Type 0} {p : Parser A} {start : Input} (does : Does H xs P p start) where
  pub ends_at : (o : Outcome A) → p start ≡ o → Ends H xs P start o
  ends_at o e = subst (λ o. Ends H xs P start o) e does.ends

  pub read : (a : A) (end : Input) → Reads (p start) (Ok a) end → Read H xs start end
  read a end e = (ends_at (Ok (a, end)) e).0

  pub given : (a : A) (end : Input) → Reads (p start) (Ok a) end → P a end
  given a end e = (ends_at (Ok (a, end)) e).1

  pub refused : (left : ℕ) (end : Input) → Reads (p start) (Err (errors.Wrong left)) end → Refused H xs start left
  refused left end e = ends_at (Err (errors.Wrong left)) (e (λ same. cc))

  pub past : (end : Input) → Reads (p start) (Err errors.TooDeep) end → Past xs start
  past end e = ends_at (Err errors.TooDeep) (e (λ same. cc))

  pub never_spent : (end : Input) → Reads (p start) (Err errors.Spent) end → ⊥
  never_spent end e = ends_at (Err errors.Spent) (e (λ same. cc))
