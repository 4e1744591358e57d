use Rattle.std.proofs.Common.{◌≡◌, ◌+◌, ◌-◌, ◌++◌, ◌∷◌, [], List, ℕ, length, set, sym, ◌∙◌, ap, subst, arith}
use Rattle.journal.specs.Format.{Entry, bytes_of, IsBatch}
use Rattle.journal.proofs.Crash.{batch_more}
use Rattle.journal.proofs.piece.Piece.add.Goals as goal

pub returns-clause-added : goal.returns-clause-added
returns-clause-added c = λ batch batched.
    let entry : Entry = record { round = c.args.round; task = c.args.task; body = c.args.body.now } in
    let old = c.reserve.new.self in
    let last = c.len-last.result - 1 in
    let numbers : List ℕ = c.numbers.result in
    let items : c.push_reserved.new.self.items ≡ ((set old.items last 1 ++ numbers) ++ entry.body) ++ 0 ∷ [] =
    c.push_reserved.ensures.items ∙ ap (λ (l : List ℕ). l ++ 0 ∷ []) (c.append_reserved-2.ensures.items ∙ ap (λ (l : List ℕ). l ++ entry.body) c.append_reserved.ensures.items) in
    let end : last + 1 ≡ length old.items = omega (arith, old.ok.0, c.reserve.ensures.len, c.args.self.now.whole) in
    let spelled : bytes_of entry ≡ numbers ++ entry.body = ap (λ (l : List ℕ). l ++ entry.body) (sym c.numbers.ensures) in
    let before : IsBatch batch old.items = subst (IsBatch batch) (sym c.reserve.ensures.items) batched in
    subst (IsBatch (batch ++ entry ∷ [])) (sym items) (batch_more batch entry old.items numbers last end spelled before)
