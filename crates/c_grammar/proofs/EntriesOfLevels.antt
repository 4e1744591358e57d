-- What is tested of the levels of binary operators.
use Rattle.std.proofs.Common.{◌≡◌, ℕ, zero, suc, true, List, refl}
use Rattle.c_grammar.specs.Items.{Sym, In, Out, Item}
use Rattle.c_grammar.specs.Productions.{Rule}
use Rattle.c_grammar.proofs.Changes as ch
use Rattle.c_grammar.proofs.Described.{Described.none, Described.token, Described.change, Described.symbol}
use Rattle.c_grammar.proofs.Entry.{Entry, entry, null_entry}
use Rattle.c_grammar.proofs.Programs.{Fits.give, Fits.take, Fits.turn, Fits.call}
use Rattle.c_grammar.proofs.Rows.{sound}
use Rattle.c_grammar.proofs.Sorts as so

pub level_sound : (n : ℕ) → sound (Sym.Level (suc n)) 0 ≡ true
level_sound zero = refl
level_sound (suc zero) = refl
level_sound (suc (suc zero)) = refl
level_sound (suc (suc (suc zero))) = refl
level_sound (suc (suc (suc (suc zero)))) = refl
level_sound (suc (suc (suc (suc (suc zero))))) = refl
level_sound (suc (suc (suc (suc (suc (suc zero)))))) = refl
level_sound (suc (suc (suc (suc (suc (suc (suc zero))))))) = refl
level_sound (suc (suc (suc (suc (suc (suc (suc (suc zero)))))))) = refl
level_sound (suc (suc (suc (suc (suc (suc (suc (suc (suc zero))))))))) = refl
level_sound (suc (suc (suc (suc (suc (suc (suc (suc (suc (suc n)))))))))) = refl

pub operands_sound : (n : ℕ) → sound (Sym.MoreOperands n) 0 ≡ true
operands_sound zero = refl
operands_sound (suc zero) = refl
operands_sound (suc (suc zero)) = refl
operands_sound (suc (suc (suc zero))) = refl
operands_sound (suc (suc (suc (suc zero)))) = refl
operands_sound (suc (suc (suc (suc (suc zero))))) = refl
operands_sound (suc (suc (suc (suc (suc (suc zero)))))) = refl
operands_sound (suc (suc (suc (suc (suc (suc (suc zero))))))) = refl
operands_sound (suc (suc (suc (suc (suc (suc (suc (suc zero)))))))) = refl
operands_sound (suc (suc (suc (suc (suc (suc (suc (suc (suc zero))))))))) = refl
operands_sound (suc (suc (suc (suc (suc (suc (suc (suc (suc (suc n)))))))))) = refl

pub last_sound : (n : ℕ) → sound (Sym.MoreOperands n) 1 ≡ true
last_sound zero = refl
last_sound (suc zero) = refl
last_sound (suc (suc zero)) = refl
last_sound (suc (suc (suc zero))) = refl
last_sound (suc (suc (suc (suc zero)))) = refl
last_sound (suc (suc (suc (suc (suc zero))))) = refl
last_sound (suc (suc (suc (suc (suc (suc zero)))))) = refl
last_sound (suc (suc (suc (suc (suc (suc (suc zero))))))) = refl
last_sound (suc (suc (suc (suc (suc (suc (suc (suc zero)))))))) = refl
last_sound (suc (suc (suc (suc (suc (suc (suc (suc (suc zero))))))))) = refl
last_sound (suc (suc (suc (suc (suc (suc (suc (suc (suc (suc n)))))))))) = refl

abbrev pub entry_Level : (n : ℕ) {a : In (Sym.Level n)} {b : Out (Sym.Level n)} {items : List Item} → Rule (Sym.Level n) a b items
    → Entry (Sym.Level n) a b items
entry_Level zero (Rule.cast_alone x0) = entry 0 (symbol none) (call give) refl refl
entry_Level (suc n) (Rule.level x0 x1 x2) = entry 0 (symbol (symbol none)) (call (call give)) (level_sound n) refl

abbrev pub entry_MoreOperands : (n : ℕ) {a : In (Sym.MoreOperands n)} {b : Out (Sym.MoreOperands n)} {items : List Item}
    → Rule (Sym.MoreOperands n) a b items → Entry (Sym.MoreOperands n) a b items
entry_MoreOperands n (Rule.more_operands x0 x1 x2 x3 x4) =
    entry 0 (token (so.binary_operator n) (change ch.enter (symbol (change ch.leave (change ch.is_no_unary (symbol none))))))
    (take (turn (call (turn (turn (call give)))))) (operands_sound n) refl
entry_MoreOperands n (Rule.last_operand x0 x1) = null_entry 1 (none) (give) (last_sound n) (λ A. refl) (λ A. refl)
