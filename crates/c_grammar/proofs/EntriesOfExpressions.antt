-- What is tested of the productions of expressions.
use Rattle.std.proofs.Common.{List, refl}
use Rattle.c_grammar.specs.Items.{Sym, In, Out, Item}
use Rattle.c_grammar.specs.Marks as m
use Rattle.c_grammar.specs.Productions.{Rule}
use Rattle.c_grammar.specs.Words as d
use Rattle.c_grammar.proofs.Changes as ch
use Rattle.c_grammar.proofs.Described.{Described.none, Described.token, Described.next, Described.change, Described.symbol}
use Rattle.c_grammar.proofs.Entry.{Entry, entry, null_entry}
use Rattle.c_grammar.proofs.Programs.{Fits.give, Fits.take, Fits.look, Fits.turn, Fits.call}
use Rattle.c_grammar.proofs.Sorts as so

abbrev pub entry_Primary : {a : In Sym.Primary} {b : Out Sym.Primary} {items : List Item} → Rule Sym.Primary a b items
    → Entry Sym.Primary a b items
entry_Primary (Rule.name x0) =
    entry 0 (change ch.enter (token so.value_name (change ch.leave none)))
    (turn (take (turn give))) refl refl
entry_Primary (Rule.number x0) =
    entry 1 (change ch.enter (token so.number_token (change ch.leave none)))
    (turn (take (turn give))) refl refl
entry_Primary (Rule.character x0) =
    entry 2 (change ch.enter (token so.character_token (change ch.leave none)))
    (turn (take (turn give))) refl refl
entry_Primary (Rule.text x0 x1) =
    entry 3 (change ch.enter (token so.text_token (symbol (change ch.leave none))))
    (turn (take (call (turn give)))) refl refl
entry_Primary (Rule.parenthesised x0 x1 x2) =
    entry 4 (change ch.enter (token (so.mark m.left_parenthesis)
    (symbol (token (so.closing (so.mark m.right_parenthesis)) (change ch.leave none)))))
    (turn (take (call (take (turn give))))) refl refl

abbrev pub entry_MoreTexts : {a : In Sym.MoreTexts} {b : Out Sym.MoreTexts} {items : List Item} → Rule Sym.MoreTexts a b items
    → Entry Sym.MoreTexts a b items
entry_MoreTexts (Rule.more_texts x0 x1 x2) =
    entry 0 (token so.text_token (symbol none))
    (take (call give)) refl refl
entry_MoreTexts (Rule.last_text x0) =
    null_entry 1 (none)
    (give) refl (λ A. refl) (λ A. refl)

abbrev pub entry_Postfix : {a : In Sym.Postfix} {b : Out Sym.Postfix} {items : List Item} → Rule Sym.Postfix a b items
    → Entry Sym.Postfix a b items
entry_Postfix (Rule.postfix x0 x1) =
    entry 0 (symbol (symbol none))
    (call (call give)) refl refl

abbrev pub entry_AfterPostfix : {a : In Sym.AfterPostfix} {b : Out Sym.AfterPostfix} {items : List Item} → Rule Sym.AfterPostfix a b items
    → Entry Sym.AfterPostfix a b items
entry_AfterPostfix (Rule.subscript x0 x1 x2 x3 x4) =
    entry 0 (token (so.operator (so.mark m.left_bracket))
    (change ch.enter (symbol (token (so.closing (so.mark m.right_bracket)) (change ch.leave (symbol none))))))
    (take (turn (call (take (turn (call give)))))) refl refl
entry_AfterPostfix (Rule.call x0 x1 x2 x3 x4) =
    entry 1 (token (so.operator (so.mark m.left_parenthesis))
    (change ch.enter (symbol (token (so.closing (so.mark m.right_parenthesis)) (change ch.leave (symbol none))))))
    (take (turn (call (take (turn (call give)))))) refl refl
entry_AfterPostfix (Rule.member x0 x1 x2 x3) =
    entry 2 (token (so.operator (so.mark m.period)) (token (so.closing so.any_name) (symbol none)))
    (take (take (call give))) refl refl
entry_AfterPostfix (Rule.arrow x0 x1 x2 x3) =
    entry 3 (token (so.operator (so.mark m.arrow)) (token (so.closing so.any_name) (symbol none)))
    (take (take (call give))) refl refl
entry_AfterPostfix (Rule.bump_behind x0 x1 x2) =
    entry 4 (token (so.closing (so.operator so.bump)) (symbol none))
    (take (call give)) refl refl
entry_AfterPostfix (Rule.no_postfix x0) =
    null_entry 5 (none)
    (give) refl (λ A. refl) (λ A. refl)

abbrev pub entry_Arguments : {a : In Sym.Arguments} {b : Out Sym.Arguments} {items : List Item} → Rule Sym.Arguments a b items
    → Entry Sym.Arguments a b items
entry_Arguments (Rule.arguments x0 x1) =
    entry 0 (change ch.begin_operand (symbol (change ch.end_operand (symbol none))))
    (turn (call (turn (call give)))) refl refl
entry_Arguments Rule.no_arguments =
    null_entry 1 (none)
    (give) refl (λ A. refl) (λ A. refl)

abbrev pub entry_MoreArguments : {a : In Sym.MoreArguments} {b : Out Sym.MoreArguments} {items : List Item}
    → Rule Sym.MoreArguments a b items → Entry Sym.MoreArguments a b items
entry_MoreArguments (Rule.more_arguments x0 x1 x2 x3) =
    entry 0 (token (so.mark m.comma) (change ch.begin_operand (symbol (change ch.end_operand (symbol none)))))
    (take (turn (call (turn (call give))))) refl refl
entry_MoreArguments (Rule.last_argument x0) =
    null_entry 1 (none)
    (give) refl (λ A. refl) (λ A. refl)

abbrev pub entry_Unary : {a : In Sym.Unary} {b : Out Sym.Unary} {items : List Item} → Rule Sym.Unary a b items → Entry Sym.Unary a b items
entry_Unary (Rule.postfix_alone x0) =
    entry 0 (symbol none)
    (call give) refl refl
entry_Unary (Rule.bump_before x0 x1) =
    entry 1 (change ch.enter (token so.bump (symbol (change ch.leave none))))
    (turn (take (call (turn give)))) refl refl
entry_Unary (Rule.unary x0 x1) =
    entry 2 (change ch.enter (token so.unary_operator (symbol (change ch.leave (change ch.is_unary none)))))
    (turn (take (call (turn (turn give))))) refl refl
entry_Unary (Rule.size_of x0 x1) =
    entry 3 (change ch.enter (token (so.word d.sizeof_word refl) (symbol (change ch.leave none))))
    (turn (take (call (turn give)))) refl refl
entry_Unary (Rule.size_of_type x0 x1) =
    entry 4 (change ch.enter (token (so.word d.sizeof_word refl) (symbol (change ch.leave (change ch.is_unary none)))))
    (turn (take (call (turn (turn give))))) refl refl

abbrev pub entry_TypeInParentheses : {a : In Sym.TypeInParentheses} {b : Out Sym.TypeInParentheses} {items : List Item}
    → Rule Sym.TypeInParentheses a b items → Entry Sym.TypeInParentheses a b items
entry_TypeInParentheses (Rule.type_in_parentheses x0 x1 x2) =
    entry 0 (token (so.mark m.left_parenthesis) (symbol (token (so.mark m.right_parenthesis) none)))
    (take (call (take give))) refl refl

abbrev pub entry_Cast : {a : In Sym.Cast} {b : Out Sym.Cast} {items : List Item} → Rule Sym.Cast a b items → Entry Sym.Cast a b items
entry_Cast (Rule.unary_alone x0) =
    entry 0 (symbol none)
    (call give) refl refl
entry_Cast (Rule.cast x0 x1 x2) =
    entry 1 (next (change ch.enter (symbol (symbol (change ch.leave (change ch.is_no_unary none))))))
    (look (turn (call (call (turn (turn give)))))) refl refl

abbrev pub entry_Conditional : {a : In Sym.Conditional} {b : Out Sym.Conditional} {items : List Item} → Rule Sym.Conditional a b items
    → Entry Sym.Conditional a b items
entry_Conditional (Rule.conditional x0 x1) =
    entry 0 (symbol (symbol none))
    (call (call give)) refl refl

abbrev pub entry_Chosen : {a : In Sym.Chosen} {b : Out Sym.Chosen} {items : List Item} → Rule Sym.Chosen a b items
    → Entry Sym.Chosen a b items
entry_Chosen (Rule.choice x0 x1 x2 x3 x4) =
    entry 0 (token (so.operator (so.mark m.question))
    (change ch.enter (symbol (token (so.mark m.colon)
    (change ch.begin_operand (symbol (change ch.end_operand (change ch.leave (change ch.is_no_unary none)))))))))
    (take (turn (call (take (turn (call (turn (turn (turn give))))))))) refl refl
entry_Chosen (Rule.no_choice x0) =
    null_entry 1 (none)
    (give) refl (λ A. refl) (λ A. refl)

abbrev pub entry_Constant : {a : In Sym.Constant} {b : Out Sym.Constant} {items : List Item} → Rule Sym.Constant a b items
    → Entry Sym.Constant a b items
entry_Constant (Rule.constant x0) =
    entry 0 (change ch.begin_operand (symbol (change ch.end_operand none)))
    (turn (call (turn give))) refl refl

abbrev pub entry_Assignment : {a : In Sym.Assignment} {b : Out Sym.Assignment} {items : List Item} → Rule Sym.Assignment a b items
    → Entry Sym.Assignment a b items
entry_Assignment (Rule.assignment x0 x1) =
    entry 0 (symbol (symbol none))
    (call (call give)) refl refl

abbrev pub entry_Assigned : {a : In Sym.Assigned} {b : Out Sym.Assigned} {items : List Item} → Rule Sym.Assigned a b items
    → Entry Sym.Assigned a b items
entry_Assigned (Rule.assigned x0 x1 x2) =
    entry 0 (token so.assignment_operator (change ch.enter (symbol (change ch.leave none))))
    (take (turn (call (turn give)))) refl refl
entry_Assigned (Rule.not_assigned x0) =
    null_entry 1 (none)
    (give) refl (λ A. refl) (λ A. refl)

abbrev pub entry_Expression : {a : In Sym.Expression} {b : Out Sym.Expression} {items : List Item} → Rule Sym.Expression a b items
    → Entry Sym.Expression a b items
entry_Expression (Rule.expressions x0 x1) =
    entry 0 (change ch.begin_operand (symbol (symbol (change ch.end_operand none))))
    (turn (call (call (turn give)))) refl refl

abbrev pub entry_MoreExpressions : {a : In Sym.MoreExpressions} {b : Out Sym.MoreExpressions} {items : List Item}
    → Rule Sym.MoreExpressions a b items → Entry Sym.MoreExpressions a b items
entry_MoreExpressions (Rule.more_expressions x0 x1 x2 x3) =
    entry 0 (token (so.operator (so.mark m.comma)) (change ch.enter (symbol (change ch.leave (symbol none)))))
    (take (turn (call (turn (call give))))) refl refl
entry_MoreExpressions (Rule.last_expression x0) =
    null_entry 1 (none)
    (give) refl (λ A. refl) (λ A. refl)
