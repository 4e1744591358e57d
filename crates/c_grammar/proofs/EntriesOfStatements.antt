-- What is tested of the productions of statements and files.
use Rattle.std.proofs.Common.{List, refl}
use Rattle.c_grammar.specs.Items.{Sym, In, Out, Item}
use Rattle.c_grammar.specs.Marks as m
use Rattle.c_grammar.specs.Productions.{Rule}
use Rattle.c_grammar.specs.Words as d
use Rattle.c_grammar.proofs.Changes as ch
use Rattle.c_grammar.proofs.Described.{Described.none, Described.token, Described.next, Described.change, Described.symbol}
use Rattle.c_grammar.proofs.Entry.{Entry, entry, null_entry}
use Rattle.c_grammar.proofs.Programs.{Fits.give, Fits.take, Fits.look, Fits.turn, Fits.call}
use Rattle.c_grammar.proofs.Sorts as so

abbrev pub entry_AnyStatement : {a : In Sym.AnyStatement} {b : Out Sym.AnyStatement} {items : List Item} → Rule Sym.AnyStatement a b items
    → Entry Sym.AnyStatement a b items
entry_AnyStatement (Rule.statement x0 x1) =
    entry 0 (next (change ch.enter (symbol (change ch.leave none))))
    (look (turn (call (turn give)))) refl refl

abbrev pub entry_StatementForm : {a : In Sym.StatementForm} {b : Out Sym.StatementForm} {items : List Item}
    → Rule Sym.StatementForm a b items → Entry Sym.StatementForm a b items
entry_StatementForm (Rule.compound x0) =
    entry 0 (change ch.open_scope (symbol (change ch.close_scope none)))
    (turn (call (turn give))) refl refl
entry_StatementForm (Rule.plain_statement x0 x1) =
    entry 1 (symbol (token (so.mark m.semicolon) none))
    (call (take give)) refl refl
entry_StatementForm (Rule.if x0 x1 x2 x3) =
    entry 2 (token (so.word d.if_word refl) (change ch.open_scope (symbol (symbol (symbol (change ch.close_scope none))))))
    (take (turn (call (call (call (turn give)))))) refl refl
entry_StatementForm (Rule.switch x0 x1 x2) =
    entry 3 (token (so.word d.switch_word refl)
    (change ch.open_scope (symbol (change ch.open_scope (symbol (change ch.close_scope (change ch.close_scope none)))))))
    (take (turn (call (turn (call (turn (turn give))))))) refl refl
entry_StatementForm (Rule.case x0 x1 x2 x3) =
    entry 4 (token (so.word d.case_word refl) (symbol (token (so.mark m.colon) (symbol none))))
    (take (call (take (call give)))) refl refl
entry_StatementForm (Rule.default x0 x1 x2) =
    entry 5 (token (so.word d.default_word refl) (token (so.mark m.colon) (symbol none)))
    (take (take (call give))) refl refl
entry_StatementForm (Rule.while x0 x1 x2) =
    entry 6 (token (so.loop_word d.while_word refl)
    (change ch.open_scope (symbol (symbol (change ch.close_scope (change ch.leave_loop none))))))
    (take (turn (call (call (turn (turn give)))))) refl refl
entry_StatementForm (Rule.do_while x0 x1 x2 x3 x4) =
    entry 7 (token (so.loop_word d.do_word refl)
    (change ch.open_scope (symbol (change ch.leave_loop
    (token (so.word d.while_word refl) (symbol (token (so.mark m.semicolon) (change ch.close_scope none))))))))
    (take (turn (call (turn (take (call (take (turn give)))))))) refl refl
entry_StatementForm (Rule.for x0 x1 x2 x3 x4 x5 x6 x7) =
    entry 8 (token (so.loop_word d.for_word refl)
    (change ch.open_scope (token (so.mark m.left_parenthesis)
    (symbol (symbol (token (so.mark m.semicolon)
    (symbol (token (so.mark m.right_parenthesis) (symbol (change ch.close_scope (change ch.leave_loop none)))))))))))
    (take (turn (take (call (call (take (call (take (call (turn (turn give))))))))))) refl refl
entry_StatementForm (Rule.continue x0 x1) =
    entry 9 (token (so.word d.continue_word refl) (token (so.mark m.semicolon) none))
    (take (take give)) refl refl
entry_StatementForm (Rule.break x0 x1) =
    entry 10 (token (so.word d.break_word refl) (token (so.mark m.semicolon) none))
    (take (take give)) refl refl
entry_StatementForm (Rule.return x0 x1 x2) =
    entry 11 (token (so.word d.return_word refl) (symbol (token (so.mark m.semicolon) none)))
    (take (call (take give))) refl refl

abbrev pub entry_Compound : {a : In Sym.Compound} {b : Out Sym.Compound} {items : List Item} → Rule Sym.Compound a b items
    → Entry Sym.Compound a b items
entry_Compound (Rule.switch_body x0 x1) =
    entry 0 (next (change ch.enter (change ch.open_scope (symbol (change ch.close_scope (change ch.leave none))))))
    (look (turn (turn (call (turn (turn give)))))) refl refl

abbrev pub entry_Block : {a : In Sym.Block} {b : Out Sym.Block} {items : List Item} → Rule Sym.Block a b items → Entry Sym.Block a b items
entry_Block (Rule.block x0 x1 x2) =
    entry 0 (token (so.mark m.left_brace) (symbol (token (so.mark m.right_brace) none)))
    (take (call (take give))) refl refl

abbrev pub entry_BlockItems : {a : In Sym.BlockItems} {b : Out Sym.BlockItems} {items : List Item} → Rule Sym.BlockItems a b items
    → Entry Sym.BlockItems a b items
entry_BlockItems (Rule.block_declaration x0 x1 x2) =
    entry 0 (symbol (symbol none))
    (call (call give)) refl refl
entry_BlockItems (Rule.block_statement x0 x1 x2) =
    entry 1 (symbol (symbol none))
    (call (call give)) refl refl
entry_BlockItems (Rule.last_block_item x0) =
    null_entry 2 (none)
    (give) refl (λ A. refl) (λ A. refl)

abbrev pub entry_Condition : {a : In Sym.Condition} {b : Out Sym.Condition} {items : List Item} → Rule Sym.Condition a b items
    → Entry Sym.Condition a b items
entry_Condition (Rule.condition x0 x1 x2) =
    entry 0 (token (so.mark m.left_parenthesis) (symbol (token (so.mark m.right_parenthesis) none)))
    (take (call (take give))) refl refl

abbrev pub entry_Substatement : {a : In Sym.Substatement} {b : Out Sym.Substatement} {items : List Item} → Rule Sym.Substatement a b items
    → Entry Sym.Substatement a b items
entry_Substatement (Rule.substatement x0) =
    entry 0 (change ch.open_scope (symbol (change ch.close_scope none)))
    (turn (call (turn give))) refl refl

abbrev pub entry_Else : {a : In Sym.Else} {b : Out Sym.Else} {items : List Item} → Rule Sym.Else a b items → Entry Sym.Else a b items
entry_Else (Rule.else x0 x1) =
    entry 0 (token so.else (symbol none))
    (take (call give)) refl refl
entry_Else Rule.no_else =
    null_entry 1 (change ch.leave_dangling none)
    (turn give) refl (λ A. refl) (λ A. refl)

abbrev pub entry_First : {a : In Sym.First} {b : Out Sym.First} {items : List Item} → Rule Sym.First a b items → Entry Sym.First a b items
entry_First (Rule.for_nothing x0) =
    entry 0 (token (so.mark m.semicolon) none)
    (take give) refl refl
entry_First (Rule.for_expression x0 x1) =
    entry 1 (symbol (token (so.mark m.semicolon) none))
    (call (take give)) refl refl
entry_First (Rule.for_declaration x0) =
    entry 2 (symbol none)
    (call give) refl refl

abbrev pub entry_MaybeExpression : {a : In Sym.MaybeExpression} {b : Out Sym.MaybeExpression} {items : List Item}
    → Rule Sym.MaybeExpression a b items → Entry Sym.MaybeExpression a b items
entry_MaybeExpression (Rule.some_expression x0) =
    entry 0 (symbol none)
    (call give) refl refl
entry_MaybeExpression Rule.no_expression =
    null_entry 1 (none)
    (give) refl (λ A. refl) (λ A. refl)

abbrev pub entry_ExternalDeclaration : {a : In Sym.ExternalDeclaration} {b : Out Sym.ExternalDeclaration} {items : List Item}
    → Rule Sym.ExternalDeclaration a b items → Entry Sym.ExternalDeclaration a b items
entry_ExternalDeclaration (Rule.external_declaration x0) =
    entry 0 (symbol none)
    (call give) refl refl
entry_ExternalDeclaration (Rule.function x0 x1 x2 x3) =
    entry 1 (change ch.begin (symbol
    (symbol (change ch.declare (change ch.open_body
    (next (change ch.enter (symbol (change ch.leave (change ch.close_scope (change ch.finish none)))))))))))
    (turn (call (call (turn (turn (look (turn (call (turn (turn (turn give))))))))))) refl refl

abbrev pub entry_Externals : {a : In Sym.Externals} {b : Out Sym.Externals} {items : List Item} → Rule Sym.Externals a b items
    → Entry Sym.Externals a b items
entry_Externals (Rule.more_externals x0 x1 x2) =
    entry 0 (symbol (symbol none))
    (call (call give)) refl refl
entry_Externals (Rule.lone_semicolon x0 x1 x2) =
    entry 1 (token (so.mark m.semicolon) (symbol none))
    (take (call give)) refl refl
entry_Externals (Rule.last_external x0) =
    null_entry 2 (none)
    (give) refl (λ A. refl) (λ A. refl)

abbrev pub entry_File : {a : In Sym.File} {b : Out Sym.File} {items : List Item} → Rule Sym.File a b items → Entry Sym.File a b items
entry_File (Rule.file x0 x1) =
    entry 0 (symbol (token so.end_token none))
    (call (take give)) refl refl
