-- What is tested of the productions of declarations.
use Rattle.std.proofs.Common.{List, refl}
use Rattle.c_grammar.specs.Items.{Mode, Sym, In, Out, Item}
use Rattle.c_grammar.specs.Marks as m
use Rattle.c_grammar.specs.Productions.{Rule}
use Rattle.c_grammar.specs.Words as d
use Rattle.c_grammar.proofs.Changes as ch
use Rattle.c_grammar.proofs.Described.{Described.none, Described.token, Described.next, Described.change, Described.symbol}
use Rattle.c_grammar.proofs.Entry.{Entry, entry, null_entry, differ}
use Rattle.c_grammar.proofs.Programs.{Fits.give, Fits.take, Fits.look, Fits.turn, Fits.call}
use Rattle.c_grammar.proofs.Sorts as so

abbrev pub entry_AnyDeclaration : {a : In Sym.AnyDeclaration} {b : Out Sym.AnyDeclaration} {items : List Item}
    → Rule Sym.AnyDeclaration a b items → Entry Sym.AnyDeclaration a b items
entry_AnyDeclaration (Rule.declaration x0 x1 x2) =
    entry 0 (change ch.begin (symbol (symbol (token (so.mark m.semicolon) (change ch.finish none)))))
    (turn (call (call (take (turn give))))) refl refl

abbrev pub entry_InitDeclarators : {a : In Sym.InitDeclarators} {b : Out Sym.InitDeclarators} {items : List Item}
    → Rule Sym.InitDeclarators a b items → Entry Sym.InitDeclarators a b items
entry_InitDeclarators (Rule.init_declarators x0 x1) =
    entry 0 (symbol (symbol none))
    (call (call give)) refl refl
entry_InitDeclarators Rule.no_declarators =
    null_entry 1 (none)
    (give) refl (λ A. refl) (λ A. refl)

abbrev pub entry_MoreInitDeclarators : {a : In Sym.MoreInitDeclarators} {b : Out Sym.MoreInitDeclarators} {items : List Item}
    → Rule Sym.MoreInitDeclarators a b items → Entry Sym.MoreInitDeclarators a b items
entry_MoreInitDeclarators (Rule.more_init_declarators x0 x1 x2 x3) =
    entry 0 (token (so.mark m.comma) (change ch.end_specifiers (symbol (symbol none))))
    (take (turn (call (call give)))) refl refl
entry_MoreInitDeclarators (Rule.last_init_declarator x0) =
    null_entry 1 (none)
    (give) refl (λ A. refl) (λ A. refl)

abbrev pub entry_DeclaratorWithInitial : {a : In Sym.DeclaratorWithInitial} {b : Out Sym.DeclaratorWithInitial} {items : List Item}
    → Rule Sym.DeclaratorWithInitial a b items → Entry Sym.DeclaratorWithInitial a b items
entry_DeclaratorWithInitial (Rule.init_declarator x0 x1) =
    entry 0 (symbol (change ch.declare (symbol none)))
    (call (turn (call give))) refl refl

abbrev pub entry_Initial : {a : In Sym.Initial} {b : Out Sym.Initial} {items : List Item} → Rule Sym.Initial a b items
    → Entry Sym.Initial a b items
entry_Initial (Rule.initialised x0 x1) =
    entry 0 (token (so.mark m.equal) (symbol none))
    (take (call give)) refl refl
entry_Initial Rule.no_initial =
    null_entry 1 (none)
    (give) refl (λ A. refl) (λ A. refl)

abbrev pub entry_Specifiers : {a : In Sym.Specifiers} {b : Out Sym.Specifiers} {items : List Item} → Rule Sym.Specifiers a b items
    → Entry Sym.Specifiers a b items
entry_Specifiers (Rule.specifiers x0 x1) =
    entry 0 (symbol (symbol none))
    (call (call give)) refl refl

abbrev pub entry_MoreSpecifiers : {a : In Sym.MoreSpecifiers} {b : Out Sym.MoreSpecifiers} {items : List Item}
    → Rule Sym.MoreSpecifiers a b items → Entry Sym.MoreSpecifiers a b items
entry_MoreSpecifiers (Rule.more_specifiers x0 x1 x2) =
    entry 0 (symbol (symbol none))
    (call (call give)) refl refl
entry_MoreSpecifiers (Rule.last_specifier x0) =
    null_entry 1 (none)
    (give) refl (λ A. refl) (λ A. refl)

abbrev pub entry_Specifier : {a : In Sym.Specifier} {b : Out Sym.Specifier} {items : List Item} → Rule Sym.Specifier a b items
    → Entry Sym.Specifier a b items
entry_Specifier (Rule.specifier x0 x1) =
    entry 0 (next (symbol none))
    (look (call give)) refl refl

abbrev pub entry_SpecifierForm : {a : In Sym.SpecifierForm} {b : Out Sym.SpecifierForm} {items : List Item}
    → Rule Sym.SpecifierForm a b items → Entry Sym.SpecifierForm a b items
entry_SpecifierForm (Rule.typedef x0) =
    entry 0 (token so.typedef none)
    (take give) refl refl
entry_SpecifierForm (Rule.plain_specifier x0) =
    entry 1 (token so.plain_specifier none)
    (take give) refl refl
entry_SpecifierForm (Rule.type_word x0) =
    entry 2 (token so.type_word none)
    (take give) refl refl
entry_SpecifierForm (Rule.typedef_name x0) =
    entry 3 (token so.typedef_name none)
    (take give) refl refl
entry_SpecifierForm (Rule.record_content x0 x1 x2 x3 x4) =
    entry 4 (token so.record_word (symbol
    (change ch.enter (token (so.mark m.left_brace) (symbol (token (so.mark m.right_brace) (change ch.leave none)))))))
    (take (call (turn (take (call (take (turn give))))))) refl refl
entry_SpecifierForm (Rule.record_tag x0 x1) =
    entry 5 (token so.record_word (token so.any_name none))
    (take (take give)) refl refl
entry_SpecifierForm (Rule.enumeration_content x0 x1 x2 x3 x4) =
    entry 6 (token so.enumeration_word
    (symbol (change ch.enter (token (so.mark m.left_brace) (symbol (token (so.mark m.right_brace) (change ch.leave none)))))))
    (take (call (turn (take (call (take (turn give))))))) refl refl
entry_SpecifierForm (Rule.enumeration_tag x0 x1) =
    entry 7 (token so.enumeration_word (token so.any_name none))
    (take (take give)) refl refl

abbrev pub entry_Tag : {a : In Sym.Tag} {b : Out Sym.Tag} {items : List Item} → Rule Sym.Tag a b items → Entry Sym.Tag a b items
entry_Tag (Rule.tag x0) =
    entry 0 (token so.any_name none)
    (take give) refl refl
entry_Tag Rule.no_tag =
    null_entry 1 (none)
    (give) refl (λ A. refl) (λ A. refl)

abbrev pub entry_Members : {a : In Sym.Members} {b : Out Sym.Members} {items : List Item} → Rule Sym.Members a b items
    → Entry Sym.Members a b items
entry_Members (Rule.members x0 x1) =
    entry 0 (symbol (symbol none))
    (call (call give)) refl refl

abbrev pub entry_MoreMembers : {a : In Sym.MoreMembers} {b : Out Sym.MoreMembers} {items : List Item} → Rule Sym.MoreMembers a b items
    → Entry Sym.MoreMembers a b items
entry_MoreMembers (Rule.more_members x0 x1 x2) =
    entry 0 (symbol (symbol none))
    (call (call give)) refl refl
entry_MoreMembers (Rule.last_member x0) =
    null_entry 1 (none)
    (give) refl (λ A. refl) (λ A. refl)

abbrev pub entry_Member : {a : In Sym.Member} {b : Out Sym.Member} {items : List Item} → Rule Sym.Member a b items
    → Entry Sym.Member a b items
entry_Member (Rule.member_declaration x0 x1 x2 x3) =
    entry 0 (change ch.begin (symbol (symbol (symbol (token (so.mark m.semicolon) (change ch.finish none))))))
    (turn (call (call (call (take (turn give)))))) refl refl

abbrev pub entry_MoreDeclarators : {a : In Sym.MoreDeclarators} {b : Out Sym.MoreDeclarators} {items : List Item}
    → Rule Sym.MoreDeclarators a b items → Entry Sym.MoreDeclarators a b items
entry_MoreDeclarators (Rule.more_declarators x0 x1 x2 x3) =
    entry 0 (token (so.mark m.comma) (change ch.end_specifiers (symbol (symbol none))))
    (take (turn (call (call give)))) refl refl
entry_MoreDeclarators (Rule.last_declarator x0) =
    null_entry 1 (none)
    (give) refl (λ A. refl) (λ A. refl)

abbrev pub entry_Enumerators : {a : In Sym.Enumerators} {b : Out Sym.Enumerators} {items : List Item} → Rule Sym.Enumerators a b items
    → Entry Sym.Enumerators a b items
entry_Enumerators (Rule.enumerators x0 x1) =
    entry 0 (symbol (symbol none))
    (call (call give)) refl refl

abbrev pub entry_MoreEnumerators : {a : In Sym.MoreEnumerators} {b : Out Sym.MoreEnumerators} {items : List Item}
    → Rule Sym.MoreEnumerators a b items → Entry Sym.MoreEnumerators a b items
entry_MoreEnumerators (Rule.last_enumerator_comma x0 x1) =
    entry 0 (token (so.mark m.comma) none)
    (take give) refl refl
entry_MoreEnumerators (Rule.more_enumerators x0 x1 x2 x3) =
    entry 1 (token (so.mark m.comma) (symbol (symbol none)))
    (take (call (call give))) refl refl
entry_MoreEnumerators (Rule.last_enumerator x0) =
    null_entry 2 (none)
    (give) refl (λ A. refl) (λ A. refl)

abbrev pub entry_Enumerator : {a : In Sym.Enumerator} {b : Out Sym.Enumerator} {items : List Item} → Rule Sym.Enumerator a b items
    → Entry Sym.Enumerator a b items
entry_Enumerator (Rule.enumerator x0 x1) =
    entry 0 (change ch.begin (token so.enumerator_name (symbol (change ch.declare (change ch.finish none)))))
    (turn (take (call (turn (turn give))))) refl refl

abbrev pub entry_EnumeratorValue : {a : In Sym.EnumeratorValue} {b : Out Sym.EnumeratorValue} {items : List Item}
    → Rule Sym.EnumeratorValue a b items → Entry Sym.EnumeratorValue a b items
entry_EnumeratorValue (Rule.value x0 x1) =
    entry 0 (token (so.mark m.equal) (symbol none))
    (take (call give)) refl refl
entry_EnumeratorValue Rule.no_value =
    null_entry 1 (none)
    (give) refl (λ A. refl) (λ A. refl)

abbrev pub entry_DeclaratorOf : (k : Mode) {a : In (Sym.DeclaratorOf k)} {b : Out (Sym.DeclaratorOf k)} {items : List Item}
    → Rule (Sym.DeclaratorOf k) a b items → Entry (Sym.DeclaratorOf k) a b items
entry_DeclaratorOf Mode.concrete (Rule.plain_declarator x0 x1 x2) =
    entry 0 (next (change ch.enter (symbol (change ch.leave none))))
    (look (turn (call (turn give)))) refl refl
entry_DeclaratorOf Mode.concrete (Rule.pointed_declarator x0 x1 x2 x3 x4) =
    entry 1 (change ch.enter (token (so.mark m.asterisk)
    (change ch.end_specifiers (symbol (symbol (symbol (change ch.indirect (change ch.leave none))))))))
    (turn (take (turn (call (call (call (turn (turn give)))))))) refl refl
entry_DeclaratorOf Mode.concrete (Rule.pointers_alone x0 x1 x2 x3 x4) =
    entry 2 (change ch.enter (token (so.mark m.asterisk) (change ch.end_specifiers (symbol (symbol (change ch.leave none))))))
    (turn (take (turn (call (call (turn give)))))) refl refl
entry_DeclaratorOf Mode.parameter (Rule.plain_declarator x0 x1 x2) =
    entry 0 (next (change ch.enter (symbol (change ch.leave none))))
    (look (turn (call (turn give)))) refl refl
entry_DeclaratorOf Mode.parameter (Rule.pointed_declarator x0 x1 x2 x3 x4) =
    entry 1 (change ch.enter (token (so.mark m.asterisk)
    (change ch.end_specifiers (symbol (symbol (symbol (change ch.indirect (change ch.leave none))))))))
    (turn (take (turn (call (call (call (turn (turn give)))))))) refl refl
entry_DeclaratorOf Mode.parameter (Rule.pointers_alone x0 x1 x2 x3 x4) =
    entry 2 (change ch.enter (token (so.mark m.asterisk) (change ch.end_specifiers (symbol (symbol (change ch.leave none))))))
    (turn (take (turn (call (call (turn give)))))) refl refl
entry_DeclaratorOf Mode.grouped (Rule.plain_declarator x0 x1 x2) =
    entry 0 (next (change ch.enter (symbol (change ch.leave none))))
    (look (turn (call (turn give)))) refl refl
entry_DeclaratorOf Mode.grouped (Rule.pointed_declarator x0 x1 x2 x3 x4) =
    entry 1 (change ch.enter (token (so.mark m.asterisk)
    (change ch.end_specifiers (symbol (symbol (symbol (change ch.indirect (change ch.leave none))))))))
    (turn (take (turn (call (call (call (turn (turn give)))))))) refl refl
entry_DeclaratorOf Mode.grouped (Rule.pointers_alone x0 x1 x2 x3 x4) =
    entry 2 (change ch.enter (token (so.mark m.asterisk) (change ch.end_specifiers (symbol (symbol (change ch.leave none))))))
    (turn (take (turn (call (call (turn give)))))) refl refl
entry_DeclaratorOf Mode.abstract (Rule.plain_declarator x0 x1 x2) =
    entry 0 (next (change ch.enter (symbol (change ch.leave none))))
    (look (turn (call (turn give)))) refl refl
entry_DeclaratorOf Mode.abstract (Rule.pointed_declarator x0 x1 x2 x3 x4) =
    entry 1 (change ch.enter (token (so.mark m.asterisk)
    (change ch.end_specifiers (symbol (symbol (symbol (change ch.indirect (change ch.leave none))))))))
    (turn (take (turn (call (call (call (turn (turn give)))))))) refl refl
entry_DeclaratorOf Mode.abstract (Rule.pointers_alone x0 x1 x2 x3 x4) =
    entry 2 (change ch.enter (token (so.mark m.asterisk) (change ch.end_specifiers (symbol (symbol (change ch.leave none))))))
    (turn (take (turn (call (call (turn give)))))) refl refl

abbrev pub entry_Pointers : {a : In Sym.Pointers} {b : Out Sym.Pointers} {items : List Item} → Rule Sym.Pointers a b items
    → Entry Sym.Pointers a b items
entry_Pointers (Rule.more_pointers x0 x1 x2 x3) =
    entry 0 (token (so.mark m.asterisk) (change ch.end_specifiers (symbol (symbol none))))
    (take (turn (call (call give)))) refl refl
entry_Pointers (Rule.last_pointer x0) =
    null_entry 1 (none)
    (give) refl (λ A. refl) (λ A. refl)

abbrev pub entry_Qualifiers : {a : In Sym.Qualifiers} {b : Out Sym.Qualifiers} {items : List Item} → Rule Sym.Qualifiers a b items
    → Entry Sym.Qualifiers a b items
entry_Qualifiers (Rule.more_qualifiers x0 x1 x2) =
    entry 0 (token so.qualifier (symbol none))
    (take (call give)) refl refl
entry_Qualifiers (Rule.last_qualifier x0) =
    null_entry 1 (none)
    (give) refl (λ A. refl) (λ A. refl)

abbrev pub entry_DirectOf : (k : Mode) {a : In (Sym.DirectOf k)} {b : Out (Sym.DirectOf k)} {items : List Item}
    → Rule (Sym.DirectOf k) a b items → Entry (Sym.DirectOf k) a b items
entry_DirectOf Mode.concrete (Rule.named x0 x1 x2 x3) =
    entry 0 (token so.declared_name (symbol none))
    (take (call give)) refl refl
entry_DirectOf Mode.concrete (Rule.nested x0 x1 x2 x3 x4) =
    entry 1 (token (so.mark m.left_parenthesis)
    (change ch.end_specifiers (symbol (token (so.mark m.right_parenthesis) (symbol none)))))
    (take (turn (call (take (call give))))) refl refl
entry_DirectOf Mode.concrete (Rule.nameless x0 x1 x2 x3) = differ x3 refl
entry_DirectOf Mode.parameter (Rule.named x0 x1 x2 x3) =
    entry 0 (token so.declared_name (symbol none))
    (take (call give)) refl refl
entry_DirectOf Mode.parameter (Rule.nested x0 x1 x2 x3 x4) =
    entry 1 (token (so.mark m.left_parenthesis)
    (change ch.end_specifiers (symbol (token (so.mark m.right_parenthesis) (symbol none)))))
    (take (turn (call (take (call give))))) refl refl
entry_DirectOf Mode.parameter (Rule.nameless x0 x1 x2 x3) =
    entry 2 (symbol (symbol none))
    (call (call give)) refl refl
entry_DirectOf Mode.grouped (Rule.named x0 x1 x2 x3) =
    entry 0 (token so.grouped_name (symbol none))
    (take (call give)) refl refl
entry_DirectOf Mode.grouped (Rule.nested x0 x1 x2 x3 x4) =
    entry 1 (token (so.mark m.left_parenthesis)
    (change ch.end_specifiers (symbol (token (so.mark m.right_parenthesis) (symbol none)))))
    (take (turn (call (take (call give))))) refl refl
entry_DirectOf Mode.grouped (Rule.nameless x0 x1 x2 x3) =
    entry 2 (symbol (symbol none))
    (call (call give)) refl refl
entry_DirectOf Mode.abstract (Rule.named x0 x1 x2 x3) = differ x3 refl
entry_DirectOf Mode.abstract (Rule.nested x0 x1 x2 x3 x4) =
    entry 1 (token (so.mark m.left_parenthesis)
    (change ch.end_specifiers (symbol (token (so.mark m.right_parenthesis) (symbol none)))))
    (take (turn (call (take (call give))))) refl refl
entry_DirectOf Mode.abstract (Rule.nameless x0 x1 x2 x3) =
    entry 2 (symbol (symbol none))
    (call (call give)) refl refl

abbrev pub entry_Parts : {a : In Sym.Parts} {b : Out Sym.Parts} {items : List Item} → Rule Sym.Parts a b items → Entry Sym.Parts a b items
entry_Parts (Rule.more_parts x0 x1 x2) =
    entry 0 (symbol (symbol none))
    (call (call give)) refl refl
entry_Parts (Rule.last_part x0) =
    null_entry 1 (none)
    (give) refl (λ A. refl) (λ A. refl)

abbrev pub entry_Part : {a : In Sym.Part} {b : Out Sym.Part} {items : List Item} → Rule Sym.Part a b items → Entry Sym.Part a b items
entry_Part (Rule.array x0 x1 x2) =
    entry 0 (token (so.mark m.left_bracket) (change ch.indirect (symbol (token (so.mark m.right_bracket) none))))
    (take (turn (call (take give)))) refl refl
entry_Part (Rule.parameters x0 x1 x2) =
    entry 1 (token (so.mark m.left_parenthesis)
    (change ch.open_scope (symbol (token (so.mark m.right_parenthesis) (change ch.close_parameters none)))))
    (take (turn (call (take (turn give))))) refl refl

abbrev pub entry_Size : {a : In Sym.Size} {b : Out Sym.Size} {items : List Item} → Rule Sym.Size a b items → Entry Sym.Size a b items
entry_Size (Rule.size x0) =
    entry 0 (symbol none)
    (call give) refl refl
entry_Size Rule.no_size =
    null_entry 1 (none)
    (give) refl (λ A. refl) (λ A. refl)

abbrev pub entry_Parameters : {a : In Sym.Parameters} {b : Out Sym.Parameters} {items : List Item} → Rule Sym.Parameters a b items
    → Entry Sym.Parameters a b items
entry_Parameters (Rule.void_alone x0) =
    entry 0 (token (so.word d.void_word refl) none)
    (take give) refl refl
entry_Parameters (Rule.parameter_list x0 x1 x2) =
    entry 1 (symbol (symbol none))
    (call (call give)) refl refl
entry_Parameters Rule.no_parameters =
    null_entry 2 (none)
    (give) refl (λ A. refl) (λ A. refl)

abbrev pub entry_MoreParameters : {a : In Sym.MoreParameters} {b : Out Sym.MoreParameters} {items : List Item}
    → Rule Sym.MoreParameters a b items → Entry Sym.MoreParameters a b items
entry_MoreParameters (Rule.variable_arguments x0 x1 x2) =
    entry 0 (token (so.mark m.comma) (token (so.mark m.ellipsis) none))
    (take (take give)) refl refl
entry_MoreParameters (Rule.more_parameters x0 x1 x2 x3) =
    entry 1 (token (so.mark m.comma) (symbol (symbol none)))
    (take (call (call give))) refl refl
entry_MoreParameters (Rule.last_parameter x0) =
    null_entry 2 (none)
    (give) refl (λ A. refl) (λ A. refl)

abbrev pub entry_Parameter : {a : In Sym.Parameter} {b : Out Sym.Parameter} {items : List Item} → Rule Sym.Parameter a b items
    → Entry Sym.Parameter a b items
entry_Parameter (Rule.parameter x0 x1) =
    entry 0 (change ch.begin (symbol (symbol (change ch.declare (change ch.finish none)))))
    (turn (call (call (turn (turn give))))) refl refl

abbrev pub entry_MaybeDeclarator : (k : Mode) {a : In (Sym.MaybeDeclarator k)} {b : Out (Sym.MaybeDeclarator k)} {items : List Item}
    → Rule (Sym.MaybeDeclarator k) a b items → Entry (Sym.MaybeDeclarator k) a b items
entry_MaybeDeclarator Mode.concrete (Rule.some_declarator x0 x1) =
    entry 0 (symbol none)
    (call give) refl refl
entry_MaybeDeclarator Mode.concrete (Rule.no_declarator x0) =
    null_entry 1 (none)
    (give) refl (λ A. refl) (λ A. refl)
entry_MaybeDeclarator Mode.parameter (Rule.some_declarator x0 x1) =
    entry 0 (symbol none)
    (call give) refl refl
entry_MaybeDeclarator Mode.parameter (Rule.no_declarator x0) =
    null_entry 1 (none)
    (give) refl (λ A. refl) (λ A. refl)
entry_MaybeDeclarator Mode.grouped (Rule.some_declarator x0 x1) =
    entry 0 (symbol none)
    (call give) refl refl
entry_MaybeDeclarator Mode.grouped (Rule.no_declarator x0) =
    null_entry 1 (none)
    (give) refl (λ A. refl) (λ A. refl)
entry_MaybeDeclarator Mode.abstract (Rule.some_declarator x0 x1) =
    entry 0 (symbol none)
    (call give) refl refl
entry_MaybeDeclarator Mode.abstract (Rule.no_declarator x0) =
    null_entry 1 (none)
    (give) refl (λ A. refl) (λ A. refl)

abbrev pub entry_NameOfType : {a : In Sym.NameOfType} {b : Out Sym.NameOfType} {items : List Item} → Rule Sym.NameOfType a b items
    → Entry Sym.NameOfType a b items
entry_NameOfType (Rule.type_name x0 x1) =
    entry 0 (change ch.begin (symbol (symbol (change ch.finish none))))
    (turn (call (call (turn give)))) refl refl

abbrev pub entry_InitialValue : {a : In Sym.InitialValue} {b : Out Sym.InitialValue} {items : List Item} → Rule Sym.InitialValue a b items
    → Entry Sym.InitialValue a b items
entry_InitialValue (Rule.one_value x0) =
    entry 0 (change ch.enter (symbol (change ch.leave none)))
    (turn (call (turn give))) refl refl
entry_InitialValue (Rule.braced x0 x1 x2 x3) =
    entry 1 (change ch.enter (token (so.mark m.left_brace) (symbol (symbol (token (so.mark m.right_brace) (change ch.leave none))))))
    (turn (take (call (call (take (turn give)))))) refl refl

abbrev pub entry_MoreEntries : {a : In Sym.MoreEntries} {b : Out Sym.MoreEntries} {items : List Item} → Rule Sym.MoreEntries a b items
    → Entry Sym.MoreEntries a b items
entry_MoreEntries (Rule.last_entry_comma x0 x1) =
    entry 0 (token (so.mark m.comma) none)
    (take give) refl refl
entry_MoreEntries (Rule.more_entries x0 x1 x2 x3) =
    entry 1 (token (so.mark m.comma) (symbol (symbol none)))
    (take (call (call give))) refl refl
entry_MoreEntries (Rule.last_entry x0) =
    null_entry 2 (none)
    (give) refl (λ A. refl) (λ A. refl)

abbrev pub entry_Entry : {a : In Sym.Entry} {b : Out Sym.Entry} {items : List Item} → Rule Sym.Entry a b items → Entry Sym.Entry a b items
entry_Entry (Rule.plain_entry x0) =
    entry 0 (symbol none)
    (call give) refl refl
entry_Entry (Rule.designated_entry x0 x1 x2 x3) =
    entry 1 (symbol (symbol (token (so.mark m.equal) (symbol none))))
    (call (call (take (call give)))) refl refl

abbrev pub entry_MoreDesignators : {a : In Sym.MoreDesignators} {b : Out Sym.MoreDesignators} {items : List Item}
    → Rule Sym.MoreDesignators a b items → Entry Sym.MoreDesignators a b items
entry_MoreDesignators (Rule.more_designators x0 x1 x2) =
    entry 0 (symbol (symbol none))
    (call (call give)) refl refl
entry_MoreDesignators (Rule.last_designator x0) =
    null_entry 1 (none)
    (give) refl (λ A. refl) (λ A. refl)

abbrev pub entry_Designation : {a : In Sym.Designation} {b : Out Sym.Designation} {items : List Item} → Rule Sym.Designation a b items
    → Entry Sym.Designation a b items
entry_Designation (Rule.designated_element x0 x1 x2) =
    entry 0 (token (so.mark m.left_bracket) (symbol (token (so.mark m.right_bracket) none)))
    (take (call (take give))) refl refl
entry_Designation (Rule.designated_member x0 x1) =
    entry 1 (token (so.mark m.period) (token so.any_name none))
    (take (take give)) refl refl
