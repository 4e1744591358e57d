-- What is tested of every production.
use Rattle.std.proofs.Common.{List}
use Rattle.c_grammar.specs.Items.{Sym, In, Out, Item}
use Rattle.c_grammar.specs.Productions.{Rule}
use Rattle.c_grammar.proofs.Entry.{Entry}
use Rattle.c_grammar.proofs.EntriesOfDeclarations.{entry_AnyDeclaration, entry_InitDeclarators, entry_MoreInitDeclarators, entry_DeclaratorWithInitial, entry_Initial, entry_Specifiers, entry_MoreSpecifiers, entry_Specifier, entry_SpecifierForm, entry_Tag, entry_Members, entry_MoreMembers, entry_Member, entry_MoreDeclarators, entry_Enumerators, entry_MoreEnumerators, entry_Enumerator, entry_EnumeratorValue, entry_DeclaratorOf, entry_Pointers, entry_Qualifiers, entry_DirectOf, entry_Parts, entry_Part, entry_Size, entry_Parameters, entry_MoreParameters, entry_Parameter, entry_MaybeDeclarator, entry_NameOfType, entry_InitialValue, entry_MoreEntries, entry_Entry, entry_MoreDesignators, entry_Designation}
use Rattle.c_grammar.proofs.EntriesOfExpressions.{entry_Primary, entry_MoreTexts, entry_Postfix, entry_AfterPostfix, entry_Arguments, entry_MoreArguments, entry_Unary, entry_TypeInParentheses, entry_Cast, entry_Conditional, entry_Chosen, entry_Constant, entry_Assignment, entry_Assigned, entry_Expression, entry_MoreExpressions}
use Rattle.c_grammar.proofs.EntriesOfLevels.{entry_Level, entry_MoreOperands}
use Rattle.c_grammar.proofs.EntriesOfStatements.{entry_AnyStatement, entry_StatementForm, entry_Compound, entry_Block, entry_BlockItems, entry_Condition, entry_Substatement, entry_Else, entry_First, entry_MaybeExpression, entry_ExternalDeclaration, entry_Externals, entry_File}

abbrev pub entry_of : (n : Sym) {a : In n} {b : Out n} {items : List Item} → Rule n a b items → Entry n a b items
entry_of Sym.Primary r = entry_Primary r
entry_of Sym.MoreTexts r = entry_MoreTexts r
entry_of Sym.Postfix r = entry_Postfix r
entry_of Sym.AfterPostfix r = entry_AfterPostfix r
entry_of Sym.Arguments r = entry_Arguments r
entry_of Sym.MoreArguments r = entry_MoreArguments r
entry_of Sym.Unary r = entry_Unary r
entry_of Sym.TypeInParentheses r = entry_TypeInParentheses r
entry_of Sym.Cast r = entry_Cast r
entry_of Sym.Conditional r = entry_Conditional r
entry_of Sym.Chosen r = entry_Chosen r
entry_of Sym.Constant r = entry_Constant r
entry_of Sym.Assignment r = entry_Assignment r
entry_of Sym.Assigned r = entry_Assigned r
entry_of Sym.Expression r = entry_Expression r
entry_of Sym.MoreExpressions r = entry_MoreExpressions r
entry_of Sym.AnyDeclaration r = entry_AnyDeclaration r
entry_of Sym.InitDeclarators r = entry_InitDeclarators r
entry_of Sym.MoreInitDeclarators r = entry_MoreInitDeclarators r
entry_of Sym.DeclaratorWithInitial r = entry_DeclaratorWithInitial r
entry_of Sym.Initial r = entry_Initial r
entry_of Sym.Specifiers r = entry_Specifiers r
entry_of Sym.MoreSpecifiers r = entry_MoreSpecifiers r
entry_of Sym.Specifier r = entry_Specifier r
entry_of Sym.SpecifierForm r = entry_SpecifierForm r
entry_of Sym.Tag r = entry_Tag r
entry_of Sym.Members r = entry_Members r
entry_of Sym.MoreMembers r = entry_MoreMembers r
entry_of Sym.Member r = entry_Member r
entry_of Sym.MoreDeclarators r = entry_MoreDeclarators r
entry_of Sym.Enumerators r = entry_Enumerators r
entry_of Sym.MoreEnumerators r = entry_MoreEnumerators r
entry_of Sym.Enumerator r = entry_Enumerator r
entry_of Sym.EnumeratorValue r = entry_EnumeratorValue r
entry_of (Sym.DeclaratorOf k) r = entry_DeclaratorOf k r
entry_of Sym.Pointers r = entry_Pointers r
entry_of Sym.Qualifiers r = entry_Qualifiers r
entry_of (Sym.DirectOf k) r = entry_DirectOf k r
entry_of Sym.Parts r = entry_Parts r
entry_of Sym.Part r = entry_Part r
entry_of Sym.Size r = entry_Size r
entry_of Sym.Parameters r = entry_Parameters r
entry_of Sym.MoreParameters r = entry_MoreParameters r
entry_of Sym.Parameter r = entry_Parameter r
entry_of (Sym.MaybeDeclarator k) r = entry_MaybeDeclarator k r
entry_of Sym.NameOfType r = entry_NameOfType r
entry_of Sym.InitialValue r = entry_InitialValue r
entry_of Sym.MoreEntries r = entry_MoreEntries r
entry_of Sym.Entry r = entry_Entry r
entry_of Sym.MoreDesignators r = entry_MoreDesignators r
entry_of Sym.Designation r = entry_Designation r
entry_of Sym.AnyStatement r = entry_AnyStatement r
entry_of Sym.StatementForm r = entry_StatementForm r
entry_of Sym.Compound r = entry_Compound r
entry_of Sym.Block r = entry_Block r
entry_of Sym.BlockItems r = entry_BlockItems r
entry_of Sym.Condition r = entry_Condition r
entry_of Sym.Substatement r = entry_Substatement r
entry_of Sym.Else r = entry_Else r
entry_of Sym.First r = entry_First r
entry_of Sym.MaybeExpression r = entry_MaybeExpression r
entry_of Sym.ExternalDeclaration r = entry_ExternalDeclaration r
entry_of Sym.Externals r = entry_Externals r
entry_of Sym.File r = entry_File r
entry_of (Sym.Level n) r = entry_Level n r
entry_of (Sym.MoreOperands n) r = entry_MoreOperands n r
