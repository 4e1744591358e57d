-- What a declarator may be, by where it stands.
use Rattle.std.specs.Prelude.{Bool, true, false}
use Rattle.c_grammar.specs.Items.{Mode, Mode.concrete, Mode.parameter, Mode.grouped, Mode.abstract}
use Rattle.c_grammar.specs.Terminals.{Terminal, declared_name, grouped_name}

-- whether it may have a name, which then is of this kind (ISO/IEC 9899:1999, 6.7.5, 6.7.5.3)
abbrev pub may_have_name : Mode → Bool
may_have_name abstract = false
may_have_name _ = true

abbrev pub name_of_mode : Mode → Terminal
name_of_mode grouped = grouped_name
name_of_mode _ = declared_name

-- whether the name may be left out (6.7.6)
abbrev pub may_lack_name : Mode → Bool
may_lack_name concrete = false
may_lack_name _ = true

-- what stands behind a `*`, and in parentheses
abbrev pub behind_pointer : Mode → Mode
behind_pointer grouped = parameter
behind_pointer m = m

abbrev pub in_parentheses : Mode → Mode
in_parentheses parameter = grouped
in_parentheses m = m
