use Rattle.std.proofs.Common.{◌≡◌, ◌≤◌, ◌||◌, ◌-◌, length}
use Rattle.std.specs.List.{list_any}
use Rattle.c_lexer.specs.Meaning.{is_wrong, is_universal_name}
use Rattle.c_lexer.specs.computed.Values.{characters_in, all_characters}
use Rattle.c_lexer.proofs.character.flaws_in.Given as goal

abbrev pub invariant-loop-turn : goal.invariant-loop-turn
invariant-loop-turn l = record {
  within : length l.rest ≤ l._turn-end - l._turn;
  wrong : (l.found.has_wrong || list_any is_wrong (characters_in (l._turn-end - l._turn) l.rest)) ≡ list_any is_wrong (all_characters l.body);
  universal : (l.found.has_universal || list_any is_universal_name (characters_in (l._turn-end - l._turn) l.rest)) ≡ list_any is_universal_name (all_characters l.body);
}
