-- Tests of a token's kind, and what it carries.
use Rattle.std.specs.Prelude.{ℕ, Bool, true, false, ◌==◌, ◌||◌, List, [], ◌∷◌}
use Rattle.c_tree.specs.declared.lexeme.LexemeKind.{LexemeKind}
use Rattle.c_tree.specs.declared.lexeme.LexemeKind.TheVariants as k
use Rattle.c_tree.specs.declared.lexeme.Lexeme.{Lexeme}

abbrev pub is_mark : ℕ → LexemeKind → Bool
is_mark m (k.Mark n) = n == m
is_mark m _ = false

abbrev pub is_word : ℕ → LexemeKind → Bool
is_word w (k.Word v) = v == w
is_word w _ = false

abbrev pub is_name : LexemeKind → Bool
is_name (k.Name x) = true
is_name _ = false

abbrev pub is_number : LexemeKind → Bool
is_number (k.Number n of) = true
is_number _ = false

abbrev pub is_character : LexemeKind → Bool
is_character (k.Character n) = true
is_character _ = false

abbrev pub is_text : LexemeKind → Bool
is_text (k.Text bytes) = true
is_text _ = false

abbrev pub is_end : LexemeKind → Bool
is_end k.End = true
is_end _ = false

-- one of these
abbrev pub is_mark_of : List ℕ → LexemeKind → Bool
is_mark_of [] kind = false
is_mark_of (m ∷ ms) kind = is_mark m kind || is_mark_of ms kind

abbrev pub is_word_of : List ℕ → LexemeKind → Bool
is_word_of [] kind = false
is_word_of (w ∷ ws) kind = is_word w kind || is_word_of ws kind

-- the number of a name
abbrev pub name_in : LexemeKind → ℕ
name_in (k.Name x) = x
name_in _ = 0

abbrev pub name_of : Lexeme → ℕ
name_of t = name_in t.kind

-- the bytes of a text
abbrev pub bytes_in : LexemeKind → List ℕ
bytes_in (k.Text bytes) = bytes
bytes_in _ = []

abbrev pub bytes_of : Lexeme → List ℕ
bytes_of t = bytes_in t.kind

-- the number of a keyword
abbrev pub word_in : LexemeKind → ℕ
word_in (k.Word w) = w
word_in _ = 0

abbrev pub word_of : Lexeme → ℕ
word_of t = word_in t.kind
