-- The one form of file that is accepted so far, as a grammar over its tokens, apart from how it is read.
use Rattle.std.specs.Prelude.{◌≡◌, ◌≢◌, ℕ, ◌<◌, ◌≤◌, Bool, true, false, ◌||◌, List, [], ◌∷◌, ◌++◌, codes, decimal, drop, map, position, Some, AllPairs}
use Rattle.std.specs.Option.{is_some}
use Rattle.std.specs.List.{list_any}
use Rattle.std.specs.Str.{bytes_eq}
use Rattle.c_syntax.specs.Keywords.{keyword_number}
use Rattle.c_lexer.specs.Bytes.{is_nondigit}
use Rattle.first_form.specs.Pieces.{Piece}
use Rattle.first_form.specs.Cuts.{Cuts}
use Rattle.first_form.specs.declared.program.Array.{Array}
use Rattle.first_form.specs.declared.program.Store.{Store}
use Rattle.first_form.specs.declared.program.Program.{Program}

-- words that GCC gives a meaning of its own
abbrev pub gnu_words : List (List ℕ)
gnu_words = codes "__attribute__" ∷ codes "__attribute" ∷ codes "__extension__" ∷ codes "__asm__" ∷ codes "__asm" ∷ codes "asm" ∷ codes "__inline"
    ∷ codes "__inline__" ∷ codes "__restrict" ∷ codes "__restrict__" ∷ codes "__const" ∷ codes "__volatile__" ∷ codes "__signed__"
    ∷ codes "__typeof__" ∷ codes "__builtin_va_list" ∷ []

-- a word that no array has as its name: a keyword, one of GCC's, or `main`
abbrev pub is_reserved : List ℕ → Bool
is_reserved text = is_some (keyword_number text) || list_any (bytes_eq text) (gnu_words ++ codes "main" ∷ [])

abbrev pub begins_word : List ℕ → Bool
begins_word [] = false
begins_word (b ∷ bs) = is_nondigit b

-- of a token: it is the name of an array
pub record IsName (text : List ℕ) : Type 0 where
  pub word : begins_word text ≡ true
  pub free : is_reserved text ≡ false

-- numbers are below this; they stand in decimals, without a leading zero
abbrev pub number_end : ℕ
number_end = 1000000000

-- the greatest size of an array, in elements
abbrev pub greatest_size : ℕ
greatest_size = 268435456

-- the tokens have these texts, and then the rest follows
abbrev pub Spelled : List (List ℕ) → List Piece → List Piece → Type 0
Spelled [] ps rest = ps ≡ rest
Spelled (t ∷ ts) [] rest = ⊥
Spelled (t ∷ ts) (p ∷ ps) rest = (p.text ≡ t) × Spelled ts ps rest

-- array = "int" name "[" number "]" ";"
pub record IsArrayAt (a : Array) (ps rest : List Piece) : Type 0 where
  pub named : IsName a.name
  pub not_empty : 0 < a.size
  pub fits : a.size ≤ greatest_size
  pub spelled : Spelled (codes "int" ∷ a.name ∷ codes "[" ∷ decimal a.size ∷ codes "]" ∷ codes ";" ∷ []) ps rest

abbrev pub names : List Array → List (List ℕ)
names arrays = map (λ (a : Array). a.name) arrays

abbrev pub line_at : List Piece → ℕ
line_at [] = 0
line_at (p ∷ ps) = p.line

abbrev pub col_at : List Piece → ℕ
col_at [] = 0
col_at (p ∷ ps) = p.col

-- store = name "[" number "]" "=" number ";", whose place is that of its "["
pub record IsStoreAt (arrays : List Array) (s : Store) (ps rest : List Piece) : Type 0 where
  pub name : List ℕ
  pub named : IsName name
  pub declared : position (bytes_eq name) (names arrays) ≡ Some s.array
  pub short_subscript : s.subscript < number_end
  pub short_value : s.value < number_end
  pub spelled : Spelled (name ∷ codes "[" ∷ decimal s.subscript ∷ codes "]" ∷ codes "=" ∷ decimal s.value ∷ codes ";" ∷ []) ps rest
  pub line_is : s.line ≡ line_at (drop 1 ps)
  pub col_is : s.col ≡ col_at (drop 1 ps)

-- one after another
abbrev pub Each : {A : Type 0} → (A → List Piece → List Piece → Type 0) → List A → List Piece → List Piece → Type 0
Each One [] ps rest = ps ≡ rest
Each One (a ∷ more) ps rest = (mid : List Piece) × One a ps mid × Each One more mid rest

-- file = { array } "int" "main" "(" "void" ")" "{" { store } "return" number ";" "}"
pub record IsFormOf (ps : List Piece) (p : Program) : Type 0 where
  pub main : List Piece
  pub body : List Piece
  pub end : List Piece
  pub arrays : Each IsArrayAt p.arrays ps main
  pub distinct : AllPairs (λ x y. x ≢ y) (names p.arrays)
  pub head : Spelled (codes "int" ∷ codes "main" ∷ codes "(" ∷ codes "void" ∷ codes ")" ∷ codes "{" ∷ []) main body
  pub stores : Each (IsStoreAt p.arrays) p.stores body end
  pub short : p.returned < number_end
  pub tail : Spelled (codes "return" ∷ decimal p.returned ∷ codes ";" ∷ codes "}" ∷ []) end []

-- the file is of the form, and is this program
pub record IsForm (bytes : List ℕ) (p : Program) : Type 0 where
  pub tokens : List Piece
  pub cuts : Cuts 1 1 bytes tokens
  pub form : IsFormOf tokens p
