-- The numbers of the keywords (ISO/IEC 9899:1999, 6.4.1). The law `numbers_of_keywords` ties them to their spellings.
use Rattle.std.specs.Prelude.{ℕ, List, [], ◌∷◌, codes}

abbrev pub auto_word : ℕ
auto_word = 0

abbrev pub break_word : ℕ
break_word = 1

abbrev pub case_word : ℕ
case_word = 2

abbrev pub char_word : ℕ
char_word = 3

abbrev pub const_word : ℕ
const_word = 4

abbrev pub continue_word : ℕ
continue_word = 5

abbrev pub default_word : ℕ
default_word = 6

abbrev pub do_word : ℕ
do_word = 7

abbrev pub double_word : ℕ
double_word = 8

abbrev pub else_word : ℕ
else_word = 9

abbrev pub enum_word : ℕ
enum_word = 10

abbrev pub extern_word : ℕ
extern_word = 11

abbrev pub float_word : ℕ
float_word = 12

abbrev pub for_word : ℕ
for_word = 13

abbrev pub goto_word : ℕ
goto_word = 14

abbrev pub if_word : ℕ
if_word = 15

abbrev pub inline_word : ℕ
inline_word = 16

abbrev pub int_word : ℕ
int_word = 17

abbrev pub long_word : ℕ
long_word = 18

abbrev pub register_word : ℕ
register_word = 19

abbrev pub restrict_word : ℕ
restrict_word = 20

abbrev pub return_word : ℕ
return_word = 21

abbrev pub short_word : ℕ
short_word = 22

abbrev pub signed_word : ℕ
signed_word = 23

abbrev pub sizeof_word : ℕ
sizeof_word = 24

abbrev pub static_word : ℕ
static_word = 25

abbrev pub struct_word : ℕ
struct_word = 26

abbrev pub switch_word : ℕ
switch_word = 27

abbrev pub typedef_word : ℕ
typedef_word = 28

abbrev pub union_word : ℕ
union_word = 29

abbrev pub unsigned_word : ℕ
unsigned_word = 30

abbrev pub void_word : ℕ
void_word = 31

abbrev pub volatile_word : ℕ
volatile_word = 32

abbrev pub while_word : ℕ
while_word = 33

abbrev pub bool_word : ℕ
bool_word = 34

abbrev pub complex_word : ℕ
complex_word = 35

abbrev pub imaginary_word : ℕ
imaginary_word = 36

-- each with its spelling
abbrev pub spellings : List (List ℕ × ℕ)
spellings =
    (codes "auto", auto_word) ∷ (codes "break", break_word) ∷ (codes "case", case_word) ∷ (codes "char", char_word) ∷
    (codes "const", const_word) ∷ (codes "continue", continue_word) ∷ (codes "default", default_word) ∷ (codes "do", do_word) ∷
    (codes "double", double_word) ∷ (codes "else", else_word) ∷ (codes "enum", enum_word) ∷ (codes "extern", extern_word) ∷
    (codes "float", float_word) ∷ (codes "for", for_word) ∷ (codes "goto", goto_word) ∷ (codes "if", if_word) ∷
    (codes "inline", inline_word) ∷ (codes "int", int_word) ∷ (codes "long", long_word) ∷ (codes "register", register_word) ∷
    (codes "restrict", restrict_word) ∷ (codes "return", return_word) ∷ (codes "short", short_word) ∷ (codes "signed", signed_word) ∷
    (codes "sizeof", sizeof_word) ∷ (codes "static", static_word) ∷ (codes "struct", struct_word) ∷ (codes "switch", switch_word) ∷
    (codes "typedef", typedef_word) ∷ (codes "union", union_word) ∷ (codes "unsigned", unsigned_word) ∷ (codes "void", void_word) ∷
    (codes "volatile", volatile_word) ∷ (codes "while", while_word) ∷ (codes "_Bool", bool_word) ∷ (codes "_Complex", complex_word) ∷
    (codes "_Imaginary", imaginary_word) ∷ []
