-- The source of the trial command.
use Rattle.std.specs.Prelude.{ℕ, zero, suc, ◌+◌, ◌*◌, ◌/◌, ◌%◌, ◌^◌, List, [], ◌++◌, codes, decimal}

-- the generator's step
abbrev pub next_draw : ℕ → ℕ
next_draw x = (1664525 * x + 1013904223) % 2 ^ 32

-- the array's length S, 2 to 31
abbrev pub length_of : ℕ → ℕ
length_of x = 2 + x / 65536 % 30

-- the index J that is read, 0 to S, of which S is one past the end
abbrev pub index_of : ℕ → ℕ
index_of x = x / 256 % (length_of x + 1)

-- the draw after k steps from the number
unfoldable pub draw_after : ℕ → ℕ → ℕ
draw_after number zero = number
draw_after number (suc k) = next_draw (draw_after number k)

-- static int bK[S];
-- int fK(int n){
--  int i;
--  for(i=0;i<S;i++) bK[i]=n+i;
--  return bK[J];
-- }
unfoldable pub function_text : ℕ → ℕ → List ℕ
function_text k x = (codes "static int b" ++ decimal k ++ codes "[" ++ decimal (length_of x) ++ codes "];\n")
    ++ (codes "int f" ++ decimal k ++ codes "(int n){\n")
    ++ codes " int i;\n"
    ++ (codes " for(i=0;i<" ++ decimal (length_of x) ++ codes ";i++) b" ++ decimal k ++ codes "[i]=n+i;\n")
    ++ (codes " return b" ++ decimal k ++ codes "[" ++ decimal (index_of x) ++ codes "];\n")
    ++ codes "}\n"

-- the first n functions
unfoldable pub functions_text : ℕ → ℕ → List ℕ
functions_text number zero = []
functions_text number (suc k) = functions_text number k ++ function_text k (draw_after number (suc k))

--  r=fK(r&255);
unfoldable pub call_text : ℕ → List ℕ
call_text k = codes " r=f" ++ decimal k ++ codes "(r&255);\n"

-- the calls of the first n functions
unfoldable pub calls_text : ℕ → List ℕ
calls_text zero = []
calls_text (suc k) = calls_text k ++ call_text k

-- int main(void){
--  int r=0;
-- the calls
--  return 0;
-- }
unfoldable pub main_text : ℕ → List ℕ
main_text functions = codes "int main(void){\n" ++ codes " int r=0;\n" ++ calls_text functions ++ codes " return 0;\n" ++ codes "}\n"

abbrev pub source_text : ℕ → ℕ → List ℕ
source_text number functions = functions_text number functions ++ main_text functions
