-- The line that names a fault of the source.
use Rattle.std.specs.Prelude.{ℕ, ◌-◌, List, [], ◌∷◌, ◌++◌, codes, decimal, slice_index_or}
use Rattle.sv_base.specs.declared.fault.FaultKind.{FaultKind}
use Rattle.sv_base.specs.declared.fault.FaultKind.TheVariants as kinds
use Rattle.sv_base.specs.declared.fault.SourceFault.{SourceFault}
use Rattle.report.specs.Report.{place_text}

abbrev pub kind_word : FaultKind → List ℕ
kind_word kinds.Lex = codes "lex"
kind_word kinds.Syntax = codes "syntax"
kind_word (kinds.Unsupported code) = codes "unsupported"
kind_word (kinds.Typing code) = codes "type"
kind_word (kinds.Link code) = codes "link"
kind_word (kinds.Limit code) = codes "limit"

abbrev pub kind_code : FaultKind → ℕ
kind_code kinds.Lex = 0
kind_code kinds.Syntax = 0
kind_code (kinds.Unsupported code) = code
kind_code (kinds.Typing code) = code
kind_code (kinds.Link code) = code
kind_code (kinds.Limit code) = code

-- the texts of the codes 0 to 15
abbrev pub unsupported_texts : List (List ℕ)
unsupported_texts = codes "form is not built yet"
    ∷ codes "floating type or constant"
    ∷ codes "complex type"
    ∷ codes "wide, universal or long character"
    ∷ codes "array of variable length"
    ∷ codes "goto or label"
    ∷ codes "bit-field"
    ∷ codes "flexible array member"
    ∷ codes "compound literal"
    ∷ codes "GNU word"
    ∷ codes "struct parameter or result"
    ∷ codes "old-style definition"
    ∷ codes "definition with variable arguments"
    ∷ codes "union"
    ∷ codes "case outside its switch"
    ∷ codes "setjmp or longjmp" ∷ []

-- the texts of the codes from 1 on, here and below
abbrev pub typing_texts : List (List ℕ)
typing_texts = codes "operand types"
    ∷ codes "name is not declared"
    ∷ codes "name is declared otherwise"
    ∷ codes "value does not convert"
    ∷ codes "not an lvalue"
    ∷ codes "number of arguments"
    ∷ codes "size is not known"
    ∷ codes "no constant"
    ∷ codes "specifiers do not fit"
    ∷ codes "member is not known"
    ∷ codes "initialiser does not fit"
    ∷ codes "address constant outside its array"
    ∷ codes "statement is misplaced" ∷ []

abbrev pub link_texts : List (List ℕ)
link_texts = codes "entry is not defined"
    ∷ codes "defined twice"
    ∷ codes "declared with unlike types"
    ∷ codes "object is not defined" ∷ []

abbrev pub limit_texts : List (List ℕ)
limit_texts = codes "file bytes"
    ∷ codes "total bytes"
    ∷ codes "tokens of all files"
    ∷ codes "nesting of the tree"
    ∷ codes "nested loops"
    ∷ codes "functions"
    ∷ codes "sites"
    ∷ codes "object size in bytes"
    ∷ codes "region and leaf classes of all objects"
    ∷ codes "registers of one function"
    ∷ codes "parameters or arguments"
    ∷ codes "bytes of one token"
    ∷ codes "presumed names" ∷ []

abbrev pub kind_text : FaultKind → List ℕ
kind_text kinds.Lex = codes "no token"
kind_text kinds.Syntax = codes "no rule"
kind_text (kinds.Unsupported code) = slice_index_or unsupported_texts code []
kind_text (kinds.Typing code) = slice_index_or typing_texts (code - 1) []
kind_text (kinds.Link code) = slice_index_or link_texts (code - 1) []
kind_text (kinds.Limit code) = slice_index_or limit_texts (code - 1) []

-- : WORD CODE TEXT
unfoldable pub kind_line : FaultKind → List ℕ
kind_line kind = codes ": " ++ kind_word kind ++ codes " " ++ decimal (kind_code kind) ++ codes " " ++ kind_text kind ++ codes "\n"

-- FILE:LINE:COL: WORD CODE TEXT, with the name that stands at the file's number
unfoldable pub fault_text : SourceFault → List (List ℕ) → List ℕ
fault_text fault names = place_text (slice_index_or names fault.place.file.0 []) fault.place.line fault.place.col ++ kind_line fault.kind
