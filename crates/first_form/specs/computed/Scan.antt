-- The tokens of a text as a function: what the lexer computes.
use Rattle.std.specs.Prelude.{ℕ, zero, suc, ◌+◌, ◌-◌, Bool, false, ◌&&◌, ◌==◌, if◌then◌else◌, List, [], ◌∷◌, take, Option, Some, None}
use Rattle.std.specs.Option.{option_map}
use Rattle.std.specs.List.{prefix_len}
use Rattle.c_lexer.specs.Bytes.{is_digit, is_nondigit, is_word_byte, is_number_byte}
use Rattle.first_form.specs.Marks.{is_mark}
use Rattle.first_form.specs.Pieces.{Piece}
use Rattle.c_lexer.specs.computed.Settings.{◌>>=◌}

abbrev pub begins_with : ℕ → List ℕ → Bool
begins_with b [] = false
begins_with b (c ∷ cs) = c == b

-- the length of the token at the front, where it is one that the form has
abbrev pub piece_len : List ℕ → Option ℕ
piece_len [] = None
piece_len (b ∷ bs) =
    if is_nondigit b then Some (1 + prefix_len is_word_byte bs)
    else if is_digit b then (if prefix_len is_number_byte bs == prefix_len is_digit bs then Some (1 + prefix_len is_digit bs) else None)
    else if is_mark b then (if (b == 61) && begins_with 61 bs then None else Some 1)
    else None

abbrev pub put_first : Piece → Option (List Piece) → Option (List Piece)
put_first p rest = option_map (λ ps. p ∷ ps) rest

-- the tokens from a place on, of which the first `skip` bytes belong to a token that was taken already
unfoldable pub pieces_from : ℕ → ℕ → ℕ → List ℕ → Option (List Piece)
pieces_from skip line col [] = Some []
pieces_from (suc skip) line col (b ∷ bs) = pieces_from skip line (col + 1) bs
pieces_from zero line col (b ∷ bs) =
    if b == 10 then pieces_from 0 (line + 1) 1 bs
    else if b == 32 then pieces_from 0 line (col + 1) bs
    else piece_len (b ∷ bs) >>= λ len. put_first (record { text = take len (b ∷ bs); line = line; col = col }) (pieces_from (len - 1) line (col + 1) bs)
