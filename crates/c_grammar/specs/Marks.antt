-- The numbers of the punctuators (ISO/IEC 9899:1999, 6.4.6). The law `numbers_of_punctuators` ties them to their spellings.
use Rattle.std.specs.Prelude.{ℕ, List, [], ◌∷◌, codes}

-- [
abbrev pub left_bracket : ℕ
left_bracket = 0

-- ]
abbrev pub right_bracket : ℕ
right_bracket = 1

-- (
abbrev pub left_parenthesis : ℕ
left_parenthesis = 2

-- )
abbrev pub right_parenthesis : ℕ
right_parenthesis = 3

-- {
abbrev pub left_brace : ℕ
left_brace = 4

-- }
abbrev pub right_brace : ℕ
right_brace = 5

-- .
abbrev pub period : ℕ
period = 6

-- ->
abbrev pub arrow : ℕ
arrow = 7

-- ++
abbrev pub plus_plus : ℕ
plus_plus = 8

-- --
abbrev pub minus_minus : ℕ
minus_minus = 9

-- &
abbrev pub ampersand : ℕ
ampersand = 10

-- *
abbrev pub asterisk : ℕ
asterisk = 11

-- +
abbrev pub plus : ℕ
plus = 12

-- -
abbrev pub minus : ℕ
minus = 13

-- ~
abbrev pub tilde : ℕ
tilde = 14

-- !
abbrev pub exclamation : ℕ
exclamation = 15

-- /
abbrev pub slash : ℕ
slash = 16

-- %
abbrev pub percent : ℕ
percent = 17

-- <<
abbrev pub shift_left : ℕ
shift_left = 18

-- >>
abbrev pub shift_right : ℕ
shift_right = 19

-- <
abbrev pub less : ℕ
less = 20

-- >
abbrev pub greater : ℕ
greater = 21

-- <=
abbrev pub less_equal : ℕ
less_equal = 22

-- >=
abbrev pub greater_equal : ℕ
greater_equal = 23

-- ==
abbrev pub equal_equal : ℕ
equal_equal = 24

-- !=
abbrev pub not_equal : ℕ
not_equal = 25

-- ^
abbrev pub caret : ℕ
caret = 26

-- |
abbrev pub bar : ℕ
bar = 27

-- &&
abbrev pub and_and : ℕ
and_and = 28

-- ||
abbrev pub or_or : ℕ
or_or = 29

-- ?
abbrev pub question : ℕ
question = 30

-- :
abbrev pub colon : ℕ
colon = 31

-- ;
abbrev pub semicolon : ℕ
semicolon = 32

-- ...
abbrev pub ellipsis : ℕ
ellipsis = 33

-- =
abbrev pub equal : ℕ
equal = 34

-- *=
abbrev pub times_equal : ℕ
times_equal = 35

-- /=
abbrev pub over_equal : ℕ
over_equal = 36

-- %=
abbrev pub remainder_equal : ℕ
remainder_equal = 37

-- +=
abbrev pub plus_equal : ℕ
plus_equal = 38

-- -=
abbrev pub minus_equal : ℕ
minus_equal = 39

-- <<=
abbrev pub shift_left_equal : ℕ
shift_left_equal = 40

-- >>=
abbrev pub shift_right_equal : ℕ
shift_right_equal = 41

-- &=
abbrev pub and_equal : ℕ
and_equal = 42

-- ^=
abbrev pub xor_equal : ℕ
xor_equal = 43

-- |=
abbrev pub or_equal : ℕ
or_equal = 44

-- ,
abbrev pub comma : ℕ
comma = 45

-- each with its spelling
abbrev pub spellings : List (List ℕ × ℕ)
spellings =
    (codes "[", left_bracket) ∷ (codes "]", right_bracket) ∷ (codes "(", left_parenthesis) ∷ (codes ")", right_parenthesis) ∷
    (codes "{", left_brace) ∷ (codes "}", right_brace) ∷ (codes ".", period) ∷ (codes "->", arrow) ∷ (codes "++", plus_plus) ∷
    (codes "--", minus_minus) ∷ (codes "&", ampersand) ∷ (codes "*", asterisk) ∷ (codes "+", plus) ∷ (codes "-", minus) ∷
    (codes "~", tilde) ∷ (codes "!", exclamation) ∷ (codes "/", slash) ∷ (codes "%", percent) ∷ (codes "<<", shift_left) ∷
    (codes ">>", shift_right) ∷ (codes "<", less) ∷ (codes ">", greater) ∷ (codes "<=", less_equal) ∷ (codes ">=", greater_equal) ∷
    (codes "==", equal_equal) ∷ (codes "!=", not_equal) ∷ (codes "^", caret) ∷ (codes "|", bar) ∷ (codes "&&", and_and) ∷
    (codes "||", or_or) ∷ (codes "?", question) ∷ (codes ":", colon) ∷ (codes ";", semicolon) ∷ (codes "...", ellipsis) ∷
    (codes "=", equal) ∷ (codes "*=", times_equal) ∷ (codes "/=", over_equal) ∷ (codes "%=", remainder_equal) ∷
    (codes "+=", plus_equal) ∷ (codes "-=", minus_equal) ∷ (codes "<<=", shift_left_equal) ∷ (codes ">>=", shift_right_equal) ∷
    (codes "&=", and_equal) ∷ (codes "^=", xor_equal) ∷ (codes "|=", or_equal) ∷ (codes ",", comma) ∷ []
