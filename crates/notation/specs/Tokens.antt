-- The notation of a sheet's tokens.
use Rattle.std.specs.Prelude.{ℕ, cond, List, [], ◌∷◌, Some, None, codes, Option}
use Rattle.std.specs.Str.{bytes_eq}
use Rattle.sheet.specs.Numbers.{delimiter_number, spacing_number}
use Rattle.notation.specs.Parts.{front, behind}
use Rattle.notation.specs.declared.tokens.SheetToken.{SheetToken}
use Rattle.notation.specs.declared.tokens.SheetToken.TheVariants.{Name, Literal, Mark, Open, Close}

-- A token with its text.
pub data Piece : Type 0 where
  name : List ℕ → Piece
  literal : List ℕ → Piece
  mark : ℕ → ℕ → Piece
  opening : ℕ → Piece
  closing : ℕ → Piece

abbrev pub piece : SheetToken → Piece
piece (Name text) = name text.now
piece (Literal text) = literal text.now
piece (Mark character spacing) = mark character (spacing_number spacing)
piece (Open delimiter) = opening (delimiter_number delimiter)
piece (Close delimiter) = closing (delimiter_number delimiter)

-- The brackets of a group by its delimiter: 0 invisible, 1 parenthesis, 2 brace, 3 bracket.
abbrev pub bracket_of : List ℕ → Option Piece
bracket_of word =
    cond (bytes_eq word (codes "<")) (Some (opening 0))
    (cond (bytes_eq word (codes ">")) (Some (closing 0))
    (cond (bytes_eq word (codes "(")) (Some (opening 1))
    (cond (bytes_eq word (codes ")")) (Some (closing 1))
    (cond (bytes_eq word (codes "{")) (Some (opening 2))
    (cond (bytes_eq word (codes "}")) (Some (closing 2))
    (cond (bytes_eq word (codes "[")) (Some (opening 3))
    (cond (bytes_eq word (codes "]")) (Some (closing 3)) None)))))))

-- A mark is one byte.
abbrev pub mark_piece : List ℕ → ℕ → Option Piece
mark_piece [] spacing = None
mark_piece (b ∷ []) spacing = Some (mark b spacing)
mark_piece (b ∷ d ∷ bs) spacing = None

-- The kind of a token that has a text. A mark is alone, 0, or joint, 1.
abbrev pub text_piece : List ℕ → List ℕ → Option Piece
text_piece kind text =
    cond (bytes_eq kind (codes "n")) (Some (name text))
    (cond (bytes_eq kind (codes "l")) (Some (literal text))
    (cond (bytes_eq kind (codes "p")) (mark_piece text 0)
    (cond (bytes_eq kind (codes "j")) (mark_piece text 1) None)))

-- Without a colon a word can only be a bracket.
abbrev pub token_by : List ℕ → Option (List ℕ) → Option Piece
token_by kind None = bracket_of kind
token_by kind (Some text) = text_piece kind text

-- The token that a word writes.
abbrev pub token_of : List ℕ → Option Piece
token_of word = token_by (front 58 word) (behind 58 word)
