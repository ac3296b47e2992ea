-- Bytes that are written in hexadecimal digits.
use Rattle.std.specs.Prelude.{ℕ, ◌+◌, ◌-◌, ◌*◌, cond, ◌&&◌, List, [], ◌∷◌, Some, None, Option, ◌==◌, nat_le}

-- The value of a digit: 0 to 9, a to f, A to F.
abbrev pub digit : ℕ → Option ℕ
digit d =
    cond (nat_le 48 d && nat_le d 57) (Some (d - 48))
    (cond (nat_le 97 d && nat_le d 102) (Some (d - 97 + 10))
    (cond (nat_le 65 d && nat_le d 70) (Some (d - 65 + 10)) None))

-- The byte of two digits in front of other bytes, if there are all of them.
abbrev pub in_front : Option ℕ → Option ℕ → Option (List ℕ) → Option (List ℕ)
in_front None l bs = None
in_front (Some h) None bs = None
in_front (Some h) (Some l) None = None
in_front (Some h) (Some l) (Some bs) = Some ((16 * h + l) ∷ bs)

-- Two digits for each byte, the higher one first.
abbrev pub pairs : List ℕ → Option (List ℕ)
pairs [] = Some []
pairs (h ∷ []) = None
pairs (h ∷ l ∷ ds) = in_front (digit h) (digit l) (pairs ds)

-- The bytes of a text. For no bytes there is `-`, so an empty text stands for nothing.
abbrev pub hex_bytes : List ℕ → Option (List ℕ)
hex_bytes [] = None
hex_bytes (d ∷ []) = cond (d == 45) (Some []) None
hex_bytes (h ∷ l ∷ ds) = pairs (h ∷ l ∷ ds)
