-- Decimal numbers.
use Rattle.std.specs.Prelude.{ℕ, zero, suc, ◌+◌, ◌-◌, ◌*◌, Bool, cond, ◌&&◌, List, [], ◌∷◌, Some, None, Option, nat_le}
use Rattle.notation.specs.Parts.{parts_left}

-- The digits 0 to 9.
abbrev pub is_digit : ℕ → Bool
is_digit b = nat_le 48 b && nat_le b 57

-- The number that digits write behind the digits of n, if all of the bytes are digits.
abbrev pub value : ℕ → List ℕ → Option ℕ
value n [] = Some n
value n (b ∷ bs) = cond (is_digit b) (value (10 * n + (b - 48)) bs) None

-- A number counts only up to the greatest of 32 bits.
abbrev pub fits : ℕ → Option ℕ
fits n = cond (nat_le n 4294967295) (Some n) None

abbrev pub fitting : Option ℕ → Option ℕ
fitting None = None
fitting (Some n) = fits n

-- The number that a text writes: one digit or more.
abbrev pub number_of : List ℕ → Option ℕ
number_of [] = None
number_of (b ∷ bs) = fitting (value 0 (b ∷ bs))

abbrev pub in_front : Option ℕ → Option (List ℕ) → Option (List ℕ)
in_front None ns = None
in_front (Some n) None = None
in_front (Some n) (Some ns) = Some (n ∷ ns)

-- Exactly so many numbers, one in each part.
unfoldable pub numbers_in : ℕ → List (List ℕ) → Option (List ℕ)
numbers_in zero [] = Some []
numbers_in zero (p ∷ ps) = None
numbers_in (suc n) [] = None
numbers_in (suc n) (p ∷ ps) = in_front (number_of p) (numbers_in n ps)

-- Exactly so many numbers, with a separator between each and the next.
abbrev pub numbers_of : ℕ → ℕ → Option (List ℕ) → Option (List ℕ)
numbers_of n s text = numbers_in n (parts_left s text)
