-- Texts whose parts stand between separators.
use Rattle.std.specs.Prelude.{◌≡◌, ℕ, cond, List, [], ◌∷◌, ◌++◌, Some, None, Option, ◌==◌, ◌≢◌}
use Rattle.std.specs.List.{AllByRecursion}

-- What stands before the first separator.
unfoldable pub front : ℕ → List ℕ → List ℕ
front s [] = []
front s (b ∷ bs) = cond (b == s) [] (b ∷ front s bs)

-- What stands behind the first separator, if there is one.
unfoldable pub behind : ℕ → List ℕ → Option (List ℕ)
behind s [] = None
behind s (b ∷ bs) = cond (b == s) (Some bs) (behind s bs)

-- One more byte at the front of the first part.
abbrev pub led_by : ℕ → List (List ℕ) → List (List ℕ)
led_by b [] = (b ∷ []) ∷ []
led_by b (p ∷ ps) = (b ∷ p) ∷ ps

-- All the parts of a text: one more than there are separators.
abbrev pub parts : ℕ → List ℕ → List (List ℕ)
parts s [] = [] ∷ []
parts s (b ∷ bs) = cond (b == s) ([] ∷ parts s bs) (led_by b (parts s bs))

-- The words of a line stand between single blanks.
abbrev pub words : List ℕ → List (List ℕ)
words line = parts 32 line

-- The parts of what may be left of a text.
abbrev pub parts_left : ℕ → Option (List ℕ) → List (List ℕ)
parts_left s None = []
parts_left s (Some text) = parts s text

-- A text is its first part alone, or its first part, a separator and the rest. No separator stands in the first part.
abbrev pub Cut : ℕ → List ℕ → List ℕ → Option (List ℕ) → Type 0
Cut s text part None = AllByRecursion (λ b. b ≢ s) part × (text ≡ part)
Cut s text part (Some rest) = AllByRecursion (λ b. b ≢ s) part × (text ≡ part ++ (s ∷ rest))
