-- What the sheet of every store keeps to.
use Rattle.std.specs.Prelude.{◌≡◌, ℕ, ◌≤◌, Bool, true, false, not, ◌&&◌, ◌||◌, List, [], ◌∷◌, length, ◌==◌, nat_le}
use Rattle.sheet.specs.Trees.{Trees, nil, name, mark, literal, group, depth}
use Rattle.sheet.specs.Entries.{Entry, Group, Name, Mark, Literal, End, Nothing, entries}

abbrev pub among : ℕ → List ℕ → Bool
among c [] = false
among c (x ∷ xs) = c == x || among c xs

-- The 22 characters of a mark: = < > ! ~ + - * / % ^ & | @ . , ; : # $ ? '
abbrev pub mark_characters : List ℕ
mark_characters =
    61 ∷ 60 ∷ 62 ∷ 33 ∷ 126 ∷ 43 ∷ 45 ∷ 42 ∷ 47 ∷ 37 ∷ 94 ∷ 38 ∷ 124 ∷ 64 ∷ 46 ∷ 44 ∷ 59 ∷ 58 ∷ 35 ∷ 36 ∷ 63 ∷ 39 ∷ []

unfoldable pub apostrophe : ℕ → Bool
apostrophe c = c == 39

-- A mark has one of those characters and a spacing of 0 or 1; an apostrophe is joint.
unfoldable pub legal_mark : ℕ → ℕ → Bool
legal_mark c k = among c mark_characters && (nat_le k 1 && (not (apostrophe c) || k == 1))

-- A text has 1 to 255 bytes.
unfoldable pub legal_text : List ℕ → Bool
legal_text b = nat_le 1 (length b) && nat_le (length b) 255

abbrev pub StartsWithName : {St : Type 0} → Trees St → Type 0
StartsWithName nil = ⊥
StartsWithName (name b s r) = Unit {0}
StartsWithName (mark c k s r) = ⊥
StartsWithName (literal b s r) = ⊥
StartsWithName (group d w o c i r) = ⊥

-- Every field is legal, and an apostrophe is directly followed by a name.
abbrev pub Sound : {St : Type 0} → Trees St → Type 0
Sound nil = Unit {0}
Sound (name b s r) = (legal_text b ≡ true) × Sound r
Sound (mark c k s r) = (legal_mark c k ≡ true) × (apostrophe c ≡ true → StartsWithName r) × Sound r
Sound (literal b s r) = (legal_text b ≡ true) × Sound r
Sound (group d w o c i r) = (d ≤ 3) × Sound i × Sound r

pub record KeepsLimits {St : Type 0} (t : Trees St) : Type 0 where
  pub sound : Sound t
  -- at most 60 groups are open anywhere
  pub shallow : depth t ≤ 60
  pub few : length (entries t) ≤ 65535

-- The same of one entry: every field is legal.
abbrev pub LegalFields : {St : Type 0} → Entry St → Type 0
LegalFields (Group x d w o c) = d ≤ 3
LegalFields (Name b s) = legal_text b ≡ true
LegalFields (Mark c k s) = legal_mark c k ≡ true
LegalFields (Literal b s) = legal_text b ≡ true
LegalFields (End x) = Unit {0}
LegalFields Nothing = Unit {0}
