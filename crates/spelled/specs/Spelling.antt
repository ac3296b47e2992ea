-- What sheet the words of a line spell.
use Rattle.std.specs.Prelude.{◌≡◌, ℕ, ◌+◌, ◌*◌, ◌≤◌, List, [], ◌∷◌, ◌++◌, length, Some, Ok, Err, vec_items, Result}
use Rattle.sheet.specs.Trees.{Trees, nil, name, mark, literal, group, size}
use Rattle.sheet.specs.Limits.{KeepsLimits}
use Rattle.table.specs.Opening.{parts_of, sheet_of}
use Rattle.table.specs.declared.table.Table.{Table}
use Rattle.notation.specs.Tokens.{token_of, opening, closing, name as name_token, mark as mark_token, literal as literal_token}
use Rattle.spelled.specs.declared.fault.SpelledFault.{SpelledFault}
use Rattle.spelled.specs.declared.fault.SpelledFault.TheVariants.{NotASheet, Lawless, Memory}

-- The words spell the trees, whose first entry has the place p: each name, mark and literal is a word, and a group is its opening
-- bracket, the words of its contents and its closing bracket. At place p the stamp of a name, mark or literal is 4p + 1, and those of a group
-- are 4p + 4 for the whole, 4p + 2 for the opening and 4p + 3 for the closing bracket.
abbrev pub Spelled : ℕ → Trees ℕ → List (List ℕ) → Type 0
Spelled p nil ws = ws ≡ []
Spelled p (name b s r) ws =
    (w : List ℕ) × (rest : List (List ℕ)) × (ws ≡ w ∷ rest) × (token_of w ≡ Some (name_token b)) × (s ≡ 4 * p + 1) × Spelled (p + 1) r rest
Spelled p (mark c k s r) ws =
    (w : List ℕ) × (rest : List (List ℕ)) × (ws ≡ w ∷ rest) × (token_of w ≡ Some (mark_token c k)) × (s ≡ 4 * p + 1) × Spelled (p + 1) r rest
Spelled p (literal b s r) ws =
    (w : List ℕ) × (rest : List (List ℕ)) × (ws ≡ w ∷ rest) × (token_of w ≡ Some (literal_token b)) × (s ≡ 4 * p + 1) × Spelled (p + 1) r rest
Spelled p (group d w o c i r) ws =
    (x : List ℕ) × (inner : List (List ℕ)) × (y : List ℕ) × (rest : List (List ℕ)) × (ws ≡ x ∷ (inner ++ y ∷ rest))
    × (token_of x ≡ Some (opening d)) × (token_of y ≡ Some (closing d))
    × (w ≡ 4 * p + 4) × (o ≡ 4 * p + 2) × (c ≡ 4 * p + 3)
    × Spelled (p + 1) i inner × Spelled (p + 2 + size i) r rest

-- Words spell at most one sheet.
abbrev pub OneSpelling : Type 0
OneSpelling = (ws : List (List ℕ)) (t u : Trees ℕ) → Spelled 0 t ws → Spelled 0 u ws → t ≡ u

-- The texts of the trees, one after another.
abbrev pub texts_of : Trees ℕ → List ℕ
texts_of nil = []
texts_of (name b s r) = b ++ texts_of r
texts_of (mark c k s r) = texts_of r
texts_of (literal b s r) = b ++ texts_of r
texts_of (group d w o c i r) = texts_of i ++ texts_of r

-- A store has the sheet that the words spell, over its texts in their order and no template. Words that are not a sheet spell none at all; those
-- that are lawless spell none that keeps the limits and whose texts have room in one text.
abbrev pub SpellsOut : List (List ℕ) → Result Table SpelledFault → Type 0
SpellsOut ws (Ok t) =
    Spelled 0 (sheet_of t) ws × (vec_items (parts_of t).sheet ≡ texts_of (sheet_of t)) × (vec_items (parts_of t).template ≡ [])
SpellsOut ws (Err NotASheet) = (u : Trees ℕ) → Spelled 0 u ws → ⊥
SpellsOut ws (Err Lawless) = (u : Trees ℕ) → KeepsLimits u → length (texts_of u) ≤ 65535 → Spelled 0 u ws → ⊥
SpellsOut ws (Err Memory) = Unit {0}
