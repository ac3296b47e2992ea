-- The flat form of a sheet: one list of entries, in which a group is a Group, its contents and an End. It is the layout of
-- `TokenBuffer` in syn's buffer.rs.
use Rattle.std.specs.Prelude.{ℕ, suc, List, [], ◌∷◌, drop}
use Rattle.sheet.specs.Trees.{Trees, nil, name, mark, literal, group, size}

pub data Entry (St : Type 0) : Type 0 where
  -- distance to its End, delimiter, whole, opening and closing stamp
  Group : ℕ → ℕ → St → St → St → Entry St
  Name : List ℕ → St → Entry St
  -- character, spacing, stamp
  Mark : ℕ → ℕ → St → Entry St
  Literal : List ℕ → St → Entry St
  -- distance from its Group; 0 for the last End, which closes the sheet
  End : ℕ → Entry St
  -- no entry: past the end, or of a kind that nobody knows
  Nothing : Entry St

-- The flat form of the trees, and then the entries es.
abbrev pub flat : {St : Type 0} → Trees St → List (Entry St) → List (Entry St)
flat nil es = es
flat (name b s r) es = Name b s ∷ flat r es
flat (mark c k s r) es = Mark c k s ∷ flat r es
flat (literal b s r) es = Literal b s ∷ flat r es
flat (group d w o c i r) es = Group (suc (size i)) d w o c ∷ flat i (End (suc (size i)) ∷ flat r es)

-- The flat form of a sheet.
abbrev pub entries : {St : Type 0} → Trees St → List (Entry St)
entries t = flat t (End 0 ∷ [])

abbrev pub first : {St : Type 0} → List (Entry St) → Entry St
first [] = Nothing
first (e ∷ es) = e

-- The entry at a place.
abbrev pub at : {St : Type 0} → List (Entry St) → ℕ → Entry St
at es p = first (drop p es)

-- The entry at a place of a sheet's flat form.
abbrev pub entry_of : {St : Type 0} → Trees St → ℕ → Entry St
entry_of t p = at (entries t) p

-- The trees of a stretch of entries, level by level: what is left of the innermost group, then of each group around it.
pub record Levels (St : Type 0) : Type 0 where
  pub inner : Trees St
  pub outer : List (Trees St)

abbrev pub levels_of : {St : Type 0} → Trees St → List (Trees St) → Levels St
levels_of t ls = record { inner = t; outer = ls }

-- A Group closes the innermost level and stands at the head of the next.
abbrev pub grouped : {St : Type 0} → ℕ → St → St → St → Trees St → List (Trees St) → Levels St
grouped d w o c i [] = levels_of (group d w o c i nil) []
grouped d w o c i (r ∷ ls) = levels_of (group d w o c i r) ls

abbrev pub put : {St : Type 0} → Entry St → Levels St → Levels St
put (Group x d w o c) l = grouped d w o c l.inner l.outer
put (Name b s) l = levels_of (name b s l.inner) l.outer
put (Mark c k s) l = levels_of (mark c k s l.inner) l.outer
put (Literal b s) l = levels_of (literal b s l.inner) l.outer
put (End x) l = levels_of nil (l.inner ∷ l.outer)
put Nothing l = levels_of nil []

-- Read from the right: every End begins a level.
abbrev pub levels : {St : Type 0} → List (Entry St) → Levels St
levels [] = levels_of nil []
levels (e ∷ es) = put e (levels es)

-- The sheet of a flat form.
abbrev pub tree : {St : Type 0} → List (Entry St) → Trees St
tree es = (levels es).inner

-- An entry without its stamps.
abbrev pub bare_entry : {St : Type 0} → Entry St → Entry (Unit {0})
bare_entry (Group x d w o c) = Group x d tt tt tt
bare_entry (Name b s) = Name b tt
bare_entry (Mark c k s) = Mark c k tt
bare_entry (Literal b s) = Literal b tt
bare_entry (End x) = End x
bare_entry Nothing = Nothing
