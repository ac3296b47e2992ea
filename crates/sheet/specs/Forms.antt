-- A nested sheet and its flat form determine each other.
use Rattle.std.specs.Prelude.{◌≡◌, List}
use Rattle.sheet.specs.Trees.{Trees}
use Rattle.sheet.specs.Entries.{Entry, entries, tree}

-- What a sheet is flattened to is read back as that sheet,
abbrev pub ReadBack : Type 0 → Type 0
ReadBack St = (t : Trees St) → tree (entries t) ≡ t

-- so two sheets of one flat form are one sheet,
abbrev pub OneSheet : Type 0 → Type 0
OneSheet St = (t u : Trees St) → entries t ≡ entries u → t ≡ u

-- and a list of entries is a flat form exactly if it is that of the sheet read from it.
abbrev pub FlatFormOf : {St : Type 0} → List (Entry St) → Trees St → Type 0
FlatFormOf es t = entries t ≡ es

abbrev pub OwnSheet : Type 0 → Type 0
OwnSheet St = (es : List (Entry St)) (t : Trees St) → FlatFormOf es t → (FlatFormOf es (tree es)) × (tree es ≡ t)
