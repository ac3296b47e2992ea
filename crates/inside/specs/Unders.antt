-- What the place below stands for that a place of the contents is led to.
use Rattle.std.specs.Prelude.{◌≡◌, ℕ, ◌+◌, List, Some, None, Option}
use Rattle.sheet.specs.Entries.{Entry, End, Nothing, at}
use Rattle.inside.specs.declared.under.Under.{Under}
use Rattle.inside.specs.declared.under.Under.TheVariants.{Below, Last}

-- The entry, by the entries below. The End that closes the group closes the contents' sheet, so its distance is 0 there.
abbrev pub entry_under : {St : Type 0} → List (Entry St) → Option Under → Entry St
entry_under es None = Nothing
entry_under es (Some (Below q)) = at es q
entry_under es (Some Last) = End 0

-- The place below, of the place k in the contents of the group at p.
abbrev pub StandsUnder : ℕ → ℕ → Option Under → Type 0
StandsUnder p k None = Unit {0}
StandsUnder p k (Some (Below q)) = q ≡ p + 1 + k
StandsUnder p k (Some Last) = Unit {0}
