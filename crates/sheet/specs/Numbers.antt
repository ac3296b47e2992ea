-- The numbers of the code's enums, and of the refusals of opening a store.
use Rattle.std.specs.Prelude.{◌≡◌, ℕ, ◌<◌, Result, MatchResult}
use Rattle.sheet.specs.declared.kind.EntryKind.{EntryKind}
use Rattle.sheet.specs.declared.kind.EntryKind.TheVariants.{Group, Name, Mark, Literal, End, Nothing}
use Rattle.sheet.specs.declared.kind.Delimiter.{Delimiter}
use Rattle.sheet.specs.declared.kind.Delimiter.TheVariants.{Invisible, Parenthesis, Brace, Bracket}
use Rattle.sheet.specs.declared.kind.UnknownDelimiter.{UnknownDelimiter}
use Rattle.sheet.specs.declared.kind.Spacing.{Spacing}
use Rattle.sheet.specs.declared.kind.Spacing.TheVariants.{Alone, Joint}
use Rattle.sheet.specs.declared.kind.UnknownSpacing.{UnknownSpacing}
use Rattle.sheet.specs.declared.fault.StoreFault.{StoreFault}
use Rattle.sheet.specs.declared.fault.StoreFault.TheVariants.{Frame, Rules}

abbrev pub kind_number : EntryKind → ℕ
kind_number Group = 0
kind_number Name = 1
kind_number Mark = 2
kind_number Literal = 3
kind_number End = 4
kind_number Nothing = 5

abbrev pub delimiter_number : Delimiter → ℕ
delimiter_number Invisible = 0
delimiter_number Parenthesis = 1
delimiter_number Brace = 2
delimiter_number Bracket = 3

-- A number gives the delimiter that has it; above 3 there is none.
abbrev pub NamesDelimiter : ℕ → Result Delimiter UnknownDelimiter → Type 0
NamesDelimiter n r = MatchResult r (λ d. delimiter_number d ≡ n) (λ e. (e.0 ≡ n) × (3 < n))

abbrev pub spacing_number : Spacing → ℕ
spacing_number Alone = 0
spacing_number Joint = 1

-- A number gives the spacing that has it; above 1 there is none.
abbrev pub NamesSpacing : ℕ → Result Spacing UnknownSpacing → Type 0
NamesSpacing n r = MatchResult r (λ s. spacing_number s ≡ n) (λ e. (e.0 ≡ n) × (1 < n))

abbrev pub fault_number : StoreFault → ℕ
fault_number Frame = 11
fault_number (Rules place rule) = 10
