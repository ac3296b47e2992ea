-- A text of cases, and how it is written back.
use Rattle.std.specs.Prelude.{ℕ, List, [], vec_items, codes}
use Rattle.case_text.specs.Texts as text
use Rattle.table.specs.declared.slot.Slot.{Slot}
use Rattle.lines.specs.Beginnings.{entries_text}
use Rattle.fill_cases.specs.Answers.{answer_text}
use Rattle.fill_cases.specs.Steps.{Steps}
use Rattle.fill_cases.specs.declared.answer.Answer.{Answer}
use Rattle.fill_cases.specs.declared.answer.Answer.TheVariants.{Entries, Silent}
use Rattle.fill_cases.specs.declared.case.Case.{Case}
use Rattle.fill_cases.specs.declared.case.Case.TheVariants.{Fresh, Filling}

-- The entries of the table that is being filled.
abbrev pub entries_of : Case → List Slot
entries_of (Filling w) = vec_items w.parts.entries
entries_of c = []

-- What stands behind a question: its answer, if it has one, and the end of the line.
abbrev pub written : Case → Answer → List ℕ
written c Entries = text.answered (entries_text (entries_of c))
written c Silent = codes "\n"
written c a = text.answered (answer_text a)

-- A line is written back so and leads from one case to another.
abbrev pub Line : Case → List ℕ → Case → List ℕ → Type 0
Line = text.Line Fresh Steps written

-- Lines are written back so, one after another, the first of them in this case.
abbrev pub Replays : Case → List (List ℕ) → List ℕ → Type 0
Replays = text.Replays Fresh Steps written
