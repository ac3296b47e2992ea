-- A text of cases, and how it is written back.
use Rattle.std.specs.Prelude.{ℕ, List}
use Rattle.case_text.specs.Texts as text
use Rattle.cases.specs.Answers.{answer_text}
use Rattle.cases.specs.Steps.{Steps}
use Rattle.cases.specs.declared.answer.Answer.{Answer}
use Rattle.cases.specs.declared.case.Case.{Case}
use Rattle.cases.specs.declared.case.Case.TheVariants.{Fresh}

-- What stands behind a question.
abbrev pub written : Case → Answer → List ℕ
written c a = text.answered (answer_text a)

-- A line is written back so and leads from one case to another.
abbrev pub Line : Case → List ℕ → Case → List ℕ → Type 0
Line = text.Line Fresh Steps written

-- Lines are written back so, one after another, the first of them in this case.
abbrev pub Replays : Case → List (List ℕ) → List ℕ → Type 0
Replays = text.Replays Fresh Steps written
