-- What the code's question of a filling says.
use Rattle.std.specs.Prelude.{Some, None, Option}
use Rattle.fill_cases.specs.Steps.{FillQuestionSaid, call, show, cut, read, no_question}
use Rattle.fill_cases.specs.declared.fills.FillQuestion.{FillQuestion}
use Rattle.fill_cases.specs.declared.fills.FillQuestion.TheVariants.{Call, Show, Cut, Read}

abbrev pub fill_question_said : Option FillQuestion → FillQuestionSaid
fill_question_said None = no_question
fill_question_said (Some (Call c)) = call c
fill_question_said (Some Show) = show
fill_question_said (Some (Cut n)) = cut n
fill_question_said (Some Read) = read
