-- What a question is answered, and how the answer is written.
use Rattle.std.specs.Prelude.{ℕ, List, codes}
use Rattle.sheet.specs.Trees.{Trees}
use Rattle.packed.specs.Opening.{Means, Refuses}
use Rattle.packed.specs.declared.stamp.Stamp.{Stamp}
use Rattle.case_text.specs.Refusals.{refusal_text}
use Rattle.cases.specs.declared.answer.Answer.{Answer}
use Rattle.cases.specs.declared.answer.Answer.TheVariants.{Ok, Refused, Closed, Unknown}

-- Opening bytes is answered so: they mean a sheet, or they are refused for this reason.
abbrev pub Opening : List ℕ → Answer → Type 0
Opening bs Ok = (t : Trees Stamp) × Means bs t
Opening bs (Refused fault) = Refuses bs fault
Opening bs Closed = ⊥
Opening bs Unknown = ⊥

abbrev pub answer_text : Answer → List ℕ
answer_text Ok = codes "ok"
answer_text (Refused fault) = refusal_text fault
answer_text Closed = codes "closed"
answer_text Unknown = codes "unknown"
