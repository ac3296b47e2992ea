-- What a question is answered, and how the answer is written.
use Rattle.std.specs.Prelude.{ℕ, List, [], ◌++◌, codes, decimal}
use Rattle.case_text.specs.Refusals.{refusal_text}
use Rattle.filling.specs.Numbers.{fill_fault_number}
use Rattle.inside.specs.Opening.{no_group_number}
use Rattle.fill_cases.specs.declared.answer.Answer.{Answer}
use Rattle.fill_cases.specs.declared.answer.Answer.TheVariants.{Ok, Wrote, NotOpened, NotFilled, NoGroup, Entries, Silent, Closed, Unknown}

-- An answer but for the entries of a table, which the case holds.
abbrev pub answer_text : Answer → List ℕ
answer_text Ok = codes "ok"
answer_text (Wrote place) = codes "ok " ++ decimal place
answer_text (NotOpened fault) = refusal_text fault
answer_text (NotFilled fault) = codes "no " ++ decimal (fill_fault_number fault)
answer_text NoGroup = codes "no " ++ decimal no_group_number
answer_text Entries = []
answer_text Silent = []
answer_text Closed = codes "closed"
answer_text Unknown = codes "unknown"
