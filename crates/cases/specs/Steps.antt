-- The answers of a case, question by question.
use Rattle.std.specs.Prelude.{◌≡◌, ℕ, ◌⊎◌, List, ◌++◌, Some, codes}
use Rattle.cases.specs.Answers.{Opening}
use Rattle.case_text.specs.Digits.{hex_bytes}
use Rattle.cases.specs.declared.answer.Answer.{Answer}
use Rattle.cases.specs.declared.answer.Answer.TheVariants.{Ok, Refused, Closed, Unknown}
use Rattle.cases.specs.declared.case.Case.{Case}
use Rattle.cases.specs.declared.case.Case.TheVariants.{Fresh as FreshCase, Open as OpenCase, Closed as ClosedCase, Unknown as UnknownCase}

-- The question hands over these bytes: it is `packed HEX`.
abbrev pub HandsOver : List ℕ → List ℕ → Type 0
HandsOver q bs = (text : List ℕ) × (q ≡ codes "packed " ++ text) × (hex_bytes text ≡ Some bs)

-- The first question of a case opens the bytes that it hands over, and any other is unknown.
abbrev pub First : List ℕ → Answer → Type 0
First q a = ((bs : List ℕ) × HandsOver q bs × Opening bs a) ⊎ (((bs : List ℕ) → HandsOver q bs → ⊥) × (a ≡ Unknown))

-- The case once its first question is answered.
abbrev pub begun : Answer → Case
begun Ok = OpenCase
begun (Refused fault) = ClosedCase
begun Closed = ClosedCase
begun Unknown = UnknownCase

-- A question in a case is answered so, and leads to this case. A refused store stays refused, and an open one knows no
-- question yet.
abbrev pub Steps : Case → List ℕ → Case → Answer → Type 0
Steps FreshCase q c a = First q a × (c ≡ begun a)
Steps OpenCase q c a = (c ≡ OpenCase) × (a ≡ Unknown)
Steps ClosedCase q c a = (c ≡ ClosedCase) × (a ≡ Closed)
Steps UnknownCase q c a = (c ≡ UnknownCase) × (a ≡ Unknown)
