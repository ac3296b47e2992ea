-- A text of cases, and how it is written back, for whatever a case is.
use Rattle.std.specs.Prelude.{◌≡◌, ℕ, cond, List, [], ◌∷◌, ◌++◌, codes, Option, ◌==◌}
use Rattle.std.specs.Io.KnownBytes.{Consumes, IsAtEnd, Appends}
use Rattle.case_text.specs.Questions.{QuestionOf}

-- One more byte at the front of the first line.
abbrev pub led_by : ℕ → List (List ℕ) → List (List ℕ)
led_by b [] = (b ∷ []) ∷ []
led_by b (l ∷ ls) = (b ∷ l) ∷ ls

-- The lines of a text: a newline ends each, but for the last one, which may lack it.
abbrev pub lines : List ℕ → List (List ℕ)
lines [] = []
lines (b ∷ bs) = cond (b == 10) ([] ∷ lines bs) (led_by b (lines bs))

-- What stands behind a question that is answered: the answer, and the end of the line.
abbrev pub answered : List ℕ → List ℕ
answered text = codes " = " ++ (text ++ codes "\n")

-- Cases that begin so, whose questions lead to another case and are answered so, with this written behind a question.
module _ {C A : Type 0} (fresh : C) (steps : C → List ℕ → C → A → Type 0) (written : C → A → List ℕ) where
  -- A line is written back so and leads from one case to another. A blank line ends a case, and any other is its question with
  -- the answer worked out afresh.
  abbrev pub Line : C → List ℕ → C → List ℕ → Type 0
  Line c [] d w = (d ≡ fresh) × (w ≡ codes "\n")
  Line c (b ∷ bs) d w = (q : List ℕ) × (a : A) × QuestionOf (b ∷ bs) q × steps c q d a × (w ≡ q ++ written d a)

  -- Lines are written back so, one after another, the first of them in this case.
  abbrev pub Replays : C → List (List ℕ) → List ℕ → Type 0
  Replays c [] out = out ≡ []
  Replays c (l ∷ ls) out = (d : C) × (w : List ℕ) × (rest : List ℕ) × Line c l d w × Replays d ls rest × (out ≡ w ++ rest)

  -- A text was read to its end and written back: what was left to read before and is left behind it, what was written before and
  -- is with it, each where it is known.
  pub record WritesBack (before after held holds : Option (List ℕ)) : Type 0 where
    pub text : List ℕ
    pub out : List ℕ
    pub read : Consumes before after text
    pub all : IsAtEnd after
    pub replays : Replays fresh (lines text) out
    pub wrote : Appends held holds out
