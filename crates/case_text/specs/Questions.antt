-- The question of a line.
use Rattle.std.specs.Prelude.{◌≡◌, ℕ, ◌<◌, List, ◌++◌, length, drop, codes}

-- ` = ` stands at this place of the line.
abbrev pub CutAt : List ℕ → ℕ → Type 0
CutAt line k = (rest : List ℕ) × (drop k line ≡ codes " = " ++ rest)

-- The question is the whole line if ` = ` stands nowhere in it. Else the line is the question, ` = ` and an answer, and no
-- ` = ` stands further behind.
pub data QuestionOf (line q : List ℕ) : Type 0 where
  whole : q ≡ line → ((k : ℕ) → CutAt line k → ⊥) → QuestionOf line q
  cut : (answer : List ℕ) → line ≡ q ++ (codes " = " ++ answer) → ((k : ℕ) → length q < k → CutAt line k → ⊥) → QuestionOf line q
