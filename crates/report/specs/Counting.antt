-- How many trees of each kind a sheet has, at every depth.
use Rattle.std.specs.Prelude.{ℕ, zero, ◌+◌, length}
use Rattle.sheet.specs.Trees.{Trees, nil, name, mark, literal, group}
use Rattle.sheet.specs.Entries.{entries}
use Rattle.sheet.specs.Questions.{Token, a_name, a_literal, a_mark, a_group}
use Rattle.report.specs.declared.counts.Counts.{Counts}

-- The sum of a number of each tree, groups with their contents.
abbrev pub sum_over : {St : Type 0} → (Token → ℕ) → Trees St → ℕ
sum_over f nil = 0
sum_over f (name b s r) = f (a_name b) + sum_over f r
sum_over f (mark c k s r) = f (a_mark c k) + sum_over f r
sum_over f (literal b s r) = f (a_literal b) + sum_over f r
sum_over f (group d w o c i r) = f (a_group d) + (sum_over f i + sum_over f r)

-- 1 for a tree of the kind, 0 for any other
abbrev pub one_name : Token → ℕ
one_name (a_name b) = 1
one_name t = 0

abbrev pub one_literal : Token → ℕ
one_literal (a_literal b) = 1
one_literal t = 0

abbrev pub one_mark : Token → ℕ
one_mark (a_mark c k) = 1
one_mark t = 0

abbrev pub one_group : Token → ℕ
one_group (a_group d) = 1
one_group t = 0

abbrev pub one_invisible : Token → ℕ
one_invisible (a_group zero) = 1
one_invisible t = 0

abbrev pub counts_of : {St : Type 0} → Trees St → Counts
counts_of t = record {
  entries = length (entries t);
  groups = sum_over one_group t;
  invisible = sum_over one_invisible t;
  names = sum_over one_name t;
  literals = sum_over one_literal t;
  marks = sum_over one_mark t;
}
