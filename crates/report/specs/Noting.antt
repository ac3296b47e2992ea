-- Counting entry by entry, as the loop does it.
use Rattle.std.specs.Prelude.{◌+◌, ◌<◌, ◌≤◌}
use Rattle.sheet.specs.Questions.{Token}
use Rattle.report.specs.Counting.{one_name, one_literal, one_mark, one_group, one_invisible}
use Rattle.report.specs.declared.counts.Counts.{Counts}

abbrev pub noted : Counts → Token → Counts
noted c t = record {
  entries = c.entries;
  groups = c.groups + one_group t;
  invisible = c.invisible + one_invisible t;
  names = c.names + one_name t;
  literals = c.literals + one_literal t;
  marks = c.marks + one_mark t;
}

-- The trees are so few that one more would fit each count.
pub record Room (c : Counts) : Type 0 where
  pub trees_fit : c.groups + c.names + c.literals + c.marks < 65535
  pub among_groups : c.invisible ≤ c.groups
