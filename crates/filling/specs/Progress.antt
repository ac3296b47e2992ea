-- How far a filling has come: what clauses see of it.
use Rattle.std.specs.Prelude.{ℕ, ◌<◌, ◌≤◌, List, [], length, All}
use Rattle.filling.specs.declared.call.State.{State}
use Rattle.filling.specs.declared.call.State.TheVariants.{Open}

pub record Progress : Type 0 where
  pub state : State
  -- how many entries are written
  pub written : ℕ
  -- the places of the open groups, innermost first
  pub groups : List ℕ

abbrev pub progress : State → ℕ → List ℕ → Progress
progress s w gs = record { state = s; written = w; groups = gs }

-- A new filling.
abbrev pub start : Progress
start = progress Open 0 []

-- What is true of each filling: no more is written than counts of a table, at most 60 groups are open, and each stands within what
-- is written.
pub record IsBounded (written : ℕ) (groups : List ℕ) : Type 0 where
  pub few : written ≤ 65535
  pub shallow : length groups ≤ 60
  pub behind : All (λ g. g < written) groups

-- The same of its progress: what callers know of a filling whose history nobody knows.
abbrev pub Bounded : Progress → Type 0
Bounded p = IsBounded p.written p.groups
