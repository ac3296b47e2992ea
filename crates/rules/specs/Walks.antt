-- What the code's walk stands for.
use Rattle.std.specs.Prelude.{reverse, Result, Ok, Err}
use Rattle.sheet.specs.declared.fault.Rule.{Rule}
use Rattle.rules.specs.Rules.{Walk, walk, Next, on, done, bad}
use Rattle.rules.specs.declared.walk.Walk.{Walk as Held}
use Rattle.rules.specs.declared.walk.Next.{Next as Said}
use Rattle.rules.specs.declared.walk.Next.TheVariants.{On, Done}

-- The open groups are held with the innermost last.
abbrev pub walk_of : Held → Walk
walk_of h = walk h.waiting (reverse h.open_groups.items)

abbrev pub next_of : Result Said Rule → Walk → Next
next_of (Ok On) w = on w
next_of (Ok Done) w = done
next_of (Err rule) w = bad rule
