use Rattle.std.proofs.Common.{ℕ, List, ◌++◌, vec_items}
use Rattle.case_text.specs.Texts.{lines, Replays}
use Rattle.case_text.proofs.replay.replayed.Given as goal

-- Whatever the lines that are left are written as, behind what stands there it makes up the whole.
abbrev pub invariant-loop-line : goal.invariant-loop-line
invariant-loop-line g l =
    let c = g.C.Replay in
    (rest : List ℕ) → Replays c.fresh_case c.steps c.written l.case l.line-iterator rest → Replays c.fresh_case c.steps c.written c.fresh_case (lines l.fn.text) (vec_items l.out ++ rest)
