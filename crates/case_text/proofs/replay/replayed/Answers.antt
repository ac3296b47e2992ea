use Rattle.std.proofs.Common.{sym, ◌∙◌}
use Rattle.std.proofs.lemmas.Bool.{eqb-true}
use Rattle.case_text.specs.Texts.{lines, Replays}
use Rattle.case_text.proofs.Lines.{all_left, blank_line, one_more, none_left}
use Rattle.case_text.proofs.replay.replayed.Goals as goal

pub loop-line-init : goal.loop-line-init
loop-line-init g c =
    let r = g.C.Replay in
    all_left r.fresh_case r.steps r.written _ _ _ _ c.fresh-case.ensures (c.into_iter-line-iterator.ensures.into_iter_gives ∙ c.of-line-items.ensures) c.new-out.ensures.items

pub loop-line-preserved : goal.loop-line-preserved
loop-line-preserved g c =
    let r = g.C.Replay in
    one_more r.fresh_case r.steps r.written c.loop-line.case c.in_ok-case.case _ c.in-Some.line.now _ _ _ (Replays r.fresh_case r.steps r.written r.fresh_case (lines c.args.text.now)) c.loop-line.invariant c.in-Some.ensures.steps c.in_ok-case.ensures

pub loop-line-preserved-then-is_empty : goal.loop-line-preserved-then-is_empty
loop-line-preserved-then-is_empty g c =
    let r = g.C.Replay in
    let blank = blank_line r.fresh_case r.steps r.written c.loop-line.case _ c.in-Some.line.now _ _ (eqb-true _ _ (sym c.is_empty.ensures ∙ c.if-is_empty.true)) c.fresh-case-then-is_empty.ensures c.in_ok-extend_from_slice.ensures.items in
    one_more r.fresh_case r.steps r.written c.loop-line.case _ _ c.in-Some.line.now _ _ _ (Replays r.fresh_case r.steps r.written r.fresh_case (lines c.args.text.now)) c.loop-line.invariant c.in-Some.ensures.steps blank

pub returns : goal.returns
returns g c =
    let r = g.C.Replay in
    none_left r.fresh_case r.steps r.written c.loop-line.case _ _ (Replays r.fresh_case r.steps r.written r.fresh_case (lines c.args.text.now)) c.loop-line.invariant c.in-None.ensures.steps.0
