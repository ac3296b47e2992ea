use Rattle.std.specs.Prelude.{Ok}
use Rattle.std.proofs.Common.{sym, ap, ◌∙◌, arith}
use Rattle.rules.specs.Walks.{walk_of}
use Rattle.rules.proofs.Judging
use Rattle.rules.proofs.walked.Goals as goal

pub returns-in-Ok-Done : goal.returns-in-Ok-Done
returns-in-Ok-Done g c =
    let done = Judging.said (walk_of c.step.new.self) c.step.ensures (c.in-Ok-Done.is ∙ ap Ok c.in-Ok-Done.field-0-is) in
    Judging.ends _ (walk_of c.loop-place.walk) c.loop-place.place c.look.result c.loop-place.invariant (c.if-place-count.true ∙ c.requires) c.look.ensures done

pub returns-in-Ok-Done-2 : goal.returns-in-Ok-Done-2
returns-in-Ok-Done-2 g c =
    let done = Judging.said (walk_of c.step.new.self) c.step.ensures (c.in-Ok-Done.is ∙ ap Ok c.in-Ok-Done.field-0-is) in
    Judging.ends_early _ (walk_of c.loop-place.walk) c.loop-place.place c.look.result c.loop-place.invariant (omega (arith, c.requires)) (λ e. c.if-place-count.false (e ∙ sym c.requires)) c.look.ensures done

pub returns-in-Err : goal.returns-in-Err
returns-in-Err g c =
    Judging.offends _ (walk_of c.loop-place.walk) _ c.look.result c.in-Err.rule c.loop-place.invariant (omega (arith, c.requires)) c.look.ensures c.in-Err.ensures

pub loop-place-preserved : goal.loop-place-preserved
loop-place-preserved g c =
    let on = Judging.said (walk_of c.step.new.self) c.step.ensures (c.in-Ok-On.is ∙ ap Ok c.in-Ok-On.field-0-is) in
    Judging.goes_on _ (walk_of c.loop-place.walk) (walk_of c.step.new.self) c.loop-place.place c.look.result c.loop-place.invariant (omega (arith, c.requires)) c.look.ensures on
