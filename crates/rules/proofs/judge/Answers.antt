use Rattle.std.proofs.Common.{◌≡◌, ◌∙◌}
use Rattle.rules.specs.Rules.{verdict}
use Rattle.rules.proofs.Judging.{verdict_is}
use Rattle.rules.proofs.Verdicts.{means, first, every}
use Rattle.rules.proofs.judge.Goals as goal

pub returns : goal.returns
returns g c =
    let es = g.E.Entries.listed c.args.entries.now in
    let is : c.walked.result ≡ verdict es = c.walked.ensures ∙ verdict_is es c.len-count.result c.len-count.ensures c.if-count-gt-MOST.false in
    record { is = is; means = means es c.walked.result is; first = first es c.walked.result is; every = λ s. every es c.walked.result is s }
