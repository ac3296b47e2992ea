use Rattle.std.proofs.Common.{Some, sym, ap, ◌∙◌, arith}
use Rattle.sheet.specs.Questions.{entry_said, kind_of, distance_of}
use Rattle.inside.proofs.Groups.{limits_kept, distance_is, lies_within}
use Rattle.inside.proofs.inside.Inside.span.Goals as goal

pub returns-in-Some-Group : goal.returns-in-Some-Group
returns-in-Some-Group g c =
    let t = g.S.Store.sheet c.args.self.now.below in
    let p = c.args.self.now.place in
    let stands = ap (λ e. entry_said (Some e)) (sym c.in-Some-Group.field-0-is) ∙ c.in-Some-Group.ensures in
    let d = distance_is t p c.in-Some-Group.distance (ap kind_of stands) (ap distance_of stands) in
    record {
      limits = limits_kept t p c.count.ensures.limits;
      is = d;
      fits = λ h. omega (arith, lies_within t p (omega arith), c.count.ensures.limits.few);
    }
