use denote.Enum.Bare.{same_true}
use Rattle.std.proofs.Common.{◌≡◌, sym, refl, ◌∙◌, rules}
use Rattle.sheet.specs.contracts.kind.EntryKind.{the_type}
use Rattle.sheet.specs.declared.kind.EntryKind.TheVariants.{Group}
use Rattle.inside.proofs.Groups.{inside_both}
use Rattle.inside.proofs.inside.Inside.inside.Goals as goal

pub returns-in-Some-Below : goal.returns-in-Some-Below
returns-in-Some-Below g c =
    let u = rw c.in-Some-Below.field-0-is at c.in-Some-Below.ensures in
    let t = g.S.Store.sheet c.args.self.below in
    let group : c.kind.result ≡ Group = same_true the_type (search rules) _ _ (sym c.eq.ensures ∙ c.if-eq.true) in
    let both = inside_both t c.args.self.place c.args.place c.in-Some-Below.under u.place u.is (sym group ∙ c.kind.ensures) in
    record { below_is = refl; place_is = u.place; holds = both.1; is = both.0 }
