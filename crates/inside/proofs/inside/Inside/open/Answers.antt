use denote.Enum.Bare.{same_true}
use Rattle.std.proofs.Common.{◌≡◌, sym, refl, ◌∙◌, rules}
use Rattle.sheet.specs.contracts.kind.EntryKind.{the_type}
use Rattle.sheet.specs.declared.kind.EntryKind.TheVariants.{Group}
use Rattle.inside.proofs.Groups.{holds_only}
use Rattle.inside.proofs.inside.Inside.open.Goals as goal

pub returns-then-eq : goal.returns-then-eq
returns-then-eq g c =
    let group : c.kind.result ≡ Group = same_true the_type (search rules) _ _ (sym c.eq.ensures ∙ c.if-eq.true) in
    record { below_is = refl; place_is = refl; holds = holds_only _ c.args.place (sym c.kind.ensures ∙ group); is = refl }
