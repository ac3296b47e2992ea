-- What the verdict says of the entries.
use Rattle.std.specs.Prelude.{Ok, Err, IsOk, OnOk, IfErr}
use Rattle.std.proofs.Common.{◌≡◌, List, sym, ap, ◌∙◌}
use Rattle.std.specs.Result.{is_ok}
use Rattle.sheet.specs.Entries.{Entry}
use Rattle.rules.specs.Rules.{Verdict, verdict}
use Rattle.rules.specs.Verdicts.{OneLawfulSheet, SomeLawfulSheet, FirstOffence}
use Rattle.rules.proofs.Offences.{first_offence}
use Rattle.rules.proofs.Sheets.{one_lawful_sheet, every_lawful_sheet}

module _ {St : Type 0} (es : List (Entry St)) where
  pub means : (v : Verdict) → v ≡ verdict es → OnOk v (OneLawfulSheet es)
  means (Ok u) is = one_lawful_sheet es (sym is)
  means (Err o) is = tt

  pub first : (v : Verdict) → v ≡ verdict es → IfErr v (λ o. FirstOffence es o.place o.rule)
  first (Ok u) is = tt
  first (Err o) is = first_offence es o.place o.rule (sym is)

  pub every : (v : Verdict) → v ≡ verdict es → SomeLawfulSheet es → IsOk v
  every v is some = ap is_ok (is ∙ every_lawful_sheet es some)
