use Rattle.std.proofs.Common.{◌≡◌, codes, sym, ap, ◌∙◌, rules}
use Rattle.std.specs.Option.{option_map}
use Rattle.filling.specs.declared.call.Call.TheVariants.{Literal}
use Rattle.std.proofs.lemmas.Slice.Eq.{text_from_reads}
use Rattle.notation.specs.Calls.{call_by}
use Rattle.notation.proofs.calls.call.Goals as goal

pub returns-in_ok-place-in-literal : goal.returns-in_ok-place-in-literal
returns-in_ok-place-in-literal c =
    let s = c.split_first_by-fields in
    let e : s.result.0.now ≡ codes "literal" = search (rules, text_from_reads) in
    ap (option_map (λ t. Literal t.0 t.1)) (sym c.in_ok-place-in-literal.was ∙ c.placed-in-literal.ensures) ∙ (λ i. call_by ((sym e ∙ s.ensures.first) i) (s.ensures.others i))
