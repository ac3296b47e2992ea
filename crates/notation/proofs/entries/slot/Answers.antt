use Rattle.std.proofs.Common.{◌≡◌, codes, sym, ap, ◌∙◌, rules}
use Rattle.std.proofs.lemmas.Slice.Eq.{text_from_reads}
use Rattle.notation.specs.Entries.{group_of, slot_by}
use Rattle.notation.proofs.entries.slot.Goals as goal

pub returns-in_ok-distance-in-G : goal.returns-in_ok-distance-in-G
returns-in_ok-distance-in-G c =
    let s = c.split_first_by-fields in
    let e : s.result.0.now ≡ codes "G" = search (rules, text_from_reads) in
    ap group_of (sym c.in_ok-distance-in-G.was ∙ c.numbers_in.ensures) ∙ (λ i. slot_by ((sym e ∙ s.ensures.first) i) (s.ensures.others i))
