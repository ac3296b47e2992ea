use denote.Enum.Bare.{same_true}
use Rattle.std.proofs.Common.{◌≡◌, Decides, sym, ap, ◌∙◌, rules}
use Rattle.std.proofs.lemmas.Slice.Eq.{slice_eq-Decides}
use Rattle.std.proofs.lemmas.Bool.{not-false}
use Rattle.std.proofs.lemmas.Bool.Decides.{Decides-like, Decides-eqb}
use Rattle.sheet.specs.contracts.kind.EntryKind as of_kind
use Rattle.sheet.specs.contracts.kind.Delimiter as of_delimiter
use Rattle.sheet.specs.contracts.kind.Spacing as of_spacing
use Rattle.sheet.specs.Entries.{entries, at}
use Rattle.sheet.specs.Numbers.{kind_number, delimiter_number, spacing_number}
use Rattle.sheet.specs.Questions.{kind_of, distance_of, delimiter_of, character_of, spacing_of, text_of}
use Rattle.sheet.proofs.Matches.{by_text}
use Rattle.sheet.proofs.same.same_entry.Goals as goal

pub returns : goal.returns
returns g c =
    let e = at (entries (g.S.Store.sheet c.args.a.now)) c.args.at in
    let f = at (entries (g.T.Store.sheet c.args.b.now)) c.args.at in
    let one_kind = same_true of_kind.the_type (search rules) _ _ (not-false _ (sym c.ne.ensures ∙ c.if-ne.false)) in
    let one_delimiter = same_true of_delimiter.the_type (search rules) _ _ (not-false _ (sym c.ne-2.ensures ∙ c.if-ne-2.false)) in
    let one_spacing = same_true of_spacing.the_type (search rules) _ _ (not-false _ (sym c.ne-3.ensures ∙ c.if-ne-3.false)) in
    let k : kind_number (kind_of e) ≡ kind_number (kind_of f) = ap kind_number (sym c.kind.ensures ∙ one_kind ∙ c.kind-2.ensures) in
    let x : distance_of e ≡ distance_of f = sym c.distance.ensures ∙ c.if-distance.false ∙ c.distance-2.ensures in
    let d : delimiter_of e ≡ delimiter_of f = sym c.delimiter.ensures ∙ ap delimiter_number one_delimiter ∙ c.delimiter-2.ensures in
    let h : character_of e ≡ character_of f = sym c.character.ensures ∙ c.if-character.false ∙ c.character-2.ensures in
    let s : spacing_of e ≡ spacing_of f = sym c.spacing.ensures ∙ ap spacing_number one_spacing ∙ c.spacing-2.ensures in
    let told = slice_eq-Decides Decides-eqb c.text.result.now c.text-2.result.now c.eq.result c.eq.ensures in
    let t : Decides c.eq.result (text_of e ≡ text_of f) = Decides-like c.eq.result (λ p. sym c.text.ensures ∙ p ∙ c.text-2.ensures) (λ p. c.text.ensures ∙ p ∙ sym c.text-2.ensures) told in
    by_text e f c.eq.result k x d h s t
