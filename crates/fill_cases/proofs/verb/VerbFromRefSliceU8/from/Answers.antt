use Rattle.std.proofs.Common.{◌≡◌, codes, sym, ap, rules}
use Rattle.std.proofs.lemmas.Slice.Eq.{text_from_reads}
use Rattle.fill_cases.specs.Verbs.{verb_of}
use Rattle.fill_cases.proofs.verb.VerbFromRefSliceU8.from.Goals as goal

pub returns-in-packed : goal.returns-in-packed
returns-in-packed c =
    let e : c.args.word.now ≡ codes "packed" = search (rules, text_from_reads) in ap verb_of (sym e)

pub returns-in-inside : goal.returns-in-inside
returns-in-inside c =
    let e : c.args.word.now ≡ codes "inside" = search (rules, text_from_reads) in ap verb_of (sym e)

pub returns-in-filling : goal.returns-in-filling
returns-in-filling c =
    let e : c.args.word.now ≡ codes "filling" = search (rules, text_from_reads) in ap verb_of (sym e)
