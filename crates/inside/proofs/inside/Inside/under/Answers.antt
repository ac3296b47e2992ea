use Rattle.std.proofs.Common.{◌≡◌, ◌-◌, ◌<◌, sym, ap, ◌∙◌, arith}
use Rattle.std.proofs.lemmas.Cmp.{ranked}
use Rattle.sheet.specs.Trees.{size}
use Rattle.sheet.specs.Entries.{entries, at}
use Rattle.inside.specs.Opening.{contents_of}
use Rattle.inside.proofs.Groups.{length_entries, entry_below, entry_last}
use Rattle.inside.proofs.inside.Inside.under.Goals as goal

pub overflow_sub-last : goal.overflow_sub-last
overflow_sub-last g c = omega (arith, length_entries (contents_of g.S.Store.sheet c.args.self.now), c.span.ensures.is)

pub returns-in-Less-clause-is : goal.returns-in-Less-clause-is
returns-in-Less-clause-is g c =
    let i = contents_of g.S.Store.sheet c.args.self.now in
    let before : c.args.at < c.span.result - 1 = ranked _ _ _ c.in-Less.ensures in
    let inside : c.args.at < size i = omega (arith, length_entries i, c.span.ensures.is) in
    entry_below _ c.args.self.now.place c.args.at inside

pub returns-in-Equal-clause-is : goal.returns-in-Equal-clause-is
returns-in-Equal-clause-is g c =
    let i = contents_of g.S.Store.sheet c.args.self.now in
    let on : c.args.at ≡ c.span.result - 1 = ranked _ _ _ c.in-Equal.ensures in
    let last : size i ≡ c.args.at = omega (arith, length_entries i, c.span.ensures.is) in
    sym (entry_last i) ∙ ap (at (entries i)) last
