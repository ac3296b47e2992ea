use Rattle.std.proofs.Common.{drop, ◌∙◌, arith, length-drop}
use Rattle.packed.proofs.Triples.{whole_triples}
use Rattle.packed.proofs.frame.triples.Goals as goal

pub returns-clause-is : goal.returns-clause-is
returns-clause-is c =
    let n = c.args.count in
    let from = c.args.from in
    c.as_chunks.ensures.front ∙ whole_triples (drop from c.args.bytes.now) n _ (omega (arith, c.from.ensures)) (omega (arith, c.from.ensures, length-drop from c.args.bytes.now))
