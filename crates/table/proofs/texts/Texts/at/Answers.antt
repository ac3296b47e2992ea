use Rattle.std.proofs.Common.{◌≡◌, ◌+◌, ◌-◌, length, take, drop, sym, ap, ◌∙◌, arith}
use Rattle.table.proofs.Good.{no_bytes, ends_within, bytes_there}
use Rattle.table.proofs.texts.Texts.at.Goals as goal

pub returns-then-not-is_good : goal.returns-then-not-is_good
returns-then-not-is_good c = no_bytes _ _ _ (sym c.if-not-is_good.ensures)

pub slice_bounds-result-end-2 : goal.slice_bounds-result-end-2
slice_bounds-result-end-2 c =
    let e = ends_within _ _ _ (sym c.if-not-is_good.ensures) in
    let n = ap length c.numbered.ensures in
    omega arith

pub returns : goal.returns
returns c =
    let q = c.args.place in
    let n : q.offset + q.length - q.offset ≡ q.length = omega arith in
    ap (λ k. take k (drop q.offset c.numbered.result.now)) n ∙ ap (λ l. take q.length (drop q.offset l)) c.numbered.ensures ∙ bytes_there _ _ _ (sym c.if-not-is_good.ensures)
