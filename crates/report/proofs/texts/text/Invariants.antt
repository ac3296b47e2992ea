use Rattle.std.proofs.Common.{◌≡◌, ◌++◌, drop, string_bytes}
use Rattle.sheet.specs.Entries.{entries}
use Rattle.report.specs.Spelling.{spell}
use Rattle.report.specs.Writing.{viewed, written}
use Rattle.report.proofs.texts.text.Given as goal

-- What has been written, and what the entries from this place on have yet to say, is the whole text.
abbrev pub invariant-loop-at : goal.invariant-loop-at
invariant-loop-at g l =
    let t = g.S.Store.sheet l.store in
    let es = entries t in
    written (viewed l.view t) ≡ string_bytes l.out ++ spell l.view es l.at l.gap (drop l.at es)
