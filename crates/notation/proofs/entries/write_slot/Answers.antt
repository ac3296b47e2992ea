use Rattle.std.proofs.Common.{rules}
use Rattle.notation.proofs.Backs.{slot_back}
use Rattle.notation.proofs.entries.write_slot.Goals as goal

pub returns-in_err-text : goal.returns-in_err-text
returns-in_err-text c = record { reads_back = slot_back c.args.slot; writes = search rules }

pub returns : goal.returns
returns c = record { reads_back = slot_back c.args.slot; writes = search rules }
