use Rattle.std.proofs.Common.{[], ◌∷◌, ◌++◌, drop}
use Rattle.filling.specs.declared.call.Call.TheVariants.{Seal}
use Rattle.spelled.proofs.Runs.{Left}
use Rattle.spelled.proofs.whole.put_all.Given as goal

abbrev pub invariant-loop-call : goal.invariant-loop-call
invariant-loop-call l = Left l.texts.sheet.now l.texts.template.now l.initial.table l.table l.filling (l.calls ++ Seal ∷ []) (drop l.call-index l.calls ++ Seal ∷ [])
