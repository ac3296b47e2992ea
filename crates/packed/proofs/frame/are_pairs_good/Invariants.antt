use Rattle.std.proofs.Common.{◌≡◌, true}
use Rattle.packed.specs.Format.{good_pairs, free_from}
use Rattle.packed.proofs.frame.are_pairs_good.Given as goal

abbrev pub invariant-loop-low : goal.invariant-loop-low
invariant-loop-low l = (good_pairs l.bytes l.low-index ≡ true) × (l.free ≡ free_from l.bytes l.low-index)
