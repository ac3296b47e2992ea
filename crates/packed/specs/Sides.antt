-- The numbers of the two sides of a stamp.
use Rattle.std.specs.Prelude.{ℕ}
use Rattle.packed.specs.declared.stamp.Side.{Side}
use Rattle.packed.specs.declared.stamp.Side.TheVariants.{Start, Close}

abbrev pub side_number : Side → ℕ
side_number Start = 0
side_number Close = 1
