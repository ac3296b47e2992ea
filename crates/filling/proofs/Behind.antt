-- Every open group stands behind what is written, from whichever end they are told.
use Rattle.std.proofs.Common.{ℕ, ◌-◌, ◌<◌, List, length, get_or, reverse, All, arith}
use Rattle.std.proofs.lemmas.List.{length-reverse, get_or-reverse}

pub behind_reverse : (w : ℕ) (gs : List ℕ) → All (λ g. g < w) gs → All (λ g. g < w) (reverse gs)
behind_reverse w gs all k d h =
    let same = length-reverse gs in
    let within : k < length gs = omega arith in
    let there : get_or gs (length gs - 1 - k) d < w = all (length gs - 1 - k) d (omega arith) in
    omega (arith, get_or-reverse gs k d within)
