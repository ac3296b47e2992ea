-- Trees that may be told next to each other.
use Rattle.std.proofs.Common.{◌≡◌, ℕ, ◌≤◌, max, true, false, cond, List, refl, ap, arith}
use Rattle.sheet.specs.Trees.{Trees, nil, name, mark, literal, group, then, depth}
use Rattle.sheet.specs.Limits.{legal_mark, legal_text, StartsWithName, Sound}
use Rattle.sheet.proofs.Forms.{then_nil}
use Rattle.filling.specs.Causes.{is_waiting}
use Rattle.filling.specs.Filling.{state_after}
use Rattle.filling.specs.declared.call.State.{State}
use Rattle.filling.specs.declared.call.State.TheVariants.{Open as IsOpen, Waiting as IsWaiting}

then_then : {St : Type 0} (t u v : Trees St) → then (then t u) v ≡ then t (then u v)
then_then nil u v = refl
then_then (name b s r) u v = ap (name b s) (then_then r u v)
then_then (mark c k s r) u v = ap (mark c k s) (then_then r u v)
then_then (literal b s r) u v = ap (literal b s) (then_then r u v)
then_then (group d w o c i r) u v = ap (group d w o c i) (then_then r u v)

pub depth_then : {St : Type 0} (t u : Trees St) → depth (then t u) ≡ max (depth t) (depth u)
depth_then nil u = omega arith
depth_then (name b s r) u = depth_then r u
depth_then (mark c k s r) u = depth_then r u
depth_then (literal b s r) u = depth_then r u
depth_then (group d w o c i r) u = let e = depth_then r u in omega arith

-- Trees told so far, after which the filling is in this state: with sound trees behind them they are sound, where a name stands first if it
-- is waited for.
abbrev pub Fit : State → Trees ℕ → Type 0
Fit s t = (u : Trees ℕ) → Sound u → (is_waiting s ≡ true → StartsWithName u) → Sound (then t u)

pub nothing_fits : Fit IsOpen nil
nothing_fits u sound starts = sound

pub fit_then : (s r : State) (t u : Trees ℕ) → Fit s t → Fit r u → (is_waiting s ≡ true → (v : Trees ℕ) → StartsWithName (then u v)) → Fit r (then t u)
fit_then s r t u ht hu named v sound starts = rw then_then (ht (then u v) (hu v sound starts) (λ w. named w v))

pub fit_open : (s : State) (t : Trees ℕ) → is_waiting s ≡ false → Fit s t → Fit IsOpen t
fit_open s t free h u sound starts = h u sound (λ w. absurd (cc))

pub name_fits : (b : List ℕ) (s : ℕ) → legal_text b ≡ true → Fit IsOpen (name b s nil)
name_fits b s legal u sound starts = (legal, sound)

pub literal_fits : (b : List ℕ) (s : ℕ) → legal_text b ≡ true → Fit IsOpen (literal b s nil)
literal_fits b s legal u sound starts = (legal, sound)

pub mark_fits : (c k s : ℕ) → legal_mark c k ≡ true → Fit (state_after c) (mark c k s nil)
mark_fits c k s legal u sound starts = (legal, (λ e. starts (ap (λ t. is_waiting (cond t IsWaiting IsOpen)) e)), sound)

-- What is told without an apostrophe at its end is sound as it stands.
pub fit_sound : (t : Trees ℕ) → Fit IsOpen t → Sound t
fit_sound t h = rw then_nil at (h nil tt (λ w. absurd (cc)))

pub group_fits : (d w o c : ℕ) (t : Trees ℕ) → d ≤ 3 → Fit IsOpen t → Fit IsOpen (group d w o c t nil)
group_fits d w o c t few h u sound starts = (few, fit_sound t h, sound)
