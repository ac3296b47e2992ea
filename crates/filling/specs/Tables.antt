-- Another table, or one of another length, may be handed to a later call. That is harmless.
use Rattle.std.specs.Prelude.{◌≡◌, ℕ, List, [], ◌∷◌, length, ◌≢◌, slice_index_or}
use Rattle.table.specs.declared.slot.Slot.{Slot}
use Rattle.filling.specs.Filling.{fill}
use Rattle.filling.specs.Progress.{Progress}
use Rattle.filling.specs.declared.call.Call.{Call}
use Rattle.filling.specs.declared.call.Call.TheVariants.{Name, Mark, Literal, Open, Close, Seal}

-- The innermost open group has its Group at this place.
abbrev pub InnermostAt : List ℕ → ℕ → Type 0
InnermostAt [] k = ⊥
InnermostAt (g ∷ gs) k = g ≡ k

-- `close` completes the Group of the innermost open group; no other call writes anywhere but at the next place.
abbrev pub Completes : Progress → Call → ℕ → Type 0
Completes p (Name q s) k = ⊥
Completes p (Mark c j s) k = ⊥
Completes p (Literal q s) k = ⊥
Completes p (Open d w o) k = ⊥
Completes p (Close s) k = InnermostAt p.groups k
Completes p Seal k = ⊥

pub record AnyTable (sheet template : List ℕ) (p : Progress) (call : Call) : Type 0 where
  -- what is answered, and what the filling is afterwards, does not depend on what stands in the table, only on its length
  pub answers : (es fs : List Slot) → length es ≡ length fs → (fill sheet template p call es).answer ≡ (fill sheet template p call fs).answer
  pub goes_on : (es fs : List Slot) → length es ≡ length fs → (fill sheet template p call es).progress ≡ (fill sheet template p call fs).progress
  -- the table keeps its length, and every entry but the next one and a Group that is completed
  pub long : (es : List Slot) → length (fill sheet template p call es).entries ≡ length es
  pub elsewhere : (es : List Slot) (k : ℕ) (d : Slot) → (k ≢ p.written) → (Completes p call k → ⊥) → slice_index_or (fill sheet template p call es).entries k d ≡ slice_index_or es k d
