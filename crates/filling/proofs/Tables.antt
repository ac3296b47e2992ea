-- Any table may be handed to any call.
use Rattle.std.proofs.Common.{◌≡◌, ℕ, List, [], ◌∷◌, length, get_or, set, Some, None, Option, sym, refl, ◌∙◌, get_or-set_other}
use Rattle.table.specs.declared.slot.Slot.{Slot}
use Rattle.filling.specs.Causes.{refusal}
use Rattle.filling.specs.Filling.{entered, close_at, filled}
use Rattle.filling.specs.Progress.{Progress}
use Rattle.filling.specs.Tables.{InnermostAt, Completes, AnyTable}
use Rattle.filling.specs.declared.call.Call.{Call}
use Rattle.filling.specs.declared.call.Call.TheVariants.{Name, Mark, Literal, Open, Close, Seal}
use Rattle.filling.specs.declared.fault.FillFault.{FillFault}
use Rattle.filling.proofs.Sealed.{length_entered}

closed_elsewhere : (gs : List ℕ) (w s : ℕ) (es : List Slot) (k : ℕ) (d : Slot) → (k ≡ w → ⊥) → (InnermostAt gs k → ⊥) → get_or (close_at gs w s es) k d ≡ get_or es k d
closed_elsewhere [] w s es k d next group = refl
closed_elsewhere (g ∷ gs) w s es k d next group = get_or-set_other (set es g _) w k _ d next ∙ get_or-set_other es g k _ d (λ e. group (sym e))

entered_elsewhere : (p : Progress) (call : Call) (es : List Slot) (k : ℕ) (d : Slot) → (k ≡ p.written → ⊥) → (Completes p call k → ⊥) → get_or (entered p call es) k d ≡ get_or es k d
entered_elsewhere p (Name q s) es k d next group = get_or-set_other es _ k _ d next
entered_elsewhere p (Mark c j s) es k d next group = get_or-set_other es _ k _ d next
entered_elsewhere p (Literal q s) es k d next group = get_or-set_other es _ k _ d next
entered_elsewhere p (Open x w o) es k d next group = get_or-set_other es _ k _ d next
entered_elsewhere p (Close s) es k d next group = closed_elsewhere p.groups p.written s es k d next group
entered_elsewhere p Seal es k d next group = get_or-set_other es _ k _ d next

-- What two tables of one length have alike after a call, refused or not, and what one of them keeps.
record Alike (o : Option FillFault) (p : Progress) (call : Call) (es fs : List Slot) : Type 0 where
  answers : (filled o p call es).answer ≡ (filled o p call fs).answer
  goes_on : (filled o p call es).progress ≡ (filled o p call fs).progress
  long : length (filled o p call es).entries ≡ length es
  elsewhere : (k : ℕ) (d : Slot) → (k ≡ p.written → ⊥) → (Completes p call k → ⊥) → get_or (filled o p call es).entries k d ≡ get_or es k d

alike : (o : Option FillFault) (p : Progress) (call : Call) (es fs : List Slot) → Alike o p call es fs
alike (Some f) p call es fs = record { answers = refl; goes_on = refl; long = refl; elsewhere = λ k d next group. refl }
alike None p call es fs = record { answers = refl; goes_on = refl; long = length_entered p call es; elsewhere = entered_elsewhere p call es }

pub any_table : (a b : List ℕ) (p : Progress) (call : Call) → AnyTable a b p call
any_table a b p call =
    record {
      answers = λ es fs e. rw e (alike (refusal a b (length fs) p call) p call es fs).answers;
      goes_on = λ es fs e. rw e (alike (refusal a b (length fs) p call) p call es fs).goes_on;
      long = λ es. (alike (refusal a b (length es) p call) p call es es).long;
      elsewhere = λ es. (alike (refusal a b (length es) p call) p call es es).elsewhere;
    }
