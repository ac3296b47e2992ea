-- What a fill call answers, and what the filling and the table are afterwards.
use Rattle.std.specs.Prelude.{◌≡◌, ℕ, ◌+◌, ◌-◌, cond, List, [], ◌∷◌, length, Some, None, Ok, Err, Option, Result, slice_index_or, slice_set}
use Rattle.sheet.specs.Limits.{apostrophe}
use Rattle.table.specs.declared.slot.Slot.{Slot}
use Rattle.table.specs.declared.slot.Slot.TheVariants.{Group as SGroup, Name as SName, Mark as SMark, Literal as SLiteral, End as SEnd}
use Rattle.table.specs.declared.texts.Texts.{Texts}
use Rattle.filling.specs.Causes.{refusal}
use Rattle.filling.specs.Progress.{Progress, progress}
use Rattle.filling.specs.declared.call.Call.{Call}
use Rattle.filling.specs.declared.call.Call.TheVariants.{Name, Mark, Literal, Open, Close, Seal}
use Rattle.filling.specs.declared.call.State.{State}
use Rattle.filling.specs.declared.call.State.TheVariants.{Open as IsOpen, Waiting as IsWaiting, Sealed as IsSealed}
use Rattle.filling.specs.declared.fault.FillFault.{FillFault}

-- After an apostrophe its name is waited for.
abbrev pub state_after : ℕ → State
state_after c = cond (apostrophe c) IsWaiting IsOpen

-- The groups that are open without the innermost.
abbrev pub but_innermost : List ℕ → List ℕ
but_innermost [] = []
but_innermost (g ∷ gs) = gs

-- The filling after an accepted call.
abbrev pub moved : Progress → Call → Progress
moved p (Name q s) = progress IsOpen (p.written + 1) p.groups
moved p (Mark c k s) = progress (state_after c) (p.written + 1) p.groups
moved p (Literal q s) = progress IsOpen (p.written + 1) p.groups
moved p (Open d w o) = progress IsOpen (p.written + 1) (p.written ∷ p.groups)
moved p (Close s) = progress IsOpen (p.written + 1) (but_innermost p.groups)
moved p Seal = progress IsSealed (p.written + 1) p.groups

-- A Group gets its distance and its closing stamp. Where another table is handed over and no Group stands there, nothing changes.
abbrev pub closed : Slot → ℕ → ℕ → Slot
closed (SGroup x d w o c) far s = SGroup far d w o s
closed (SName q t) far s = SName q t
closed (SMark c k t) far s = SMark c k t
closed (SLiteral q t) far s = SLiteral q t
closed (SEnd x) far s = SEnd x

abbrev pub nowhere : Slot
nowhere = SGroup 0 0 0 0 0

-- At `close` the innermost Group is completed, and its End is written.
abbrev pub close_at : List ℕ → ℕ → ℕ → List Slot → List Slot
close_at [] w s es = es
close_at (g ∷ gs) w s es = slice_set (slice_set es g (closed (slice_index_or es g nowhere) (w - g) s)) w (SEnd (w - g))

-- The table after an accepted call. Until `close`, a Group has distance 0 and the call site as its closing stamp.
abbrev pub entered : Progress → Call → List Slot → List Slot
entered p (Name q s) es = slice_set es p.written (SName q s)
entered p (Mark c k s) es = slice_set es p.written (SMark c k s)
entered p (Literal q s) es = slice_set es p.written (SLiteral q s)
entered p (Open d w o) es = slice_set es p.written (SGroup 0 d w o 0)
entered p (Close s) es = close_at p.groups p.written s es
entered p Seal es = slice_set es p.written (SEnd 0)

pub record Filled : Type 0 where
  -- the place written, or the refusal
  pub answer : Result ℕ FillFault
  pub progress : Progress
  pub entries : List Slot

-- A refused call changes nothing.
abbrev pub filled : Option FillFault → Progress → Call → List Slot → Filled
filled (Some f) p call es = record { answer = Err f; progress = p; entries = es }
filled None p call es = record { answer = Ok p.written; progress = moved p call; entries = entered p call es }

abbrev pub fill : List ℕ → List ℕ → Progress → Call → List Slot → Filled
fill sheet template p call es = filled (refusal sheet template (length es) p call) p call es

-- A call on this table and these texts is answered so, and leaves the filling and the table so.
abbrev pub Fills : Texts → Progress → List Slot → Call → Result ℕ FillFault → Progress → List Slot → Type 0
Fills texts p es call answer q fs = record { answer = answer; progress = q; entries = fs } ≡ fill texts.sheet.now texts.template.now p call es
