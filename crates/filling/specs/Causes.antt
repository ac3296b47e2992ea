-- Why a fill call is refused.
use Rattle.std.specs.Prelude.{ℕ, ◌+◌, min, Bool, true, false, cond, not, ◌&&◌, List, [], ◌∷◌, length, Some, None, Option, nat_le, nat_lt}
use Rattle.sheet.specs.Limits.{legal_mark, apostrophe}
use Rattle.table.specs.Texts.{good_place}
use Rattle.filling.specs.Progress.{Progress}
use Rattle.filling.specs.declared.call.Call.{Call}
use Rattle.filling.specs.declared.call.Call.TheVariants.{Name, Mark, Literal, Open, Close, Seal}
use Rattle.filling.specs.declared.call.State.{State}
use Rattle.filling.specs.declared.call.State.TheVariants.{Open as IsOpen, Waiting as IsWaiting, Sealed as IsSealed}
use Rattle.filling.specs.declared.fault.FillFault.{FillFault}
use Rattle.filling.specs.declared.fault.FillFault.TheVariants.{Sealed, NameWanted, Mark as MarkFault, Text, Delimiter, NoGroup, GroupOpen, TooDeep, TooShort}

abbrev pub is_sealed : State → Bool
is_sealed IsOpen = false
is_sealed IsWaiting = false
is_sealed IsSealed = true

abbrev pub is_waiting : State → Bool
is_waiting IsOpen = false
is_waiting IsWaiting = true
is_waiting IsSealed = false

abbrev pub is_name : Call → Bool
is_name (Name q s) = true
is_name (Mark c k s) = false
is_name (Literal q s) = false
is_name (Open d w o) = false
is_name (Close s) = false
is_name Seal = false

abbrev pub none_open : List ℕ → Bool
none_open [] = true
none_open (g ∷ gs) = false

-- The cause of each refusal that only one kind of call can have.

abbrev pub bad_mark : Call → Bool
bad_mark (Name q s) = false
bad_mark (Mark c k s) = not (legal_mark c k)
bad_mark (Literal q s) = false
bad_mark (Open d w o) = false
bad_mark (Close s) = false
bad_mark Seal = false

abbrev pub bad_text : List ℕ → List ℕ → Call → Bool
bad_text sheet template (Name q s) = not (good_place sheet template q)
bad_text sheet template (Mark c k s) = false
bad_text sheet template (Literal q s) = not (good_place sheet template q)
bad_text sheet template (Open d w o) = false
bad_text sheet template (Close s) = false
bad_text sheet template Seal = false

abbrev pub bad_delimiter : Call → Bool
bad_delimiter (Name q s) = false
bad_delimiter (Mark c k s) = false
bad_delimiter (Literal q s) = false
bad_delimiter (Open d w o) = not (nat_le d 3)
bad_delimiter (Close s) = false
bad_delimiter Seal = false

abbrev pub nothing_to_close : List ℕ → Call → Bool
nothing_to_close gs (Name q s) = false
nothing_to_close gs (Mark c k s) = false
nothing_to_close gs (Literal q s) = false
nothing_to_close gs (Open d w o) = false
nothing_to_close gs (Close s) = none_open gs
nothing_to_close gs Seal = false

abbrev pub left_open : List ℕ → Call → Bool
left_open gs (Name q s) = false
left_open gs (Mark c k s) = false
left_open gs (Literal q s) = false
left_open gs (Open d w o) = false
left_open gs (Close s) = false
left_open gs Seal = not (none_open gs)

abbrev pub too_deep : List ℕ → Call → Bool
too_deep gs (Name q s) = false
too_deep gs (Mark c k s) = false
too_deep gs (Literal q s) = false
too_deep gs (Open d w o) = not (nat_lt (length gs) 60)
too_deep gs (Close s) = false
too_deep gs Seal = false

-- How many entries are still owed after the call: an End for each open group and the last End; and after an apostrophe its name.
abbrev pub owed : List ℕ → Call → ℕ
owed gs (Name q s) = length gs + 1
owed gs (Mark c k s) = cond (apostrophe c) (length gs + 2) (length gs + 1)
owed gs (Literal q s) = length gs + 1
owed gs (Open d w o) = length gs + 2
owed gs (Close s) = length gs
owed gs Seal = 0

-- A table of n entries is long enough if what is written, the entry of this call and what is owed after it have room in it. Only the
-- first 65,535 entries count.
abbrev pub long_enough : ℕ → Progress → Call → Bool
long_enough n p call = nat_le (p.written + 1 + owed p.groups call) (min 65535 n)

-- Whether a refusal has its cause: the texts, the length of the table, the filling and the call settle it.
abbrev pub cause : List ℕ → List ℕ → ℕ → Progress → Call → FillFault → Bool
cause sheet template n p call Sealed = is_sealed p.state
cause sheet template n p call NameWanted = is_waiting p.state && not (is_name call)
cause sheet template n p call MarkFault = bad_mark call
cause sheet template n p call Text = bad_text sheet template call
cause sheet template n p call Delimiter = bad_delimiter call
cause sheet template n p call NoGroup = nothing_to_close p.groups call
cause sheet template n p call GroupOpen = left_open p.groups call
cause sheet template n p call TooDeep = too_deep p.groups call
cause sheet template n p call TooShort = not (long_enough n p call)

-- The first that has its cause.
abbrev pub first_cause : (FillFault → Bool) → List FillFault → Option FillFault
first_cause holds [] = None
first_cause holds (f ∷ fs) = cond (holds f) (Some f) (first_cause holds fs)

-- In this order they are tried.
abbrev pub in_order : List FillFault
in_order = Sealed ∷ NameWanted ∷ MarkFault ∷ Text ∷ Delimiter ∷ NoGroup ∷ GroupOpen ∷ TooDeep ∷ TooShort ∷ []

abbrev pub refusal : List ℕ → List ℕ → ℕ → Progress → Call → Option FillFault
refusal sheet template n p call = first_cause (cause sheet template n p call) in_order
