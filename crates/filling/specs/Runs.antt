-- Runs of calls, and the sheet that they tell: laws above the single call.
use Rattle.std.specs.Prelude.{◌≡◌, ℕ, ◌≤◌, true, false, List, [], ◌∷◌, ◌++◌, length, take, None}
use Rattle.sheet.specs.Trees.{Trees, nil, name, mark, literal, group}
use Rattle.sheet.specs.Entries.{entries}
use Rattle.sheet.specs.Limits.{KeepsLimits}
use Rattle.table.specs.Opening.{Means}
use Rattle.table.specs.Slots.{listed}
use Rattle.table.specs.Texts.{good_place, text_at}
use Rattle.table.specs.declared.slot.Slot.{Slot}
use Rattle.table.specs.declared.slot.TextPlace.{TextPlace}
use Rattle.filling.specs.Causes.{refusal, is_sealed}
use Rattle.filling.specs.Filling.{moved, entered}
use Rattle.filling.specs.Progress.{Progress, start}
use Rattle.filling.specs.declared.call.Call.{Call}
use Rattle.filling.specs.declared.call.Call.TheVariants.{Name, Mark, Literal, Open, Close, Seal}

-- The calls are put one after another to a filling on one table of n entries, over unchanged texts, and each is accepted.
abbrev pub Accepted : List ℕ → List ℕ → ℕ → Progress → List Call → Type 0
Accepted sheet template n p [] = Unit {0}
Accepted sheet template n p (call ∷ calls) = (refusal sheet template n p call ≡ None) × Accepted sheet template n (moved p call) calls

abbrev pub progress_after : Progress → List Call → Progress
progress_after p [] = p
progress_after p (call ∷ calls) = progress_after (moved p call) calls

abbrev pub table_after : Progress → List Slot → List Call → List Slot
table_after p es [] = es
table_after p es (call ∷ calls) = table_after (moved p call) (entered p call es) calls

-- The calls tell the trees: each name, mark and literal by its call, in order, with its stamp, a text by a place where it stands; and a
-- group by `open`, the calls that tell its contents, and `close`.
abbrev pub Tells : List ℕ → List ℕ → Trees ℕ → List Call → Type 0
Tells sheet template nil calls = calls ≡ []
Tells sheet template (name b s r) calls =
    (q : TextPlace) × (rest : List Call) × (calls ≡ Name q s ∷ rest) × (text_at sheet template q ≡ b) × Tells sheet template r rest
Tells sheet template (mark c k s r) calls = (rest : List Call) × (calls ≡ Mark c k s ∷ rest) × Tells sheet template r rest
Tells sheet template (literal b s r) calls =
    (q : TextPlace) × (rest : List Call) × (calls ≡ Literal q s ∷ rest) × (text_at sheet template q ≡ b) × Tells sheet template r rest
Tells sheet template (group d w o c i r) calls =
    (inner : List Call) × (rest : List Call) × (calls ≡ Open d w o ∷ (inner ++ Close c ∷ rest)) × Tells sheet template i inner × Tells sheet template r rest

-- Calls tell at most one sheet.
abbrev pub OneTelling : List ℕ → List ℕ → Type 0
OneTelling sheet template = (t u : Trees ℕ) (calls : List Call) → Tells sheet template t calls → Tells sheet template u calls → t ≡ u

-- What a run that ends in `seal` leaves: the calls tell a sheet, and the entries written mean that sheet, so that they open as a table
-- with that sheet and no other.
pub record LeavesItsSheet (sheet template : List ℕ) (es : List Slot) (calls : List Call) : Type 0 where
  pub told : Trees ℕ
  pub tells : Tells sheet template told calls
  pub all : (progress_after start (calls ++ Seal ∷ [])).written ≡ length (entries told)
  pub means : Means (listed sheet template (take (length (entries told)) (table_after start es (calls ++ Seal ∷ [])))) told

abbrev pub SealedRuns : List ℕ → List ℕ → Type 0
SealedRuns sheet template =
    (es : List Slot) (calls : List Call) → Accepted sheet template (length es) start (calls ++ Seal ∷ []) → LeavesItsSheet sheet template es calls

-- The refusal of a short table never comes too early: a table that is long enough for a sheet takes it, by whatever calls tell it.
abbrev pub NeverTooEarly : List ℕ → List ℕ → Type 0
NeverTooEarly sheet template =
    (t : Trees ℕ) (calls : List Call) (n : ℕ) → KeepsLimits t → Tells sheet template t calls → length (entries t) ≤ n → Accepted sheet template n start (calls ++ Seal ∷ [])

-- It never comes too late: what was accepted can be brought to an end on that table. An apostrophe needs a text for its name.
abbrev pub NeverTooLate : List ℕ → List ℕ → Type 0
NeverTooLate sheet template =
    (q : TextPlace) (calls : List Call) (n : ℕ) → good_place sheet template q ≡ true → 1 ≤ n → Accepted sheet template n start calls → is_sealed (progress_after start calls).state ≡ false
    → (more : List Call) × Accepted sheet template n start ((calls ++ more) ++ Seal ∷ [])

pub record WholeRuns (sheet template : List ℕ) : Type 0 where
  pub one : OneTelling sheet template
  pub sealed : SealedRuns sheet template
  pub early : NeverTooEarly sheet template
  pub late : NeverTooLate sheet template
