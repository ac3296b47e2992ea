-- The flat rules, judged from place 0 upward.
use Rattle.std.specs.Prelude.{ℕ, suc, ◌+◌, Bool, true, false, cond, ◌&&◌, List, [], ◌∷◌, length, ◌==◌, nat_le, nat_lt, Option, Some, None, Result, Ok, Err}
use Rattle.sheet.specs.Entries.{Entry}
use Rattle.sheet.specs.Limits.{legal_mark, apostrophe}
use Rattle.rules.specs.Looks.{look_of}
use Rattle.rules.specs.declared.look.Look.{Look}
use Rattle.rules.specs.declared.look.Look.TheVariants.{Group, Name, Mark, Literal, End}
use Rattle.rules.specs.declared.look.Offence.{Offence}
use Rattle.rules.specs.declared.walk.Open.{Open}
use Rattle.sheet.specs.declared.fault.Rule.{Rule}
use Rattle.sheet.specs.declared.fault.StoreFault.{StoreFault}
use Rattle.sheet.specs.declared.fault.StoreFault.TheVariants.{Rules}
use Rattle.sheet.specs.declared.fault.Rule.TheVariants.{TooMany, UnknownKind, NameWanted, Text, Mark as MarkRule, Delimiter, TooDeep, Distance, EndTooEarly, EndMissing}

-- The verdict over a list of entries: it is lawful, or a place offends against a rule.
abbrev pub Verdict : Type 0
Verdict = Result (Unit {0}) Offence

abbrev pub lawful : Verdict
lawful = Ok tt

abbrev pub offending : ℕ → Rule → Verdict
offending p rule = Err (record { place = p; rule = rule })

abbrev pub fault_of : Offence → StoreFault
fault_of o = Rules o.place o.rule

-- What is remembered between two entries: whether the last one is an apostrophe, and the open groups, innermost first.
pub record Walk : Type 0 where
  pub waiting : Bool
  pub open_groups : List Open

abbrev pub walk : Bool → List Open → Walk
walk b st = record { waiting = b; open_groups = st }

-- What an entry does: the walk goes on, the sheet is closed, or a rule is broken.
pub data Next : Type 0 where
  on : Walk → Next
  done : Next
  bad : Rule → Next

-- Distances match at the End: it stands where the Group says, and says the same.
unfoldable pub matches : ℕ → ℕ → Open → Bool
matches p x o = x == o.claims && p == o.from + x

-- An End closes the innermost open group, or else the sheet, with distance 0.
abbrev pub close : ℕ → ℕ → List Open → Next
close p x [] = cond (x == 0) done (bad Distance)
close p x (o ∷ st) = cond (matches p x o) (on (walk false st)) (bad Distance)

-- A Group opens a group, if its delimiter is known and fewer than 60 are open.
abbrev pub open_group : Walk → ℕ → ℕ → ℕ → Next
open_group w p d x =
    cond (nat_le d 3) (cond (nat_lt (length w.open_groups) 60) (on (walk false (record { from = p; claims = x } ∷ w.open_groups))) (bad TooDeep)) (bad Delimiter)

-- The rules for each kind of entry at place p.
abbrev pub take_in : Walk → ℕ → Look → Next
take_in w p (Group d x) = open_group w p d x
take_in w p (Name good) = cond good (on (walk false w.open_groups)) (bad Text)
take_in w p (Mark c k) = cond (legal_mark c k) (on (walk (apostrophe c) w.open_groups)) (bad MarkRule)
take_in w p (Literal good) = cond good (on (walk false w.open_groups)) (bad Text)
take_in w p (End x) = close p x w.open_groups

-- Every kind has to be known.
abbrev pub take_known : Walk → ℕ → Option Look → Next
take_known w p (Some l) = take_in w p l
take_known w p None = bad UnknownKind

-- After an apostrophe only a name is in order.
abbrev pub waits : Walk → Option Look → Bool
waits w (Some (Group d x)) = w.waiting
waits w (Some (Name good)) = false
waits w (Some (Mark c k)) = w.waiting
waits w (Some (Literal good)) = w.waiting
waits w (Some (End x)) = w.waiting
waits w None = w.waiting

abbrev pub step : Walk → ℕ → Option Look → Next
step w p l = cond (waits w l) (bad NameWanted) (take_known w p l)

-- What the entry at place p leads to, with es behind it: `go` judges them. The End that closes the sheet stands last.
abbrev pub after : {St : Type 0} → Next → ℕ → List (Entry St) → (Walk → Verdict) → Verdict
after (on w) p es go = go w
after done p [] go = lawful
after done p (e ∷ es) go = offending p EndTooEarly
after (bad rule) p es go = offending p rule

-- The entries from place p on. Where the last End is missing, the offending place is the count.
abbrev pub judge : {St : Type 0} → Walk → ℕ → List (Entry St) → Verdict
judge w p [] = offending p EndMissing
judge w p (e ∷ es) = after (step w p (look_of e)) p es (λ v. judge v (suc p) es)

-- The verdict over all entries: there are at most 65,535.
abbrev pub verdict : {St : Type 0} → List (Entry St) → Verdict
verdict es = cond (nat_le (length es) 65535) (judge (walk false []) 0 es) (offending 0 TooMany)

abbrev pub is_lawful : Verdict → Bool
is_lawful (Ok u) = true
is_lawful (Err o) = false
