-- What the rules look at in an entry.
use Rattle.std.specs.Prelude.{Option, Some, None}
use Rattle.sheet.specs.Entries.{Entry, Group, Name, Mark, Literal, End, Nothing}
use Rattle.sheet.specs.Limits.{legal_text}
use Rattle.rules.specs.declared.look.Look.{Look}
use Rattle.rules.specs.declared.look.Look.TheVariants.{Group as LGroup, Name as LName, Mark as LMark, Literal as LLiteral, End as LEnd}

abbrev pub look_of : {St : Type 0} → Entry St → Option Look
look_of (Group x d w o c) = Some (LGroup d x)
look_of (Name b s) = Some (LName (legal_text b))
look_of (Mark c k s) = Some (LMark c k)
look_of (Literal b s) = Some (LLiteral (legal_text b))
look_of (End x) = Some (LEnd x)
look_of Nothing = None
