-- What each question answers about an entry. One that does not fit the entry answers 0, an empty text or the call site.
use Rattle.std.specs.Prelude.{ℕ, List, [], Some, None, Option}
use Rattle.sheet.specs.Entries.{Entry, Group, Name, Mark, Literal, End, Nothing}
use Rattle.sheet.specs.Numbers.{delimiter_number, spacing_number}
use Rattle.sheet.specs.declared.kind.EntryKind.{EntryKind}
use Rattle.sheet.specs.declared.kind.EntryKind.TheVariants.{Group as KGroup, Name as KName, Mark as KMark, Literal as KLiteral, End as KEnd, Nothing as KNothing}
use Rattle.sheet.specs.declared.entry.Entry.{Entry as Told}
use Rattle.sheet.specs.declared.entry.Entry.TheVariants.{Group as IsGroup, Name as IsName, Mark as IsMark, Literal as IsLiteral, End as IsEnd}
use Rattle.sheet.specs.declared.kind.Stamps.{Stamps}
use Rattle.sheet.specs.declared.tree.Tree.{Tree}
use Rattle.sheet.specs.declared.tree.Tree.TheVariants.{Name as TName, Literal as TLiteral, Mark as TMark, Group as TGroup}

-- What the code's answer to `entry` says.
abbrev pub entry_said : {St : Type 0} → Option (Told St) → Entry St
entry_said None = Nothing
entry_said (Some (IsGroup x d z)) = Group x (delimiter_number d) z.whole z.opening z.closing
entry_said (Some (IsName b s)) = Name b.now s
entry_said (Some (IsMark c k s)) = Mark c (spacing_number k) s
entry_said (Some (IsLiteral b s)) = Literal b.now s
entry_said (Some (IsEnd x)) = End x

abbrev pub kind_of : {St : Type 0} → Entry St → EntryKind
kind_of (Group x d w o c) = KGroup
kind_of (Name b s) = KName
kind_of (Mark c k s) = KMark
kind_of (Literal b s) = KLiteral
kind_of (End x) = KEnd
kind_of Nothing = KNothing

abbrev pub distance_of : {St : Type 0} → Entry St → ℕ
distance_of (Group x d w o c) = x
distance_of (Name b s) = 0
distance_of (Mark c k s) = 0
distance_of (Literal b s) = 0
distance_of (End x) = x
distance_of Nothing = 0

abbrev pub delimiter_of : {St : Type 0} → Entry St → ℕ
delimiter_of (Group x d w o c) = d
delimiter_of (Name b s) = 0
delimiter_of (Mark c k s) = 0
delimiter_of (Literal b s) = 0
delimiter_of (End x) = 0
delimiter_of Nothing = 0

abbrev pub character_of : {St : Type 0} → Entry St → ℕ
character_of (Group x d w o c) = 0
character_of (Name b s) = 0
character_of (Mark c k s) = c
character_of (Literal b s) = 0
character_of (End x) = 0
character_of Nothing = 0

abbrev pub spacing_of : {St : Type 0} → Entry St → ℕ
spacing_of (Group x d w o c) = 0
spacing_of (Name b s) = 0
spacing_of (Mark c k s) = k
spacing_of (Literal b s) = 0
spacing_of (End x) = 0
spacing_of Nothing = 0

abbrev pub text_of : {St : Type 0} → Entry St → List ℕ
text_of (Group x d w o c) = []
text_of (Name b s) = b
text_of (Mark c k s) = []
text_of (Literal b s) = b
text_of (End x) = []
text_of Nothing = []

abbrev pub three : {St : Type 0} → St → St → St → Stamps St
three w o c = record { whole = w; opening = o; closing = c }

-- The stamps of a place: a group's three stand at its Group; anything else that was written has one, which is all three.
-- The call site, site, stands for those of an End, and past the end.
abbrev pub stamps_of : {St : Type 0} → St → Entry St → Stamps St
stamps_of site (Group x d w o c) = three w o c
stamps_of site (Name b s) = three s s s
stamps_of site (Mark c k s) = three s s s
stamps_of site (Literal b s) = three s s s
stamps_of site (End x) = three site site site
stamps_of site Nothing = three site site site

-- The tree that begins at a place, without its stamps and a group without its contents.
pub data Token : Type 0 where
  a_name : List ℕ → Token
  a_literal : List ℕ → Token
  a_mark : ℕ → ℕ → Token
  a_group : ℕ → Token
  no_token : Token

abbrev pub token_of : {St : Type 0} → Entry St → Token
token_of (Group x d w o c) = a_group d
token_of (Name b s) = a_name b
token_of (Mark c k s) = a_mark c k
token_of (Literal b s) = a_literal b
token_of (End x) = no_token
token_of Nothing = no_token

-- What the code's answer to `token` says.
abbrev pub token_said : Option Tree → Token
token_said None = no_token
token_said (Some (TName b)) = a_name b.now
token_said (Some (TLiteral b)) = a_literal b.now
token_said (Some (TMark c k)) = a_mark c (spacing_number k)
token_said (Some (TGroup d)) = a_group (delimiter_number d)
