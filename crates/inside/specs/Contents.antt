-- The contents of a group of a sheet, as a sheet.
use Rattle.std.specs.Prelude.{◌≡◌, ℕ, suc, List, [], ◌∷◌, drop}
use Rattle.sheet.specs.Trees.{Trees, nil, size}
use Rattle.sheet.specs.Entries.{Entry, Group, Name, Mark, Literal, End, Nothing, flat, entries, tree}

-- The entries begin with a group that has the contents i: its Group, the flat form of i and its End.
pub record BeginsWithGroup {St : Type 0} (es : List (Entry St)) (i : Trees St) : Type 0 where
  pub delimiter : ℕ
  pub whole : St
  pub opening : St
  pub closing : St
  pub rest : List (Entry St)
  pub is : es ≡ Group (suc (size i)) delimiter whole opening closing ∷ flat i (End (suc (size i)) ∷ rest)

-- A group with the contents i stands at the place p of the sheet.
abbrev pub HoldsAt : {St : Type 0} → Trees St → ℕ → Trees St → Type 0
HoldsAt t p i = BeginsWithGroup (drop p (entries t)) i

-- It does, and it has no other contents.
pub record HoldsOnly {St : Type 0} (t : Trees St) (p : ℕ) (i : Trees St) : Type 0 where
  pub held : HoldsAt t p i
  pub only : (j : Trees St) → HoldsAt t p j → i ≡ j

-- No group stands there.
abbrev pub HoldsNone : {St : Type 0} → Trees St → ℕ → Type 0
HoldsNone {St = St} t p = (i : Trees St) → HoldsAt t p i → ⊥

-- What is read behind the Group that the entries begin with, up to its End; nothing where they begin with anything else.
abbrev pub behind_group : {St : Type 0} → List (Entry St) → Trees St
behind_group [] = nil
behind_group (Group x d w o c ∷ es) = tree es
behind_group (Name b s ∷ es) = nil
behind_group (Mark c k s ∷ es) = nil
behind_group (Literal b s ∷ es) = nil
behind_group (End x ∷ es) = nil
behind_group (Nothing ∷ es) = nil

-- The contents of the group at a place of a sheet; the empty sheet where none stands.
abbrev pub contents : {St : Type 0} → Trees St → ℕ → Trees St
contents t p = behind_group (drop p (entries t))
