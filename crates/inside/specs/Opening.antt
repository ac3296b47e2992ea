-- What going into a group answers.
use Rattle.std.specs.Prelude.{◌≡◌, ℕ, ◌+◌, Ok, Err, Result}
use Rattle.sheet.specs.Trees.{Trees}
use Rattle.inside.specs.Contents.{HoldsOnly, HoldsNone, contents}
use Rattle.inside.specs.declared.inside.Inside.{Inside}
use Rattle.inside.specs.declared.inside.NoGroup.{NoGroup}

-- The number of the refusal.
abbrev pub no_group_number : ℕ
no_group_number = 12

-- The sheet of the contents, by the sheet that a store below has.
abbrev pub contents_of : {S St : Type 0} → (S → Trees St) → Inside S → Trees St
contents_of sheet v = contents (sheet v.below) v.place

-- The store v, over the store below, has the contents of the group at the place p of t as its sheet.
pub record IsInside {S St : Type 0} (sheet : S → Trees St) (t : Trees St) (p : ℕ) (below : S) (place : ℕ) (v : Inside S) : Type 0 where
  pub below_is : v.below ≡ below
  pub place_is : v.place ≡ place
  pub holds : HoldsOnly t p (contents_of sheet v)
  pub is : contents_of sheet v ≡ contents t p

-- No group stands at the place p of the sheet, and the store is handed back.
pub record IsRefused {S St : Type 0} (t : Trees St) (p : ℕ) (store : S) (e : NoGroup S) : Type 0 where
  pub none : HoldsNone t p
  pub handed_back : e.below ≡ store

-- Into a group of a store.
abbrev pub OpensInside : {S St : Type 0} → (S → Trees St) → S → ℕ → Result (Inside S) (NoGroup S) → Type 0
OpensInside sheet store p (Ok v) = IsInside sheet (sheet store) p store p v
OpensInside sheet store p (Err e) = IsRefused (sheet store) p store e

-- Into a group of the contents: the same store stays below, and the two places add up.
abbrev pub GoesInside : {S St : Type 0} → (S → Trees St) → Inside S → ℕ → Result (Inside S) (NoGroup (Inside S)) → Type 0
GoesInside sheet u p (Ok v) = IsInside sheet (contents_of sheet u) p u.below (u.place + 1 + p) v
GoesInside sheet u p (Err e) = IsRefused (contents_of sheet u) p u e
