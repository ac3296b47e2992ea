-- What the plain reading is, in words of the sheets that it comes from: laws above its definition.
use Rattle.std.specs.Prelude.{◌≡◌, zero, suc}
use Rattle.sheet.specs.Trees.{Trees, nil, name, mark, literal, group, bare, plain}

-- No invisible group stands anywhere among the trees.
abbrev pub AllVisible : {St : Type 0} → Trees St → Type 0
AllVisible nil = Unit {0}
AllVisible (name b s r) = AllVisible r
AllVisible (mark c k s r) = AllVisible r
AllVisible (literal b s r) = AllVisible r
AllVisible (group zero w o c i r) = ⊥
AllVisible (group (suc d) w o c i r) = AllVisible i × AllVisible r

-- None is left in a plain reading,
abbrev pub NoneLeft : Type 0 → Type 0
NoneLeft St = (t : Trees St) → AllVisible (plain t)

-- and where there was none, the plain reading is the sheet itself, without its stamps.
abbrev pub NothingElseChanged : Type 0 → Type 0
NothingElseChanged St = (t : Trees St) → AllVisible t → plain t ≡ bare t
