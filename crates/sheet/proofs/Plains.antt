-- The plain reading: no invisible group is left, nothing else has changed, and stamps do not matter to it.
use Rattle.std.proofs.Common.{◌≡◌, zero, suc, sym, refl, ap, ◌∙◌}
use Rattle.sheet.specs.Trees.{Trees, Bare, nil, name, mark, literal, group, then, bare, plain}
use Rattle.sheet.specs.Plain.{AllVisible, NoneLeft, NothingElseChanged}

visible_then : (t u : Bare) → AllVisible t → AllVisible u → AllVisible (then t u)
visible_then nil u v w = w
visible_then (name b s r) u v w = visible_then r u v w
visible_then (mark c k s r) u v w = visible_then r u v w
visible_then (literal b s r) u v w = visible_then r u v w
visible_then (group zero x o c i r) u v w = absurd v
visible_then (group (suc d) x o c i r) u v w = (v.0, visible_then r u v.1 w)

pub none_left : {St : Type 0} → NoneLeft St
none_left nil = tt
none_left (name b s r) = none_left r
none_left (mark c k s r) = none_left r
none_left (literal b s r) = none_left r
none_left (group zero w o c i r) = visible_then (plain i) (plain r) (none_left i) (none_left r)
none_left (group (suc d) w o c i r) = (none_left i, none_left r)

pub nothing_else_changed : {St : Type 0} → NothingElseChanged St
nothing_else_changed nil v = refl
nothing_else_changed (name b s r) v = ap (name b tt) (nothing_else_changed r v)
nothing_else_changed (mark c k s r) v = ap (mark c k tt) (nothing_else_changed r v)
nothing_else_changed (literal b s r) v = ap (literal b tt) (nothing_else_changed r v)
nothing_else_changed (group zero w o c i r) v = absurd v
nothing_else_changed (group (suc d) w o c i r) v = let e = nothing_else_changed i v.0 in let f = nothing_else_changed r v.1 in cc

plain_bare : {St : Type 0} (t : Trees St) → plain (bare t) ≡ plain t
plain_bare nil = refl
plain_bare (name b s r) = ap (name b tt) (plain_bare r)
plain_bare (mark c k s r) = ap (mark c k tt) (plain_bare r)
plain_bare (literal b s r) = ap (literal b tt) (plain_bare r)
plain_bare (group zero w o c i r) = let e = plain_bare i in let f = plain_bare r in cc
plain_bare (group (suc d) w o c i r) = let e = plain_bare i in let f = plain_bare r in cc

pub same_plain : {St Tt : Type 0} (t : Trees St) (u : Trees Tt) → bare t ≡ bare u → plain t ≡ plain u
same_plain t u e = sym (plain_bare t) ∙ (ap plain e ∙ plain_bare u)
