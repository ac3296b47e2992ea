-- What a key sheet is: a list of trees with stamps; and its plain reading.
use Rattle.std.specs.Prelude.{ℕ, zero, suc, ◌+◌, max, List}

-- The trees of a sheet in order: each constructor but `nil` is one tree and what follows it.
-- Texts are lists of bytes. A stamp says where something was written; a sheet may carry stamps of any type St.
pub data Trees (St : Type 0) : Type 0 where
  nil : Trees St
  -- text, stamp
  name : List ℕ → St → Trees St → Trees St
  -- character, spacing (0 alone, 1 joint), stamp
  mark : ℕ → ℕ → St → Trees St → Trees St
  -- text, stamp
  literal : List ℕ → St → Trees St → Trees St
  -- delimiter (0 invisible, 1 parenthesis, 2 brace, 3 bracket), whole, opening and closing stamp, contents
  group : ℕ → St → St → St → Trees St → Trees St → Trees St

-- A sheet whose stamps are of no interest.
abbrev pub Bare : Type 0
Bare = Trees (Unit {0})

-- The trees of the first list, and then those of the second.
abbrev pub then : {St : Type 0} → Trees St → Trees St → Trees St
then nil u = u
then (name b s r) u = name b s (then r u)
then (mark c k s r) u = mark c k s (then r u)
then (literal b s r) u = literal b s (then r u)
then (group d w o c i r) u = group d w o c i (then r u)

-- The same trees without their stamps.
abbrev pub bare : {St : Type 0} → Trees St → Bare
bare nil = nil
bare (name b s r) = name b tt (bare r)
bare (mark c k s r) = mark c k tt (bare r)
bare (literal b s r) = literal b tt (bare r)
bare (group d w o c i r) = group d tt tt tt (bare i) (bare r)

-- The plain reading: each invisible group, however deep, has given way to its contents, and stamps are dropped.
abbrev pub plain : {St : Type 0} → Trees St → Bare
plain nil = nil
plain (name b s r) = name b tt (plain r)
plain (mark c k s r) = mark c k tt (plain r)
plain (literal b s r) = literal b tt (plain r)
plain (group zero w o c i r) = then (plain i) (plain r)
plain (group (suc d) w o c i r) = group (suc d) tt tt tt (plain i) (plain r)

-- How many entries the flat form of the trees has: a group has two, its Group and its End.
abbrev pub size : {St : Type 0} → Trees St → ℕ
size nil = 0
size (name b s r) = suc (size r)
size (mark c k s r) = suc (size r)
size (literal b s r) = suc (size r)
size (group d w o c i r) = suc (size i + suc (size r))

-- How many groups are open at the deepest place.
abbrev pub depth : {St : Type 0} → Trees St → ℕ
depth nil = 0
depth (name b s r) = depth r
depth (mark c k s r) = depth r
depth (literal b s r) = depth r
depth (group d w o c i r) = max (suc (depth i)) (depth r)
