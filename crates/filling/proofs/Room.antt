-- The refusal of a short table comes neither too early nor too late.
use Rattle.std.proofs.Common.{◌≡◌, ℕ, suc, ◌+◌, ◌≤◌, min, true, false, cond, List, [], ◌∷◌, ◌++◌, length, None, sym, refl, ap, ◌∙◌, ⊎_elim, append_assoc, arith}
use Rattle.std.proofs.lemmas.Bool.{cases_Bool, cond_both}
use Rattle.std.proofs.lemmas.Bool.Decides.{nat_tests}
use Rattle.sheet.specs.Trees.{Trees, nil, name, mark, literal, group, size, depth}
use Rattle.sheet.specs.Entries.{End}
use Rattle.sheet.specs.Limits.{apostrophe, legal_mark, legal_text, StartsWithName, Sound}
use Rattle.table.specs.Texts.{good_place, text_at}
use Rattle.table.specs.declared.slot.TextPlace.{TextPlace}
use Rattle.table.proofs.Good.{legal_bytes}
use Rattle.filling.specs.Causes.{is_sealed, is_waiting, owed, refusal}
use Rattle.filling.specs.Filling.{moved, state_after, but_innermost}
use Rattle.filling.specs.Progress.{Progress, progress, start}
use Rattle.filling.specs.Runs.{Accepted, progress_after, Tells, NeverTooEarly, NeverTooLate}
use Rattle.filling.specs.declared.call.Call.{Call}
use Rattle.filling.specs.declared.call.Call.TheVariants.{Name, Mark, Literal, Open, Close, Seal}
use Rattle.filling.specs.declared.call.State.{State}
use Rattle.filling.specs.declared.call.State.TheVariants.{Open as IsOpen, Waiting as IsWaiting, Sealed as IsSealed}
use Rattle.sheet.proofs.Places.{length_flat}

-- A state in which these trees may be told next.
record Ready (s : State) (t : Trees ℕ) : Type 0 where
  unsealed : is_sealed s ≡ false
  named : is_waiting s ≡ true → StartsWithName t

free : (s : State) → (is_waiting s ≡ true → ⊥) → is_waiting s ≡ false
free IsOpen h = refl
free IsWaiting h = absurd (h refl)
free IsSealed h = refl

legal_there : (a b : List ℕ) (q : TextPlace) (x : List ℕ) → text_at a b q ≡ x → legal_text x ≡ true → good_place a b q ≡ true
legal_there a b q x is legal = sym (legal_bytes a b q) ∙ ap legal_text is ∙ legal

ready_open : (t : Trees ℕ) → Ready IsOpen t
ready_open t = record { unsealed = refl; named = λ e. absurd (cc) }

ready_after : (c : ℕ) (t : Trees ℕ) → (apostrophe c ≡ true → StartsWithName t) → Ready (state_after c) t
ready_after c t h = cond_both (apostrophe c) IsWaiting IsOpen (λ s. Ready s t) (λ e. record { unsealed = refl; named = λ w. h e }) (λ e. ready_open t)

some : (t : Trees ℕ) → StartsWithName t → 1 ≤ size t
some nil h = absurd h
some (name b s r) h = omega arith
some (mark c k s r) h = absurd h
some (literal b s r) h = absurd h
some (group d w o c i r) h = absurd h

-- An apostrophe owes its name, which the trees behind it begin with.
owed_mark : (gs : List ℕ) (c k s n w : ℕ) (t : Trees ℕ) → (apostrophe c ≡ true → StartsWithName t) → w + suc (size t) + length gs + 1 ≤ n → w + 1 + owed gs (Mark c k s) ≤ n
owed_mark gs c k s n w t h room = cond_both (apostrophe c) (length gs + 2) (length gs + 1) (λ m. w + 1 + m ≤ n) (λ e. omega (arith, room, some t (h e))) (λ e. omega (arith, room))

-- From a filling that has room for the trees, the calls that tell them are accepted.
takes : (a b : List ℕ) (n : ℕ) (t : Trees ℕ) (calls rest : List Call) (w v : ℕ) (gs : List ℕ) (s : State) → v ≡ w + size t → Tells a b t calls → Sound t → Ready s t → length gs + depth t ≤ 60 → v + length gs + 1 ≤ min 65535 n → Accepted a b n (progress IsOpen v gs) rest → Accepted a b n (progress s w gs) (calls ++ rest)
takes a b n nil calls rest w v gs IsOpen all tells sound ready deep room more =
    let e : v ≡ w = omega arith in rw (tells, ← e) more
takes a b n nil calls rest w v gs IsWaiting all tells sound ready deep room more = absurd (ready.named refl)
takes a b n nil calls rest w v gs IsSealed all tells sound ready deep room more = absurd (cc ready.unsealed)
takes a b n (name x t r) calls rest w v gs s all (q, after, is, text, tells) sound ready deep room more =
    let open-yet : is_sealed s ≡ false = ready.unsealed in
    let good : good_place a b q ≡ true = legal_there a b q x text sound.0 in
    rw is (grind (arith, nat_tests), takes a b n r after rest (w + 1) v gs IsOpen (omega arith) tells sound.1 (ready_open r) deep room more)
takes a b n (mark c k t r) calls rest w v gs s all (after, is, tells) sound ready deep room more =
    let open-yet : is_sealed s ≡ false = ready.unsealed in
    let unasked : is_waiting s ≡ false = free s ready.named in
    let owes : w + 1 + owed gs (Mark c k t) ≤ min 65535 n = owed_mark gs c k t (min 65535 n) w r sound.1 (omega arith) in
    let legal : legal_mark c k ≡ true = sound.0 in
    rw is (grind (arith, nat_tests), takes a b n r after rest (w + 1) v gs (state_after c) (omega arith) tells sound.2 (ready_after c r sound.1) deep room more)
takes a b n (literal x t r) calls rest w v gs s all (q, after, is, text, tells) sound ready deep room more =
    let open-yet : is_sealed s ≡ false = ready.unsealed in
    let unasked : is_waiting s ≡ false = free s ready.named in
    let good : good_place a b q ≡ true = legal_there a b q x text sound.0 in
    rw is (grind (arith, nat_tests), takes a b n r after rest (w + 1) v gs IsOpen (omega arith) tells sound.1 (ready_open r) deep room more)
takes a b n (group d x o c i r) calls rest w v gs s all (inner, after, is, hi, hr) sound ready deep room more =
    let open-yet : is_sealed s ≡ false = ready.unsealed in
    let unasked : is_waiting s ≡ false = free s ready.named in
    let few : d ≤ 3 = sound.0 in
    let end : ℕ = w + 1 + size i in
    let behind : Accepted a b n (progress IsOpen (end + 1) gs) (after ++ rest) = takes a b n r after rest (end + 1) v gs IsOpen (omega arith) hr sound.2 (ready_open r) (omega arith) room more in
    let within : Accepted a b n (progress IsOpen (w + 1) (w ∷ gs)) (inner ++ Close c ∷ (after ++ rest)) = takes a b n i inner (Close c ∷ (after ++ rest)) (w + 1) end (w ∷ gs) IsOpen refl hi sound.1 (ready_open i) (omega arith) (omega arith) (grind (arith, nat_tests), behind) in
    rw is (grind (arith, nat_tests), rw (append_assoc inner (Close c ∷ after) rest) within)

seals : (a b : List ℕ) (n w : ℕ) → w + 1 ≤ min 65535 n → Accepted a b n (progress IsOpen w []) (Seal ∷ [])
seals a b n w room = (grind (arith, nat_tests), tt)

pub never_too_early : (a b : List ℕ) → NeverTooEarly a b
never_too_early a b t calls n limits tells long =
    let l = length_flat t (End 0 ∷ []) in
    let few = limits.few in
    takes a b n t calls (Seal ∷ []) 0 (size t) [] IsOpen (omega arith) tells limits.sound (ready_open t) (omega (arith, limits.shallow)) (omega arith) (seals a b n (size t) (omega arith))

-- How many entries a filling takes at least, once it is brought to an end: those written, an End for each open group, the last End, and the name
-- that an apostrophe waits for.
abbrev least : Progress → ℕ
least p = p.written + 1 + cond (is_waiting p.state) (length p.groups + 1) (length p.groups)

-- After an accepted call there is still room for that.
room_kept : (a b : List ℕ) (n : ℕ) (p : Progress) (call : Call) → is_sealed (moved p call).state ≡ false → refusal a b n p call ≡ None → least (moved p call) ≤ min 65535 n
room_kept a b n p (Name q s) open-yet k = grind (arith, nat_tests)
room_kept a b n p (Mark c j s) open-yet k = grind (arith, nat_tests)
room_kept a b n p (Literal q s) open-yet k = grind (arith, nat_tests)
room_kept a b n p (Open d w o) open-yet k = grind (arith, nat_tests)
room_kept a b n p (Close s) open-yet k = go p.groups k
  where
    go : (gs : List ℕ) → refusal a b n (progress p.state p.written gs) (Close s) ≡ None → least (progress IsOpen (p.written + 1) (but_innermost gs)) ≤ min 65535 n
    go [] k = grind (arith, nat_tests)
    go (g ∷ gs) k = grind (arith, nat_tests)
room_kept a b n p Seal open-yet k = absurd (cc)

-- Once sealed, a filling stays so.
stays_sealed : (a b : List ℕ) (n : ℕ) (p : Progress) (calls : List Call) → is_sealed p.state ≡ true → Accepted a b n p calls → is_sealed (progress_after p calls).state ≡ true
stays_sealed a b n p [] h accepted = h
stays_sealed a b n p (call ∷ calls) h (k, more) = absurd (grind arith)

room_after : (a b : List ℕ) (n : ℕ) (p : Progress) (calls : List Call) → least p ≤ min 65535 n → Accepted a b n p calls → is_sealed (progress_after p calls).state ≡ false → least (progress_after p calls) ≤ min 65535 n
room_after a b n p [] room accepted open-yet = room
room_after a b n p (call ∷ calls) room (k, more) open-yet =
    ⊎_elim
    (λ h. absurd (cc (open-yet, stays_sealed a b n (moved p call) calls h more)))
    (λ h. room_after a b n (moved p call) calls (room_kept a b n p call h k) more open-yet)
    (cases_Bool (is_sealed (moved p call).state))

abbrev closings : List ℕ → List Call
closings [] = []
closings (g ∷ gs) = Close 0 ∷ closings gs

closes_all : (a b : List ℕ) (n w : ℕ) (gs : List ℕ) → w + 1 + length gs ≤ min 65535 n → Accepted a b n (progress IsOpen w gs) (closings gs ++ Seal ∷ [])
closes_all a b n w [] room = seals a b n w (omega arith)
closes_all a b n w (g ∷ gs) room = (grind (arith, nat_tests), closes_all a b n (w + 1) gs (omega arith))

finishes : (a b : List ℕ) (n w : ℕ) (gs : List ℕ) (s : State) (q : TextPlace) → good_place a b q ≡ true → is_sealed s ≡ false → least (progress s w gs) ≤ min 65535 n → (more : List Call) × Accepted a b n (progress s w gs) (more ++ Seal ∷ [])
finishes a b n w gs IsOpen q good open-yet room = (closings gs, closes_all a b n w gs room)
finishes a b n w gs IsWaiting q good open-yet room = (Name q 0 ∷ closings gs, (grind (arith, nat_tests), closes_all a b n (w + 1) gs (omega arith)))
finishes a b n w gs IsSealed q good open-yet room = absurd (cc)

accepted_append : (a b : List ℕ) (n : ℕ) (p : Progress) (calls rest : List Call) → Accepted a b n p calls → Accepted a b n (progress_after p calls) rest → Accepted a b n p (calls ++ rest)
accepted_append a b n p [] rest h k = k
accepted_append a b n p (call ∷ calls) rest h k = (h.0, accepted_append a b n (moved p call) calls rest h.1 k)

pub never_too_late : (a b : List ℕ) → NeverTooLate a b
never_too_late a b q calls n good long accepted open-yet =
    let p = progress_after start calls in
    let end = finishes a b n p.written p.groups p.state q good open-yet (room_after a b n start calls (omega arith) accepted open-yet) in
    (end.0, rw append_assoc (accepted_append a b n start calls (end.0 ++ Seal ∷ []) accepted end.1))
