-- The words that spell a sheet are read as the calls that tell it, and no others are.
use Rattle.std.proofs.Common.{◌≡◌, ℕ, suc, ◌+◌, ◌*◌, ◌≤◌, Bool, true, false, cond, eqb, List, [], ◌∷◌, ◌++◌, length, drop, Some, None, Option, sym, refl, ap, ◌∙◌, subst, inl, inr, append_assoc, append-nil, arith, length-append}
use Rattle.std.proofs.lemmas.Bool.{eq-eqb, eqb-true, cond-true}
use Rattle.sheet.specs.Trees.{Trees, nil, name, mark, literal, group, size}
use Rattle.sheet.specs.Entries.{End}
use Rattle.sheet.specs.Limits.{Sound, KeepsLimits}
use Rattle.table.specs.Texts.{text_at}
use Rattle.filling.specs.Runs.{Tells}
use Rattle.filling.specs.declared.call.Call.{Call}
use Rattle.filling.specs.declared.call.Call.TheVariants.{Name, Mark, Literal, Open, Close, Seal}
use Rattle.sheet.proofs.Places.{length_flat}
use Rattle.notation.specs.Tokens.{Piece, token_of, opening, closing, name as name_token, mark as mark_token, literal as literal_token}
use Rattle.spelled.specs.Whole.{TellsNothing}
use Rattle.spelled.specs.Reading.{OpenGroup, piece_text, word_text, texts_spelled, text_place, opened, Step, a_step, closing_step, step, word_step, in_front, then_on, at_the_end, calls_of, TooMuch}
use Rattle.spelled.specs.Spelling.{Spelled, texts_of}
use Rattle.spelled.proofs.Readings.{joined}
use Rattle.spelled.proofs.Places.{behind_text, legal_there, read_there}

nobody : {A : Type 0} → {X : Type 0} (x : X) → None ≡ Some x → A
nobody x e = let z : ◌≡◌ {A = ℕ} 0 1 = cc in absurd (omega arith)

-- The calls that tell the trees, with their texts from off on.
abbrev calls_at : ℕ → Trees ℕ → List Call
calls_at off nil = []
calls_at off (name b s r) = Name (text_place off b) s ∷ calls_at (off + length b) r
calls_at off (mark c k s r) = Mark c k s ∷ calls_at off r
calls_at off (literal b s r) = Literal (text_place off b) s ∷ calls_at (off + length b) r
calls_at off (group d w o c i r) = Open d w o ∷ (calls_at off i ++ Close c ∷ calls_at (off + length (texts_of i)) r)

tells_at : (text : List ℕ) (t : Trees ℕ) (off : ℕ) (rest : List ℕ) → length text ≤ 65535 → Sound t → drop off text ≡ texts_of t ++ rest → Tells text [] t (calls_at off t)
tells_at text nil off rest short sound is = refl
tells_at text (name b s r) off rest short sound is =
    let at = is ∙ append_assoc b (texts_of r) rest in
    (text_place off b, calls_at (off + length b) r, refl, legal_there text b (texts_of r ++ rest) off short at sound.0, tells_at text r (off + length b) rest short sound.1 (behind_text text b (texts_of r ++ rest) off at))
tells_at text (mark c k s r) off rest short sound is = (calls_at off r, refl, tells_at text r off rest short sound.2 is)
tells_at text (literal b s r) off rest short sound is =
    let at = is ∙ append_assoc b (texts_of r) rest in
    (text_place off b, calls_at (off + length b) r, refl, legal_there text b (texts_of r ++ rest) off short at sound.0, tells_at text r (off + length b) rest short sound.1 (behind_text text b (texts_of r ++ rest) off at))
tells_at text (group d w o c i r) off rest short sound is =
    let at = is ∙ append_assoc (texts_of i) (texts_of r) rest in
    (calls_at off i, calls_at (off + length (texts_of i)) r, refl, tells_at text i off (texts_of r ++ rest) short sound.1 at, tells_at text r (off + length (texts_of i)) rest short sound.2 (behind_text text (texts_of i) (texts_of r ++ rest) off at))

joined_none : (o : Option (List Call)) → joined [] o ≡ o
joined_none None = refl
joined_none (Some cs) = refl

in_joined : (c : Call) (cs : List Call) (o : Option (List Call)) → in_front c (joined cs o) ≡ joined (c ∷ cs) o
in_joined c cs None = refl
in_joined c cs (Some ds) = refl

joined_twice : (cs ds : List Call) (o : Option (List Call)) → joined cs (joined ds o) ≡ joined (cs ++ ds) o
joined_twice cs ds None = refl
joined_twice cs ds (Some es) = ap Some (sym (append_assoc cs ds es))

-- One word.
one_read : (p off off' : ℕ) (st st' : List OpenGroup) (w : List ℕ) (ws : List (List ℕ)) (x : Piece) (c : Call) → token_of w ≡ Some x → step p off st x ≡ Some (a_step c off' st') → calls_of p off st (w ∷ ws) ≡ in_front c (calls_of (p + 1) off' st' ws)
one_read p off off' st st' w ws x c token steps =
    let more : ℕ → List OpenGroup → Option (List Call) = λ o g. calls_of (p + 1) o g ws in
    ap (λ t. then_on (word_step p off st t) more) token ∙ ap (λ s. then_on s more) steps

same_numbers : (p q off off' : ℕ) (st : List OpenGroup) (ws : List (List ℕ)) → p ≡ q → off ≡ off' → calls_of p off st ws ≡ calls_of q off' st ws
same_numbers p q off off' st ws e f = ap (λ n. calls_of n off st ws) e ∙ ap (λ n. calls_of q n st ws) f

-- The words of the trees are read as their calls.
reads : (t : Trees ℕ) (p off : ℕ) (st : List OpenGroup) (front back : List (List ℕ)) → Spelled p t front → calls_of p off st (front ++ back) ≡ joined (calls_at off t) (calls_of (p + size t) (off + length (texts_of t)) st back)
reads nil p off st front back is = ap (λ l. calls_of p off st (l ++ back)) is ∙ same_numbers p (p + 0) off (off + 0) st back (omega arith) (omega arith) ∙ sym (joined_none _)
reads (name b s r) p off st front back (w, rest, is, token, stamp, more) =
    let n = length-append b (texts_of r) in
    ap (λ l. calls_of p off st (l ++ back)) is
    ∙ one_read p off (off + length b) st st w (rest ++ back) (name_token b) (Name (text_place off b) (4 * p + 1)) token refl
    ∙ ap (λ k. in_front (Name (text_place off b) k) (calls_of (p + 1) (off + length b) st (rest ++ back))) (sym stamp)
    ∙ ap (in_front (Name (text_place off b) s)) (reads r (p + 1) (off + length b) st rest back more)
    ∙ in_joined (Name (text_place off b) s) (calls_at (off + length b) r) _
    ∙ ap (joined (calls_at off (name b s r))) (same_numbers _ (p + suc (size r)) _ (off + length (b ++ texts_of r)) st back (omega arith) (omega arith))
reads (mark c k s r) p off st front back (w, rest, is, token, stamp, more) =
    ap (λ l. calls_of p off st (l ++ back)) is
    ∙ one_read p off off st st w (rest ++ back) (mark_token c k) (Mark c k (4 * p + 1)) token refl
    ∙ ap (λ n. in_front (Mark c k n) (calls_of (p + 1) off st (rest ++ back))) (sym stamp)
    ∙ ap (in_front (Mark c k s)) (reads r (p + 1) off st rest back more)
    ∙ in_joined (Mark c k s) (calls_at off r) _
    ∙ ap (joined (calls_at off (mark c k s r))) (same_numbers _ (p + suc (size r)) _ (off + length (texts_of r)) st back (omega arith) refl)
reads (literal b s r) p off st front back (w, rest, is, token, stamp, more) =
    let n = length-append b (texts_of r) in
    ap (λ l. calls_of p off st (l ++ back)) is
    ∙ one_read p off (off + length b) st st w (rest ++ back) (literal_token b) (Literal (text_place off b) (4 * p + 1)) token refl
    ∙ ap (λ k. in_front (Literal (text_place off b) k) (calls_of (p + 1) (off + length b) st (rest ++ back))) (sym stamp)
    ∙ ap (in_front (Literal (text_place off b) s)) (reads r (p + 1) (off + length b) st rest back more)
    ∙ in_joined (Literal (text_place off b) s) (calls_at (off + length b) r) _
    ∙ ap (joined (calls_at off (literal b s r))) (same_numbers _ (p + suc (size r)) _ (off + length (b ++ texts_of r)) st back (omega arith) (omega arith))
reads (group d w o c i r) p off st front back (x, inner, y, rest, is, opens, closes, whole, opening-stamp, closing-stamp, hi, hr) =
    let g : OpenGroup = opened (4 * p + 3) d in
    let off' = off + length (texts_of i) in
    let n = length-append (texts_of i) (texts_of r) in
    let end : Option (List Call) = calls_of (p + 2 + size i + size r) (off' + length (texts_of r)) st back in
    let behind : calls_of (p + 1 + size i) off' (g ∷ st) (y ∷ (rest ++ back)) ≡ joined (Close c ∷ calls_at off' r) end =
    one_read (p + 1 + size i) off' off' (g ∷ st) st y (rest ++ back) (closing d) (Close (4 * p + 3)) closes (cond-true (eqb d d) _ _ (eq-eqb d d refl))
    ∙ ap (λ k. in_front (Close k) (calls_of (p + 1 + size i + 1) off' st (rest ++ back))) (sym closing-stamp)
    ∙ ap (in_front (Close c)) (same_numbers (p + 1 + size i + 1) (p + 2 + size i) off' off' st (rest ++ back) (omega arith) refl ∙ reads r (p + 2 + size i) off' st rest back hr)
    ∙ in_joined (Close c) (calls_at off' r) end in
    let within : calls_of (p + 1) off (g ∷ st) ((inner ++ y ∷ rest) ++ back) ≡ joined (calls_at off i ++ Close c ∷ calls_at off' r) end =
    ap (calls_of (p + 1) off (g ∷ st)) (append_assoc inner (y ∷ rest) back)
    ∙ reads i (p + 1) off (g ∷ st) inner (y ∷ (rest ++ back)) hi
    ∙ ap (joined (calls_at off i)) behind
    ∙ joined_twice (calls_at off i) (Close c ∷ calls_at off' r) end in
    ap (λ l. calls_of p off st (l ++ back)) is
    ∙ one_read p off off st (g ∷ st) x ((inner ++ y ∷ rest) ++ back) (opening d) (Open d (4 * p + 4) (4 * p + 2)) opens refl
    ∙ ap (λ k. in_front (Open d k (4 * p + 2)) (calls_of (p + 1) off (g ∷ st) ((inner ++ y ∷ rest) ++ back))) (sym whole)
    ∙ ap (λ k. in_front (Open d w k) (calls_of (p + 1) off (g ∷ st) ((inner ++ y ∷ rest) ++ back))) (sym opening-stamp)
    ∙ ap (in_front (Open d w o)) within
    ∙ in_joined (Open d w o) (calls_at off i ++ Close c ∷ calls_at off' r) end
    ∙ ap (joined (calls_at off (group d w o c i r))) (same_numbers _ (p + suc (size i + suc (size r))) _ (off + length (texts_of i ++ texts_of r)) st back (omega arith) (omega arith))

-- They have the texts of the trees, and are as many as its entries.
texts_read : (t : Trees ℕ) (p : ℕ) (front back : List (List ℕ)) → Spelled p t front → texts_spelled (front ++ back) ≡ texts_of t ++ texts_spelled back
texts_read nil p front back is = ap (λ l. texts_spelled (l ++ back)) is
texts_read (name b s r) p front back (w, rest, is, token, stamp, more) =
    ap (λ l. texts_spelled (l ++ back)) is ∙ ap (λ t. word_text t ++ texts_spelled (rest ++ back)) token ∙ ap (λ l. b ++ l) (texts_read r (p + 1) rest back more) ∙ sym (append_assoc b (texts_of r) (texts_spelled back))
texts_read (mark c k s r) p front back (w, rest, is, token, stamp, more) =
    ap (λ l. texts_spelled (l ++ back)) is ∙ ap (λ t. word_text t ++ texts_spelled (rest ++ back)) token ∙ texts_read r (p + 1) rest back more
texts_read (literal b s r) p front back (w, rest, is, token, stamp, more) =
    ap (λ l. texts_spelled (l ++ back)) is ∙ ap (λ t. word_text t ++ texts_spelled (rest ++ back)) token ∙ ap (λ l. b ++ l) (texts_read r (p + 1) rest back more) ∙ sym (append_assoc b (texts_of r) (texts_spelled back))
texts_read (group d w o c i r) p front back (x, inner, y, rest, is, opens, closes, whole, opening-stamp, closing-stamp, hi, hr) =
    ap (λ l. texts_spelled (l ++ back)) is
    ∙ ap (λ t. word_text t ++ texts_spelled ((inner ++ y ∷ rest) ++ back)) opens
    ∙ ap texts_spelled (append_assoc inner (y ∷ rest) back)
    ∙ texts_read i (p + 1) inner (y ∷ (rest ++ back)) hi
    ∙ ap (λ t. texts_of i ++ (word_text t ++ texts_spelled (rest ++ back))) closes
    ∙ ap (λ l. texts_of i ++ l) (texts_read r (p + 2 + size i) rest back hr)
    ∙ sym (append_assoc (texts_of i) (texts_of r) (texts_spelled back))

count_read : (t : Trees ℕ) (p : ℕ) (ws : List (List ℕ)) → Spelled p t ws → length ws ≡ size t
count_read nil p ws is = ap length is
count_read (name b s r) p ws (w, rest, is, token, stamp, more) = ap length is ∙ ap suc (count_read r (p + 1) rest more)
count_read (mark c k s r) p ws (w, rest, is, token, stamp, more) = ap length is ∙ ap suc (count_read r (p + 1) rest more)
count_read (literal b s r) p ws (w, rest, is, token, stamp, more) = ap length is ∙ ap suc (count_read r (p + 1) rest more)
count_read (group d w o c i r) p ws (x, inner, y, rest, is, opens, closes, whole, opening-stamp, closing-stamp, hi, hr) =
    let all = ap length is in
    let both = length-append inner (y ∷ rest) in
    omega (arith, all, both, count_read i (p + 1) inner hi, count_read r (p + 2 + size i) rest hr)

-- The other way round: what the first call says of the first word.

abbrev HeadsClose : ℕ → ℕ → List OpenGroup → ℕ → List Call → List (List ℕ) → Type 0
HeadsClose p off [] c more ws = ⊥
HeadsClose p off (g ∷ st) c more ws =
    (w : List ℕ) × (rest : List (List ℕ)) × (ws ≡ w ∷ rest) × (token_of w ≡ Some (closing g.delimiter)) × (c ≡ g.closing) × (calls_of (p + 1) off st rest ≡ Some more)

abbrev Heads : ℕ → ℕ → List OpenGroup → Call → List Call → List (List ℕ) → Type 0
Heads p off st (Name q s) more ws =
    (w : List ℕ) × (rest : List (List ℕ)) × (b : List ℕ) × (ws ≡ w ∷ rest) × (token_of w ≡ Some (name_token b)) × (q ≡ text_place off b) × (s ≡ 4 * p + 1) × (calls_of (p + 1) (off + length b) st rest ≡ Some more)
Heads p off st (Mark c k s) more ws =
    (w : List ℕ) × (rest : List (List ℕ)) × (ws ≡ w ∷ rest) × (token_of w ≡ Some (mark_token c k)) × (s ≡ 4 * p + 1) × (calls_of (p + 1) off st rest ≡ Some more)
Heads p off st (Literal q s) more ws =
    (w : List ℕ) × (rest : List (List ℕ)) × (b : List ℕ) × (ws ≡ w ∷ rest) × (token_of w ≡ Some (literal_token b)) × (q ≡ text_place off b) × (s ≡ 4 * p + 1) × (calls_of (p + 1) (off + length b) st rest ≡ Some more)
Heads p off st (Open d x o) more ws =
    (w : List ℕ) × (rest : List (List ℕ)) × (ws ≡ w ∷ rest) × (token_of w ≡ Some (opening d)) × (x ≡ 4 * p + 4) × (o ≡ 4 * p + 2) × (calls_of (p + 1) off (opened (4 * p + 3) d ∷ st) rest ≡ Some more)
Heads p off st (Close c) more ws = HeadsClose p off st c more ws
Heads p off st Seal more ws = ⊥

front_is : (c d : Call) (o : Option (List Call)) (ds : List Call) → in_front c o ≡ Some (d ∷ ds) → (c ≡ d) × (o ≡ Some ds)
front_is c d None ds e = nobody (d ∷ ds) e
front_is c d (Some cs) ds e = let a : c ∷ cs ≡ d ∷ ds = cc in (cc, ap Some cc)

heads_close : (p off d : ℕ) (st : List OpenGroup) (w : List ℕ) (rest : List (List ℕ)) (call : Call) (more : List Call) → token_of w ≡ Some (closing d) → then_on (closing_step off st d) (λ o g. calls_of (p + 1) o g rest) ≡ Some (call ∷ more) → Heads p off st call more (w ∷ rest)
heads_close p off d [] w rest call more token h = nobody (call ∷ more) h
heads_close p off d (g ∷ st) w rest call more token h = go (eqb g.delimiter d) refl h
  where
    go : (b : Bool) → eqb g.delimiter d ≡ b → then_on (cond b (Some (a_step (Close g.closing) off st)) None) (λ o k. calls_of (p + 1) o k rest) ≡ Some (call ∷ more) → Heads p off (g ∷ st) call more (w ∷ rest)
    go true e k =
        let f = front_is (Close g.closing) call _ more k in
        subst (λ (x : Call). Heads p off (g ∷ st) x more (w ∷ rest)) f.0 (w, rest, refl, token ∙ ap (λ n. Some (closing n)) (sym (eqb-true g.delimiter d e)), refl, f.1)
    go false e k = nobody (call ∷ more) k

heads_at : (p off : ℕ) (st : List OpenGroup) (w : List ℕ) (rest : List (List ℕ)) (call : Call) (more : List Call) (t : Option Piece) → token_of w ≡ t → then_on (word_step p off st t) (λ o g. calls_of (p + 1) o g rest) ≡ Some (call ∷ more) → Heads p off st call more (w ∷ rest)
heads_at p off st w rest call more None token h = nobody (call ∷ more) h
heads_at p off st w rest call more (Some (name_token b)) token h =
    let f = front_is (Name (text_place off b) (4 * p + 1)) call _ more h in
    subst (λ (x : Call). Heads p off st x more (w ∷ rest)) f.0 (w, rest, b, refl, token, refl, refl, f.1)
heads_at p off st w rest call more (Some (literal_token b)) token h =
    let f = front_is (Literal (text_place off b) (4 * p + 1)) call _ more h in
    subst (λ (x : Call). Heads p off st x more (w ∷ rest)) f.0 (w, rest, b, refl, token, refl, refl, f.1)
heads_at p off st w rest call more (Some (mark_token c k)) token h =
    let f = front_is (Mark c k (4 * p + 1)) call _ more h in
    subst (λ (x : Call). Heads p off st x more (w ∷ rest)) f.0 (w, rest, refl, token, refl, f.1)
heads_at p off st w rest call more (Some (opening d)) token h =
    let f = front_is (Open d (4 * p + 4) (4 * p + 2)) call _ more h in
    subst (λ (x : Call). Heads p off st x more (w ∷ rest)) f.0 (w, rest, refl, token, refl, refl, f.1)
heads_at p off st w rest call more (Some (closing d)) token h = heads_close p off d st w rest call more token h

no_calls : {A : Type 0} (c : Call) (cs : List Call) (st : List OpenGroup) → at_the_end st ≡ Some (c ∷ cs) → A
no_calls c cs [] e = let a : [] ≡ c ∷ cs = cc in let z : ◌≡◌ {A = ℕ} 0 1 = cc in absurd (omega arith)
no_calls c cs (g ∷ st) e = nobody (c ∷ cs) e

heads : (p off : ℕ) (st : List OpenGroup) (call : Call) (more : List Call) (ws : List (List ℕ)) → calls_of p off st ws ≡ Some (call ∷ more) → Heads p off st call more ws
heads p off st call more [] h = no_calls call more st h
heads p off st call more (w ∷ rest) h = heads_at p off st w rest call more (token_of w) refl h

-- Words that are read as the calls that tell the trees, and then others: those in front spell the trees.
record Split (text : List ℕ) (p off : ℕ) (st : List OpenGroup) (t : Trees ℕ) (more : List Call) (ws : List (List ℕ)) : Type 0 where
  front : List (List ℕ)
  back : List (List ℕ)
  is : ws ≡ front ++ back
  spelled : Spelled p t front
  left : calls_of (p + size t) (off + length (texts_of t)) st back ≡ Some more
  texts : drop (off + length (texts_of t)) text ≡ texts_spelled back

-- The words behind the first, and their texts.
behind_word : (text : List ℕ) (off : ℕ) (ws rest : List (List ℕ)) (w : List ℕ) (x : Piece) → drop off text ≡ texts_spelled ws → ws ≡ w ∷ rest → token_of w ≡ Some x → drop off text ≡ piece_text x ++ texts_spelled rest
behind_word text off ws rest w x h is token = h ∙ ap texts_spelled is ∙ ap (λ t. word_text t ++ texts_spelled rest) token

-- A tree of one word, and what follows it.
split_word : (text : List ℕ) (p off off' : ℕ) (st : List OpenGroup) (t r : Trees ℕ) (more : List Call) (ws rest : List (List ℕ)) (w : List ℕ) → Split text (p + 1) off' st r more rest → ws ≡ w ∷ rest → size t ≡ suc (size r) → off + length (texts_of t) ≡ off' + length (texts_of r) → ((f : List (List ℕ)) → Spelled (p + 1) r f → Spelled p t (w ∷ f)) → Split text p off st t more ws
split_word text p off off' st t r more ws rest w y is n far so =
    record {
      front = w ∷ y.front;
      back = y.back;
      is = is ∙ ap (λ l. w ∷ l) y.is;
      spelled = so y.front y.spelled;
      left = same_numbers (p + size t) (p + 1 + size r) _ _ st y.back (omega (arith, n)) far ∙ y.left;
      texts = ap (λ m. drop m text) far ∙ y.texts;
    }

-- A group: its contents, and what follows it.
split_group : (text : List ℕ) (d w o c p off : ℕ) (st : List OpenGroup) (i r : Trees ℕ) (within more : List Call) (ws rest last : List (List ℕ)) (x y : List ℕ) (u : Split text (p + 1) off (opened (4 * p + 3) d ∷ st) i within rest) (v : Split text (p + 1 + size i + 1) (off + length (texts_of i)) st r more last) → ws ≡ x ∷ rest → u.back ≡ y ∷ last → token_of x ≡ Some (opening d) → token_of y ≡ Some (closing d) → w ≡ 4 * p + 4 → o ≡ 4 * p + 2 → c ≡ 4 * p + 3 → Split text p off st (group d w o c i r) more ws
split_group text d w o c p off st i r within more ws rest last x y u v ws-is back_is opens closes whole opening-stamp closing-stamp =
    let place : p + 1 + size i + 1 ≡ p + 2 + size i = omega arith in
    let n = length-append (texts_of i) (texts_of r) in
    let far : off + length (texts_of i ++ texts_of r) ≡ off + length (texts_of i) + length (texts_of r) = omega arith in
    record {
      front = x ∷ (u.front ++ y ∷ v.front);
      back = v.back;
      is = ws-is ∙ ap (λ l. x ∷ l) (u.is ∙ ap (λ l. u.front ++ l) (back_is ∙ ap (λ l. y ∷ l) v.is) ∙ sym (append_assoc u.front (y ∷ v.front) v.back));
      spelled = (x, u.front, y, v.front, refl, opens, closes, whole, opening-stamp, closing-stamp, u.spelled, subst (λ (k : ℕ). Spelled k r v.front) place v.spelled);
      left = same_numbers (p + suc (size i + suc (size r))) (p + 1 + size i + 1 + size r) _ _ st v.back (omega arith) far ∙ v.left;
      texts = ap (λ m. drop m text) far ∙ v.texts;
    }

spells : (text : List ℕ) (t : Trees ℕ) (p off : ℕ) (st : List OpenGroup) (calls more : List Call) (ws : List (List ℕ)) → length text ≤ 65535 → Tells text [] t calls → Sound t → calls_of p off st ws ≡ Some (calls ++ more) → drop off text ≡ texts_spelled ws → Split text p off st t more ws
spells text nil p off st calls more ws short tells sound h texts =
    record {
      front = [];
      back = ws;
      is = refl;
      spelled = refl;
      left = same_numbers (p + 0) p (off + 0) off st ws (omega arith) (omega arith) ∙ h ∙ ap (λ l. Some (l ++ more)) tells;
      texts = let e : off + 0 ≡ off = omega arith in ap (λ n. drop n text) e ∙ texts;
    }
spells text (name b s r) p off st calls more ws short (q, after, is, at, tells) sound h texts =
    let (w, rest, b', ws-is, token, place, stamp, left) = heads p off st (Name q s) (after ++ more) ws (h ∙ ap (λ l. Some (l ++ more)) is) in
    let there = behind_word text off ws rest w (name_token b') texts ws-is token in
    let same : b' ≡ b = read_there text b' b (texts_spelled rest) off short there (ap (text_at text []) (sym place) ∙ at) sound.0 in
    let on : calls_of (p + 1) (off + length b) st rest ≡ Some (after ++ more) = subst (λ (x : List ℕ). calls_of (p + 1) (off + length x) st rest ≡ Some (after ++ more)) same left in
    let further : drop (off + length b) text ≡ texts_spelled rest = subst (λ (x : List ℕ). drop (off + length x) text ≡ texts_spelled rest) same (behind_text text b' (texts_spelled rest) off there) in
    let y = spells text r (p + 1) (off + length b) st after more rest short tells sound.1 on further in
    let n = length-append b (texts_of r) in
    let far : off + length (b ++ texts_of r) ≡ off + length b + length (texts_of r) = omega arith in
    split_word text p off (off + length b) st (name b s r) r more ws rest w y ws-is refl far (λ f k. (w, f, refl, token ∙ ap (λ x. Some (name_token x)) same, stamp, k))
spells text (mark c k s r) p off st calls more ws short (after, is, tells) sound h texts =
    let (w, rest, ws-is, token, stamp, left) = heads p off st (Mark c k s) (after ++ more) ws (h ∙ ap (λ l. Some (l ++ more)) is) in
    let there = behind_word text off ws rest w (mark_token c k) texts ws-is token in
    let y = spells text r (p + 1) off st after more rest short tells sound.2 left there in
    split_word text p off off st (mark c k s r) r more ws rest w y ws-is refl refl (λ f h. (w, f, refl, token, stamp, h))
spells text (literal b s r) p off st calls more ws short (q, after, is, at, tells) sound h texts =
    let (w, rest, b', ws-is, token, place, stamp, left) = heads p off st (Literal q s) (after ++ more) ws (h ∙ ap (λ l. Some (l ++ more)) is) in
    let there = behind_word text off ws rest w (literal_token b') texts ws-is token in
    let same : b' ≡ b = read_there text b' b (texts_spelled rest) off short there (ap (text_at text []) (sym place) ∙ at) sound.0 in
    let on : calls_of (p + 1) (off + length b) st rest ≡ Some (after ++ more) = subst (λ (x : List ℕ). calls_of (p + 1) (off + length x) st rest ≡ Some (after ++ more)) same left in
    let further : drop (off + length b) text ≡ texts_spelled rest = subst (λ (x : List ℕ). drop (off + length x) text ≡ texts_spelled rest) same (behind_text text b' (texts_spelled rest) off there) in
    let y = spells text r (p + 1) (off + length b) st after more rest short tells sound.1 on further in
    let n = length-append b (texts_of r) in
    let far : off + length (b ++ texts_of r) ≡ off + length b + length (texts_of r) = omega arith in
    split_word text p off (off + length b) st (literal b s r) r more ws rest w y ws-is refl far (λ f k. (w, f, refl, token ∙ ap (λ x. Some (literal_token x)) same, stamp, k))
spells text (group d w o c i r) p off st calls more ws short (inner, after, is, hi, hr) sound h texts =
    let g : OpenGroup = opened (4 * p + 3) d in
    let (x, rest, ws-is, opens, whole, opening-stamp, left) = heads p off st (Open d w o) ((inner ++ Close c ∷ after) ++ more) ws (h ∙ ap (λ l. Some (l ++ more)) is) in
    let there = behind_word text off ws rest x (opening d) texts ws-is opens in
    let u = spells text i (p + 1) off (g ∷ st) inner (Close c ∷ (after ++ more)) rest short hi sound.1 (left ∙ ap Some (append_assoc inner (Close c ∷ after) more)) there in
    let (y, last, back_is, closes, closing-stamp, left-2) = heads (p + 1 + size i) (off + length (texts_of i)) (g ∷ st) (Close c) (after ++ more) u.back u.left in
    let there-2 = behind_word text (off + length (texts_of i)) u.back last y (closing d) u.texts back_is closes in
    let v = spells text r (p + 1 + size i + 1) (off + length (texts_of i)) st after more last short hr sound.2 left-2 there-2 in
    split_group text d w o c p off st i r (Close c ∷ (after ++ more)) more ws rest last x y u v ws-is back_is opens closes whole opening-stamp closing-stamp

-- No call is left, so no word is.
no_words : (p off : ℕ) (st : List OpenGroup) (ws : List (List ℕ)) → calls_of p off st ws ≡ Some [] → ws ≡ []
no_words p off st [] h = refl
no_words p off st (w ∷ ws) h = go (word_step p off st (token_of w)) h
  where
    some-call : {A : Type 0} (c : Call) (o : Option (List Call)) → in_front c o ≡ Some [] → A
    some-call c None e = nobody [] e
    some-call c (Some cs) e = let a : c ∷ cs ≡ [] = cc in let z : ◌≡◌ {A = ℕ} 0 1 = cc in absurd (omega arith)

    go : (s : Option Step) → then_on s (λ o g. calls_of (p + 1) o g ws) ≡ Some [] → w ∷ ws ≡ []
    go None e = nobody [] e
    go (Some s) e = some-call s.call _ e

-- Read words whose calls tell a sheet spell that sheet, and its texts are theirs.
pub told_spelled : (text : List ℕ) (t : Trees ℕ) (calls : List Call) (ws : List (List ℕ)) → length text ≤ 65535 → KeepsLimits t → Tells text [] t calls → calls_of 0 0 [] ws ≡ Some calls → text ≡ texts_spelled ws → Spelled 0 t ws × (text ≡ texts_of t)
told_spelled text t calls ws short limits tells h texts =
    let y = spells text t 0 0 [] calls [] ws short tells limits.sound (h ∙ ap Some (sym (append-nil calls))) texts in
    let all : y.front ≡ ws = sym (append-nil y.front) ∙ ap (λ l. y.front ++ l) (sym (no_words _ _ [] y.back y.left)) ∙ sym y.is in
    let spelled : Spelled 0 t ws = subst (λ (l : List (List ℕ)). Spelled 0 t l) all y.spelled in
    (spelled, texts ∙ ap texts_spelled (sym (append-nil ws)) ∙ texts_read t 0 ws [] spelled ∙ append-nil (texts_of t))

-- The calls of words that spell a sheet.
calls_spelled : (u : Trees ℕ) (ws : List (List ℕ)) → Spelled 0 u ws → calls_of 0 0 [] ws ≡ Some (calls_at 0 u)
calls_spelled u ws h = ap (calls_of 0 0 []) (sym (append-nil ws)) ∙ reads u 0 0 [] ws [] h ∙ ap Some (append-nil (calls_at 0 u))

texts_same : (u : Trees ℕ) (ws : List (List ℕ)) → Spelled 0 u ws → texts_spelled ws ≡ texts_of u
texts_same u ws h = ap texts_spelled (sym (append-nil ws)) ∙ texts_read u 0 ws [] h ∙ append-nil (texts_of u)

pub not_a_sheet : (ws : List (List ℕ)) → calls_of 0 0 [] ws ≡ None → (u : Trees ℕ) → Spelled 0 u ws → ⊥
not_a_sheet ws none u h = nobody (calls_at 0 u) (sym none ∙ calls_spelled u ws h)

pub too_much : (ws : List (List ℕ)) → TooMuch ws → (u : Trees ℕ) → KeepsLimits u → length (texts_of u) ≤ 65535 → Spelled 0 u ws → ⊥
too_much ws (inl many) u limits room h =
    let few = limits.few in
    let n = count_read u 0 ws h in
    let l = length_flat u (End 0 ∷ []) in
    omega arith
too_much ws (inr much) u limits room h = let e = ap length (texts_same u ws h) in omega arith

pub not_lawful : (text : List ℕ) (calls : List Call) (ws : List (List ℕ)) → length text ≤ 65535 → calls_of 0 0 [] ws ≡ Some calls → text ≡ texts_spelled ws → TellsNothing text [] calls → (u : Trees ℕ) → KeepsLimits u → length (texts_of u) ≤ 65535 → Spelled 0 u ws → ⊥
not_lawful text calls ws short is texts nothing u limits room h =
    let tells : Tells text [] u (calls_at 0 u) = tells_at text u 0 [] short limits.sound (texts ∙ texts_same u ws h ∙ sym (append-nil (texts_of u))) in
    let both : Some (calls_at 0 u) ≡ Some calls = sym (calls_spelled u ws h) ∙ is in
    let same : calls_at 0 u ≡ calls = cc in
    nothing u limits (subst (λ (l : List Call). Tells text [] u l) same tells)
