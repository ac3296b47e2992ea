use Rattle.std.proofs.Common.{◌≡◌, ◌++◌, ℕ, ◌+◌, ◌<◌, List, drop, length, Option, None, Some, string_bytes, sym, ap, ◌∙◌, add-one, append_assoc, arith}
use Rattle.sheet.specs.Entries.{Entry, at}
use Rattle.sheet.proofs.Places.{drop_at}
use Rattle.report.specs.Spelling.{Said, entry_said, spell, word_said}
use Rattle.report.specs.Writing.{gap_bytes}
use Rattle.report.specs.declared.view.View.{View}
use Rattle.report.proofs.Spells.{spell_entries}
use Rattle.report.proofs.texts.text.Goals as goal
use Rattle.report.proofs.texts.text.Goals.{in-Some+in_ok-gap, in_default}

pub loop-at-init : goal.loop-at-init
loop-at-init g c = rw c.new-out.ensures.bytes (sym (spell_entries c.args.view (g.S.Store.sheet c.args.store.now)))

-- What has been written, and what the entries from place p on have yet to say, is still the whole text behind an entry that says
-- nothing,
after_silence : {St : Type 0} (v : View) (es : List (Entry St)) (all x y : List ℕ) (p : ℕ) (g h : Option ℕ) → all ≡ x ++ spell v es p g (drop p es) → p < length es → entry_said v es p (at es p) ≡ None → y ≡ x → h ≡ g → all ≡ y ++ spell v es (p + 1) h (drop (p + 1) es)
after_silence v es all x y p g h so within says same left = rw (same, left, so, drop_at es p within, says, add-one)

-- and behind one that says a word.
after_word : {St : Type 0} (v : View) (es : List (Entry St)) (all x y : List ℕ) (p : ℕ) (g h : Option ℕ) (w : Said) → all ≡ x ++ spell v es p g (drop p es) → p < length es → entry_said v es p (at es p) ≡ Some w → y ≡ x ++ (gap_bytes g ++ w.bytes) → h ≡ w.gap → all ≡ y ++ spell v es (p + 1) h (drop (p + 1) es)
after_word v es all x y p g h w so within says bytes left = rw (bytes, left, so, drop_at es p within, says, add-one) (simp append_assoc)

pub loop-at-preserved : goal.loop-at-preserved
loop-at-preserved g c =
    elim c.match-word_at.branch [
      | in-Some+in_ok-gap w ↦
          after_word c.args.view _ _ _ _ c.loop-at.at _ _ (word_said w.in-Some.word) c.loop-at.invariant (omega (arith, c.count-at-end.ensures.is)) (sym w.in-Some.ensures) (ap string_bytes w.out-is ∙ w.in_ok-gap.ensures.bytes) (w.gap-is ∙ w.in_ok-gap.ensures.gap)
      | in_default w ↦
          after_silence c.args.view _ _ _ _ c.loop-at.at _ _ c.loop-at.invariant (omega (arith, c.count-at-end.ensures.is)) (sym w.in_default.ensures) (ap string_bytes w.out-is) w.gap-is
    ]
