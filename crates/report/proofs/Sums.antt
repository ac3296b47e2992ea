-- Noting the entries of a flat form one by one sums over the sheet.
use Rattle.std.proofs.Common.{◌≡◌, ℕ, zero, suc, ◌+◌, ◌<◌, ◌≤◌, List, [], ◌∷◌, length, take, sum_by, sym, refl, ap, ◌∙◌, arith, drop-cons}
use Rattle.std.proofs.lemmas.List.{take_all}
use Rattle.std.proofs.lemmas.List.Sums.{sum_by-cons, sum_by_more}
use Rattle.sheet.specs.Trees.{Trees, nil, name, mark, literal, group, size}
use Rattle.sheet.specs.Entries.{Entry, End, Nothing, flat, entries, first, at}
use Rattle.sheet.specs.Questions.{Token, a_name, a_literal, a_mark, a_group, no_token, token_of}
use Rattle.report.specs.Counting.{sum_over, counts_of, one_name, one_literal, one_mark, one_group, one_invisible}
use Rattle.report.specs.Noting.{noted}
use Rattle.report.specs.declared.counts.Counts.{Counts}

-- The sum of a number of each entry's token.
abbrev total : {St : Type 0} → (Token → ℕ) → List (Entry St) → ℕ
total f es = sum_by (λ e. f (token_of e)) es

total_flat : {St : Type 0} (f : Token → ℕ) → f no_token ≡ 0 → (t : Trees St) (ks : List (Entry St)) → total f (flat t ks) ≡ sum_over f t + total f ks
total_flat f none nil ks = omega arith
total_flat f none (name b s r) ks = rw sum_by-cons (omega (arith, total_flat f none r ks))
total_flat f none (mark c k s r) ks = rw sum_by-cons (omega (arith, total_flat f none r ks))
total_flat f none (literal b s r) ks = rw sum_by-cons (omega (arith, total_flat f none r ks))
total_flat f none (group d w o c i r) ks =
    rw (sum_by-cons, total_flat f none i (End (suc (size i)) ∷ flat r ks), sum_by-cons) (omega (arith, total_flat f none r ks))

total_entries : {St : Type 0} (f : Token → ℕ) → f no_token ≡ 0 → (t : Trees St) → total f (entries t) ≡ sum_over f t
total_entries f none t = rw (total_flat f none t (End 0 ∷ [])) (omega arith)

total_more : {St : Type 0} (f : Token → ℕ) (es : List (Entry St)) (p : ℕ) → p < length es → total f (take (p + 1) es) ≡ total f (take p es) + f (token_of (at es p))
total_more f es p within = sum_by_more (λ e. f (token_of e)) es p Nothing within ∙ ap (λ l. total f (take p es) + f (token_of (first l))) (sym (drop-cons es p Nothing within))

-- The counts of these entries.
abbrev pub counted : {St : Type 0} → ℕ → List (Entry St) → Counts
counted n es = record {
  entries = n;
  groups = total one_group es;
  invisible = total one_invisible es;
  names = total one_name es;
  literals = total one_literal es;
  marks = total one_mark es;
}

pub counted_more : {St : Type 0} (es : List (Entry St)) (n p : ℕ) (c d : Counts) (k : Token) → c ≡ counted n (take p es) → p < length es → k ≡ token_of (at es p) → d ≡ noted c k → d ≡ counted n (take (p + 1) es)
counted_more es n p c d k so within is noted-is =
    let groups = total_more one_group es p within in
    let invisible = total_more one_invisible es p within in
    let names = total_more one_name es p within in
    let literals = total_more one_literal es p within in
    let marks = total_more one_mark es p within in
    rw (noted-is, is, so) (cc)

pub counted_all : {St : Type 0} (t : Trees St) (n p : ℕ) (c : Counts) → c ≡ counted n (take p (entries t)) → n ≡ length (entries t) → n ≤ p → c ≡ counts_of t
counted_all t n p c so is past =
    let groups = total_entries one_group refl t in
    let invisible = total_entries one_invisible refl t in
    let names = total_entries one_name refl t in
    let literals = total_entries one_literal refl t in
    let marks = total_entries one_mark refl t in
    rw (so, is, take_all p (entries t) (omega arith)) (cc)

-- No more trees have been counted than entries, and the invisible groups are among the groups.
pub record AtMost (n : ℕ) (c : Counts) : Type 0 where
  pub trees : c.groups + c.names + c.literals + c.marks ≤ n
  pub among : c.invisible ≤ c.groups

pub at_most_more : (n : ℕ) (c : Counts) (t : Token) → AtMost n c → AtMost (n + 1) (noted c t)
at_most_more n c (a_name b) h = record { trees = omega arith; among = omega arith }
at_most_more n c (a_literal b) h = record { trees = omega arith; among = omega arith }
at_most_more n c (a_mark k s) h = record { trees = omega arith; among = omega arith }
at_most_more n c (a_group zero) h = record { trees = omega arith; among = omega arith }
at_most_more n c (a_group (suc d)) h = record { trees = omega arith; among = omega arith }
at_most_more n c no_token h = record { trees = omega arith; among = omega arith }
