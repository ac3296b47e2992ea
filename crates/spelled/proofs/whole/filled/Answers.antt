use Rattle.std.proofs.Common.{◌∙◌}
use Rattle.std.proofs.lemmas.Result.{err_from_is_err_and}
use Rattle.spelled.proofs.Runs.{too_many, refused, told_in, opened}
use Rattle.spelled.proofs.whole.filled.Goals as goal

pub returns-then-calls-ge-MOST : goal.returns-then-calls-ge-MOST
returns-then-calls-ge-MOST c = too_many _ _ c.args.calls.now c.if-calls-ge-MOST.true

pub returns-in_err-put_all : goal.returns-in_err-put_all
returns-in_err-put_all c =
    let p = err_from_is_err_and c.from_residual-in_err-put_all.result c.from_residual-in_err-put_all.ensures.1 in
    rw (p.1, p.2) (refused _ _ _ _ _ c.args.calls.now c.as_slice.ensures.value c.as_slice-2.ensures.value (c.as_mut_slice.ensures.len ∙ c.in_ok-entries.ensures.len) c.in_err-put_all.ensures.refused)

pub returns-in_err-open : goal.returns-in_err-open
returns-in_err-open c =
    let told = told_in _ _ _ _ c.in_ok-entries.entries c.as_mut_slice.result.now _ c.args.calls.now c.as_slice.ensures.value c.as_slice-2.ensures.value c.as_mut_slice.ensures.len c.in_ok-entries.ensures.len c.in_ok-put_all.ensures.accepted c.in_ok-put_all.ensures.after in
    absurd (c.in_err-open.ensures.accepts told.told told.means)

pub returns : goal.returns
returns c =
    let told = told_in _ _ _ _ c.in_ok-entries.entries c.as_mut_slice.result.now _ c.args.calls.now c.as_slice.ensures.value c.as_slice-2.ensures.value c.as_mut_slice.ensures.len c.in_ok-entries.ensures.len c.in_ok-put_all.ensures.accepted c.in_ok-put_all.ensures.after in
    opened _ c.in_ok-open.field-0 c.args.calls.now told c.in_ok-open.ensures.accepts c.in_ok-open.ensures.opens.1
