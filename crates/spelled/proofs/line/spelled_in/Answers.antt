use Rattle.std.proofs.lemmas.Result.{err_from_is_err_and}
use Rattle.spelled.proofs.Lines.{unread, filled_out, refused_out}
use Rattle.spelled.proofs.Unique.{one_spelling}
use Rattle.spelled.proofs.line.spelled_in.Goals as goal

pub returns-in_err-calls : goal.returns-in_err-calls
returns-in_err-calls g c =
    let p = err_from_is_err_and c.from_residual.result c.from_residual.ensures.1 in
    record { sheet = rw (p.1, p.2) (unread _ c.in_err-calls.field-0.0 c.in_err-calls.ensures); no_other = one_spelling }

pub returns-in_err-filled : goal.returns-in_err-filled
returns-in_err-filled g c =
    let p = err_from_is_err_and c.from_residual-in_err-filled.result c.from_residual-in_err-filled.ensures.1 in
    record { sheet = rw (p.1, p.2) (refused_out _ c.in_ok-calls.field-0 c.as_slice.result.now _ c.in_err-filled.field-0.0 c.in_ok-calls.ensures c.as_slice.ensures.value c.new.ensures.items c.in_err-filled.ensures); no_other = one_spelling }

pub returns : goal.returns
returns g c =
    record {
      sheet = filled_out _ c.in_ok-calls.field-0 c.as_slice.result.now _ c.in_ok-filled.field-0 c.in_ok-calls.ensures c.as_slice.ensures.value c.new.ensures.items c.in_ok-filled.ensures;
      no_other = one_spelling;
    }
