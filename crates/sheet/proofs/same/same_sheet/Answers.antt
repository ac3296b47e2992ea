use Rattle.std.proofs.Common.{ap}
use Rattle.sheet.specs.Entries.{entries}
use Rattle.sheet.proofs.Forms
use Rattle.sheet.proofs.Plains.{same_plain}
use Rattle.sheet.proofs.same.same_sheet.Goals as goal

pub returns : goal.returns
returns g c =
    let d = c.are_same.ensures in
    record {
      nested = (λ e. Forms.one_sheet _ _ (d.0 e), λ h. d.1 (ap entries h));
      flat = d;
      plain = λ e. same_plain _ _ (Forms.one_sheet _ _ (d.0 e));
      read_back = Forms.read_back;
      one_sheet = Forms.one_sheet;
      own_sheet = Forms.own_sheet;
    }
