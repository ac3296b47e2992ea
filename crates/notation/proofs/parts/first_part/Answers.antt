use Rattle.std.proofs.Common.{arith}
use Rattle.std.proofs.lemmas.Bool.{eq-eqb, eqb-true}
use Rattle.notation.proofs.Cuts.{front_there, behind_there, all_front, none_behind, rest_shorter, cut_so, split_so}
use Rattle.notation.proofs.parts.first_part.Goals as goal

pub returns-in-Some : goal.returns-in-Some
returns-in-Some c =
    let text = c.args.text.now in
    let s = c.args.separator in
    let found = c.in-Some.ensures in
    let p = front_there s text c.in-Some.at found.0.high (λ k l e. found.0.before k (omega arith) l (eq-eqb _ _ e)) (eqb-true _ _ found.1) in
    let r = behind_there s text c.in-Some.at found.0.high (λ k l e. found.0.before k (omega arith) l (eq-eqb _ _ e)) (eqb-true _ _ found.1) in
    record { before = p; after = r; cut = cut_so s text _ _ p r; shorter = rest_shorter text c.in-Some.at found.0.high; split = split_so s text _ _ p r }

pub returns-in-None : goal.returns-in-None
returns-in-None c =
    let text = c.args.text.now in
    let s = c.args.separator in
    let p = all_front s text (λ k l e. c.in-None.ensures k (omega arith) l (eq-eqb _ _ e)) in
    let r = none_behind s text (λ k l e. c.in-None.ensures k (omega arith) l (eq-eqb _ _ e)) in
    record { before = p; after = r; cut = cut_so s text _ _ p r; shorter = tt; split = split_so s text _ _ p r }
