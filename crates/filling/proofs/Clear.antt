-- A call is accepted exactly if no refusal has its cause.
use Rattle.std.proofs.Common.{◌≡◌, ℕ, Bool, true, false, cond, not, ◌&&◌, List, Some, None, Option, refl, arith}
use Rattle.std.proofs.lemmas.Bool.{not-false}
use Rattle.filling.specs.Causes.{is_sealed, is_waiting, is_name, bad_mark, bad_text, bad_delimiter, nothing_to_close, left_open, too_deep, long_enough, refusal}
use Rattle.filling.specs.Progress.{Progress}
use Rattle.filling.specs.declared.call.Call.{Call}
use Rattle.filling.specs.declared.fault.FillFault.{FillFault}

pub record Clear (a b : List ℕ) (n : ℕ) (p : Progress) (call : Call) : Type 0 where
  pub unsealed : is_sealed p.state ≡ false
  pub unasked : is_waiting p.state && not (is_name call) ≡ false
  pub marked : bad_mark call ≡ false
  pub texted : bad_text a b call ≡ false
  pub delimited : bad_delimiter call ≡ false
  pub closable : nothing_to_close p.groups call ≡ false
  pub closed : left_open p.groups call ≡ false
  pub shallow : too_deep p.groups call ≡ false
  pub roomy : long_enough n p call ≡ true

passes : (t : Bool) (f : FillFault) (o : Option FillFault) → cond t (Some f) o ≡ None → (t ≡ false) × (o ≡ None)
passes true f o h = let z : ◌≡◌ {A = ℕ} 0 1 = cc in absurd (omega arith)
passes false f o h = (refl, h)

pub accepted_clear : (a b : List ℕ) (n : ℕ) (p : Progress) (call : Call) → refusal a b n p call ≡ None → Clear a b n p call
accepted_clear a b n p call h =
    let y1 = passes _ _ _ h in
    let y2 = passes _ _ _ y1.1 in
    let y3 = passes _ _ _ y2.1 in
    let y4 = passes _ _ _ y3.1 in
    let y5 = passes _ _ _ y4.1 in
    let y6 = passes _ _ _ y5.1 in
    let y7 = passes _ _ _ y6.1 in
    let y8 = passes _ _ _ y7.1 in
    let y9 = passes _ _ _ y8.1 in
    record {
      unsealed = y1.0;
      unasked = y2.0;
      marked = y3.0;
      texted = y4.0;
      delimited = y5.0;
      closable = y6.0;
      closed = y7.0;
      shallow = y8.0;
      roomy = not-false (long_enough n p call) y9.0;
    }

pub clear_accepted : (a b : List ℕ) (n : ℕ) (p : Progress) (call : Call) → Clear a b n p call → refusal a b n p call ≡ None
clear_accepted a b n p call k = rw (k.unsealed, k.unasked, k.marked, k.texted, k.delimited, k.closable, k.closed, k.shallow, k.roomy)
