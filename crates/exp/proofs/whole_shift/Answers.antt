-- `exp::whole_shift` meets its contract (`proofs/ExpLaws.antt`). Assumes nothing.
use Rattle.std.proofs.Common.{true, false, T, ℤ, pos, negsuc, sym, ap, ◌∙◌, subst, w64}
use lib.Signed.{le_z}
use lib.Ieee.{fin, le, lt, to_signed}
use mir.ValLaws.{to_z-of_z}
use Rattle.ieee.specs.Range.{In}
use Rattle.exp.specs.Exp.{shifted}
use Rattle.ieee.proofs.Value.{le_trans, le-lt}
use Rattle.exp.proofs.ExpLaws.{lo, hi, shifted_in, cut_in}
use Rattle.exp.proofs.whole_shift.Goals as goal

pub truncating_f64_to_i64-requires : goal.truncating_f64_to_i64-requires
truncating_f64_to_i64-requires c =
    let u = c.shift.result in
    let i = subst (In lo hi) (sym c.shift.ensures) (shifted_in c.args.x c.requires) in
    record {
      lower_bound = le_trans (fin true 1 (pos 63)) lo u (unfold le in tt) i.low;
      upper_bound = le-lt u hi (fin false 1 (pos 63)) i.high (unfold lt in tt);
    }

pub returns : goal.returns
returns c =
    let k = c.truncating_f64_to_i64.result in
    let r = to_z-of_z w64 k (record { sfits = c.truncating_f64_to_i64.type_inv }) in
    let e = r ∙ c.truncating_f64_to_i64.ensures ∙ ap (to_signed 63) c.shift.ensures in
    let i = cut_in (shifted c.args.x) (shifted_in c.args.x c.requires) in
    (e, subst (λ (z : ℤ). T (le_z (negsuc 1021) z)) (sym e) i.0, subst (λ (z : ℤ). T (le_z z (pos 1023))) (sym e) i.1)
