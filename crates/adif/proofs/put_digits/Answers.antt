-- `adif::put_digits` meets its contract. The loop's invariant: with the digits that are left the output is as it must be. Assumes nothing.
use Prim.Native.Nat.{ℕ, suc, ◌-◌}
use mathlib.Core.Path.{◌≡◌, sym, ap, ◌∙◌}
use native.Mathlib.Omega.{arith}
use lib.ListN.{length-set}
use Rattle.laws.specs.Bytes.{overwrite}
use Rattle.adif.specs.Adif.{last_digits}
use Rattle.adif.proofs.Steps.{digits-next, digits-none}
use Rattle.adif.proofs.put_digits.Goals as goal

pub loop-i-preserved : goal.loop-i-preserved
loop-i-preserved c =
    let l = c.loop-i in
    let e : suc (l.i - 1) ≡ l.i = omega arith in (
      simp length-set l.invariant.0,
      digits-next l.out c.args.at (l.i - 1) l.rest
          ∙ ap (λ (j : ℕ). overwrite l.out c.args.at (last_digits j l.rest)) e
          ∙ l.invariant.1,
    )

pub returns : goal.returns
returns c =
    let l = c.loop-i in
    let e : 0 ≡ l.i = omega arith in
    sym (digits-none l.out c.args.at l.rest) ∙ ap (λ (j : ℕ). overwrite l.out c.args.at (last_digits j l.rest)) e ∙ l.invariant.1
