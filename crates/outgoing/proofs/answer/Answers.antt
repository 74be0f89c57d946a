use Prim.Native.Nat.{ℕ, ◌<◌}
use mathlib.Core.Path.{◌≡◌}
use Rattle.harq.specs.Held.{burst_check_bits}
use native.Mathlib.Omega.{arith}
use Rattle.outgoing.specs.Outgoing.{headed}
use Rattle.outgoing.proofs.Laws.{check-lt}
use Rattle.outgoing.proofs.answer.Goals as goal

check : (n s f : ℕ) → n ≡ burst_check_bits s f → n < 4
check n s f e = rw e (check-lt s f)

pub overflow_mul-check : goal.overflow_mul-check
overflow_mul-check c = omega (arith, check _ _ _ c.burst_check_bits-check.ensures)

pub overflow_add-number : goal.overflow_add-number
overflow_add-number c = omega (arith, check _ _ _ c.burst_check_bits-check.ensures, c.requires.1)

pub returns : goal.returns
unfolding headed
returns c =
    let k = c in
    let x = k in
    let u = x in
    let b = u in
    let f = b in
    simp (k.cue_for.ensures, x.extra.ensures, u.user_bits.ensures, b.burst_check_bits-check.ensures, f.partial_field-field.ensures, f.wave_rank-wave.ensures)
