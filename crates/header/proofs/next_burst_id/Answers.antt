use Prim.Native.Nat.{◌%◌, ℕ, ◌+◌, ◌-◌}
use Rattle.laws.proofs.Picks.{cond_yes, cond_no}
use Rattle.header.specs.Header.{next_burst_id}
use mathlib.Core.Path.{◌≡◌, refl}
use native.Mathlib.Omega.{arith}
use Rattle.header.proofs.next_burst_id.Goals as goal

next : (id : ℕ) → (id % 4 + 1) % 4 ≡ (id + 1) % 4
next id = omega arith

pub returns-then-heard-n : goal.returns-then-heard-n
unfolding next_burst_id
returns-then-heard-n c = rw (← next c.args.burst_id) (cond_yes _ _ _ _ c.if-heard-n.true refl)

pub returns : goal.returns
unfolding next_burst_id
returns c = rw (← next c.args.burst_id) (cond_no _ _ _ _ c.if-heard-n.false refl)
