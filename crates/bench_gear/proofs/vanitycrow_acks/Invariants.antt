use Prim.Native.Nat.{ℕ, ◌≤◌}
use mathlib.Core.Path.{◌≡◌}
use lib.Ieee.{Float}
use Rattle.laws.specs.Steps.{steps}
use Rattle.defaults.specs.Default.{new_profile}
use Rattle.gear.specs.declared.Gear.{Gear}
use Rattle.gear.specs.Judging.{on_ack}
use Rattle.bench_gear.specs.Acks.{tried, nine}
use Rattle.bench_gear.proofs.vanitycrow_acks.Given as goal

abbrev pub next : Float → Float → ℕ → Gear → Gear
next snr now i g = on_ack new_profile g nine snr now

abbrev pub invariant-loop-i : goal.invariant-loop-i
invariant-loop-i l =
    (l.g ≡ steps (next l.snr_db l.now) l._i tried) × (l.g.level ≤ 16) × (l.cfg ≡ new_profile) × (l.burst ≡ nine)
