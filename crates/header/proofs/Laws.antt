-- The sizes of what a header shows. Assumes nothing.
use mathlib.Core.Bool.{Bool, ◌&&◌}
use Prim.Native.Nat.{ℕ, ◌+◌, ◌%◌, ◌<◌}
use native.Mathlib.Omega.{arith}
use borrow.Author.Tests.{ltb-true, ltb-false}
use lib.Dec.{ltb, eqb}
use Rattle.laws.proofs.Picks.{by}
use Rattle.header.specs.Header.{air_code, next_burst_id}

-- a burst's number is one of four
pub burst-id-lt : (id : ℕ) (heard : Bool) (peer : ℕ) → next_burst_id id heard peer < 4
unfolding next_burst_id
burst-id-lt id heard peer = by (λ (x : ℕ). x < 4) (heard && eqb ((id + 1) % 4) peer) (λ e. omega arith) (λ e. omega arith)

-- an air code has four bits
pub air-lt : (l : ℕ) → l < 17 → air_code l < 14
unfolding air_code
air-lt l h = by (λ (x : ℕ). x < 14) (ltb l 5) (λ e. omega (arith, ltb-true)) (λ e. omega (arith, ltb-false))
