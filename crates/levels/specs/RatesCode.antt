-- What a level's rate goes by, and the rate: `level_rate` of gear.rs: what follows the code or serves proofs; nothing here has to be believed.
use Rattle.std.specs.Prelude.{◌≤◌}
use Rattle.ieee.specs.Range.{In, w64}
use Rattle.levels.specs.declared.rates.Pace.{Pace}

-- the numbers are in the ranges of a profile
pub record Paced (q : Pace) : Type 0 where
  pub usual : In (w64 1) (w64 1000) q.usual
  pub pre : In (w64 0) (w64 60) q.pre_s
  pub rate : In (w64 1) (w64 100000) q.rate
  pub cue : In (w64 0) (w64 10) q.cue_s
  pub slot : q.slot ≤ 16384
