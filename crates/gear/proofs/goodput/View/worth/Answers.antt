use Rattle.gear.specs.Levels.{view_worth}
use Rattle.gear.proofs.goodput.View.worth.Goals as goal

pub returns : goal.returns
unfolding view_worth
returns c =
    let a = c in
    let b = a in
    simp (
      c.bar.ensures,
      c.f32_to_f64_with_nan.ensures,
      a.payload_rate-rate.ensures,
      b.wave_rank-w.ensures,
      b.chance-chance.ensures,
      b.prior.ensures,
      b.room.ensures,
    )
