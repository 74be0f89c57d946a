-- `exp::exp32` meets its contract: the three calls in a row. Assumes nothing.
use Rattle.exp.proofs.exp32.Goals as goal

pub returns : goal.returns
returns c = simp (c.narrowed.ensures, c.exp64.ensures, c.f32_to_f64_with_nan.ensures)
