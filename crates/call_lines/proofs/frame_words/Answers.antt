-- `frame_words`: what stands behind the bytes that are used. Assumes what the function requires.
use Rattle.call_lines.proofs.Frames.{frame-said}
use Rattle.call_lines.proofs.frame_words.Goals as goal

pub returns-clause-bytes_after : goal.returns-clause-bytes_after
returns-clause-bytes_after c =
    frame-said _ _ _ _ _ _ _ _ _ _ _ c.whole-kind.ensures c.whole-flags.ensures c.hex-payload.ensures.value
    c.hex-payload.ensures.bytes_after c.u8_of.ensures c.min-n.ensures c.placed-reception.ensures
