-- `transcript::burst::burst` meets its contract.
use Prim.Native.Nat.{ℕ}
use mathlib.Core.Path.{ap}
use Rattle.std.proofs.Common.{rules}
use Rattle.laws.specs.Span.{upto}
use Rattle.text.specs.Buffer.{each}
use Rattle.transcript.specs.Answers.{burst_lines, frame_entry}
use Rattle.text.proofs.Texts.{told, ◌⨾◌}
use Rattle.transcript.proofs.burst.burst.Goals as goal

pub returns : goal.returns
unfolding burst_lines
returns c =
    let a = c.args in
    let frames = λ (k : ℕ). each (frame_entry a.b.frames a.size a.out.now) (upto 0 k) in
    let put = c.line.ensures ⨾ told c.frames.ensures (ap frames c.min.ensures) in
    search rules
