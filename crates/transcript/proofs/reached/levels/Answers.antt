-- `transcript::reached::levels` meets its contract.
use Prim.Native.Nat.{ℕ}
use mathlib.Core.Path.{ap}
use Rattle.std.proofs.Common.{rules}
use Rattle.laws.specs.Span.{upto}
use Rattle.text.specs.Buffer.{each}
use Rattle.transcript.specs.Answers.{level_entry, levels_line}
use Rattle.text.proofs.Texts.{told, ◌⨾◌}
use Rattle.transcript.proofs.reached.levels.Goals as goal

pub returns : goal.returns
unfolding levels_line
returns c =
    let entries = λ (k : ℕ). each (level_entry c.args.found) (upto 0 k) in
    let put = c.puts.ensures ⨾ told c.entries.ensures (ap entries c.min.ensures) ⨾ c.puts-2.ensures in
    search rules
