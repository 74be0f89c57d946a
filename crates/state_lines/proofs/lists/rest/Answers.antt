-- `state_lines::lists::rest` meets its contract.
use Prim.Native.Nat.{ℕ}
use mathlib.Core.Path.{ap}
use lib.ListN.{drop}
use Rattle.text.specs.Buffer.{each}
use Rattle.record.specs.View.{held_in}
use Rattle.state_lines.specs.State.{held_word}
use Rattle.state_lines.specs.State.{rest_line}
use Rattle.text.proofs.Texts.{told, ◌⨾◌}
use Rattle.state_lines.proofs.lists.rest.Goals as goal

pub returns : goal.returns
unfolding rest_line
returns c =
    let words = λ (k : ℕ). each held_word (drop k (held_in c.args.h)) in
    c.puts.ensures ⨾ c.number.ensures ⨾ told c.held_from.ensures (ap words c.saturating_sub.ensures)
    ⨾ c.puts-2.ensures
