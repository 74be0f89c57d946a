-- `state_lines::lists::pieces` meets its contract.
use Prim.Native.Nat.{ℕ, min}
use mathlib.Core.Path.{ap, ◌∙◌}
use Rattle.text.specs.Buffer.{each}
use Rattle.area.specs.Table.{rows_from}
use Rattle.state_lines.specs.State.{piece_word}
use Rattle.state_lines.specs.State.{pieces_line}
use Rattle.text.proofs.Texts.{told, ◌⨾◌}
use Rattle.state_lines.proofs.lists.pieces.Goals as goal

pub returns : goal.returns
unfolding pieces_line
returns c =
    let words = λ (k : ℕ). each piece_word (rows_from c.args.area.now 0 k) in
    c.puts.ensures ⨾ c.number.ensures
    ⨾ told c.rows.ensures (ap words (c.min.ensures ∙ ap (min c.args.count) c.rows_in.ensures)) ⨾ c.puts-2.ensures
