-- `messages::cut_to` meets its contract: the rows from `rows` on are copied to the front. Then the first is given `left`.
use Rattle.messages.specs.declared.Messages.{Messages}
use Rattle.messages.proofs.Entries.{with_rows, moved, moved-copied, cut-some, cut-none}
use Prim.Native.Nat.{◌-◌, ◌≤◌}
use mathlib.Core.Path.{◌≡◌, ap, ◌∙◌}
use native.Mathlib.Omega.{arith}
use borrow.Author.Rules.{rules}
use Rattle.messages.proofs.cut_to.Goals as goal
use Rattle.messages.proofs.cut_to.Goals.{then-rows-n, else-rows-n}

pub returns : goal.returns
returns c =
    let a = c.args in
    let out = with_rows a.m c.copy_within.new.self c.copy_within-2.new.self c.copy_within-3.new.self a.m.n a.m.begun in
    let o : out ≡ moved a.m 0 a.rows a.m.n =
    (λ k. with_rows a.m (c.copy_within.ensures.after k) (c.copy_within-2.ensures.after k) (c.copy_within-3.ensures.after k) a.m.n a.m.begun)
    ∙ moved-copied a.m 0 a.rows (record { left = omega arith; class = omega arith; label = omega arith }) (search rules) (omega arith) (omega arith) in
    let put : Messages → Messages = λ x. with_rows x x.left x.class x.label (a.m.n - a.rows) a.begun in
    let low : a.rows ≤ a.m.n = search rules in
    elim c.if-rows-n.branch [
      | then-rows-n w ↦ ap put w.out-is ∙ cut-some a.m out a.rows a.left a.begun o low w.if-rows-n.true
      | else-rows-n w ↦ ap put w.out-is ∙ cut-none a.m out a.rows a.left a.begun o low w.if-rows-n.false
    ]
