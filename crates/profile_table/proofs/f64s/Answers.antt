-- `f64s`: the first places hold their values. Assumes nothing.
use Prim.Native.Nat.{ℕ, ◌+◌, ◌*◌}
use lib.ListN.{length-set}
use borrow.Author.Rules.{rules}
use Rattle.profile_table.specs.Table.{double_at}
use Rattle.profile_table.proofs.Rows.{row-none, row-turn, row-end}
use Rattle.profile_table.proofs.f64s.Goals as goal

pub loop-l-init : goal.loop-l-init
loop-l-init c = (search rules, row-none (λ (k : ℕ). double_at c.args.v.now (c.args.from + 4 * k)))

pub loop-l-preserved : goal.loop-l-preserved
loop-l-preserved c = (
  simp length-set c.loop-l.invariant.0,
  row-turn
      (λ (k : ℕ). double_at c.args.v.now (c.args.from + 4 * k))
      c.loop-l.l c.loop-l.x _ (search rules) c.loop-l.invariant.1 c.f64_at.ensures,
)

pub returns : goal.returns
returns c = row-end (λ (k : ℕ). double_at c.args.v.now (c.args.from + 4 * k)) 17
    c.loop-l.l _ c.loop-l.invariant.0 (search rules) (search rules) c.loop-l.invariant.1
